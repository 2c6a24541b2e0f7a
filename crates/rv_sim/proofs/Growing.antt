-- A step never takes back cycles or output.
use Rattle.std.proofs.Common.{ℕ, zero, suc, ◌%◌, ◌≤◌, ◌^◌, arith, ℤ, Option, Some, None, List, [], ◌∷◌, length, length-append, Bool, true, false}
use Rattle.std.specs.Prelude.{◌==◌, if◌then◌else◌}
use Rattle.rv_core.specs.declared.row.Width.{Width}
use Rattle.rv_core.specs.declared.row.Effect.{Effect}
use Rattle.rv_core.specs.declared.row.Effect.TheVariants.{SetUpper, AddUpper, Link, LinkRegister, BranchIf, Read, Write, WithImmediate, WithRegister, CallEnvironment}
use Rattle.rv_core.specs.Rows.{row_of}
use Rattle.rv_core.specs.Instructions.{Instruction}
use Rattle.rv_core.specs.Words.{decode_of}
use Rattle.rv_core.specs.Arithmetic.{holds, byte_count}
use Rattle.rv_core.specs.Table.{Table}
use Rattle.rv_core.specs.Memory.{Block, read_from, written_to}
use Rattle.rv_core.specs.Machine.{Ending, Running, Exited, Trapped, State, Action, GoesTo, Leaves, Traps, register_of, fetched, performed_by, performed, branches, reads, writes, calls, address_of, done, step_ending, step_word, step_instr, step, steps}

pub record Grows (before after : State) : Type 0 where
  pub cycles : before.cycles ≤ after.cycles
  pub output : length before.world.output ≤ length after.world.output

-- an action takes back no output
abbrev Extends : State → Action → Type 0
Extends s (GoesTo pc registers world) = length s.world.output ≤ length world.output
Extends s (Leaves value) = Unit {0}
Extends s (Traps kind) = Unit {0}

calls-extend : (n : ℕ) (s : State) → Extends s (calls n s)
calls-extend zero s = tt
calls-extend (suc zero) s = omega arith
calls-extend (suc (suc zero)) s =
    let byte = register_of s.registers 10 % 2 ^ 8 in
    omega (arith, length-append s.world.output (byte ∷ []))
calls-extend (suc (suc (suc k))) s = tt

branches-extend : (imm : ℤ) (taken : Bool) (s : State) → Extends s (branches imm taken s)
branches-extend imm true s = omega arith
branches-extend imm false s = omega arith

reads-extend : (rd : ℕ) (kind : Width × Bool) (o : Option ℕ) (s : State) → Extends s (reads rd kind o s)
reads-extend rd kind None s = tt
reads-extend rd kind (Some n) s = omega arith

writes-extend : (o : Option (List Block)) (s : State) → Extends s (writes o s)
writes-extend None s = tt
writes-extend (Some m) s = omega arith

choice-extends : (b : Bool) (s : State) (x y : Action) → Extends s x → Extends s y → Extends s (if b then x else y)
choice-extends true s x y p q = p
choice-extends false s x y p q = q

performed-extends : (e : Effect) (i : Instruction) (s : State) → Extends s (performed_by e i s)
performed-extends SetUpper i s = omega arith
performed-extends AddUpper i s = omega arith
performed-extends Link i s = omega arith
performed-extends LinkRegister i s = omega arith
performed-extends (BranchIf c) i s = branches-extend i.imm (holds c (register_of s.registers i.rs1) (register_of s.registers i.rs2)) s
performed-extends (Read w signed) i s =
    let at = address_of i s in
    let found = read_from (λ b. b.read) w s.world.memory at in
    choice-extends (at % byte_count w == 0) s (reads i.rd (w, signed) found s) (Traps 5) (reads-extend i.rd (w, signed) found s) tt
performed-extends (Write w) i s =
    let at = address_of i s in
    let after = written_to w s.world.memory at (register_of s.registers i.rs2) in
    choice-extends (at % byte_count w == 0) s (writes after s) (Traps 5) (writes-extend after s) tt
performed-extends (WithImmediate f) i s = omega arith
performed-extends (WithRegister f) i s = omega arith
performed-extends CallEnvironment i s = calls-extend (register_of s.registers 17) s

done-grows : (t : Table) (i : Instruction) (s : State) (a : Action) → Extends s a → Grows s (done t i s a)
done-grows t i s (GoesTo pc registers world) h = record { cycles = omega arith; output = h }
done-grows t i s (Leaves value) h = record { cycles = omega arith; output = omega arith }
done-grows t i s (Traps kind) h = record { cycles = omega arith; output = omega arith }

trap-grows : (k : ℕ) (s : State) → Grows s (record s { ending = Trapped k })
trap-grows k s = record { cycles = omega arith; output = omega arith }

instr-grows : (t : Table) (o : Option Instruction) (s : State) → Grows s (step_instr t o s)
instr-grows t None s = trap-grows 2 s
instr-grows t (Some i) s = done-grows t i s (performed i s) (performed-extends (row_of i.op).effect i s)

word-grows : (t : Table) (o : Option ℕ) (s : State) → Grows s (step_word t o s)
word-grows t None s = trap-grows 1 s
word-grows t (Some w) s = instr-grows t (decode_of w) s

ending-grows : (t : Table) (e : Ending) (s : State) → Grows s (step_ending t e s)
ending-grows t Running s = word-grows t (fetched s.world.memory s.pc) s
ending-grows t (Exited v) s = record { cycles = omega arith; output = omega arith }
ending-grows t (Trapped k) s = record { cycles = omega arith; output = omega arith }

pub step-grows : (t : Table) (s : State) → Grows s (step t s)
unfolding step
step-grows t s = ending-grows t s.ending s

pub steps-grow : (t : Table) (n : ℕ) (s : State) → Grows s (steps t n s)
steps-grow t zero s = record { cycles = omega arith; output = omega arith }
steps-grow t (suc n) s =
    let first = step-grows t s in
    let rest = steps-grow t n (step t s) in
    let a = first.cycles in
    let b = rest.cycles in
    let c = first.output in
    let d = rest.output in
    record { cycles = omega arith; output = omega arith }
