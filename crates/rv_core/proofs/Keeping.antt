-- What each store keeps of the memory, each step keeps, and so each run.
use Rattle.std.proofs.Common.{◌≡◌, ℕ, zero, suc, ◌%◌, ℤ, Option, Some, None, refl, sym, subst, List, Bool, true, false}
use Rattle.std.specs.Prelude.{◌==◌, if◌then◌else◌}
use Rattle.rv_core.specs.declared.row.Width.{Width}
use Rattle.rv_core.specs.declared.row.Effect.{Effect}
use Rattle.rv_core.specs.declared.row.Effect.TheVariants.{SetUpper, AddUpper, Link, LinkRegister, BranchIf, Read, Write, WithImmediate, WithRegister, CallEnvironment}
use Rattle.rv_core.specs.Rows.{row_of}
use Rattle.rv_core.specs.Instructions.{Instruction}
use Rattle.rv_core.specs.Words.{decode_of}
use Rattle.rv_core.specs.Arithmetic.{holds, byte_count}
use Rattle.rv_core.specs.Table.{Table}
use Rattle.rv_core.specs.Memory.{Block, loaded, read_from, written_to}
use Rattle.rv_core.specs.Machine.{Ending, Running, Exited, Trapped, State, Action, GoesTo, Leaves, Traps, start_of, register_of, fetched, performed_by, performed, branches, reads, writes, calls, address_of, done, step_ending, step_word, step_instr, step, steps}
use Rattle.rv_core.specs.Runs.{Setup, mrun}
use Rattle.rv_core.proofs.Running.{mrun-state}

-- a property of memories that a store keeps
abbrev pub StoresKeep : (List Block → Type 0) → Type 0
StoresKeep P = (w : Width) (before : List Block) (at v : ℕ) (after : List Block) → written_to w before at v ≡ Some after → P before → P after

-- an instruction leaves a memory with the property
abbrev Leads : (List Block → Type 0) → Action → Type 0
Leads P (GoesTo pc registers world) = P world.memory
Leads P (Leaves value) = Unit {0}
Leads P (Traps kind) = Unit {0}

module _ (P : List Block → Type 0) (k : StoresKeep P) where
  calls-keep : (n : ℕ) (s : State) → P s.world.memory → Leads P (calls n s)
  calls-keep zero s p = tt
  calls-keep (suc zero) s p = p
  calls-keep (suc (suc zero)) s p = p
  calls-keep (suc (suc (suc n))) s p = tt

  branches-keep : (imm : ℤ) (taken : Bool) (s : State) → P s.world.memory → Leads P (branches imm taken s)
  branches-keep imm true s p = p
  branches-keep imm false s p = p

  reads-keep : (rd : ℕ) (kind : Width × Bool) (o : Option ℕ) (s : State) → P s.world.memory → Leads P (reads rd kind o s)
  reads-keep rd kind None s p = tt
  reads-keep rd kind (Some n) s p = p

  writes-keep : (o : Option (List Block)) (s : State) → ((after : List Block) → o ≡ Some after → P after) → Leads P (writes o s)
  writes-keep None s found = tt
  writes-keep (Some after) s found = found after refl

  choice-keep : (b : Bool) (x y : Action) → Leads P x → Leads P y → Leads P (if b then x else y)
  choice-keep true x y p q = p
  choice-keep false x y p q = q

  performed_by-keep : (e : Effect) (i : Instruction) (s : State) → P s.world.memory → Leads P (performed_by e i s)
  performed_by-keep SetUpper i s p = p
  performed_by-keep AddUpper i s p = p
  performed_by-keep Link i s p = p
  performed_by-keep LinkRegister i s p = p
  performed_by-keep (BranchIf c) i s p = branches-keep i.imm (holds c (register_of s.registers i.rs1) (register_of s.registers i.rs2)) s p
  performed_by-keep (Read w signed) i s p =
      let at = address_of i s in
      let found = read_from (λ b. b.read) w s.world.memory at in
      choice-keep (at % byte_count w == 0) (reads i.rd (w, signed) found s) (Traps 5) (reads-keep i.rd (w, signed) found s p) tt
  performed_by-keep (Write w) i s p =
      let at = address_of i s in
      let v = register_of s.registers i.rs2 in
      choice-keep (at % byte_count w == 0) (writes (written_to w s.world.memory at v) s) (Traps 5) (writes-keep (written_to w s.world.memory at v) s (λ after found. k w s.world.memory at v after found p)) tt
  performed_by-keep (WithImmediate f) i s p = p
  performed_by-keep (WithRegister f) i s p = p
  performed_by-keep CallEnvironment i s p = calls-keep (register_of s.registers 17) s p

  done-keep : (t : Table) (i : Instruction) (s : State) (a : Action) → P s.world.memory → Leads P a → P (done t i s a).world.memory
  done-keep t i s (GoesTo pc registers world) p q = q
  done-keep t i s (Leaves value) p q = p
  done-keep t i s (Traps kind) p q = p

  step_instr-keep : (t : Table) (o : Option Instruction) (s : State) → P s.world.memory → P (step_instr t o s).world.memory
  step_instr-keep t None s p = p
  step_instr-keep t (Some i) s p = done-keep t i s (performed i s) p (performed_by-keep (row_of i.op).effect i s p)

  step_word-keep : (t : Table) (o : Option ℕ) (s : State) → P s.world.memory → P (step_word t o s).world.memory
  step_word-keep t None s p = p
  step_word-keep t (Some w) s p = step_instr-keep t (decode_of w) s p

  step_ending-keep : (t : Table) (e : Ending) (s : State) → P s.world.memory → P (step_ending t e s).world.memory
  step_ending-keep t Running s p = step_word-keep t (fetched s.world.memory s.pc) s p
  step_ending-keep t (Exited v) s p = p
  step_ending-keep t (Trapped n) s p = p

  pub step-keep : (t : Table) (s : State) → P s.world.memory → P (step t s).world.memory
  unfolding step
  step-keep t s p = step_ending-keep t s.ending s p

  pub steps-keep : (t : Table) (n : ℕ) (s : State) → P s.world.memory → P (steps t n s).world.memory
  steps-keep t zero s p = p
  steps-keep t (suc n) s p = steps-keep t n (step t s) (step-keep t s p)

  -- in each state of a run
  pub mrun-keep : (s : Setup) (n : ℕ) → P (loaded s.image.segments) → P (mrun s n).state.world.memory
  mrun-keep s n p = subst (λ (x : State). P x.world.memory) (sym (mrun-state s n)) (steps-keep s.costs n (start_of s.image s.input) p)
