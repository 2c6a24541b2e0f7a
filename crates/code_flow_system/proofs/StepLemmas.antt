-- What one step of the machine does is one of the moves of its address.
use Rattle.std.proofs.Common.{◌≡◌, ◌≢◌, ℕ, zero, suc, ◌*◌, ◌/◌, ◌%◌, ◌^◌, ◌<◌, ℤ, arith, refl, sym, ap, ◌∙◌, List, [], ◌∷◌, length, Contains, Bool, true, false, Option, Some, None}
use Rattle.std.specs.Prelude.{◌==◌, ◌&&◌, not, if◌then◌else◌}
use Rattle.std.proofs.lemmas.Bool.{and_parts}
use Rattle.std.proofs.lemmas.Bool.Decides.{nat_tests}
use Rattle.std.proofs.lemmas.Grind.{get_or-set_at}
use Rattle.std.proofs.Math.ListN.{length-set}
use Rattle.rv_core.specs.declared.row.Width.{Width}
use Rattle.rv_core.specs.declared.row.Effect.{Effect}
use Rattle.rv_core.specs.declared.row.Effect.TheVariants.{SetUpper, AddUpper, Link, LinkRegister, BranchIf, Read, Write, WithImmediate, WithRegister, CallEnvironment}
use Rattle.rv_core.specs.Instructions.{Instruction, is_zero}
use Rattle.rv_core.specs.Arithmetic.{word, displaced, alu_value, holds, byte_count, extended}
use Rattle.rv_core.specs.Memory.{Block, read_from, written_to}
use Rattle.rv_core.specs.Machine.{State, World, Action, GoesTo, Leaves, Traps, register_of, with_register, behind, address_of, branches, reads, writes, calls, input_value, performed_by, taken_by}
use Rattle.rv_core.specs.Runs.{Stays, Calls, Returns, linkage_of_register, linkage_by, sets_upper, move_of, places_after, astray_after}
use Rattle.code_flow_system.specs.declared.moves.Move.{Move}
use Rattle.code_flow_system.specs.declared.moves.Way.TheVariants.{Next, Jumps, Ends, Strays}
use Rattle.code_flow_system.specs.Moves.{far_target, register_way, way_by, move, moves_on}
use Rattle.code_flow_system.specs.declared.moves.Way.TheVariants as m
use Rattle.code_flow_system.specs.Reach.{resolves_by}
use Rattle.code_flow_system.proofs.TraceLemmas.{Leads}

-- one of the moves leads from these return places to that address and those places
pub record Makes (ms : List Move) (pc number : ℕ) (i : Instruction) (stack : List ℕ) (to : ℕ) (after : List ℕ) : Type 0 where
  pub made : Move
  pub among : Contains ms made
  pub at_is : made.at ≡ pc
  pub number_is : made.number ≡ number
  pub instr_is : made.instr ≡ i
  pub leads : Leads made.to made.behind stack to after

module _ (pc : ℕ) (i : Instruction) (stack : List ℕ) where
  goes_next : (to : ℕ) → behind pc ≡ to → Makes (moves_on Next pc i) pc 0 i stack to stack
  goes_next to e = record { made = move pc 0 i (Some (behind pc)) None; among = (0, omega arith, refl); at_is = refl; number_is = refl; instr_is = refl; leads = (sym e, refl) }

  goes_by_branch : (taken : Bool) (target to : ℕ) → (if taken then target else behind pc) ≡ to → Makes (moves_on (m.Branches target) pc i) pc (move_of taken) i stack to stack
  goes_by_branch true target to e = record { made = move pc 1 i (Some target) None; among = (1, omega arith, refl); at_is = refl; number_is = refl; instr_is = refl; leads = (sym e, refl) }
  goes_by_branch false target to e = record { made = move pc 0 i (Some (behind pc)) None; among = (0, omega arith, refl); at_is = refl; number_is = refl; instr_is = refl; leads = (sym e, refl) }

  goes_by_jump : (is0 is1 : Bool) (target to : ℕ) → (is0 ≡ true → is1 ≡ false) → moves_on (if is0 then Jumps target else (if is1 then m.Calls target else Strays)) pc i ≢ [] → target ≡ to →
      Makes (moves_on (if is0 then Jumps target else (if is1 then m.Calls target else Strays)) pc i) pc 0 i stack to (places_after (if is1 then Calls else Stays) pc stack)
  goes_by_jump true true target to other some e = absurd (let h = other refl in cc)
  goes_by_jump true false target to other some e = record { made = move pc 0 i (Some target) None; among = (0, omega arith, refl); at_is = refl; number_is = refl; instr_is = refl; leads = (sym e, refl) }
  goes_by_jump false true target to other some e = record { made = move pc 0 i (Some target) (Some (behind pc)); among = (0, omega arith, refl); at_is = refl; number_is = refl; instr_is = refl; leads = (sym e, refl) }
  goes_by_jump false false target to other some e = absurd (some refl)

  goes_back : (places : List ℕ) (to : ℕ) → astray_after Returns to places ≡ false → Makes (moves_on Ends pc i) pc 0 i places to (places_after Returns pc places)
  goes_back [] to astray = cc
  goes_back (p ∷ places) to astray = record { made = move pc 0 i None None; among = (0, omega arith, refl); at_is = refl; number_is = refl; instr_is = refl; leads = ap (λ a. a ∷ places) (same p to astray) }
    where
      same : (p to : ℕ) → not (p == to) ≡ false → p ≡ to
      same p to h = grind (arith, nat_tests)

not_both : (rd : ℕ) → (rd == 0) ≡ true → (rd == 1) ≡ false
not_both rd h = grind (arith, nat_tests)

-- a JALR that nothing resolves
goes_by_return : (pc : ℕ) (i : Instruction) (places : List ℕ) (is1 returns : Bool) (to : ℕ) → (returns ≡ true → is1 ≡ false) → moves_on (if returns then Ends else Strays) pc i ≢ [] →
    astray_after (if is1 then Calls else (if returns then Returns else Stays)) to places ≡ false →
    Makes (moves_on (if returns then Ends else Strays) pc i) pc 0 i places to (places_after (if is1 then Calls else (if returns then Returns else Stays)) pc places)
goes_by_return pc i places true true to other some astray = absurd (let h = other refl in cc)
goes_by_return pc i places false true to other some astray = goes_back pc i places places to astray
goes_by_return pc i places is1 false to other some astray = absurd (some refl)

goes_by_register : (resolved : Bool) (before : Option Instruction) (pc : ℕ) (i : Instruction) (places : List ℕ) (target to : ℕ) → moves_on (register_way resolved before pc i) pc i ≢ [] →
    (resolved ≡ true → target ≡ far_target before pc i) → target ≡ to → astray_after (linkage_of_register resolved i) to places ≡ false →
    Makes (moves_on (register_way resolved before pc i) pc i) pc 0 i places to (places_after (linkage_of_register resolved i) pc places)
goes_by_register true before pc i places target to some far e astray = goes_by_jump pc i places (i.rd == 0) (i.rd == 1) (far_target before pc i) to (not_both i.rd) some (sym (far refl) ∙ e)
goes_by_register false before pc i places target to some far e astray =
    goes_by_return pc i places (i.rd == 1) ((i.rd == 0) && ((i.rs1 == 1) && is_zero i.imm)) to
    (λ h. not_both i.rd (and_parts (i.rd == 0) ((i.rs1 == 1) && is_zero i.imm) h).0) some astray

-- where the machine goes on

branch_goes : (imm : ℤ) (taken : Bool) (s : State) (to : ℕ) (registers : List ℕ) (world : World) → branches imm taken s ≡ GoesTo to registers world → (if taken then displaced s.pc imm else behind s.pc) ≡ to
branch_goes imm true s to registers world e = cc
branch_goes imm false s to registers world e = cc

read_goes : (rd : ℕ) (kind : Width × Bool) (o : Option ℕ) (s : State) (to : ℕ) (registers : List ℕ) (world : World) → reads rd kind o s ≡ GoesTo to registers world → behind s.pc ≡ to
read_goes rd kind None s to registers world e = cc
read_goes rd kind (Some n) s to registers world e = cc

write_goes : (o : Option (List Block)) (s : State) (to : ℕ) (registers : List ℕ) (world : World) → writes o s ≡ GoesTo to registers world → behind s.pc ≡ to
write_goes None s to registers world e = cc
write_goes (Some after) s to registers world e = cc

choice_goes : (b : Bool) (x : Action) (k pc to : ℕ) (registers : List ℕ) (world : World) → (x ≡ GoesTo to registers world → pc ≡ to) → (if b then x else Traps k) ≡ GoesTo to registers world → pc ≡ to
choice_goes true x k pc to registers world h e = h e
choice_goes false x k pc to registers world h e = cc

call_goes : (n : ℕ) (s : State) (to : ℕ) (registers : List ℕ) (world : World) → calls n s ≡ GoesTo to registers world → behind s.pc ≡ to
call_goes zero s to registers world e = cc
call_goes (suc zero) s to registers world e = cc
call_goes (suc (suc zero)) s to registers world e = cc
call_goes (suc (suc (suc n))) s to registers world e = cc

pub read_next : (w : Width) (signed : Bool) (i : Instruction) (s : State) (to : ℕ) (registers : List ℕ) (world : World) → performed_by (Read w signed) i s ≡ GoesTo to registers world → behind s.pc ≡ to
read_next w signed i s to registers world e =
    let at = address_of i s in
    choice_goes (at % byte_count w == 0) (reads i.rd (w, signed) (read_from (λ b. b.read) w s.world.memory at) s) 5 (behind s.pc) to registers world (read_goes i.rd (w, signed) (read_from (λ b. b.read) w s.world.memory at) s to registers world) e

-- a step that goes on, by what its instruction does
pub step_makes : (e : Effect) (before : Option Instruction) (i : Instruction) (s : State) (places : List ℕ) (to : ℕ) (registers : List ℕ) (world : World) →
    moves_on (way_by e false before s.pc i) s.pc i ≢ [] → (resolves_by e before i ≡ true → address_of i s / 2 * 2 ≡ far_target before s.pc i) →
    performed_by e i s ≡ GoesTo to registers world → astray_after (linkage_by e before i) to places ≡ false →
    Makes (moves_on (way_by e false before s.pc i) s.pc i) s.pc (move_of (taken_by e i s)) i places to (places_after (linkage_by e before i) s.pc places)
step_makes SetUpper before i s places to registers world some far is astray = goes_next s.pc i places to cc
step_makes AddUpper before i s places to registers world some far is astray = goes_next s.pc i places to cc
step_makes Link before i s places to registers world some far is astray = goes_by_jump s.pc i places (i.rd == 0) (i.rd == 1) (displaced s.pc i.imm) to (not_both i.rd) some cc
step_makes LinkRegister before i s places to registers world some far is astray =
    let e : address_of i s / 2 * 2 ≡ to = cc in
    goes_by_register (sets_upper before i.rs1) before s.pc i places (address_of i s / 2 * 2) to some far e astray
step_makes (BranchIf c) before i s places to registers world some far is astray =
    let taken = holds c (register_of s.registers i.rs1) (register_of s.registers i.rs2) in
    goes_by_branch s.pc i places taken (displaced s.pc i.imm) to (branch_goes i.imm taken s to registers world is)
step_makes (Read w signed) before i s places to registers world some far is astray = goes_next s.pc i places to (read_next w signed i s to registers world is)
step_makes (Write w) before i s places to registers world some far is astray =
    let at = address_of i s in
    let o = written_to w s.world.memory at (register_of s.registers i.rs2) in
    goes_next s.pc i places to (choice_goes (at % byte_count w == 0) (writes o s) 5 (behind s.pc) to registers world (write_goes o s to registers world) is)
step_makes (WithImmediate f) before i s places to registers world some far is astray = goes_next s.pc i places to cc
step_makes (WithRegister f) before i s places to registers world some far is astray = goes_next s.pc i places to cc
step_makes CallEnvironment before i s places to registers world some far is astray = goes_next s.pc i places to (call_goes (register_of s.registers 17) s to registers world is)

-- the registers behind a step

with_register-length : (registers : List ℕ) (rd value : ℕ) → length (with_register registers rd value) ≡ length registers
with_register-length registers zero value = refl
with_register-length registers (suc n) value = length-set registers (suc n) value

pub register_of-with_register : (registers : List ℕ) (rd value : ℕ) → rd ≢ 0 → rd < length registers → register_of (with_register registers rd value) rd ≡ value
register_of-with_register registers zero value some lt = absurd (some refl)
register_of-with_register registers (suc n) value some lt = get_or-set_at registers (suc n) (suc n) value 0 refl lt

branch_registers : (imm : ℤ) (taken : Bool) (s : State) (to : ℕ) (registers : List ℕ) (world : World) → branches imm taken s ≡ GoesTo to registers world → length registers ≡ length s.registers
branch_registers imm true s to registers world e = let h : s.registers ≡ registers = cc in ap length (sym h)
branch_registers imm false s to registers world e = let h : s.registers ≡ registers = cc in ap length (sym h)

set_registers : (s : State) (rd value : ℕ) (registers : List ℕ) → with_register s.registers rd value ≡ registers → length registers ≡ length s.registers
set_registers s rd value registers e = ap length (sym e) ∙ with_register-length s.registers rd value

read_registers : (rd : ℕ) (kind : Width × Bool) (o : Option ℕ) (s : State) (to : ℕ) (registers : List ℕ) (world : World) → reads rd kind o s ≡ GoesTo to registers world → length registers ≡ length s.registers
read_registers rd kind None s to registers world e = cc
read_registers rd kind (Some n) s to registers world e = set_registers s rd (extended kind.0 kind.1 n) registers cc

write_registers : (o : Option (List Block)) (s : State) (to : ℕ) (registers : List ℕ) (world : World) → writes o s ≡ GoesTo to registers world → length registers ≡ length s.registers
write_registers None s to registers world e = cc
write_registers (Some after) s to registers world e = let h : s.registers ≡ registers = cc in ap length (sym h)

choice_registers : (b : Bool) (x : Action) (k : ℕ) (s : State) (to : ℕ) (registers : List ℕ) (world : World) → (x ≡ GoesTo to registers world → length registers ≡ length s.registers) → (if b then x else Traps k) ≡ GoesTo to registers world → length registers ≡ length s.registers
choice_registers true x k s to registers world h e = h e
choice_registers false x k s to registers world h e = cc

call_registers : (n : ℕ) (s : State) (to : ℕ) (registers : List ℕ) (world : World) → calls n s ≡ GoesTo to registers world → length registers ≡ length s.registers
call_registers zero s to registers world e = cc
call_registers (suc zero) s to registers world e = set_registers s 10 (input_value s.world.input) registers cc
call_registers (suc (suc zero)) s to registers world e = set_registers s 10 (register_of s.registers 10 % 2 ^ 8) registers cc
call_registers (suc (suc (suc n))) s to registers world e = cc

-- there are as many as before
pub step_registers : (e : Effect) (i : Instruction) (s : State) (to : ℕ) (registers : List ℕ) (world : World) → performed_by e i s ≡ GoesTo to registers world → length registers ≡ length s.registers
step_registers SetUpper i s to registers world is = set_registers s i.rd (word i.imm) registers cc
step_registers AddUpper i s to registers world is = set_registers s i.rd (displaced s.pc i.imm) registers cc
step_registers Link i s to registers world is = set_registers s i.rd (behind s.pc) registers cc
step_registers LinkRegister i s to registers world is = set_registers s i.rd (behind s.pc) registers cc
step_registers (BranchIf c) i s to registers world is = branch_registers i.imm (holds c (register_of s.registers i.rs1) (register_of s.registers i.rs2)) s to registers world is
step_registers (Read w signed) i s to registers world is =
    let o = read_from (λ b. b.read) w s.world.memory (address_of i s) in
    choice_registers (address_of i s % byte_count w == 0) (reads i.rd (w, signed) o s) 5 s to registers world (read_registers i.rd (w, signed) o s to registers world) is
step_registers (Write w) i s to registers world is =
    let o = written_to w s.world.memory (address_of i s) (register_of s.registers i.rs2) in
    choice_registers (address_of i s % byte_count w == 0) (writes o s) 5 s to registers world (write_registers o s to registers world) is
step_registers (WithImmediate f) i s to registers world is = set_registers s i.rd (alu_value f (register_of s.registers i.rs1) (word i.imm)) registers cc
step_registers (WithRegister f) i s to registers world is = set_registers s i.rd (alu_value f (register_of s.registers i.rs1) (register_of s.registers i.rs2)) registers cc
step_registers CallEnvironment i s to registers world is = call_registers (register_of s.registers 17) s to registers world is

-- an AUIPC has put its sum into a register
pub upper_registers : (i : Instruction) (s : State) (to : ℕ) (registers : List ℕ) (world : World) → i.rd ≢ 0 → i.rd < length s.registers → performed_by AddUpper i s ≡ GoesTo to registers world → register_of registers i.rd ≡ displaced s.pc i.imm
upper_registers i s to registers world some lt is =
    let e : with_register s.registers i.rd (displaced s.pc i.imm) ≡ registers = cc in
    ap (λ r. register_of r i.rd) (sym e) ∙ register_of-with_register s.registers i.rd (displaced s.pc i.imm) some lt

-- an exit

choice_leaves : (b : Bool) (x : Action) (k : ℕ) (value : ℤ) → (x ≡ Leaves value → ⊥) → (if b then x else Traps k) ≡ Leaves value → ⊥
choice_leaves true x k value h e = h e
choice_leaves false x k value h e = cc

branch_leaves : (imm : ℤ) (taken : Bool) (s : State) (value : ℤ) → branches imm taken s ≡ Leaves value → ⊥
branch_leaves imm true s value e = cc
branch_leaves imm false s value e = cc

read_leaves : (rd : ℕ) (kind : Width × Bool) (o : Option ℕ) (s : State) (value : ℤ) → reads rd kind o s ≡ Leaves value → ⊥
read_leaves rd kind None s value e = cc
read_leaves rd kind (Some n) s value e = cc

write_leaves : (o : Option (List Block)) (s : State) (value : ℤ) → writes o s ≡ Leaves value → ⊥
write_leaves None s value e = cc
write_leaves (Some after) s value e = cc

-- only a call of the environment leaves
pub leaves_by_call : (e : Effect) (i : Instruction) (s : State) (value : ℤ) → performed_by e i s ≡ Leaves value → e ≡ CallEnvironment
leaves_by_call SetUpper i s value is = cc
leaves_by_call AddUpper i s value is = cc
leaves_by_call Link i s value is = cc
leaves_by_call LinkRegister i s value is = cc
leaves_by_call (BranchIf c) i s value is = absurd (branch_leaves i.imm (holds c (register_of s.registers i.rs1) (register_of s.registers i.rs2)) s value is)
leaves_by_call (Read w signed) i s value is =
    let o = read_from (λ b. b.read) w s.world.memory (address_of i s) in
    absurd (choice_leaves (address_of i s % byte_count w == 0) (reads i.rd (w, signed) o s) 5 value (read_leaves i.rd (w, signed) o s value) is)
leaves_by_call (Write w) i s value is =
    let o = written_to w s.world.memory (address_of i s) (register_of s.registers i.rs2) in
    absurd (choice_leaves (address_of i s % byte_count w == 0) (writes o s) 5 value (write_leaves o s value) is)
leaves_by_call (WithImmediate f) i s value is = cc
leaves_by_call (WithRegister f) i s value is = cc
leaves_by_call CallEnvironment i s value is = refl
