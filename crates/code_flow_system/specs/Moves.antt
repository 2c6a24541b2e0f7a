-- The moves of code: where the instruction at an address goes on to (RISC-V unprivileged manual 2.5, control transfer; calls and returns as its calling convention has them).
use Rattle.std.specs.Prelude.{ℕ, ◌-◌, ◌*◌, ◌/◌, ◌==◌, ◌&&◌, List, [], ◌∷◌, ◌++◌, Bool, true, false, Option, Some, None, nat_le, if◌then◌else◌}
use Rattle.std.specs.Option.{option_to_list}
use Rattle.rv_core.specs.declared.row.Effect.{Effect}
use Rattle.rv_core.specs.declared.row.Effect.TheVariants.{Link, LinkRegister, BranchIf, CallEnvironment}
use Rattle.rv_core.specs.Rows.{row_of}
use Rattle.rv_core.specs.Instructions.{Instruction, is_zero}
use Rattle.rv_core.specs.Arithmetic.{displaced}
use Rattle.rv_core.specs.Images.{Image}
use Rattle.rv_core.specs.Machine.{behind}
use Rattle.rv_core.specs.Runs.{sets_upper}
use Rattle.rv_core.specs.Code.{instruction_in}
use Rattle.code_flow_system.specs.declared.moves.Move.{Move}
use Rattle.code_flow_system.specs.declared.moves.Way.{Way}
use Rattle.code_flow_system.specs.declared.moves.Way.TheVariants.{Next, Branches, Jumps, Calls, Ends, Strays}
use Rattle.code_flow_system.specs.Claims.{Claims, is_listed}

-- a jump that links to x0 or to x1
abbrev pub jump_way : ℕ → ℕ → Way
jump_way rd to = if rd == 0 then Jumps to else (if rd == 1 then Calls to else Strays)

-- the target of a JALR behind an AUIPC
abbrev pub far_target : Option Instruction → ℕ → Instruction → ℕ
far_target None a i = 0
far_target (Some upper) a i = displaced (displaced (a - 4) upper.imm) i.imm / 2 * 2

-- a JALR: resolved by the AUIPC before it, or else a return
abbrev pub register_way : Bool → Option Instruction → ℕ → Instruction → Way
register_way true before a i = jump_way i.rd (far_target before a i)
register_way false before a i = if (i.rd == 0) && ((i.rs1 == 1) && is_zero i.imm) then Ends else Strays

abbrev pub way_by : Effect → Bool → Option Instruction → ℕ → Instruction → Way
way_by Link exit before a i = jump_way i.rd (displaced a i.imm)
way_by LinkRegister exit before a i = register_way (sets_upper before i.rs1) before a i
way_by (BranchIf c) exit before a i = Branches (displaced a i.imm)
way_by CallEnvironment exit before a i = if exit then Ends else Next
way_by e exit before a i = Next

-- how the instruction at an address goes on, where it is listed as an exit or not, behind that one
abbrev pub way_of : Bool → Option Instruction → ℕ → Instruction → Way
way_of exit before a i = way_by (row_of i.op).effect exit before a i

abbrev pub move : ℕ → ℕ → Instruction → Option ℕ → Option ℕ → Move
move a number i to back = record { at = a; number = number; instr = i; to = to; behind = back }

-- the moves of a way, in the order of their numbers
abbrev pub moves_on : Way → ℕ → Instruction → List Move
moves_on Next a i = move a 0 i (Some (behind a)) None ∷ []
moves_on (Branches to) a i = move a 0 i (Some (behind a)) None ∷ move a 1 i (Some to) None ∷ []
moves_on (Jumps to) a i = move a 0 i (Some to) None ∷ []
moves_on (Calls to) a i = move a 0 i (Some to) (Some (behind a)) ∷ []
moves_on Ends a i = move a 0 i None None ∷ []
moves_on Strays a i = []

-- code: the instruction at each address, and whether it is listed as an exit
pub record Code : Type 0 where
  pub fetch : ℕ → Option Instruction
  pub exit : ℕ → Bool

abbrev pub code_by : Image → List ℕ → Code
code_by image exits = record { fetch = instruction_in image; exit = is_listed exits }

abbrev pub code_of : Image → Claims → Code
code_of image claims = code_by image claims.exits

-- the instruction before an address
abbrev pub fetch_before : Code → ℕ → Option Instruction
fetch_before c a = if nat_le 4 a then c.fetch (a - 4) else None

abbrev pub moves_by : Code → ℕ → Option Instruction → List Move
moves_by c a None = []
moves_by c a (Some i) = moves_on (way_of (c.exit a) (fetch_before c a) a i) a i

-- the moves of an address; none where there is no instruction, or one that strays
abbrev pub moves_at : Code → ℕ → List Move
moves_at c a = moves_by c a (c.fetch a)

-- where a move arrives: a call at its target and behind itself
abbrev pub destinations : Move → List ℕ
destinations m = option_to_list m.to ++ option_to_list m.behind

abbrev pub destinations_of : List Move → List ℕ
destinations_of [] = []
destinations_of (m ∷ ms) = destinations m ++ destinations_of ms
