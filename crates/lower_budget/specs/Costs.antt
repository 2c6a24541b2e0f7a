-- What code costs.
use Rattle.std.specs.Prelude.{◌≡◌, ℕ, suc, ◌+◌, ◌*◌, ◌≤◌, max, List, [], ◌∷◌, length, map, Option, Some, None, slice_get, sum_by}
use Rattle.wcc_base.specs.Budgets.{most_operations}
use Rattle.high_ir.specs.Formed.{IsHigh}
use Rattle.high_ir.specs.Size.{operations, program_operations}
use Rattle.high_ir.specs.Standing.{Bounded, loops_of, marks_of}
use Rattle.high_ir.specs.Tree as high
use Rattle.high_ir.specs.Weight.{weight as high_weight, reach as high_reach}
use Rattle.low_ir.specs.Code.{Block, Call, Do, Function, Instr, Loop, Note}
use Rattle.low_ir.specs.Room.{block_room, called, end_room, plain_room, reach, repeated_in, room, weights}
use Rattle.lower_definition.specs.Operators.{Code}
use Rattle.lower_definition.specs.Values.{Scope, first_free}
use Rattle.lower_definition.specs.Programs.{lowered, lowered_function}

-- the machine instructions of some instructions, where calls of functions are worth so much beside their own
module _ (worth : ℕ → ℕ) where
  abbrev pub instr_worth : Instr ℕ Note → ℕ
  instr_worth (Do i) = plain_room i
  instr_worth (Call into f args note) = 4 + 10 * length args + worth f

  abbrev pub code_worth : Code → ℕ
  code_worth [] = 0
  code_worth (i ∷ is) = instr_worth i + code_worth is

  abbrev pub block_worth : Block ℕ Note → ℕ
  block_worth b = code_worth b.code + end_room b.end

-- the loops of some functions
abbrev pub loops_in : List (Function ℕ Note) → ℕ
loops_in fns = sum_by (λ (fn : Function ℕ Note). length fn.loops) fns

-- a program of few operations pays for its code by those that it might have; for each loop 8 are left
abbrev pub RoomIsBounded : Type 0
RoomIsBounded = (p : high.Program) → IsHigh p → room (lowered p) + 8 * loops_in (lowered p).functions ≤ 16 * max (program_operations p) most_operations + 64 * length (lowered p).functions

abbrev pub FunctionsAreFew : Type 0
FunctionsAreFew = (p : high.Program) → IsHigh p → length (lowered p).functions ≤ length p.functions

abbrev pub RegistersAreFew : Type 0
RegistersAreFew = (scope : Scope) (f : ℕ) (h : high.Function) → (lowered_function scope f h).size + 2 * length (lowered_function scope f h).loops ≤ first_free scope + 2 * operations h.body

-- functions with the numbers of others, where a call may execute at most 8 more for each loop of its function
abbrev pub AreSpared : List (Function ℕ Note) → List (Function ℕ Note) → Type 0
AreSpared fns gs = (f : ℕ) (fn : Function ℕ Note) (worth : ℕ → ℕ) → slice_get fns f ≡ Some fn → repeated_in (λ b. block_room b + called worth b.code) (slice_get gs f) ≤ 8 * length fn.loops + repeated_in (λ b. block_room b + called worth b.code) (Some fn)

abbrev pub WeightIsBounded : Type 0
WeightIsBounded = (p : high.Program) → IsHigh p → (gs : List (Function ℕ Note)) → AreSpared (lowered p).functions gs → weights gs (suc (lowered p).main) (lowered p).main ≤ 16 * high_weight p + 64

abbrev pub ReachIsBounded : Type 0
ReachIsBounded = (p : high.Program) → IsHigh p → (mark : ℕ) → reach (lowered p) mark ≤ high_reach p mark

-- a loop's number and bounds
abbrev pub bounded : Loop → Bounded
bounded l = record { id = l.id; bounds = record { least = l.least; most = l.most } }

-- whether a block has a mark, as a number
abbrev pub marks_in : Option ℕ → ℕ
marks_in None = 0
marks_in (Some m) = 1

abbrev pub marks_at : Block ℕ Note → ℕ
marks_at b = marks_in b.mark

abbrev pub LoopsAreKept : Type 0
LoopsAreKept = (scope : Scope) (f : ℕ) (h : high.Function) → map bounded (lowered_function scope f h).loops ≡ loops_of h.body

abbrev pub MarksAreFew : Type 0
MarksAreFew = (scope : Scope) (f : ℕ) (h : high.Function) → sum_by marks_at (lowered_function scope f h).blocks ≤ length (marks_of h.body) + 1
