-- What the low program of a program in the high form keeps of it.
use Rattle.std.specs.Prelude.{◌≡◌, ℕ, ◌*◌, ◌+◌, ◌<◌, ◌≤◌, ◌^◌, max, List, length, map, Some, All, slice_get, sum_by}
use Rattle.wcc_base.specs.Budgets.{most_operations}
use Rattle.high_ir.specs.Formed.{IsHigh}
use Rattle.high_ir.specs.Runs.{hrun}
use Rattle.high_ir.specs.Size.{local_object_bytes, program_operations}
use Rattle.high_ir.specs.Tree.{Program, Function as HighFunction}
use Rattle.high_ir.specs.Weight as high
use Rattle.high_ir.specs.Whole.{IsWhole}
use Rattle.low_ir.specs.Code.{Function, Low, Note}
use Rattle.low_ir.specs.Formed.{IsLow, mark_of, opening}
use Rattle.low_ir.specs.Places.{assignment, in_slots}
use Rattle.low_ir.specs.Room.{reach, room, weight}
use Rattle.low_ir.specs.Spacing.{Carries}
use Rattle.pass_constant_hoisting.specs.Holding.{held_program}
use Rattle.lower_definition.specs.Objects.{object_of}
use Rattle.lower_definition.specs.Programs.{lowered}
use Rattle.lower_program.specs.Kept.{IsKept}
use Rattle.lower_budget.specs.Costs.{marks_at}
use Rattle.lower_origins.specs.Reached.{IsReached}
use Rattle.lower_law.specs.Arrays.{local_bytes}
use Rattle.lower_law.specs.Functions.{ComesFrom, registers_of}

-- a function of a low program by its opening mark
pub record HasFunction (q : Low) (f : ℕ) : Type 0 where
  pub place : ℕ
  pub opens : mark_of q place 0 ≡ Some f

pub record KeepsProgram (p : Program) (q : Low) : Type 0 where
  pub is_low : IsLow q
  -- each good run is a good run with the same value, output and marks, in the same order; constants are words, and arrays have addresses
  pub runs : IsWhole p → (input : List ℕ) → All (λ c. c < 2 ^ 8) input → IsKept q input (hrun p input)
  -- and it is one where each register has a slot of its own
  pub slots : Carries (assignment (map in_slots q.functions)) q
  -- its functions are those that calls reach from main, each once, as opening marks stand nowhere else
  pub functions : (i : ℕ) (fn : Function ℕ Note) → slice_get q.functions i ≡ Some fn → ComesFrom p q fn
  pub reached : (f : ℕ) → IsReached p f → HasFunction q f
  pub main : mark_of q q.main 0 ≡ Some p.main
  -- its arrays are the same, with their sizes and values
  pub objects : q.objects ≡ map object_of p.objects
  pub locals : local_bytes q ≡ sum_by (λ o. local_object_bytes o.storage o) p.objects
  -- it has no more loops, and no more places with marks than the program has operations
  pub loops : sum_by (λ (fn : Function ℕ Note). length fn.loops) q.functions ≤ p.loops
  pub marks : sum_by (λ (fn : Function ℕ Note). sum_by marks_at fn.blocks) q.functions ≤ program_operations p
  -- how many machine instructions it takes, by the operations that it has or might have, how many a run may execute, by the weight that it has or might have, and how often a run may pass a mark
  pub room : room q ≤ 16 * max (program_operations p) most_operations + 64 * length q.functions
  pub weight : weight q ≤ max (16 * high.weight p + 64) (2 ^ 48)
  pub reach : (mark : ℕ) → reach q mark ≤ high.reach p mark

-- no function has one of the spare registers yet
abbrev pub SparesRegisters : Program → Low → Type 0
SparesRegisters p q = (i number : ℕ) (fn : Function ℕ Note) (h : HighFunction) → slice_get q.functions i ≡ Some fn → opening fn ≡ Some number → slice_get p.functions number ≡ Some h → fn.size ≤ registers_of h

-- and so whichever words have registers of their own
abbrev pub LoweredKeeps : Type 0
LoweredKeeps = (p : Program) → IsHigh p → (words : List (List ℕ)) → KeepsProgram p (held_program words (lowered p))

abbrev pub LoweredSpares : Type 0
LoweredSpares = (p : Program) → IsHigh p → (words : List (List ℕ)) → SparesRegisters p (held_program words (lowered p))
