-- What a program keeps where words are in registers.
use Rattle.std.specs.Prelude.{◌≡◌, ℕ, ◌+◌, ◌*◌, ◌≤◌, List, length, Some, slice_get, sum_by}
use Rattle.low_ir.specs.Code.{Function, Low, Note}
use Rattle.low_ir.specs.Effects.{World}
use Rattle.low_ir.specs.Formed.{IsLow}
use Rattle.low_ir.specs.Room.{block_room, called, reach, repeated_in, room}
use Rattle.low_ir.specs.Runs.{lrun}
use Rattle.low_ir.specs.Turns.{IsGood}
use Rattle.pass_constant_hoisting.specs.Holding.{held_program}

-- a good run with this value and this world, in some steps
pub record Ends (q : Low) (input : List ℕ) (v : ℕ) (u : World) : Type 0 where
  pub steps : ℕ
  pub good : IsGood q (lrun q input steps) v u

-- each good run is one over the words in registers, with the same value and the same world: arrays, input that is left, output and trace
abbrev pub HeldCarries : Type 0
HeldCarries = (wss : List (List ℕ)) (q : Low) (input : List ℕ) (n v : ℕ) (u : World) → IsGood q (lrun q input n) v u → Ends (held_program wss q) input v u

abbrev pub HeldIsLow : Type 0
HeldIsLow = (wss : List (List ℕ)) (q : Low) → IsLow q → IsLow (held_program wss q)

-- what the words of r cost beside q: of machine instructions at most 8 for each loop, in the code and wherever a function is called,
-- and no passing of a mark
pub record IsCheap (q r : Low) : Type 0 where
  pub room : room r ≤ room q + 8 * sum_by (λ (fn : Function ℕ Note). length fn.loops) q.functions
  pub weights : (f : ℕ) (fn : Function ℕ Note) (worth : ℕ → ℕ) → slice_get q.functions f ≡ Some fn → repeated_in (λ b. block_room b + called worth b.code) (slice_get r.functions f) ≤ 8 * length fn.loops + repeated_in (λ b. block_room b + called worth b.code) (Some fn)
  pub reach : (mark : ℕ) → reach r mark ≤ reach q mark

abbrev pub HeldIsCheap : Type 0
HeldIsCheap = (wss : List (List ℕ)) (q : Low) → IsLow q → IsCheap q (held_program wss q)
