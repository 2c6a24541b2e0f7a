-- How much functions may execute, by a table of what they are worth.
use Rattle.std.specs.Prelude.{◌≡◌, ℕ, ◌+◌, ◌≤◌, List, length, Some, slice_get, slice_index_or}
use Rattle.low_ir.specs.Code.{Block, Function, Note}
use Rattle.low_ir.specs.Room.{block_room, called, frame_room, repeated}

abbrev pub worth_in : List ℕ → ℕ → ℕ
worth_in worths f = slice_index_or worths f frame_room

abbrev pub block_worth : List ℕ → Block ℕ Note → ℕ
block_worth worths b = block_room b + called (worth_in worths) b.code

-- no function executes more than the table says, if those that it calls don't
pub record Bounds (worths : List ℕ) (fs : List (Function ℕ Note)) : Type 0 where
  pub few : length worths ≤ length fs
  pub bounded : (f : ℕ) (fn : Function ℕ Note) → slice_get fs f ≡ Some fn → frame_room + repeated (block_worth worths) fn.loops 0 fn.blocks ≤ worth_in worths f
