-- What a program with shorter ways keeps.
use Rattle.std.specs.Prelude.{ℕ, ◌≡◌, ◌≤◌, List}
use Rattle.low_ir.specs.Code.{Low}
use Rattle.low_ir.specs.Effects.{World}
use Rattle.low_ir.specs.Formed.{IsLow}
use Rattle.low_ir.specs.Room.{reach, room, weight}
use Rattle.low_ir.specs.Runs.{lrun}
use Rattle.low_ir.specs.Turns.{IsGood, marks_passed}
use Rattle.pass_jump_threading_law.specs.Threads.{IsThreaded}

-- each good run is a good run on shorter ways, with the same value, the same arrays, input that is left and output, and the same marks
-- in the same order
pub record RunsOn (p q : Low) (input : List ℕ) (v : ℕ) (u : World) : Type 0 where
  pub steps : ℕ
  pub world : World
  pub good : IsGood q (lrun q input steps) v world
  pub objects : world.objects ≡ u.objects
  pub unread : world.input ≡ u.input
  pub output : world.output ≡ u.output
  pub marks : marks_passed q world.trace ≡ marks_passed p u.trace

abbrev pub ThreadsRun : Type 0
ThreadsRun = (p q : Low) → IsThreaded p q → IsLow p → (input : List ℕ) (n v : ℕ) (u : World) → IsGood p (lrun p input n) v u → RunsOn p q input v u

abbrev pub ThreadsAreFormed : Type 0
ThreadsAreFormed = (p q : Low) → IsThreaded p q → IsLow p → IsLow q

-- it takes and executes no more instructions, and passes marks no more often
pub record CostsNoMore (p q : Low) : Type 0 where
  pub room : room q ≤ room p
  pub weight : weight q ≤ weight p
  pub reach : (mark : ℕ) → reach q mark ≤ reach p mark

abbrev pub ThreadsCostNoMore : Type 0
ThreadsCostNoMore = (p q : Low) → IsThreaded p q → IsLow p → CostsNoMore p q
