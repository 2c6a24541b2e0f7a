-- What a program without its copies keeps.
use Rattle.std.specs.Prelude.{ℕ, ◌≡◌, ◌≤◌, List}
use Rattle.low_ir.specs.Code.{Low}
use Rattle.low_ir.specs.Effects.{World}
use Rattle.low_ir.specs.Formed.{IsLow}
use Rattle.low_ir.specs.Room.{reach, room, weight}
use Rattle.low_ir.specs.Runs.{lrun}
use Rattle.low_ir.specs.Turns.{IsGood}
use Rattle.pass_copy_propagation_law.specs.Copies.{IsCopied}

-- each good run is a good run without copies, with the same value and the same world: arrays, input that is left, output and trace
pub record RunsOn (q : Low) (input : List ℕ) (v : ℕ) (u : World) : Type 0 where
  pub steps : ℕ
  pub good : IsGood q (lrun q input steps) v u

abbrev pub CopiesRun : Type 0
CopiesRun = (p q : Low) → IsCopied p q → (input : List ℕ) (n v : ℕ) (u : World) → IsGood p (lrun p input n) v u → RunsOn q input v u

abbrev pub CopiesAreFormed : Type 0
CopiesAreFormed = (p q : Low) → IsCopied p q → IsLow p → IsLow q

-- it takes and executes no more instructions, and passes marks as often
pub record CostsNoMore (p q : Low) : Type 0 where
  pub room : room q ≤ room p
  pub weight : weight q ≤ weight p
  pub reach : (mark : ℕ) → reach q mark ≡ reach p mark

abbrev pub CopiesCostNoMore : Type 0
CopiesCostNoMore = (p q : Low) → IsCopied p q → CostsNoMore p q
