-- What a program keeps that doesn't load elements again.
use Rattle.std.specs.Prelude.{ℕ, ◌≡◌, ◌<◌, ◌≤◌, ◌^◌, List, All}
use Rattle.low_ir.specs.Code.{Low}
use Rattle.low_ir.specs.Effects.{World}
use Rattle.low_ir.specs.Formed.{IsLow}
use Rattle.low_ir.specs.Room.{reach, room, weight}
use Rattle.low_ir.specs.Runs.{lrun}
use Rattle.low_ir.specs.Turns.{IsGood}
use Rattle.pass_common_subexpressions_law.specs.Reloads.{IsReloaded}

-- each good run on bytes is a good run of the other program in as many steps, with the same value and the same world: arrays, input that is
-- left, output and trace
abbrev pub ReloadsRun : Type 0
ReloadsRun = (p q : Low) → IsReloaded p q → (input : List ℕ) (n v : ℕ) (u : World) → All (λ c. c < 2 ^ 8) input → IsGood p (lrun p input n) v u → IsGood q (lrun q input n) v u

abbrev pub ReloadsAreFormed : Type 0
ReloadsAreFormed = (p q : Low) → IsReloaded p q → IsLow p → IsLow q

-- it takes and executes no more instructions, and passes marks as often
pub record CostsNoMore (p q : Low) : Type 0 where
  pub room : room q ≤ room p
  pub weight : weight q ≤ weight p
  pub reach : (mark : ℕ) → reach q mark ≡ reach p mark

abbrev pub ReloadsCostNoMore : Type 0
ReloadsCostNoMore = (p q : Low) → IsReloaded p q → CostsNoMore p q
