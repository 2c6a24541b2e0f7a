-- What guesses keep.
use Rattle.std.specs.Prelude.{◌≡◌, ℕ, ◌*◌, ◌^◌, ◌≤◌, ◌<◌, unsigned_abs, List, length, All}
use Rattle.wcc_base.specs.declared.compare.Compare.{Compare}
use Rattle.simplex_rounds.specs.declared.pricing.Multipliers.{Multipliers}
use Rattle.simplex_laws.specs.RoundLaws.{HaveSigns}

-- a multiplier for each fact, of its sign; each number, times one more than the number of loop claims, is at most 2^44
pub record IsGuess (os : List Compare) (times : ℕ) (y : Multipliers) : Type 0 where
  pub some : 0 < y.scale
  pub scaled : y.scale * times ≤ 2 ^ 44
  pub count : length y.facts ≡ length os
  pub facts : All (λ z. unsigned_abs z * times ≤ 2 ^ 44) y.facts
  pub signs : HaveSigns os y.facts
