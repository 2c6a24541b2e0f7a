-- A common denominator of weights.
use Rattle.std.specs.Prelude.{◌≡◌, ℕ, List, true, All}
use Rattle.simplex_rounds.specs.declared.weighing.Weight.{Weight}
use Rattle.simplex_rounds.specs.Limits.{is_narrow}
use Rattle.simplex_rounds.specs.Weighted.{denominator, numerator}

-- their least common denominator, which is narrow, as are the numerators over it
pub record IsCommonOf (n : ℕ) (ws : List Weight) (m : ℕ) : Type 0 where
  pub is : m ≡ denominator 1 ws
  pub narrow : is_narrow n m ≡ true
  pub each : All (λ w. is_narrow n (numerator m w) ≡ true) ws
