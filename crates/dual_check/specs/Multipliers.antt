-- The multipliers by the numbers of limits: never claims, the least and the most of each loop, facts.
use Rattle.std.specs.Prelude.{ℕ, zero, suc, ℤ, pos, List, [], ◌∷◌}

abbrev pub fact_by : List ℤ → ℕ → ℤ
fact_by [] n = pos 0
fact_by (w ∷ ws) zero = w
fact_by (w ∷ ws) (suc n) = fact_by ws n

abbrev pub loop_by : List (ℤ × ℤ) → List ℤ → ℕ → ℤ
loop_by [] facts n = fact_by facts n
loop_by (w ∷ ws) facts zero = w.0
loop_by (w ∷ ws) facts (suc zero) = w.1
loop_by (w ∷ ws) facts (suc (suc n)) = loop_by ws facts n

abbrev pub never_by : List ℤ → List (ℤ × ℤ) → List ℤ → ℕ → ℤ
never_by [] loops facts n = loop_by loops facts n
never_by (w ∷ ws) loops facts zero = w
never_by (w ∷ ws) loops facts (suc n) = never_by ws loops facts n
