-- Weights of columns: they are few, and over their common denominator they are narrow.
use Rattle.std.proofs.Common.{◌≡◌, ℕ, zero, suc, ◌+◌, ◌-◌, ◌*◌, ◌≤◌, ◌<◌, ◌^◌, arith, List, [], ◌∷◌, length, All, Bool, true, false, cond, unsigned_abs}
use Rattle.std.specs.Prelude.{slice_index_or}
use Rattle.std.specs.Int.{◌∣◌}
use Rattle.std.proofs.lemmas.Nat.Gcd.{le_of_dvd}
use Rattle.std.proofs.lemmas.List.Elements.{All-weaker}
use Rattle.simplex_tables.specs.Rows.{Row, entry}
use Rattle.simplex_tables.specs.Choices.{right}
use Rattle.simplex_rounds.specs.declared.weighing.Weight.{Weight}
use Rattle.simplex_rounds.specs.Limits.{is_narrow}
use Rattle.simplex_rounds.specs.Weighted.{lowest, holds_weight, weights_of, denominator, numerator}
use Rattle.simplex_rounds.proofs.NarrowLemmas.{narrow_says}
use Rattle.simplex_rounds.proofs.Multiples.{denominator_is}
use Rattle.path_fact_columns.specs.Adding.{AreWeights}
use Rattle.path_enum.specs.Weighing.{IsCommonOf}

-- ---- how many there are

one_more : (w : Weight) (ws : List Weight) (n : ℕ) (t : Bool) → length ws ≤ n → length (cond t (w ∷ ws) ws) ≤ suc n
one_more w ws n true h = omega (arith, h)
one_more w ws n false h = omega (arith, h)

pub weights_few : (k : ℕ) (os : List ℕ) (rs : List Row) → length (weights_of k os rs) ≤ length os
weights_few k [] rs = omega arith
weights_few k (o ∷ os) [] = omega arith
weights_few k (o ∷ os) (r ∷ rs) = one_more (lowest (o - 1) (unsigned_abs (right r)) (unsigned_abs (entry r o))) (weights_of k os rs) (length os) (holds_weight k o r) (weights_few k os rs)

-- ---- their denominator

pub bottoms_most : (ws : List Weight) → All (λ w. 0 < w.bottom) ws → All (λ w. w.bottom ≤ denominator 1 ws) ws
bottoms_most ws h =
    let d = denominator_is 1 ws (omega arith) h in
    All-weaker (λ (w : Weight). w.bottom ∣ denominator 1 ws) (λ (w : Weight). w.bottom ≤ denominator 1 ws) (λ w k. le_of_dvd d.positive k) ws d.each

-- a narrow number is small
pub narrow_small : (n m : ℕ) → 0 < n → is_narrow n m ≡ true → m ≤ 2 ^ 44
narrow_small zero m some e = absurd (omega (arith, some))
narrow_small (suc n) m some e = let h = narrow_says (suc n) m e in let p : m * suc n ≡ m * n + m = omega arith in omega (arith, h, p)

pub are_weights : (k n m : ℕ) (ws : List Weight) → 0 < n → length ws ≤ 2 ^ 10 → All (λ w. (w.column < k) × (0 < w.bottom)) ws → IsCommonOf n ws m → AreWeights k m ws
are_weights k n m ws some few fit c =
    let most = bottoms_most ws (λ i d lt. (fit i d lt).1) in record {
      few = few;
      small = narrow_small n m some c.narrow;
      each = λ i d lt.
          let f = fit i d lt in
          let b = most i d lt in
          let e = c.is in (f.0, f.1, omega (arith, b, e), narrow_small n (numerator m (slice_index_or ws i d)) some (c.each i d lt));
    }
