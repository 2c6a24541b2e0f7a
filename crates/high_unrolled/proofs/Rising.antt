-- Numbers that stand in a row, each once.
use Rattle.std.proofs.Common.{◌≡◌, ⊎_elim, ℕ, zero, suc, ◌+◌, ◌<◌, ◌≤◌, cond, List, ◌∷◌, ◌++◌, map, Some, refl, ap, ◌∙◌, subst, arith}
use Rattle.std.specs.Prelude.{◌==◌, Contains}
use Rattle.std.specs.List.{range_with_len}
use Rattle.std.proofs.lemmas.Bool.{cases_eq, cond-false, cond-true, eq-eqb, ne_eqb}
use Rattle.std.proofs.lemmas.List.Elements.{All-contains}
use Rattle.std.proofs.lemmas.List.Sums.{sum_by-cons}
use Rattle.high_ir.specs.Runs.{count_of}
use Rattle.high_ir.specs.Standing.{Bounded}
use Rattle.high_parts.proofs.Numbers.{bounds_found, number_of}
use Rattle.high_pass.specs.Carries.{bounds_of}

pub count-same : (k : ℕ) (xs : List ℕ) → count_of k (k ∷ xs) ≡ 1 + count_of k xs
count-same k xs = sum_by-cons (λ x. cond (x == k) 1 0) k xs ∙ ap (λ c. c + count_of k xs) (cond-true {A = ℕ} (k == k) 1 0 (eq-eqb k k refl))

pub count-other : (k x : ℕ) (xs : List ℕ) → (x ≡ k → ⊥) → count_of k (x ∷ xs) ≡ count_of k xs
count-other k x xs other = sum_by-cons (λ y. cond (y == k) 1 0) x xs ∙ ap (λ c. c + count_of k xs) (cond-false {A = ℕ} (x == k) 1 0 (ne_eqb x k other)) ∙ none (count_of k xs)
  where
    none : (n : ℕ) → 0 + n ≡ n
    none n = omega arith

range_below : (k a n : ℕ) → k < a → count_of k (range_with_len a n) ≡ 0
range_below k a zero lt = refl
range_below k a (suc n) lt = count-other k a (range_with_len (a + 1) n) (λ e. absurd (omega (arith, e, lt))) ∙ range_below k (a + 1) n (omega (arith, lt))

pub range_within : (k a n : ℕ) → a ≤ k → k < a + n → count_of k (range_with_len a n) ≡ 1
range_within k a zero le lt = absurd (omega (arith, le, lt))
range_within k a (suc n) le lt = ⊎_elim
    (λ (same : a ≡ k). subst (λ j. count_of j (a ∷ range_with_len (a + 1) n) ≡ 1) same (count-same a (range_with_len (a + 1) n) ∙ ap (λ c. 1 + c) (range_below a (a + 1) n (next a)) ∙ one))
    (λ (other : a ≡ k → ⊥). count-other k a (range_with_len (a + 1) n) other ∙ range_within k (a + 1) n (omega (arith, le, other)) (omega (arith, lt)))
    (cases_eq a k)
  where
    next : (a : ℕ) → a < a + 1
    next a = omega arith

    one : 1 + 0 ≡ 1
    one = omega arith

pub range-append : (from m n : ℕ) → range_with_len from (m + n) ≡ range_with_len from m ++ range_with_len (from + m) n
range-append from zero n =
    let a : zero + n ≡ n = omega arith in
    let b : from ≡ from + zero = omega arith in
    ap (range_with_len from) a ∙ ap (λ f. range_with_len f n) b
range-append from (suc m) n =
    let a : suc m + n ≡ suc (m + n) = omega arith in
    let b : from + 1 + m ≡ from + suc m = omega arith in
    ap (range_with_len from) a ∙ ap (λ l. from ∷ l) (range-append (from + 1) m n ∙ ap (λ f. range_with_len (from + 1) m ++ range_with_len f n) b)

-- loops that have the numbers from 0 on, each with its bounds
pub bounds_there : (ls : List Bounded) (n : ℕ) (l : Bounded) → map number_of ls ≡ range_with_len 0 n → Contains ls l → bounds_of ls l.id ≡ Some l.bounds
bounds_there ls n l numbers there = All-contains (λ x. bounds_of ls x.id ≡ Some x.bounds) ls l (bounds_found ls 0 n numbers) there
