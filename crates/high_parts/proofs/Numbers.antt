-- Numbers that stand in a row, each once.
use Rattle.std.proofs.Common.{◌≡◌, ⊎_elim, ℕ, zero, suc, ◌+◌, ◌<◌, ◌≤◌, cond, List, [], ◌∷◌, map, Some, refl, sym, ap, ◌∙◌, subst, arith, All}
use Rattle.std.specs.Prelude.{◌==◌, get_or, if◌then◌else◌}
use Rattle.std.specs.List.{range_with_len}
use Rattle.std.proofs.lemmas.Bool.{cases_eq, cases_lt, cond-false, cond-true, eq-eqb, le-ltb, lt-ltb, ne_eqb}
use Rattle.std.proofs.lemmas.List.Elements.{All-cons, All-nil}
use Rattle.std.proofs.lemmas.List.Sums.{sum_by-cons}
use Rattle.high_ir.specs.Runs.{count_of}
use Rattle.high_ir.specs.Standing.{Bounded}
use Rattle.high_pass.specs.Carries.{bounds_of}
use Rattle.high_pass.specs.Listing.{HasEachBelow}

abbrev pub number_of : Bounded → ℕ
number_of l = l.id

-- one number before others
count-same : (k : ℕ) (xs : List ℕ) → count_of k (k ∷ xs) ≡ 1 + count_of k xs
count-same k xs = sum_by-cons (λ x. cond (x == k) 1 0) k xs ∙ ap (λ c. c + count_of k xs) (cond-true (k == k) 1 0 (eq-eqb k k refl))

count-other : (k x : ℕ) (xs : List ℕ) → (x ≡ k → ⊥) → count_of k (x ∷ xs) ≡ count_of k xs
count-other k x xs other = sum_by-cons (λ y. cond (y == k) 1 0) x xs ∙ ap (λ c. c + count_of k xs) (cond-false (x == k) 1 0 (ne_eqb x k other)) ∙ none (count_of k xs)
  where
    none : (n : ℕ) → 0 + n ≡ n
    none n = omega arith

range_below : (k a n : ℕ) → k < a → count_of k (range_with_len a n) ≡ 0
range_below k a zero lt = refl
range_below k a (suc n) lt = count-other k a (range_with_len (a + 1) n) (λ e. absurd (omega (arith, e, lt))) ∙ range_below k (a + 1) n (omega (arith, lt))

range_above : (k a n : ℕ) → a + n ≤ k → count_of k (range_with_len a n) ≡ 0
range_above k a zero le = refl
range_above k a (suc n) le = count-other k a (range_with_len (a + 1) n) (λ e. absurd (omega (arith, e, le))) ∙ range_above k (a + 1) n (omega (arith, le))

range_within : (k a n : ℕ) → a ≤ k → k < a + n → count_of k (range_with_len a n) ≡ 1
range_within k a zero le lt = absurd (omega (arith, le, lt))
range_within k a (suc n) le lt = ⊎_elim
    (λ (same : a ≡ k). subst (λ j. count_of j (a ∷ range_with_len (a + 1) n) ≡ 1) same (count-same a (range_with_len (a + 1) n) ∙ ap (λ c. 1 + c) (range_below a (a + 1) n (next a)) ∙ one))
    (λ (other : a ≡ k → ⊥). count-other k a (range_with_len (a + 1) n) other ∙ range_within k (a + 1) n (omega (arith, le, other)) (omega (arith, lt)))
    (cases_eq a k)
  where
    next : (a : ℕ) → a < a + 1
    next a = omega arith

    one : 1 + 0 ≡ 1
    one = omega arith

pub range_has_each : (n : ℕ) → HasEachBelow n (range_with_len 0 n)
range_has_each n k = ⊎_elim
    (λ (lt : k < n). range_within k 0 n (least k) (from_zero k n lt) ∙ sym (ap (λ b. if b then 1 else 0) (lt-ltb k n lt)))
    (λ (le : n ≤ k). range_above k 0 n (zero_more n k le) ∙ sym (ap (λ b. if b then 1 else 0) (le-ltb k n le)))
    (cases_lt k n)
  where
    least : (k : ℕ) → 0 ≤ k
    least k = omega arith

    from_zero : (k n : ℕ) → k < n → k < 0 + n
    from_zero k n lt = omega (arith, lt)

    zero_more : (n k : ℕ) → n ≤ k → 0 + n ≤ k
    zero_more n k le = omega (arith, le)

abbrev first_or : ℕ → List ℕ → ℕ
first_or d [] = d
first_or d (x ∷ xs) = x

abbrev behind_first : List ℕ → List ℕ
behind_first [] = []
behind_first (x ∷ xs) = xs

none_more : (x : ℕ) (xs : List ℕ) → x ∷ xs ≡ [] → ⊥
none_more x xs e = cc e

numbers_from : (ls : List Bounded) (a n : ℕ) → map number_of ls ≡ range_with_len a n → All (λ l. a ≤ l.id) ls
numbers_from [] a n e = All-nil (λ l. a ≤ l.id)
numbers_from (l ∷ ls) a zero e = absurd (none_more l.id (map number_of ls) e)
numbers_from (l ∷ ls) a (suc n) e =
    All-cons (λ l. a ≤ l.id) l ls (omega (arith, ap (first_or a) e)) (later ls a (numbers_from ls (a + 1) n (ap behind_first e)))
  where
    later : (ls : List Bounded) (a : ℕ) → All (λ l. a + 1 ≤ l.id) ls → All (λ l. a ≤ l.id) ls
    later ls a h i d lt = let le = h i d lt in omega (arith, le)

-- each has its bounds
pub bounds_found : (ls : List Bounded) (a n : ℕ) → map number_of ls ≡ range_with_len a n → All (λ l. bounds_of ls l.id ≡ Some l.bounds) ls
bounds_found [] a n e = All-nil (λ l. bounds_of [] l.id ≡ Some l.bounds)
bounds_found (l ∷ ls) a zero e = absurd (none_more l.id (map number_of ls) e)
bounds_found (l ∷ ls) a (suc n) e =
    let number : l.id ≡ a = ap (first_or a) e in
    let rest : map number_of ls ≡ range_with_len (a + 1) n = ap behind_first e in
    All-cons (λ x. bounds_of (l ∷ ls) x.id ≡ Some x.bounds) l ls
    (ap (λ b. if b then Some l.bounds else bounds_of ls l.id) (eq-eqb l.id l.id refl))
    (λ i d lt. behind (get_or ls i d) number (numbers_from ls (a + 1) n rest i d lt) (bounds_found ls (a + 1) n rest i d lt))
  where
    behind : (x : Bounded) → l.id ≡ a → a + 1 ≤ x.id → bounds_of ls x.id ≡ Some x.bounds → bounds_of (l ∷ ls) x.id ≡ Some x.bounds
    behind x number later found = ap (λ b. if b then Some l.bounds else bounds_of ls x.id) (ne_eqb l.id x.id (λ e. absurd (omega (arith, number, later, e)))) ∙ found
