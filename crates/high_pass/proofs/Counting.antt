-- Sums over a list in which each number below a bound stands once.
use Rattle.std.proofs.Common.{◌≡◌, ℕ, zero, suc, ◌+◌, ◌*◌, ◌<◌, ◌≤◌, cond, nat_lt, ◌==◌, List, [], ◌∷◌, length, get_or, refl, sym, ap, ◌∙◌, subst, ⊎_elim, arith, All}
use Rattle.std.specs.Prelude.{sum_by}
use Rattle.std.specs.List.{flat_map, range_with_len}
use Rattle.std.proofs.lemmas.Bool.{cases_lt, cases_eq, eq-eqb, ne_eqb, cond-true, cond-false, lt-ltb, le-ltb}
use Rattle.std.proofs.lemmas.List.{get_or_default}
use Rattle.std.proofs.lemmas.List.FromFn.{fill_by_all, get_or-range_with_len, length-range_with_len}
use Rattle.std.proofs.lemmas.List.Concat.{flat_map-cons}
use Rattle.std.proofs.lemmas.List.Elements.{All-head, All-tail}
use Rattle.std.proofs.lemmas.List.Sums.{sum_by-append, sum_by-cons, get_or-le-sum_by}
use Rattle.high_ir.specs.Runs.{count_of}
use Rattle.high_ir.proofs.Sizes.{sum_by-map}
use Rattle.high_pass.specs.Listing.{HasEachBelow}

pub sum_by-flat_map : {A B : Type 0} (f : B → ℕ) (g : A → List B) (xs : List A) → sum_by f (flat_map g xs) ≡ sum_by (λ x. sum_by f (g x)) xs
sum_by-flat_map f g [] = refl
sum_by-flat_map f g (x ∷ xs) = ap (sum_by f) (flat_map-cons g x xs) ∙ sum_by-append f (g x) (flat_map g xs) ∙ ap (λ n. sum_by f (g x) + n) (sum_by-flat_map f g xs) ∙ sym (sum_by-cons (λ y. sum_by f (g y)) x xs)

pub sum_by-pointwise : {A : Type 0} (f g : A → ℕ) (xs : List A) → All (λ x. f x ≡ g x) xs → sum_by f xs ≡ sum_by g xs
sum_by-pointwise f g [] same = refl
sum_by-pointwise f g (x ∷ xs) same =
    sum_by-cons f x xs ∙ ap (λ n. n + sum_by f xs) (All-head (λ y. f y ≡ g y) x xs same) ∙ ap (λ n. g x + n) (sum_by-pointwise f g xs (All-tail (λ y. f y ≡ g y) x xs same)) ∙ sym (sum_by-cons g x xs)

sum_by-add : {A : Type 0} (f g : A → ℕ) (xs : List A) → sum_by (λ x. f x + g x) xs ≡ sum_by f xs + sum_by g xs
sum_by-add f g [] = refl
sum_by-add f g (x ∷ xs) =
    let a = sum_by-cons (λ y. f y + g y) x xs in let b = sum_by-add f g xs in let c = sum_by-cons f x xs in let d = sum_by-cons g x xs in
    omega (arith, a, b, c, d)

sum_by-none : {A : Type 0} (xs : List A) → sum_by (λ x. 0) xs ≡ 0
sum_by-none [] = refl
sum_by-none (x ∷ xs) = sum_by-cons (λ y. 0) x xs ∙ ap (λ n. 0 + n) (sum_by-none xs)

-- 1 where two numbers are equal
abbrev hit : ℕ → ℕ → ℕ
hit x j = cond (x == j) 1 0

-- in a row of numbers that begins behind it, a number stands nowhere
passed_by : (h : ℕ → ℕ) (x a n : ℕ) → x < a → sum_by (λ j. hit x j * h j) (range_with_len a n) ≡ 0
passed_by h x a zero lt = refl
passed_by h x a (suc n) lt =
    let miss : hit x a ≡ 0 = cond-false (x == a) 1 0 (ne_eqb x a (λ e. absurd (omega (arith, e, lt)))) in
    sum_by-cons (λ j. hit x j * h j) a (range_with_len (a + 1) n) ∙ ap (λ c. c * h a + sum_by (λ j. hit x j * h j) (range_with_len (a + 1) n)) miss ∙ ap (λ s. 0 * h a + s) (passed_by h x (a + 1) n (omega (arith, lt))) ∙ omega arith

-- and in one that holds it, once
picked : (h : ℕ → ℕ) (x a n : ℕ) → a ≤ x → x < a + n → sum_by (λ j. hit x j * h j) (range_with_len a n) ≡ h x
picked h x a zero le lt = absurd (omega (arith, le, lt))
picked h x a (suc n) le lt = ⊎_elim
    (λ (e : x ≡ a).
    let found : hit x a ≡ 1 = cond-true (x == a) 1 0 (eq-eqb x a e) in
    sum_by-cons (λ j. hit x j * h j) a (range_with_len (a + 1) n) ∙ ap (λ c. c * h a + sum_by (λ j. hit x j * h j) (range_with_len (a + 1) n)) found ∙ ap (λ s. 1 * h a + s) (passed_by h x (a + 1) n (omega (arith, e))) ∙ sum_alone (h a) ∙ ap h (sym e))
    (λ (other : x ≡ a → ⊥).
    let miss : hit x a ≡ 0 = cond-false (x == a) 1 0 (ne_eqb x a other) in
    sum_by-cons (λ j. hit x j * h j) a (range_with_len (a + 1) n) ∙ ap (λ c. c * h a + sum_by (λ j. hit x j * h j) (range_with_len (a + 1) n)) miss ∙ sum_rest (h a) (sum_by (λ j. hit x j * h j) (range_with_len (a + 1) n)) ∙ picked h x (a + 1) n (above x a le other) (omega (arith, lt)))
    (cases_eq x a)
  where
    sum_alone : (k : ℕ) → 1 * k + 0 ≡ k
    sum_alone k = omega arith

    sum_rest : (k s : ℕ) → 0 * k + s ≡ s
    sum_rest k s = omega arith

    above : (x a : ℕ) → a ≤ x → (x ≡ a → ⊥) → a + 1 ≤ x
    above x a le other = ⊎_elim (λ (lt : a < x). omega (arith, lt)) (λ (ge : x ≤ a). absurd (other (omega (arith, le, ge)))) (cases_lt a x)

-- a sum over numbers, by how often each stands there
by_counts : (h : ℕ → ℕ) (n : ℕ) (xs : List ℕ) → All (λ x. x < n) xs → sum_by h xs ≡ sum_by (λ j. count_of j xs * h j) (range_with_len 0 n)
by_counts h n [] below = sym (sum_by-pointwise (λ j. count_of j [] * h j) (λ j. 0) (range_with_len 0 n) (λ k d lt. none (h (get_or (range_with_len 0 n) k d))) ∙ sum_by-none (range_with_len 0 n))
  where
    none : (k : ℕ) → 0 * k ≡ 0
    none k = omega arith
by_counts h n (x ∷ xs) below =
    sum_by-cons h x xs
    ∙ ap (λ s. h x + s) (by_counts h n xs (All-tail (λ y. y < n) x xs below))
    ∙ ap (λ s. s + sum_by (λ j. count_of j xs * h j) (range_with_len 0 n)) (sym (picked h x 0 n (omega arith) (within (All-head (λ y. y < n) x xs below))))
    ∙ sym (sum_by-add (λ j. hit x j * h j) (λ j. count_of j xs * h j) (range_with_len 0 n))
    ∙ sum_by-pointwise (λ j. hit x j * h j + count_of j xs * h j) (λ j. count_of j (x ∷ xs) * h j) (range_with_len 0 n) (λ k d lt. both (get_or (range_with_len 0 n) k d))
  where
    within : x < n → x < 0 + n
    within lt = omega (arith, lt)

    spread : (a b k : ℕ) → a * k + b * k ≡ (a + b) * k
    spread a b k = omega arith

    both : (j : ℕ) → hit x j * h j + count_of j xs * h j ≡ count_of j (x ∷ xs) * h j
    both j = spread (hit x j) (count_of j xs) (h j) ∙ ap (λ c. c * h j) (sym (sum_by-cons (λ y. cond (y == j) 1 0) x xs))

pub all_below : (n : ℕ) (xs : List ℕ) → HasEachBelow n xs → All (λ x. x < n) xs
all_below n xs each k d lt = go (get_or xs k d) (get_or-le-sum_by (λ y. cond (y == get_or xs k d) 1 0) xs k d lt)
  where
    go : (x : ℕ) → cond (x == x) 1 0 ≤ count_of x xs → x < n
    go x le = ⊎_elim
        (λ (below : x < n). below)
        (λ (past : n ≤ x). absurd (omega (arith, le, cond-true {A = ℕ} (x == x) 1 0 (eq-eqb x x refl), each x, cond-false {A = ℕ} (nat_lt x n) 1 0 (le-ltb x n past))))
        (cases_lt x n)

pub sum_by-HasEachBelow : (h : ℕ → ℕ) (n : ℕ) (xs : List ℕ) → HasEachBelow n xs → sum_by h xs ≡ sum_by h (range_with_len 0 n)
sum_by-HasEachBelow h n xs each =
    by_counts h n xs (all_below n xs each)
    ∙ sum_by-pointwise (λ j. count_of j xs * h j) h (range_with_len 0 n) (λ k d lt. once (get_or (range_with_len 0 n) k d) (below k d lt))
  where
    alone : (k : ℕ) → 1 * k ≡ k
    alone k = omega arith

    below : (k d : ℕ) → k < length (range_with_len 0 n) → get_or (range_with_len 0 n) k d < n
    below k d lt =
        let within : k < n = subst (λ m. k < m) (length-range_with_len 0 n) lt in
        omega (arith, within, get_or-range_with_len 0 n k d within)

    once : (j : ℕ) → j < n → count_of j xs * h j ≡ h j
    once j lt = ap (λ c. c * h j) (each j ∙ cond-true (nat_lt j n) 1 0 (lt-ltb j n lt)) ∙ alone (h j)

-- a sum over a list, place by place; past its end stands what is given for the place
pub sum_by-places : {A : Type 0} (f : A → ℕ) (xs : List A) (n : ℕ) (past : ℕ → A) → length xs ≡ n → sum_by f xs ≡ sum_by (λ k. f (get_or xs k (past k))) (range_with_len 0 n)
sum_by-places f xs n past same =
    ap (sum_by f) (fill_by_all (λ k. get_or xs k (past k)) xs n (past 0) same (λ k lt. get_or_default xs k (past 0) (past k) (subst (λ m. k < m) (sym same) lt)))
    ∙ sum_by-map f (λ k. get_or xs k (past k)) (range_with_len 0 n)
