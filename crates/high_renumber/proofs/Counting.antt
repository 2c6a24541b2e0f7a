-- Counts from traces: each mark of the new program stands for one of the old.
use Rattle.std.proofs.Common.{◌≡◌, ℕ, zero, suc, ◌+◌, ◌<◌, ◌≤◌, Bool, true, false, cond, List, [], ◌∷◌, length, map, Some, refl, sym, ap, ◌∙◌, subst, arith, All}
use Rattle.std.specs.Prelude.{slice_get, sum_by, ◌==◌}
use Rattle.std.proofs.lemmas.Bool.{eqb-true}
use Rattle.std.proofs.lemmas.Bool.Decides.{nat_tests}
use Rattle.std.proofs.lemmas.List.Elements.{All-cons, All-nil}
use Rattle.std.proofs.lemmas.List.Sums.{sum_by-cons}
use Rattle.high_ir.specs.Runs.{count_of}
use Rattle.high_renumber.specs.Numbered.{places}

-- one where two numbers are the same
abbrev pub one_if : ℕ → ℕ → ℕ
one_if j k = cond (j == k) 1 0

apart : (j k : ℕ) → j < k → one_if j k ≡ 0
apart j k lt = grind (arith, nat_tests)

apart_up : (j k : ℕ) → k < j → one_if j k ≡ 0
apart_up j k lt = grind (arith, nat_tests)

self : (j : ℕ) → one_if j j ≡ 1
self j = grind (arith, nat_tests)

no_places : (i j : ℕ) (os : List ℕ) (x : ℕ) → j < i → sum_by (one_if j) (places i os x) ≡ 0
no_places i j [] x lt = refl
no_places i j (o ∷ os) x lt = go (o == x) (no_places (i + 1) j os x (omega (arith, lt)))
  where
    go : (b : Bool) → sum_by (one_if j) (places (i + 1) os x) ≡ 0 → sum_by (one_if j) (cond b (i ∷ places (i + 1) os x) (places (i + 1) os x)) ≡ 0
    go true rest = let a = apart j i lt in let s = sum_by-cons (one_if j) i (places (i + 1) os x) in omega (arith, a, s, rest)
    go false rest = rest

-- a number of the new program stands in the places of its origin alone, once
pub one_place : (i k j : ℕ) (os : List ℕ) (x y : ℕ) → j ≡ i + k → slice_get os k ≡ Some y → sum_by (one_if j) (places i os x) ≡ one_if y x
one_place i k j [] x y e at = cc
one_place i zero j (o ∷ os) x y e at =
    let q : o ≡ y = cc in
    go (o == x) (ap (λ z. one_if z x) (sym q)) (no_places (i + 1) j os x (omega (arith, e)))
  where
    go : (b : Bool) → one_if y x ≡ cond b 1 0 → sum_by (one_if j) (places (i + 1) os x) ≡ 0 → sum_by (one_if j) (cond b (i ∷ places (i + 1) os x) (places (i + 1) os x)) ≡ one_if y x
    go true h rest =
        let same : j ≡ i = omega (arith, e) in
        let a : one_if j i ≡ 1 = ap (λ z. one_if z i) same ∙ self i in
        let s = sum_by-cons (one_if j) i (places (i + 1) os x) in
        omega (arith, a, s, rest, h)
    go false h rest = rest ∙ sym h
one_place i (suc k) j (o ∷ os) x y e at = go (o == x) (one_place (i + 1) k j os x y (omega (arith, e)) at)
  where
    go : (b : Bool) → sum_by (one_if j) (places (i + 1) os x) ≡ one_if y x → sum_by (one_if j) (cond b (i ∷ places (i + 1) os x) (places (i + 1) os x)) ≡ one_if y x
    go true rest = let a = apart_up j i (omega (arith, e)) in let s = sum_by-cons (one_if j) i (places (i + 1) os x) in omega (arith, a, s, rest)
    go false rest = rest

-- what is past the end stands nowhere
pub past_places : (i j : ℕ) (os : List ℕ) (x : ℕ) → i + length os ≤ j → sum_by (one_if j) (places i os x) ≡ 0
past_places i j [] x le = refl
past_places i j (o ∷ os) x le = go (o == x) (past_places (i + 1) j os x (omega (arith, le)))
  where
    go : (b : Bool) → sum_by (one_if j) (places (i + 1) os x) ≡ 0 → sum_by (one_if j) (cond b (i ∷ places (i + 1) os x) (places (i + 1) os x)) ≡ 0
    go true rest = let a = apart_up j i (omega (arith, le)) in let s = sum_by-cons (one_if j) i (places (i + 1) os x) in omega (arith, a, s, rest)
    go false rest = rest

pub sum_by-plus : (f g h : ℕ → ℕ) (xs : List ℕ) → ((x : ℕ) → h x ≡ f x + g x) → sum_by h xs ≡ sum_by f xs + sum_by g xs
sum_by-plus f g h [] e = refl
sum_by-plus f g h (x ∷ xs) e =
    let a = sum_by-cons h x xs in let b = sum_by-cons f x xs in let c = sum_by-cons g x xs in let d = sum_by-plus f g h xs e in let k = e x in omega (arith, a, b, c, d, k)

pub sum_by-zero : (f : ℕ → ℕ) (xs : List ℕ) → ((x : ℕ) → f x ≡ 0) → sum_by f xs ≡ 0
sum_by-zero f [] none = refl
sum_by-zero f (x ∷ xs) none = omega (arith, sum_by-cons f x xs, none x, sum_by-zero f xs none)

count_cons : (j k : ℕ) (t : List ℕ) → count_of j (k ∷ t) ≡ one_if k j + count_of j t
count_cons j k t = sum_by-cons (λ x. cond (x == j) 1 0) k t

-- a mark's count is the sum of the counts of the new marks that stand for it
pub counted : (os : List ℕ) (x : ℕ) (s t : List ℕ) → map Some s ≡ map (slice_get os) t → count_of x s ≡ sum_by (λ k. count_of k t) (places 0 os x)
counted os x [] [] e = sym (sum_by-zero (λ k. 0) (places 0 os x) (λ k. refl))
counted os x [] (k ∷ t) e = cc
counted os x (v ∷ s) [] e = cc
counted os x (v ∷ s) (k ∷ t) e =
    let q : slice_get os k ≡ Some v = cc in
    let r : map Some s ≡ map (slice_get os) t = cc in
    let z : k ≡ 0 + k = omega arith in
    omega (
      arith,
      count_cons x v s,
      sum_by-plus (one_if k) (λ j. count_of j t) (λ j. count_of j (k ∷ t)) (places 0 os x) (λ j. count_cons j k t),
      one_place 0 k k os x v z q,
      counted os x s t r,
    )

-- what holds of each number whose origin is this holds of its places
pub places_hold : (P : ℕ → Type 0) (i : ℕ) (os : List ℕ) (x : ℕ) → ((k : ℕ) → slice_get os k ≡ Some x → P (i + k)) → All P (places i os x)
places_hold P i [] x h = All-nil P
places_hold P i (o ∷ os) x h =
    go (o == x) refl (places_hold P (i + 1) os x (λ k e. let z : i + suc k ≡ i + 1 + k = omega arith in subst P z (h (suc k) e)))
  where
    go : (b : Bool) → (o == x) ≡ b → All P (places (i + 1) os x) → All P (cond b (i ∷ places (i + 1) os x) (places (i + 1) os x))
    go true is rest = All-cons P i (places (i + 1) os x) (let z : i + 0 ≡ i = omega arith in subst P z (h 0 (ap Some (eqb-true o x is)))) rest
    go false is rest = rest
