-- One turn of a loop that adds up a list.
use Rattle.std.proofs.Common.{◌≡◌, ℕ, zero, suc, ◌+◌, ◌≤◌, ◌<◌, ◌^◌, ℤ, pos, ◌+ℤ◌, ◌≤ℤ◌, arith, refl, subst, List, [], ◌∷◌, ◌++◌, length, drop, get_or, unsigned_abs}
use Rattle.std.proofs.lemmas.Int.{ints}
use Rattle.frac128.specs.Terms.{int_sum_by}
use Rattle.code_flow_system.specs.Certificates.{size_by}

module _ {X : Type 0} (f : X → ℤ) where
  -- what a list from a place on adds up to
  pub record Turns (xs : List X) (i : ℕ) (d : X) : Type 0 where
    pub total : int_sum_by f (drop i xs) ≡ f (get_or xs i d) +ℤ int_sum_by f (drop (i + 1) xs)
    pub size : size_by f (drop i xs) ≡ unsigned_abs (f (get_or xs i d)) + size_by f (drop (i + 1) xs)

  turn_by : (xs : List X) (i : ℕ) (d : X) → i < length xs →
      (int_sum_by f (drop i xs) ≡ f (get_or xs i d) +ℤ int_sum_by f (drop (suc i) xs)) × (size_by f (drop i xs) ≡ unsigned_abs (f (get_or xs i d)) + size_by f (drop (suc i) xs))
  turn_by [] i d h = absurd (omega arith)
  turn_by (x ∷ xs) zero d h = (refl, refl)
  turn_by (x ∷ xs) (suc i) d h = turn_by xs i d (omega arith)

  pub turns : (xs : List X) (i : ℕ) (d : X) → i < length xs → Turns xs i d
  turns xs i d h =
      let t = turn_by xs i d h in
      let e : suc i ≡ i + 1 = omega arith in
      record {
        total = subst (λ k. int_sum_by f (drop i xs) ≡ f (get_or xs i d) +ℤ int_sum_by f (drop k xs)) e t.0;
        size = subst (λ k. size_by f (drop i xs) ≡ unsigned_abs (f (get_or xs i d)) + size_by f (drop k xs)) e t.1;
      }

  -- the invariant of such a loop
  abbrev pub Adds : List X → ℕ → ℤ → ℕ → ℤ → ℕ → Type 0
  Adds xs i total size from start =
      (total +ℤ int_sum_by f (drop i xs) ≡ from +ℤ int_sum_by f xs)
      × (size + size_by f (drop i xs) ≡ start + size_by f xs)

  pub added : (xs : List X) (i : ℕ) (d : X) (t t' from : ℤ) (n n' start : ℕ) → i < length xs → t' ≡ t +ℤ f (get_or xs i d) → n' ≡ n + unsigned_abs (f (get_or xs i d)) →
      Adds xs i t n from start → Adds xs (i + 1) t' n' from start
  added xs i d t t' from n n' start h e g a = let s = turns xs i d h in let p = s.total in let q = s.size in let b = a.0 in let c = a.1 in (omega (arith, ints), omega arith)

  -- a number that doesn't fit: all together don't
  pub refused : (xs : List X) (i : ℕ) (d : X) (t from : ℤ) (n start : ℕ) → i < length xs → 2 ^ 126 ≤ n + unsigned_abs (f (get_or xs i d)) →
      Adds xs i t n from start → 2 ^ 126 ≤ start + size_by f xs
  refused xs i d t from n start h e a = let s = turns xs i d h in let q = s.size in let c = a.1 in omega arith

  past : (xs : List X) (i : ℕ) → length xs ≤ i → (int_sum_by f (drop i xs) ≡ pos 0) × (size_by f (drop i xs) ≡ 0)
  past [] zero h = (refl, refl)
  past [] (suc i) h = (refl, refl)
  past (x ∷ xs) zero h = absurd (omega arith)
  past (x ∷ xs) (suc i) h = past xs i (omega arith)

  -- at the end all is added
  pub ended : (xs : List X) (i : ℕ) (t from : ℤ) (n start : ℕ) → length xs ≤ i → Adds xs i t n from start → (t ≡ from +ℤ int_sum_by f xs) × (n ≡ start + size_by f xs)
  ended xs i t from n start h a = let p = past xs i h in let b = a.0 in let c = a.1 in let e = p.0 in let g = p.1 in (omega (arith, ints), omega arith)

  pub sum-append : (xs ys : List X) → (int_sum_by f (xs ++ ys) ≡ int_sum_by f xs +ℤ int_sum_by f ys) × (size_by f (xs ++ ys) ≡ size_by f xs + size_by f ys)
  sum-append [] ys = (omega (arith, ints), omega arith)
  sum-append (x ∷ xs) ys = let r = sum-append xs ys in let a = r.0 in let b = r.1 in (omega (arith, ints), omega arith)

  -- numbers that aren't negative
  pub size_of_positive : (xs : List X) → ((x : X) → pos 0 ≤ℤ f x) → (pos (size_by f xs) ≡ int_sum_by f xs)
  size_of_positive [] h = refl
  size_of_positive (x ∷ xs) h = let r = size_of_positive xs h in let e = h x in positive (f x) (size_by f xs) (int_sum_by f xs) e r
    where
      positive : (z : ℤ) (n : ℕ) (s : ℤ) → pos 0 ≤ℤ z → pos n ≡ s → pos (unsigned_abs z + n) ≡ z +ℤ s
      positive z n s h e = omega (arith, ints)
