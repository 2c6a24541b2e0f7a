-- A sum over a list doesn't depend on its order.
use Rattle.std.proofs.Common.{◌≡◌, ℕ, ◌<◌, ℤ, arith, refl, sym, ap, ◌∙◌, List, [], ◌∷◌, length, get_or, set, inl, inr, get_or-set_other}
use Rattle.std.specs.List.{swap}
use Rattle.std.specs.List.Sorted.{IsPermutation}
use Rattle.std.proofs.lemmas.Int.{ints}
use Rattle.std.proofs.lemmas.Bool.Decides.{eqb_tells}
use Rattle.std.proofs.lemmas.Grind.{get_or-set_at}
use Rattle.std.proofs.Math.ListN.{length-set}
use Rattle.std.proofs.lemmas.List.Sorted.{IsPermutation-keeps}
use Rattle.std.specs.Prelude.{pos, unsigned_abs}
use Rattle.frac128.specs.Terms.{int_sum_by}
use Rattle.code_flow_system.specs.Certificates.{size_by}
use Rattle.frac128.proofs.TermsLemmas.{int_sum_by-set}

exchanged : {X : Type 0} (xs : List X) (i j : ℕ) (d : X) → i < length xs → j < length xs → get_or (set xs i (get_or xs j d)) j d ≡ get_or xs j d
exchanged xs i j d p q = elim (eqb_tells j i) [
  | inl e ↦ get_or-set_at xs i j (get_or xs j d) d e.1 p
  | inr e ↦ get_or-set_other xs i j (get_or xs j d) d e.1
]

int_sum_by-swap : {X : Type 0} (f : X → ℤ) (xs : List X) (i j : ℕ) → i < length xs → j < length xs → int_sum_by f (swap xs i j) ≡ int_sum_by f xs
int_sum_by-swap f [] i j p q = refl
int_sum_by-swap f (x ∷ xs) i j p q =
    let ys = x ∷ xs in
    let first = int_sum_by-set f (x ∷ xs) i (get_or (x ∷ xs) j x) x p in
    let long = length-set (x ∷ xs) i (get_or (x ∷ xs) j x) in
    let second = int_sum_by-set f (set (x ∷ xs) i (get_or (x ∷ xs) j x)) j (get_or (x ∷ xs) i x) x (omega arith) in
    let same = ap f (exchanged (x ∷ xs) i j x p q) in
    omega (arith, ints)

pub int_sum_by-permutation : {X : Type 0} (f : X → ℤ) (xs ys : List X) → IsPermutation xs ys → int_sum_by f ys ≡ int_sum_by f xs
int_sum_by-permutation f xs ys s = IsPermutation-keeps xs (λ l. int_sum_by f l ≡ int_sum_by f xs) refl (λ l i j p q h. int_sum_by-swap f l i j p q ∙ h) ys s

-- nor does a sum of sizes: it is the sum of the sizes as whole numbers
size_is : {X : Type 0} (f : X → ℤ) (xs : List X) → pos (size_by f xs) ≡ int_sum_by (λ x. pos (unsigned_abs (f x))) xs
size_is f [] = refl
size_is f (x ∷ xs) = let r = size_is f xs in omega (arith, ints)

pub size_by-permutation : {X : Type 0} (f : X → ℤ) (xs ys : List X) → IsPermutation xs ys → size_by f ys ≡ size_by f xs
size_by-permutation f xs ys s =
    let a = size_is f xs in
    let b = size_is f ys in
    let c = int_sum_by-permutation (λ x. pos (unsigned_abs (f x))) xs ys s in
    whole (size_by f ys) (size_by f xs) (b ∙ (c ∙ sym a))
  where
    whole : (m n : ℕ) → pos m ≡ pos n → m ≡ n
    whole m n e = omega (arith, ints)
