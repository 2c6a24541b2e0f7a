-- Sums over lists and lists of terms: how they add, and that two lists of terms can be exchanged.
use Rattle.std.proofs.Common.{◌≡◌, ◌≢◌, ℕ, ◌<◌, ℤ, pos, ◌+ℤ◌, ◌*ℤ◌, zero, suc, arith, refl, sym, ap, List, [], ◌∷◌, ◌++◌, length, get_or, set, Bool, true, false, cond, nat_eq, ◌-ℤ◌, ◌⊎◌, inl, inr, ◌∙◌}
use Rattle.std.specs.List.{insert, remove}
use lib.IntN.{*ℤ-zero}
use Rattle.std.proofs.lemmas.Int.{ints}
use Rattle.std.proofs.lemmas.Bool.Decides.{nat_tests, eqb_tells}
use Rattle.frac128.specs.Terms.{Terms, int_sum_by, coefficient, applied, when_same}
use Rattle.frac128.proofs.SignedLemmas.{mul-add}

-- sums over lists

pub int_sum_by-append : {X : Type 0} (f : X → ℤ) (xs ys : List X) → int_sum_by f (xs ++ ys) ≡ int_sum_by f xs +ℤ int_sum_by f ys
int_sum_by-append f [] ys = omega (arith, ints)
int_sum_by-append f (x ∷ xs) ys = let h = int_sum_by-append f xs ys in omega (arith, ints)

pub int_sum_by-set : {X : Type 0} (f : X → ℤ) (xs : List X) (i : ℕ) (y d : X) → i < length xs → int_sum_by f (set xs i y) +ℤ f (get_or xs i d) ≡ int_sum_by f xs +ℤ f y
int_sum_by-set f [] i y d lt = absurd (omega arith)
int_sum_by-set f (x ∷ xs) zero y d lt = omega (arith, ints)
int_sum_by-set f (x ∷ xs) (suc i) y d lt = let r = int_sum_by-set f xs i y d (omega arith) in omega (arith, ints)

pub int_sum_by-remove : {X : Type 0} (f : X → ℤ) (xs : List X) (i : ℕ) (d : X) → i < length xs → int_sum_by f (remove xs i) +ℤ f (get_or xs i d) ≡ int_sum_by f xs
int_sum_by-remove f [] i d lt = absurd (omega arith)
int_sum_by-remove f (x ∷ xs) zero d lt = omega (arith, ints)
int_sum_by-remove f (x ∷ xs) (suc i) d lt = let r = int_sum_by-remove f xs i d (omega arith) in omega (arith, ints)

pub int_sum_by-insert : {X : Type 0} (f : X → ℤ) (xs : List X) (i : ℕ) (y : X) → int_sum_by f (insert xs i y) ≡ int_sum_by f xs +ℤ f y
int_sum_by-insert f xs zero y = omega (arith, ints)
int_sum_by-insert f [] (suc i) y = omega (arith, ints)
int_sum_by-insert f (x ∷ xs) (suc i) y = let r = int_sum_by-insert f xs i y in omega (arith, ints)

pub int_sum_by-same : {X : Type 0} (f g : X → ℤ) (xs : List X) → ((x : X) → f x ≡ g x) → int_sum_by f xs ≡ int_sum_by g xs
int_sum_by-same f g [] h = refl
int_sum_by-same f g (x ∷ xs) h = let e = h x in let r = int_sum_by-same f g xs h in omega (arith, ints)

pub int_sum_by-add : {X : Type 0} (f g : X → ℤ) (xs : List X) → int_sum_by (λ x. f x +ℤ g x) xs ≡ int_sum_by f xs +ℤ int_sum_by g xs
int_sum_by-add f g [] = refl
int_sum_by-add f g (x ∷ xs) = let r = int_sum_by-add f g xs in omega (arith, ints)

pub int_sum_by-mul : {X : Type 0} (k : ℤ) (f : X → ℤ) (xs : List X) → int_sum_by (λ x. k *ℤ f x) xs ≡ k *ℤ int_sum_by f xs
int_sum_by-mul k f [] = sym (*ℤ-zero k)
int_sum_by-mul k f (x ∷ xs) = let r = int_sum_by-mul k f xs in let e = mul-add k (f x) (int_sum_by f xs) in omega (arith, ints)

-- the terms of one address

pub when_same-here : (a : ℕ) (n : ℤ) → when_same a a n ≡ n
when_same-here a n = grind (arith, nat_tests)

pub when_same-elsewhere : (a q : ℕ) (n : ℤ) → q ≢ a → when_same a q n ≡ pos 0
when_same-elsewhere a q n h = grind (arith, nat_tests)

pub coefficient-append : (ss ts : Terms) (a : ℕ) → coefficient (ss ++ ts) a ≡ coefficient ss a +ℤ coefficient ts a
coefficient-append ss ts a = int_sum_by-append (λ t. when_same t.0 a t.1) ss ts

-- lists of terms as linear forms

pub applied-append : (ss ts : Terms) (f : ℕ → ℤ) → applied (ss ++ ts) f ≡ applied ss f +ℤ applied ts f
applied-append ss ts f = int_sum_by-append (λ t. t.1 *ℤ f t.0) ss ts

pub applied-same : (ts : Terms) (f g : ℕ → ℤ) → ((a : ℕ) → f a ≡ g a) → applied ts f ≡ applied ts g
applied-same ts f g h = int_sum_by-same _ _ ts (λ t. ap (λ (z : ℤ). t.1 *ℤ z) (h t.0))

pub applied-add : (ts : Terms) (f g : ℕ → ℤ) → applied ts (λ a. f a +ℤ g a) ≡ applied ts f +ℤ applied ts g
applied-add [] f g = refl
applied-add (t ∷ ts) f g = let r = applied-add ts f g in let e = mul-add t.1 (f t.0) (g t.0) in omega (arith, ints)

pub applied-zero : (ts : Terms) → applied ts (λ a. pos 0) ≡ pos 0
applied-zero [] = refl
applied-zero (t ∷ ts) = let r = applied-zero ts in let e = *ℤ-zero t.1 in omega (arith, ints)

-- one term against a list
one_exchange : (s : ℕ × ℤ) (ts : Terms) → s.1 *ℤ coefficient ts s.0 ≡ applied ts (λ a. when_same s.0 a s.1)
one_exchange s [] = *ℤ-zero s.1
one_exchange s (t ∷ ts) =
    let r = one_exchange s ts in
    let e = mul-add s.1 (when_same t.0 s.0 t.1) (coefficient ts s.0) in
    let f = one_product (nat_eq t.0 s.0) (nat_eq s.0 t.0) s.1 t.1 (same_sym t.0 s.0) in omega (arith, ints)
  where
    same_sym : (a b : ℕ) → nat_eq a b ≡ nat_eq b a
    same_sym a b = grind arith

    one_product : (p q : Bool) (v w : ℤ) → p ≡ q → v *ℤ cond p w (pos 0) ≡ w *ℤ cond q v (pos 0)
    one_product true true v w h = omega (arith, ints)
    one_product false false v w h = omega (arith, ints)
    one_product true false v w h = cc
    one_product false true v w h = cc

-- the value of one list at another list's coefficients, either way round
pub applied-coefficient : (ss ts : Terms) → applied ss (coefficient ts) ≡ applied ts (coefficient ss)
applied-coefficient [] ts = sym (applied-zero ts)
applied-coefficient (s ∷ ss) ts =
    let r = applied-coefficient ss ts in
    let e = one_exchange s ts in
    let f = applied-add ts (λ a. when_same s.0 a s.1) (coefficient ss) in omega (arith, ints)

-- linear forms with equal coefficients are equal

abbrev HasAddress : Terms → ℕ → Type 0
HasAddress [] a = ⊥
HasAddress (t ∷ ts) a = (t.0 ≡ a) ⊎ HasAddress ts a

HasAddress-left : (ss ts : Terms) (a : ℕ) → HasAddress ss a → HasAddress (ss ++ ts) a
HasAddress-left [] ts a h = absurd h
HasAddress-left (s ∷ ss) ts a (inl h) = inl h
HasAddress-left (s ∷ ss) ts a (inr h) = inr (HasAddress-left ss ts a h)

HasAddress-right : (ss ts : Terms) (a : ℕ) → HasAddress ts a → HasAddress (ss ++ ts) a
HasAddress-right [] ts a h = h
HasAddress-right (s ∷ ss) ts a h = inr (HasAddress-right ss ts a h)

applied-same_at : (ts : Terms) (f g : ℕ → ℤ) → ((a : ℕ) → HasAddress ts a → f a ≡ g a) → applied ts f ≡ applied ts g
applied-same_at [] f g h = refl
applied-same_at (t ∷ ts) f g h =
    let e = ap (λ (z : ℤ). t.1 *ℤ z) (h t.0 (inl refl)) in
    let r = applied-same_at ts f g (λ a has. h a (inr has)) in omega (arith, ints)

-- a list of terms with the coefficients of f at the addresses of ts
abbrev table : (ℕ → ℤ) → Terms → Terms
table f [] = []
table f (t ∷ ts) = (t.0, f t.0 -ℤ coefficient (table f ts) t.0) ∷ table f ts

coefficient-table : (f : ℕ → ℤ) (ts : Terms) (a : ℕ) → HasAddress ts a → coefficient (table f ts) a ≡ f a
coefficient-table f [] a has = absurd has
coefficient-table f (t ∷ ts) a has = elim (eqb_tells t.0 a) [
  | inl h ↦ rw h.1 (let e = when_same-here a (f a -ℤ coefficient (table f ts) a) in omega (arith, ints))
  | inr h ↦
      let later : HasAddress ts a = elim has [ inl same ↦ absurd (h.1 same) | inr later ↦ later ] in
      let r = coefficient-table f ts a later in
      let e = when_same-elsewhere t.0 a (f t.0 -ℤ coefficient (table f ts) t.0) (λ same. h.1 (sym same)) in omega (arith, ints)
]

-- so a form may be read off any list with its coefficients
pub applied-from_coefficients : (ss ts : Terms) (f : ℕ → ℤ) → ((a : ℕ) → coefficient ss a ≡ coefficient ts a) → applied ss f ≡ applied ts f
applied-from_coefficients ss ts f same =
    let us = ss ++ ts in
    applied-same_at ss f (coefficient (table f us)) (λ a has. sym (coefficient-table f us a (HasAddress-left ss ts a has)))
    ∙ (applied-coefficient ss (table f us)
    ∙ (applied-same (table f us) (coefficient ss) (coefficient ts) same
    ∙ (applied-coefficient (table f us) ts
    ∙ applied-same_at ts (coefficient (table f us)) f (λ a has. coefficient-table f us a (HasAddress-right ss ts a has)))))
