-- Elements of lists by their numbers.
use Rattle.std.proofs.Common.{◌≡◌, ◌⊎◌, inl, inr, ⊎_elim, refl, ap, ◌∙◌, sym, ℕ, ◌+◌, ◌<◌, zero, suc, List, [], ◌∷◌, ◌++◌, drop, length, Some, arith, suc-add, zero-add}
use Rattle.std.specs.Prelude.{slice_get}
use Rattle.std.proofs.lemmas.Option.{none-some, same_Some}

pub slice_get-behind : {A : Type 0} (xs ys : List A) (i : ℕ) → slice_get (xs ++ ys) (length xs + i) ≡ slice_get ys i
slice_get-behind [] ys i = ap (slice_get ys) (zero-add i)
slice_get-behind (x ∷ xs) ys i = ap (slice_get (x ∷ xs ++ ys)) (suc-add (length xs) i) ∙ slice_get-behind xs ys i

pub slice_get-before : {A : Type 0} (xs ys : List A) (i : ℕ) (x : A) → slice_get xs i ≡ Some x → slice_get (xs ++ ys) i ≡ Some x
slice_get-before [] ys i x e = absurd (none-some x e)
slice_get-before (y ∷ xs) ys zero x e = e
slice_get-before (y ∷ xs) ys (suc i) x e = slice_get-before xs ys i x e

pub slice_get-below : {A : Type 0} (xs ys : List A) (i : ℕ) → i < length xs → slice_get (xs ++ ys) i ≡ slice_get xs i
slice_get-below [] ys i lt = absurd (omega (arith, lt))
slice_get-below (y ∷ xs) ys zero lt = refl
slice_get-below (y ∷ xs) ys (suc i) lt = slice_get-below xs ys i (omega (arith, lt))

-- an element of two lists is one of the first, or one of the second
pub slice_get-cases : {A : Type 0} (xs ys : List A) (i : ℕ) (x : A) → slice_get (xs ++ ys) i ≡ Some x → (slice_get xs i ≡ Some x) ⊎ ((j : ℕ) × (i ≡ length xs + j) × (slice_get ys j ≡ Some x))
slice_get-cases [] ys i x e = inr (i, sym (zero-add i), e)
slice_get-cases (y ∷ xs) ys zero x e = inl e
slice_get-cases (y ∷ xs) ys (suc i) x e = ⊎_elim
    (λ (h : slice_get xs i ≡ Some x). inl h)
    (λ (h : (j : ℕ) × (i ≡ length xs + j) × (slice_get ys j ≡ Some x)). inr (h.0, ap suc h.1 ∙ sym (suc-add (length xs) h.0), h.2))
    (slice_get-cases xs ys i x e)

pub slice_get-one : {A : Type 0} (y : A) (j : ℕ) (x : A) → slice_get (y ∷ []) j ≡ Some x → (j ≡ 0) × (y ≡ x)
slice_get-one y zero x e = (refl, same_Some y x e)
slice_get-one y (suc j) x e = absurd (none-some x e)

-- a list whose elements are those of another up to its length
pub extended : {A : Type 0} (xs ys : List A) → ((i : ℕ) (x : A) → slice_get xs i ≡ Some x → slice_get ys i ≡ Some x) → ys ≡ xs ++ drop (length xs) ys
extended [] ys h = refl
extended (x ∷ xs) [] h = absurd (none-some x (h 0 x refl))
extended (x ∷ xs) (y ∷ ys) h = ap (λ z. z ∷ ys) (same_Some y x (h 0 x refl)) ∙ ap (λ l. x ∷ l) (extended xs ys (λ i z e. h (suc i) z e))

pub slice_get-some : {A : Type 0} (xs : List A) (i : ℕ) → i < length xs → (x : A) × (slice_get xs i ≡ Some x)
slice_get-some [] i lt = absurd (omega (arith, lt))
slice_get-some (x ∷ xs) zero lt = (x, refl)
slice_get-some (x ∷ xs) (suc i) lt = slice_get-some xs i (omega (arith, lt))
