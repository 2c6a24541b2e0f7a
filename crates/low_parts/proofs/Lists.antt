-- Lists beside each other.
use Rattle.std.proofs.Common.{◌≡◌, ℕ, zero, suc, List, [], ◌∷◌, length, Some, refl, ap, subst}
use Rattle.std.specs.Prelude.{All, slice_get}
use Rattle.std.specs.List.{AllZip}
use Rattle.std.proofs.lemmas.List.Elements.{All-nil, All-cons, All-head, All-tail}

-- what stands in the other list at the same place
pub record Found {A B : Type 0} (R : A → B → Type 0) (ys : List B) (n : ℕ) (x : A) : Type 0 where
  pub it : B
  pub there : slice_get ys n ≡ Some it
  pub related : R x it

pub found : {A B : Type 0} (R : A → B → Type 0) (xs : List A) (ys : List B) (n : ℕ) (x : A) → AllZip R xs ys → slice_get xs n ≡ Some x → Found R ys n x
found R [] ys n x h e = cc
found R (a ∷ xs) [] n x h e = absurd h
found R (a ∷ xs) (b ∷ ys) zero x h e =
    let same : a ≡ x = cc in
    record { it = b; there = refl; related = subst (λ z. R z b) same h.0 }
found R (a ∷ xs) (b ∷ ys) (suc n) x h e =
    let k = found R xs ys n x h.1 e in
    record { it = k.it; there = k.there; related = k.related }

-- what stands in the first list where something stands in the other one
pub record Before {A B : Type 0} (R : A → B → Type 0) (xs : List A) (n : ℕ) (y : B) : Type 0 where
  pub it : A
  pub there : slice_get xs n ≡ Some it
  pub related : R it y

pub before : {A B : Type 0} (R : A → B → Type 0) (xs : List A) (ys : List B) (n : ℕ) (y : B) → AllZip R xs ys → slice_get ys n ≡ Some y → Before R xs n y
before R [] [] n y h e = cc
before R [] (b ∷ ys) n y h e = absurd h
before R (a ∷ xs) [] n y h e = cc
before R (a ∷ xs) (b ∷ ys) zero y h e =
    let same : b ≡ y = cc in
    record { it = a; there = refl; related = subst (λ z. R a z) same h.0 }
before R (a ∷ xs) (b ∷ ys) (suc n) y h e =
    let k = before R xs ys n y h.1 e in
    record { it = k.it; there = k.there; related = k.related }

pub as_long : {A B : Type 0} (R : A → B → Type 0) (xs : List A) (ys : List B) → AllZip R xs ys → length ys ≡ length xs
as_long R [] [] h = refl
as_long R [] (b ∷ ys) h = absurd h
as_long R (a ∷ xs) [] h = absurd h
as_long R (a ∷ xs) (b ∷ ys) h = ap suc (as_long R xs ys h.1)

-- what holds of each in one list holds of each in the other
pub all_beside : {A B : Type 0} (R : A → B → Type 0) (P : A → Type 0) (Q : B → Type 0) → ((x : A) (y : B) → R x y → P x → Q y) → (xs : List A) (ys : List B) → AllZip R xs ys → All P xs → All Q ys
all_beside R P Q f [] [] h all = All-nil Q
all_beside R P Q f [] (y ∷ ys) h all = absurd h
all_beside R P Q f (x ∷ xs) [] h all = absurd h
all_beside R P Q f (x ∷ xs) (y ∷ ys) h all = All-cons Q y ys (f x y h.0 (All-head P x xs all)) (all_beside R P Q f xs ys h.1 (All-tail P x xs all))
