-- A list that holds another, in order.
use Rattle.std.proofs.Common.{◌≡◌, ◌⊎◌, ⊎_elim, inl, inr, List, [], ◌∷◌, ◌++◌, map, refl, sym, ap, subst, All}
use Rattle.std.proofs.lemmas.List.Elements.{All-cons, All-head, All-nil, All-tail}

abbrev pub Holds : {A : Type 0} → (whole part : List A) → Type 0
Holds [] [] = Unit {0}
Holds [] (y ∷ ys) = ⊥
Holds (x ∷ xs) [] = Unit {0}
Holds (x ∷ xs) (y ∷ ys) = ((y ≡ x) × Holds xs ys) ⊎ Holds xs (y ∷ ys)

pub holds_none : {A : Type 0} (xs : List A) → Holds xs []
holds_none [] = tt
holds_none (x ∷ xs) = tt

pub holds_itself : {A : Type 0} (xs : List A) → Holds xs xs
holds_itself [] = tt
holds_itself (x ∷ xs) = inl (refl, holds_itself xs)

-- one more before the whole, and one less of the part
holds_more : {A : Type 0} (x : A) (xs ys : List A) → Holds xs ys → Holds (x ∷ xs) ys
holds_more x xs [] h = tt
holds_more x xs (y ∷ ys) h = inr h

holds_less : {A : Type 0} (xs : List A) (y : A) (ys : List A) → Holds xs (y ∷ ys) → Holds xs ys
holds_less [] y ys h = absurd h
holds_less (x ∷ xs) y ys h = ⊎_elim
    (λ (here : (y ≡ x) × Holds xs ys). holds_more x xs ys here.1)
    (λ (later : Holds xs (y ∷ ys)). holds_more x xs ys (holds_less xs y ys later))
    h

-- behind what begins both
pub holds_rest : {A : Type 0} (x : A) (xs : List A) (y : A) (ys : List A) → Holds (x ∷ xs) (y ∷ ys) → Holds xs ys
holds_rest x xs y ys h = ⊎_elim (λ (here : (y ≡ x) × Holds xs ys). here.1) (λ (later : Holds xs (y ∷ ys)). holds_less xs y ys later) h

pub holds_behind : {A : Type 0} (xs ys zs : List A) → Holds ys zs → Holds (xs ++ ys) zs
holds_behind [] ys zs h = h
holds_behind (x ∷ xs) ys zs h = holds_more x (xs ++ ys) zs (holds_behind xs ys zs h)

pub holds-append : {A : Type 0} (xs ys zs ws : List A) → Holds xs ys → Holds zs ws → Holds (xs ++ zs) (ys ++ ws)
holds-append [] [] zs ws h k = k
holds-append [] (y ∷ ys) zs ws h k = absurd h
holds-append (x ∷ xs) [] zs ws h k = holds_behind (x ∷ xs) zs ws k
holds-append (x ∷ xs) (y ∷ ys) zs ws h k = ⊎_elim
    (λ (here : (y ≡ x) × Holds xs ys). inl (here.0, holds-append xs ys zs ws here.1 k))
    (λ (later : Holds xs (y ∷ ys)). inr (holds-append xs (y ∷ ys) zs ws later k))
    h

pub holds_front : {A : Type 0} (xs ys zs : List A) → Holds xs zs → Holds (xs ++ ys) zs
holds_front [] ys [] h = holds_none ys
holds_front [] ys (z ∷ zs) h = absurd h
holds_front (x ∷ xs) ys [] h = tt
holds_front (x ∷ xs) ys (z ∷ zs) h = ⊎_elim
    (λ (here : (z ≡ x) × Holds xs zs). inl (here.0, holds_front xs ys zs here.1))
    (λ (later : Holds xs (z ∷ zs)). inr (holds_front xs ys (z ∷ zs) later))
    h

pub holds-map : {A B : Type 0} (f : A → B) (xs ys : List A) → Holds xs ys → Holds (map f xs) (map f ys)
holds-map f [] [] h = tt
holds-map f [] (y ∷ ys) h = absurd h
holds-map f (x ∷ xs) [] h = tt
holds-map f (x ∷ xs) (y ∷ ys) h = ⊎_elim
    (λ (here : (y ≡ x) × Holds xs ys). inl (ap f here.0, holds-map f xs ys here.1))
    (λ (later : Holds xs (y ∷ ys)). inr (holds-map f xs (y ∷ ys) later))
    h

-- what holds of each element of the whole holds of each of the part
pub All-holds : {A : Type 0} (P : A → Type 0) (xs ys : List A) → Holds xs ys → All P xs → All P ys
All-holds P [] [] h all = All-nil P
All-holds P [] (y ∷ ys) h all = absurd h
All-holds P (x ∷ xs) [] h all = All-nil P
All-holds P (x ∷ xs) (y ∷ ys) h all = ⊎_elim
    (λ (here : (y ≡ x) × Holds xs ys). All-cons P y ys (subst P (sym here.0) (All-head P x xs all)) (All-holds P xs ys here.1 (All-tail P x xs all)))
    (λ (later : Holds xs (y ∷ ys)). All-holds P xs (y ∷ ys) later (All-tail P x xs all))
    h
