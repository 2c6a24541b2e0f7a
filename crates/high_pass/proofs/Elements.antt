-- What holds of each element of a list that was made from another.
use Rattle.std.proofs.Common.{◌≡◌, ℕ, zero, suc, ◌<◌, ◌≤◌, List, [], ◌∷◌, ◌++◌, length, get_or, map, refl, sym, ap, ◌∙◌, subst, ⊎_elim, arith, All}
use Rattle.std.specs.Prelude.{Contains}
use Rattle.std.specs.List.{flat_map}
use Rattle.std.proofs.lemmas.Bool.{cases_lt}
use Rattle.std.proofs.lemmas.List.{get_or-map, get_or_past, length-map}
use Rattle.std.proofs.lemmas.List.Concat.{flat_map-cons}
use Rattle.std.proofs.lemmas.List.Elements.{All-append, All-cons, All-head, All-nil, All-same, All-tail, Contains-append_left, Contains-append_right}

-- an element, or what stands for those past the end
pub at_or : {A : Type 0} (P : A → Type 0) (xs : List A) (k : ℕ) (d : A) → All P xs → P d → P (get_or xs k d)
at_or P xs k d all past = ⊎_elim
    (λ (lt : k < length xs). all k d lt)
    (λ (le : length xs ≤ k). subst P (sym (get_or_past xs k d le)) past)
    (cases_lt k (length xs))

pub get_or-map_default : {A B : Type 0} (f : A → B) (xs : List A) (k : ℕ) (d : A) → get_or (map f xs) k (f d) ≡ f (get_or xs k d)
get_or-map_default f xs k d = ⊎_elim
    (λ (lt : k < length xs). get_or-map f xs k d (f d) lt)
    (λ (le : length xs ≤ k). get_or_past (map f xs) k (f d) (subst (λ n. n ≤ k) (sym (length-map xs f)) le) ∙ ap f (sym (get_or_past xs k d le)))
    (cases_lt k (length xs))

-- an element that a loop reads, where all that are made of them are known
pub All-map_at : {A B : Type 0} (P : B → Type 0) (f : A → B) (xs : List A) (i : ℕ) (x : A) → All P (map f xs) → i < length xs → x ≡ get_or xs i x → P (f x)
All-map_at P f xs i x all lt read =
    subst P (get_or-map f xs i x (f x) lt ∙ ap f (sym read)) (all i (f x) (subst (λ n. i < n) (sym (length-map xs f)) lt))

pub All-map_back : {A B : Type 0} (P : B → Type 0) (f : A → B) (xs : List A) → All P (map f xs) → All (λ x. P (f x)) xs
All-map_back P f [] all = All-nil (λ x. P (f x))
All-map_back P f (x ∷ xs) all = All-cons (λ x. P (f x)) x xs (All-head P (f x) (map f xs) all) (All-map_back P f xs (All-tail P (f x) (map f xs) all))

pub All-append_front : {A : Type 0} (P : A → Type 0) (xs ys : List A) → All P (xs ++ ys) → All P xs
All-append_front P [] ys all = All-nil P
All-append_front P (x ∷ xs) ys all = All-cons P x xs (All-head P x (xs ++ ys) all) (All-append_front P xs ys (All-tail P x (xs ++ ys) all))

pub All-append_back : {A : Type 0} (P : A → Type 0) (xs ys : List A) → All P (xs ++ ys) → All P ys
All-append_back P [] ys all = all
All-append_back P (x ∷ xs) ys all = All-append_back P xs ys (All-tail P x (xs ++ ys) all)

pub All-flat_map : {A B : Type 0} (P : B → Type 0) (f : A → List B) (xs : List A) → All (λ x. All P (f x)) xs → All P (flat_map f xs)
All-flat_map P f [] all = All-nil P
All-flat_map P f (x ∷ xs) all =
    All-same P (flat_map f (x ∷ xs)) (f x ++ flat_map f xs) (flat_map-cons f x xs)
    (All-append P (f x) (flat_map f xs) (All-head (λ x. All P (f x)) x xs all) (All-flat_map P f xs (All-tail (λ x. All P (f x)) x xs all)))

pub All-flat_map_back : {A B : Type 0} (P : B → Type 0) (f : A → List B) (xs : List A) → All P (flat_map f xs) → All (λ x. All P (f x)) xs
All-flat_map_back P f [] all = All-nil (λ x. All P (f x))
All-flat_map_back P f (x ∷ xs) all =
    let here = All-same P (f x ++ flat_map f xs) (flat_map f (x ∷ xs)) (sym (flat_map-cons f x xs)) all in
    All-cons (λ x. All P (f x)) x xs (All-append_front P (f x) (flat_map f xs) here) (All-flat_map_back P f xs (All-append_back P (f x) (flat_map f xs) here))

pub Contains-flat_map : {A B : Type 0} (f : A → List B) (xs : List A) (k : ℕ) (x : A) (y : B) → k < length xs → get_or xs k x ≡ x → Contains (f x) y → Contains (flat_map f xs) y
Contains-flat_map f [] k x y lt read has = absurd (omega (arith, lt))
Contains-flat_map f (z ∷ xs) zero x y lt read has =
    subst (λ l. Contains l y) (sym (flat_map-cons f z xs)) (Contains-append_left (f z) (flat_map f xs) y (subst (λ w. Contains (f w) y) (sym read) has))
Contains-flat_map f (z ∷ xs) (suc k) x y lt read has =
    subst (λ l. Contains l y) (sym (flat_map-cons f z xs)) (Contains-append_right (f z) (flat_map f xs) y (Contains-flat_map f xs k x y (omega (arith, lt)) read has))

-- two ways to make a list that agree at each element
pub map-pointwise : {A B : Type 0} (f g : A → B) (xs : List A) → All (λ x. f x ≡ g x) xs → map f xs ≡ map g xs
map-pointwise f g [] same = refl
map-pointwise f g (x ∷ xs) same =
    ap (λ y. y ∷ map f xs) (All-head (λ x. f x ≡ g x) x xs same) ∙ ap (λ l. g x ∷ l) (map-pointwise f g xs (All-tail (λ x. f x ≡ g x) x xs same))
