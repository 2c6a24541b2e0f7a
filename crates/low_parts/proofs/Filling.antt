-- How a loop that makes one from each fills a list.
use Rattle.std.proofs.Common.{◌≡◌, ◌<◌, ◌≤◌, ℕ, zero, suc, ◌+◌, List, [], ◌∷◌, ◌++◌, drop, length, map, take, refl, sym, ap, ◌∙◌, subst, arith}
use Rattle.std.specs.Prelude.{All, slice_index_or}
use Rattle.std.specs.List.{AllZip}
use Rattle.std.proofs.lemmas.List.{append-nil, append_assoc, drop_all, drop_more, map_more, map_push, take_all, take_more}
use Rattle.std.proofs.lemmas.List.Elements.{All-push}
use Rattle.low_parts.specs.Filling.{ZipsSoFar}

-- lists beside each other so far, one more of each
next : {X Y : Type 0} (f : X → Y) (xs : List X) (i : ℕ) (x : X) → i < length xs → x ≡ slice_index_or xs i x → map f (drop i xs) ≡ f x ∷ map f (drop (i + 1) xs)
next f xs i x lt is = ap (map f) (drop_more xs i x lt) ∙ ap (λ y. f y ∷ map f (drop (i + 1) xs)) (sym is)

pub zip_step : {X A Y B : Type 0} (R : A → B → Type 0) (f : X → A) (g : Y → B) (whole : List A) (xs : List X) (i : ℕ) (x : X) (y : Y) (made more : List Y) → i < length xs → x ≡ slice_index_or xs i x → ZipsSoFar R whole (map f (drop i xs)) (map g made) → R (f x) (g y) → more ≡ made ++ y ∷ []
    → ZipsSoFar R whole (map f (drop (i + 1) xs)) (map g more)
zip_step R f g whole xs i x y made more lt is h r pushed js zips =
    let rest : AllZip R (map f (drop i xs)) (g y ∷ js) = subst (λ as'. AllZip R as' (g y ∷ js)) (sym (next f xs i x lt is)) (r, zips) in
    let there : map g made ++ g y ∷ js ≡ map g more ++ js =
    sym (append_assoc (map g made) (g y ∷ []) js) ∙ ap (λ ys. ys ++ js) (sym (map_push g made y) ∙ ap (map g) (sym pushed)) in
    subst (AllZip R whole) there (h (g y ∷ js) rest)

pub zip_begun : {A Y B : Type 0} (R : A → B → Type 0) (g : Y → B) (whole : List A) (made : List Y) → made ≡ [] → ZipsSoFar R whole whole (map g made)
zip_begun R g whole made none js zips = subst (λ xs. AllZip R whole (map g xs ++ js)) (sym none) zips

pub zip_done : {X A Y B : Type 0} (R : A → B → Type 0) (f : X → A) (g : Y → B) (whole : List A) (xs : List X) (i : ℕ) (made : List Y) → length xs ≤ i → ZipsSoFar R whole (map f (drop i xs)) (map g made) → AllZip R whole (map g made)
zip_done R f g whole xs i made all h =
    subst (AllZip R whole) (append-nil (map g made)) (h [] (subst (λ ys. AllZip R (map f ys) []) (sym (drop_all i xs all)) tt))

-- lists beside each other, one step on
pub zip_more : {A B : Type 0} (R : A → B → Type 0) (xs : List A) (ys : List B) (x : A) (y : B) → AllZip R xs ys → R x y → AllZip R (xs ++ x ∷ []) (ys ++ y ∷ [])
zip_more R [] [] x y h r = (r, tt)
zip_more R [] (b ∷ ys) x y h r = absurd h
zip_more R (a ∷ xs) [] x y h r = absurd h
zip_more R (a ∷ xs) (b ∷ ys) x y h r = (h.0, zip_more R xs ys x y h.1 r)

-- a step of a loop that makes one from each
pub zip_taken : {X A B : Type 0} (R : A → B → Type 0) (f : X → A) (xs : List X) (ys zs : List B) (i : ℕ) (d x : X) (y : B) → i < length xs → x ≡ slice_index_or xs i d → AllZip R (map f (take i xs)) ys → R (f x) y → zs ≡ ys ++ y ∷ [] → AllZip R (map f (take (i + 1) xs)) zs
zip_taken R f xs ys zs i d x y lt is h r made =
    let here : map f (take i xs) ++ f x ∷ [] ≡ map f (take (i + 1) xs) = ap (λ z. map f (take i xs) ++ f z ∷ []) is ∙ sym (map_more f xs i d lt) in
    subst (λ l. AllZip R l zs) here (subst (AllZip R (map f (take i xs) ++ f x ∷ [])) (sym made) (zip_more R (map f (take i xs)) ys (f x) y h r))

-- each so far
pub all_step : {X A : Type 0} (f : X → A) (Q : A → Type 0) (xs : List X) (i : ℕ) (x : X) → i < length xs → x ≡ slice_index_or xs i x → All Q (map f (take i xs)) → Q (f x) → All Q (map f (take (i + 1) xs))
all_step f Q xs i x lt is h p =
    let more : map f (take (i + 1) xs) ≡ map f (take i xs) ++ f x ∷ [] = ap (map f) (take_more xs i x lt) ∙ map_push f (take i xs) (slice_index_or xs i x) ∙ ap (λ y. map f (take i xs) ++ f y ∷ []) (sym is) in
    subst (All Q) (sym more) (All-push Q (map f (take i xs)) (f x) h p)

pub all_done : {X A : Type 0} (f : X → A) (Q : A → Type 0) (xs : List X) (i : ℕ) → length xs ≤ i → All Q (map f (take i xs)) → All Q (map f xs)
all_done f Q xs i past h = subst (λ ys. All Q (map f ys)) (take_all i xs past) h

-- how many are taken
pub taken : {X : Type 0} (xs : List X) (i : ℕ) → i < length xs → length (take i xs) ≡ i
taken [] i h = absurd (omega arith)
taken (x ∷ xs) zero h = refl
taken (x ∷ xs) (suc i) h = ap suc (taken xs i (omega arith))
