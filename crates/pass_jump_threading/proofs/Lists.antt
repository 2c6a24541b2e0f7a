-- Lists that a loop goes over.
use Rattle.std.proofs.Common.{◌≡◌, ◌<◌, ◌≤◌, ℕ, ◌+◌, List, ◌∷◌, drop, length, map, Option, Some, None, refl, sym, ap, ◌∙◌}
use Rattle.std.specs.Prelude.{slice_get, slice_index_or}
use Rattle.std.specs.Option.{option_map}
use Rattle.std.proofs.lemmas.List.{drop-map, drop_more, get_or_default, get_or_past}
use Rattle.std.proofs.lemmas.Option.{slice_get-map, slice_get_read}

-- what is left from a place on
pub drop_here : {A : Type 0} (xs : List A) (i : ℕ) (x : A) → i < length xs → x ≡ slice_index_or xs i x → drop i xs ≡ x ∷ drop (i + 1) xs
drop_here xs i x lt is = drop_more xs i x lt ∙ ap (λ z. z ∷ drop (i + 1) xs) (sym is)

pub map_drop_here : {X A : Type 0} (f : X → A) (xs : List X) (i : ℕ) (d x : X) → i < length xs → x ≡ slice_index_or xs i d → map f (drop i xs) ≡ f x ∷ map f (drop (i + 1) xs)
map_drop_here f xs i d x lt is = ap (map f) (drop_more xs i d lt) ∙ ap (λ z. f z ∷ map f (drop (i + 1) xs)) (sym is)

pub drop_map_here : {X A : Type 0} (f : X → A) (xs : List X) (i : ℕ) (x : X) → i < length xs → x ≡ slice_index_or xs i x → drop i (map f xs) ≡ f x ∷ drop (i + 1) (map f xs)
drop_map_here f xs i x lt is = drop-map f i xs ∙ map_drop_here f xs i x x lt is ∙ ap (λ l. f x ∷ l) (sym (drop-map f (i + 1) xs))

pub read_map : {X A : Type 0} (f : X → A) (xs : List X) (i : ℕ) (x : X) → i < length xs → x ≡ slice_index_or xs i x → slice_get (map f xs) i ≡ Some (f x)
read_map f xs i x lt is = slice_get-map f xs i ∙ ap (option_map f) (slice_get_read xs (length xs) i x refl lt is)

-- what stands at a place, if something does
pub item_at : {A : Type 0} (xs ys : List (Option A)) (i : ℕ) (x o : Option A) → xs ≡ ys → i < length xs → x ≡ slice_index_or xs i x → x ≡ o → slice_index_or ys i None ≡ o
item_at xs ys i x o same lt is at = ap (λ zs. slice_index_or zs i None) (sym same) ∙ get_or_default xs i None x lt ∙ sym is ∙ at

pub item_past : {A : Type 0} (xs ys : List (Option A)) (i : ℕ) → xs ≡ ys → length xs ≤ i → slice_index_or ys i None ≡ None
item_past xs ys i same past = ap (λ zs. slice_index_or zs i None) (sym same) ∙ get_or_past xs i None past
