-- Elements of a list and their numbers.
use Rattle.std.proofs.Common.{◌≡◌, ℕ, zero, suc, ◌<◌, List, [], ◌∷◌, map, take, refl, ap, ◌∙◌, subst, arith, Contains, All}
use Rattle.std.specs.Prelude.{Some, option_map, slice_get}
use Rattle.std.proofs.lemmas.List.Elements.{Contains-get_or}
use Rattle.std.proofs.lemmas.Option.{get_or_from_slice_get, none-some, same_Some, slice_get-map, slice_get_within}

pub got : {A : Type 0} (xs : List A) (x : A) → Contains xs x → (n : ℕ) × (slice_get xs n ≡ Some x)
got [] x (n, lt, e) = absurd (omega arith)
got (y ∷ xs) x (zero, lt, e) = (0, ap Some e)
got (y ∷ xs) x (suc n, lt, e) = let r = got xs x (n, omega arith, e) in (suc r.0, r.1)

pub contained : {A : Type 0} (xs : List A) (n : ℕ) (x : A) → slice_get xs n ≡ Some x → Contains xs x
contained xs n x e = subst (Contains xs) (get_or_from_slice_get xs n x x e) (Contains-get_or xs n x (slice_get_within xs n x e))

pub all_got : {A : Type 0} (P : A → Type 0) (xs : List A) (n : ℕ) (x : A) → All P xs → slice_get xs n ≡ Some x → P x
all_got P xs n x all e = subst P (get_or_from_slice_get xs n x x e) (all n x (slice_get_within xs n x e))

pub mapped : {A B : Type 0} (f : A → B) (xs : List A) (x : A) → Contains xs x → Contains (map f xs) (f x)
mapped f xs x h = let g = got xs x h in contained (map f xs) g.0 (f x) (slice_get-map f xs g.0 ∙ ap (option_map f) g.1)

pub map_got : {A B : Type 0} (f : A → B) (xs : List A) (n : ℕ) (y : B) → slice_get (map f xs) n ≡ Some y → (x : A) × (slice_get xs n ≡ Some x) × (f x ≡ y)
map_got f [] n y e = absurd (none-some y e)
map_got f (x ∷ xs) zero y e = (x, refl, same_Some (f x) y e)
map_got f (x ∷ xs) (suc n) y e = map_got f xs n y e

-- one of the first elements
pub in_front : {A : Type 0} (xs : List A) (k n : ℕ) (x : A) → n < k → slice_get xs n ≡ Some x → Contains (take k xs) x
in_front [] k n x low e = absurd (none-some x e)
in_front (y ∷ xs) zero n x low e = absurd (omega (arith, low))
in_front (y ∷ xs) (suc k) zero x low e = (0, omega arith, same_Some y x e)
in_front (y ∷ xs) (suc k) (suc n) x low e = let r = in_front xs k n x (omega (arith, low)) e in let lt = r.1 in (suc r.0, omega (arith, lt), r.2)
