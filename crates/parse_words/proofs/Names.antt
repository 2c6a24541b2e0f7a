-- Names that stand in a list once each, behind what carries their bytes.
use Rattle.std.proofs.Common.{◌≡◌, ◌≢◌, ℕ, zero, suc, ◌<◌, Bool, true, false, ◌||◌, List, [], ◌∷◌, ◌++◌, map, length, Some, refl, sym, ap, ◌∙◌, arith, true≢false}
use Rattle.std.specs.Prelude.{nat_eq, slice_get, if◌then◌else◌}
use Rattle.std.specs.Cmp.Lexicographic.{pointwise}
use Rattle.std.specs.List.{AllByRecursion, IsDistinct, list_any}
use Rattle.std.proofs.lemmas.List.{map-append, length-map}
use Rattle.std.proofs.lemmas.Option.{get_or_from_slice_get, slice_get_within}
use Rattle.std.proofs.lemmas.Map.Keys.{IsDistinct-head, IsDistinct-tail}
use Rattle.indexmap.specs.IndexSet.{insert_key}
use Rattle.c_tree.specs.Names.{name_of, with_name, AreDistinct}

module _ {K : Type 0} (bytes : K → List ℕ) where
  -- what stands at a place, with more behind the list
  pub named_at : (keys : List K) (place : ℕ) (key : K) (more : List (List ℕ)) → slice_get keys place ≡ Some key → name_of (map bytes keys ++ more) place ≡ bytes key
  named_at [] place key more h = absurd (omega (arith, slice_get_within [] place key h))
  named_at (first ∷ keys) zero key more h = ap bytes (get_or_from_slice_get (first ∷ keys) zero key key h)
  named_at (first ∷ keys) (suc place) key more h = named_at keys place key more h

  module _ (eq : K → K → Bool) (same : (x y : K) → bytes x ≡ bytes y → eq x y ≡ true) where
    differs_from : (first : K) (keys : List K) (place : ℕ) → AllByRecursion (λ key. eq first key ≡ false) keys → place < length keys → bytes first ≢ name_of (map bytes keys) place
    differs_from first [] place all lt e = absurd (omega (arith, lt))
    differs_from first (key ∷ keys) zero all lt e = true≢false (sym (same first key e) ∙ all.0)
    differs_from first (key ∷ keys) (suc place) all lt e = differs_from first keys place all.1 (omega (arith, lt)) e

    pub distinct : (keys : List K) → IsDistinct eq keys → AreDistinct (map bytes keys)
    distinct [] is i j lt within = absurd (omega (arith, within))
    distinct (first ∷ keys) is i zero lt within = absurd (omega (arith, lt))
    distinct (first ∷ keys) is zero (suc j) lt within = differs_from first keys j (IsDistinct-head eq first keys is) (omega (arith, within, length-map keys bytes))
    distinct (first ∷ keys) is (suc i) (suc j) lt within = distinct keys (IsDistinct-tail eq first keys is) i j (omega (arith, lt)) (omega (arith, within))

  -- a key that a set takes in is a name that the list of names takes in
  module _ (keys : List K) (key : K) where
    any_name : (keys : List K) → list_any (λ other. pointwise nat_eq (bytes key) (bytes other)) keys ≡ list_any (pointwise nat_eq (bytes key)) (map bytes keys)
    any_name [] = refl
    any_name (first ∷ rest) = ap (λ any. pointwise nat_eq (bytes key) (bytes first) || any) (any_name rest)

    pub with_key : map bytes (insert_key (λ x y. pointwise nat_eq (bytes x) (bytes y)) keys key) ≡ with_name (map bytes keys) (bytes key)
    with_key = by (list_any (λ other. pointwise nat_eq (bytes key) (bytes other)) keys) ∙ ap (λ among. if among then map bytes keys else map bytes keys ++ bytes key ∷ []) (any_name keys)
      where
        by : (among : Bool) → map bytes (if among then keys else keys ++ key ∷ []) ≡ (if among then map bytes keys else map bytes keys ++ bytes key ∷ [])
        by true = refl
        by false = map-append bytes keys (key ∷ [])
