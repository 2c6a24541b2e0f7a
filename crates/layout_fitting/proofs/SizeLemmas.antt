-- The sizes of functions are the first that a layout lists.
use Rattle.std.proofs.Common.{◌≡◌, ℕ, zero, suc, ◌+◌, ◌<◌, List, [], ◌∷◌, ◌++◌, length, map, Some, refl, sym, ap, ◌∙◌, arith}
use Rattle.std.specs.Prelude.{slice_get, slice_index_or}
use Rattle.std.specs.List.{range_with_len}
use Rattle.std.proofs.lemmas.List.FromFn.{map-range_with_len_more}
use Rattle.low_ir.specs.Places.{Placed}
use Rattle.image_definition.specs.Sizes.{code_size, function_sizes}
use Rattle.claims_definition.specs.declared.item.LaidItem.{LaidItem}
use Rattle.claims_definition.specs.Movables.{movable_of}
use Rattle.layout_relation.specs.Items.{arrays_sized, item_sizes, sized}
use Rattle.layout_fitting.specs.Fitted.{size_listed}

-- what is listed at a number
pub size_read : (xs : List LaidItem) (k : ℕ) (x : LaidItem) → slice_get xs k ≡ Some x → x.size ≡ size_listed (map sized (map movable_of xs)) k
size_read [] k x e = cc
size_read (y ∷ xs) zero x e = let same : y ≡ x = cc in ap (λ (z : LaidItem). z.size) (sym same)
size_read (y ∷ xs) (suc k) x e = size_read xs k x e

-- one more
pub sizes_step : (g : ℕ → ℕ) (n : ℕ) (old new : List ℕ) (x : ℕ) → new ≡ old ++ x ∷ [] → x ≡ g n → old ≡ map g (range_with_len 0 n) → new ≡ map g (range_with_len 0 (n + 1))
sizes_step g n old new x e is h =
    let z : 0 + n ≡ n = omega arith in
    e
    ∙ ap (λ l. l ++ x ∷ []) h
    ∙ ap (λ i. map g (range_with_len 0 n) ++ i ∷ []) is
    ∙ sym (map-range_with_len_more g 0 n n z)

module _ (g : ℕ → ℕ × ℕ) (rest : List (ℕ × ℕ)) where
  listed : (a n k : ℕ) → k < n → slice_index_or (map g (range_with_len a n) ++ rest) k (0, 0) ≡ g (a + k)
  listed a zero k less = absurd (omega (arith, less))
  listed a (suc n) zero less = ap g (own a)
    where
      own : (m : ℕ) → m ≡ m + 0
      own m = omega arith
  listed a (suc n) (suc k) less = listed (a + 1) n k (omega (arith, less)) ∙ ap g (onward a k)
    where
      onward : (m i : ℕ) → m + 1 + i ≡ m + suc i
      onward m i = omega arith

maps_same : (g h : ℕ → ℕ) (k n : ℕ) → ((j : ℕ) → j < k + n → g j ≡ h j) → map g (range_with_len k n) ≡ map h (range_with_len k n)
maps_same g h k zero same = refl
maps_same g h k (suc n) same = ap (λ x. x ∷ map g (range_with_len (k + 1) n)) (same k (omega arith)) ∙ ap (λ xs. h k ∷ xs) (maps_same g h (k + 1) n (λ j less. same j (omega (arith, less))))

pub sizes_are : (items : List (ℕ × ℕ)) (p : Placed) (n : ℕ) → items ≡ item_sizes p → n ≡ length p.functions → map (size_listed items) (range_with_len 0 n) ≡ function_sizes p
sizes_are items p n are count =
    ap (λ k. map (size_listed items) (range_with_len 0 k)) count
    ∙ maps_same (size_listed items) (code_size p) 0 (length p.functions)
    (λ f less.
    ap (λ l. size_listed l f) are
    ∙ ap (λ (x : ℕ × ℕ). x.1) (listed (λ j. (j, code_size p j)) (arrays_sized (length p.functions) p.objects) 0 (length p.functions) f (omega (arith, less)))
    ∙ ap (code_size p) (own f))
  where
    own : (m : ℕ) → 0 + m ≡ m
    own m = omega arith
