-- What placed items take, and that all sizes are whole words.
use Rattle.std.proofs.Common.{◌≡◌, ℕ, zero, suc, ◌+◌, ◌<◌, ◌≤◌, Bool, true, false, Some, List, [], ◌∷◌, ◌++◌, length, map, refl, sym, ap, subst, ◌∙◌, arith, All}
use Rattle.std.specs.Prelude.{if◌then◌else◌, slice_get, slice_index_or}
use Rattle.std.specs.List.{range_with_len}
use Rattle.std.proofs.lemmas.List.{map-append}
use Rattle.std.proofs.lemmas.List.Elements.{All-append, All-cons, All-nil}
use Rattle.rv_core.specs.Table.{Table}
use Rattle.code_flow_system.specs.declared.cert.Part.{Part}
use Rattle.low_ir.specs.Arrays.{array_size}
use Rattle.low_ir.specs.declared.object.Storage.{Storage}
use Rattle.low_ir.specs.declared.object.Storage.TheVariants.{Constant, Global, Local}
use Rattle.low_ir.specs.Code.{Object}
use Rattle.low_ir.specs.Places.{Placed}
use Rattle.image_frames.specs.Memories.{Placement}
use Rattle.image_definition.specs.Sizes.{code_size, sizes_placed}
use Rattle.claims_definition.specs.ClaimLaws.{IsSettled}
use Rattle.claims_definition.specs.Listed.{Laid}
use Rattle.claims_image.specs.Images.{laid_of}
use Rattle.claims_definition.specs.Movables.{Movable, array_item, arrays_from, function_item, is_local, movables_of, unless}
use Rattle.claims_definition.proofs.Movables.{array_movable, function_movable}
use Rattle.layout_relation.specs.Items.{arrays_sized, sized}
use Rattle.layout_law.proofs.Keeping.{sizes_stay}
use Rattle.spm_placement.specs.declared.item.Item.{Item}
use Rattle.spm_placement.specs.Gains.{gained}
use Rattle.spm_placement.specs.Placings.{bytes_where}
use Rattle.spm_placement.specs.Sets.{HasWholeWords}
use Rattle.compile_stages.specs.Placed.{placed_bytes}
use Rattle.compile_placement.specs.Laws.{items_of}

-- the sizes of those whose numbers pass a test, by numbers and sizes
abbrev pub sizes_where : (ℕ → Bool) → List (ℕ × ℕ) → ℕ
sizes_where test [] = 0
sizes_where test (s ∷ ss) = (if test s.0 then s.1 else 0) + sizes_where test ss

sizes_join : (test : ℕ → Bool) (xs ys : List (ℕ × ℕ)) → sizes_where test (xs ++ ys) ≡ sizes_where test xs + sizes_where test ys
sizes_join test [] ys = omega arith
sizes_join test (x ∷ xs) ys = let h = sizes_join test xs ys in omega (arith, h)

by_sizes : (t : Table) (ps : List Part) (test : ℕ → Bool) (ms : List Movable) → bytes_where test (map (gained t ps) ms) ≡ sizes_where test (map sized ms)
by_sizes t ps test [] = refl
by_sizes t ps test (m ∷ ms) = ap (λ n. (if test m.id then m.size else 0) + n) (by_sizes t ps test ms)

module _ (test : ℕ → Bool) where
  functions_where : (size : ℕ → ℕ) (marks : List Bool) (k n : ℕ) → ((j : ℕ) → j < k + n → slice_index_or marks j false ≡ test j)
      → sizes_where test (map (λ f. (f, size f)) (range_with_len k n)) ≡ sizes_placed marks k (map size (range_with_len k n))
  functions_where size marks k zero same = refl
  functions_where size marks k (suc n) same =
      let next : k + 1 ≡ suc k = omega arith in
      let rest = subst (λ j. sizes_where test (map (λ f. (f, size f)) (range_with_len (k + 1) n)) ≡ sizes_placed marks j (map size (range_with_len (k + 1) n))) next (functions_where size marks (k + 1) n (λ j lt. same j (omega (arith, lt)))) in
      ap (λ b. (if b then size k else 0) + sizes_where test (map (λ f. (f, size f)) (range_with_len (k + 1) n))) (sym (same k (omega arith)))
      ∙ ap (λ m. (if slice_index_or marks k false then size k else 0) + m) rest

  -- an array is placed where its number passes, and no local one is
  abbrev pub AreMarked : ℕ → List Bool → ℕ → List Object → Type 0
  AreMarked count marks k xs = (j : ℕ) (x : Object) → slice_get xs j ≡ Some x → (slice_index_or marks (k + j) false ≡ test (count + (k + j))) × (is_local x.storage ≡ true → slice_index_or marks (k + j) false ≡ false)

  one_array : (n size : ℕ) (b : Bool) (rest : List (ℕ × ℕ)) (s : Storage) → b ≡ test n → (is_local s ≡ true → b ≡ false)
      → sizes_where test ((if is_local s then [] else (n, size) ∷ []) ++ rest) ≡ (if b then size else 0) + sizes_where test rest
  one_array n size b rest Constant e none = ap (λ c. (if c then size else 0) + sizes_where test rest) (sym e)
  one_array n size b rest Global e none = ap (λ c. (if c then size else 0) + sizes_where test rest) (sym e)
  one_array n size b rest Local e none = let nothing : (if b then size else 0) ≡ 0 = ap (λ c. if c then size else 0) (none refl) in omega (arith, nothing)

  arrays_where : (count : ℕ) (marks : List Bool) (k : ℕ) (xs : List Object) → AreMarked count marks k xs → sizes_where test (arrays_sized (count + k) xs) ≡ sizes_placed marks k (map array_size xs)
  arrays_where count marks k [] are = refl
  arrays_where count marks k (x ∷ xs) are =
      let here = subst (λ n. (slice_index_or marks n false ≡ test (count + n)) × (is_local x.storage ≡ true → slice_index_or marks n false ≡ false)) (first k) (are 0 x refl) in
      let one = one_array (count + k) (array_size x) (slice_index_or marks k false) (arrays_sized (suc (count + k)) xs) x.storage here.0 here.1 in
      let rest = arrays_where count marks (suc k) xs (λ j y e. subst (λ n. (slice_index_or marks n false ≡ test (count + n)) × (is_local y.storage ≡ true → slice_index_or marks n false ≡ false)) (onward k j) (are (suc j) y e)) in
      let moved = subst (λ n. sizes_where test (arrays_sized n xs) ≡ sizes_placed marks (suc k) (map array_size xs)) (later count k) rest in
      one ∙ ap (λ n. (if slice_index_or marks k false then array_size x else 0) + n) moved
    where
      first : (n : ℕ) → n + 0 ≡ n
      first n = omega arith

      onward : (n m : ℕ) → n + suc m ≡ suc n + m
      onward n m = omega arith

      later : (n m : ℕ) → n + suc m ≡ suc (n + m)
      later n m = omega arith

  -- the functions and arrays with marks take what the items with these numbers do
  pub items_take : (t : Table) (ps : List Part) (before pl : Placement) (p : Placed) → ((j : ℕ) → j < length p.functions → slice_index_or pl.functions j false ≡ test j) → AreMarked (length p.functions) pl.objects 0 p.objects
      → placed_bytes pl p ≡ bytes_where test (items_of t ps (laid_of before p))
  items_take t ps before pl p same are =
      let count = length p.functions in
      let fs : List (ℕ × ℕ) = map (λ f. (f, code_size p f)) (range_with_len 0 count) in
      let by : bytes_where test (items_of t ps (laid_of before p)) ≡ sizes_where test fs + sizes_where test (arrays_sized count p.objects) = by_sizes t ps test (movables_of (laid_of before p)) ∙ ap (sizes_where test) (sizes_stay before p) ∙ sizes_join test fs (arrays_sized count p.objects) in
      let first = functions_where (code_size p) pl.functions 0 count (λ j lt. same j (omega (arith, lt))) in
      let own : count + 0 ≡ count = omega arith in
      let second = subst (λ n. sizes_where test (arrays_sized n p.objects) ≡ sizes_placed pl.objects 0 (map array_size p.objects)) own (arrays_where count pl.objects 0 p.objects are) in
      omega (arith, by, first, second)

module _ (t : Table) (ps : List Part) (l : Laid) where
  abbrev own : List Movable → List Item
  own ms = map (gained t ps) ms

  -- whole words
  module _ (is : IsSettled l) where
    functions_whole : (k n : ℕ) → k + n ≤ length l.program.functions → All HasWholeWords (own (map (function_item l) (range_with_len k n)))
    functions_whole k zero le = All-nil HasWholeWords
    functions_whole k (suc n) le =
        All-cons HasWholeWords (gained t ps (function_item l k)) (own (map (function_item l) (range_with_len (k + 1) n))) (function_movable l is k (omega (arith, le))).fours
        (functions_whole (k + 1) n (omega (arith, le)))

    arrays_whole : (k : ℕ) (xs : List Object) → All HasWholeWords (own (arrays_from l k xs))
    arrays_whole k [] = All-nil HasWholeWords
    arrays_whole k (x ∷ xs) = by_storage x.storage (arrays_whole (suc k) xs)
      where
        by_storage : (s : Storage) → All HasWholeWords (own (arrays_from l (suc k) xs)) → All HasWholeWords (own (unless (is_local s) (array_item l k x) ++ arrays_from l (suc k) xs))
        by_storage Constant rest = All-cons HasWholeWords (gained t ps (array_item l k x)) (own (arrays_from l (suc k) xs)) (array_movable l is k x).0 rest
        by_storage Global rest = All-cons HasWholeWords (gained t ps (array_item l k x)) (own (arrays_from l (suc k) xs)) (array_movable l is k x).0 rest
        by_storage Local rest = rest

    pub items_whole : All HasWholeWords (items_of t ps l)
    items_whole =
        let fs = map (function_item l) (range_with_len 0 (length l.program.functions)) in
        let arrays = arrays_from l 0 l.program.objects in
        subst (All HasWholeWords) (sym (map-append (gained t ps) fs arrays))
        (All-append HasWholeWords (own fs) (own arrays) (functions_whole 0 (length l.program.functions) (omega arith)) (arrays_whole 0 l.program.objects))
