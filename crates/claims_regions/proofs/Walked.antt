-- What a walk over items puts into lines is what a laid program lists.
use Rattle.std.proofs.Common.{◌≡◌, ℕ, zero, suc, ◌+◌, List, [], ◌∷◌, ◌++◌, map, refl, sym, ap, ◌∙◌}
use Rattle.std.specs.Prelude.{Option, None, Some, slice_index_or}
use Rattle.std.specs.List.{flat_map}
use Rattle.std.proofs.lemmas.List.{map-append}
use Rattle.rv_core.specs.declared.regions.Region.{Region}
use Rattle.code_flow_system.specs.declared.claims.Within.{Within}
use Rattle.asm_items.specs.declared.item.Item.{Item}
use Rattle.asm_items.specs.Items.{size, total}
use Rattle.asm_items.specs.Placings.{Blocks}
use Rattle.claims_definition.specs.Lines.{Access, Letters, access_at, blocks_accesses, frame_letters, items_accesses, letters_of, line_of}
use Rattle.claims_definition.specs.Touches.{Touch, Nothing, OfFrame, OfArrays}
use Rattle.claims_regions.specs.declared.walks.Touched as touched
use Rattle.claims_regions.specs.Seen.{letters_in, seen, view}
use Rattle.claims_regions.specs.Singles.{blocks_singles, items_singles, single}

abbrev Seen : Type 0
Seen = Option touched.Touched

none_items : (a k : ℕ) (xs : List Item) → items_singles a [] k xs ≡ []
none_items a k [] = refl
none_items a zero (x ∷ xs) = none_items (a + size x) 1 xs
none_items a (suc k) (x ∷ xs) = none_items (a + size x) (suc (suc k)) xs

later_items : (a : ℕ) (t : Seen) (ts : List Seen) (k : ℕ) (xs : List Item) → items_singles a (t ∷ ts) (suc k) xs ≡ items_singles a ts k xs
later_items a t ts k [] = refl
later_items a t ts k (x ∷ xs) = ap (λ l. single a (slice_index_or ts k None) ++ l) (later_items (a + size x) t ts (suc k) xs)

none_blocks : (a k : ℕ) (bs : Blocks) → blocks_singles a [] k bs ≡ []
none_blocks a k [] = refl
none_blocks a zero (xs ∷ bs) = ap (λ l. l ++ blocks_singles (a + total xs) [] 1 bs) (none_items a 0 xs) ∙ none_blocks (a + total xs) 1 bs
none_blocks a (suc k) (xs ∷ bs) = ap (λ l. l ++ blocks_singles (a + total xs) [] (suc (suc k)) bs) (none_items a 0 xs) ∙ none_blocks (a + total xs) (suc (suc k)) bs

later_blocks : (a : ℕ) (ts : List Seen) (tss : List (List Seen)) (k : ℕ) (bs : Blocks) → blocks_singles a (ts ∷ tss) (suc k) bs ≡ blocks_singles a tss k bs
later_blocks a ts tss k [] = refl
later_blocks a ts tss k (xs ∷ bs) = ap (λ l. items_singles a (slice_index_or tss k []) 0 xs ++ l) (later_blocks (a + total xs) ts tss (suc k) bs)

abbrev line_by : ℕ → Letters → List Within
line_by a l = record { first = a; end = a + 4; flash = l.flash; spm = l.spm; ram = l.ram } ∷ []

module _ (regions : ℕ → Region) where
  single_is : (a : ℕ) (t : Seen) (u : Touch) → view t ≡ seen regions u → single a t ≡ map line_of (access_at regions a u)
  single_is a None Nothing e = refl
  single_is a None OfFrame e = cc
  single_is a None (OfArrays os) e = cc
  single_is a (Some t) Nothing e = cc
  single_is a (Some t) OfFrame e = let l : letters_in t ≡ frame_letters = cc in ap (line_by a) l
  single_is a (Some t) (OfArrays os) e = let l : letters_in t ≡ letters_of regions os = cc in ap (line_by a) l

  items_are : (a : ℕ) (ts : List Seen) (us : List Touch) (xs : List Item) → map view ts ≡ map (seen regions) us → items_singles a ts 0 xs ≡ map line_of (items_accesses regions a us xs)
  items_are a [] [] xs e = none_items a 0 xs
  items_are a [] (u ∷ us) xs e = cc
  items_are a (t ∷ ts) [] xs e = cc
  items_are a (t ∷ ts) (u ∷ us) [] e = refl
  items_are a (t ∷ ts) (u ∷ us) (x ∷ xs) e =
      let first : view t ≡ seen regions u = cc in
      let rest : map view ts ≡ map (seen regions) us = cc in
      ap (λ l. l ++ items_singles (a + size x) (t ∷ ts) 1 xs) (single_is a t u first)
      ∙ ap (λ l. map line_of (access_at regions a u) ++ l) (later_items (a + size x) t ts 0 xs ∙ items_are (a + size x) ts us xs rest)
      ∙ sym (map-append line_of (access_at regions a u) (items_accesses regions (a + size x) us xs))

  pub blocks_are : (a : ℕ) (tss : List (List Seen)) (uss : List (List Touch)) (bs : Blocks) → map (map view) tss ≡ map (map (seen regions)) uss → blocks_singles a tss 0 bs ≡ map line_of (blocks_accesses regions a uss bs)
  blocks_are a [] [] bs e = none_blocks a 0 bs
  blocks_are a [] (us ∷ uss) bs e = cc
  blocks_are a (ts ∷ tss) [] bs e = cc
  blocks_are a (ts ∷ tss) (us ∷ uss) [] e = refl
  blocks_are a (ts ∷ tss) (us ∷ uss) (xs ∷ bs) e =
      let first : map view ts ≡ map (seen regions) us = cc in
      let rest : map (map view) tss ≡ map (map (seen regions)) uss = cc in
      ap (λ l. l ++ blocks_singles (a + total xs) (ts ∷ tss) 1 bs) (items_are a ts us xs first)
      ∙ ap (λ l. map line_of (items_accesses regions a us xs) ++ l) (later_blocks (a + total xs) ts tss 0 bs ∙ blocks_are (a + total xs) tss uss bs rest)
      ∙ sym (map-append line_of (items_accesses regions a us xs) (blocks_accesses regions (a + total xs) uss bs))

  pub function_is : (all : List (List (List Seen))) (us : List (List (List Touch))) (f : ℕ) → map (map (map view)) all ≡ map (map (map (seen regions))) us → map (map view) (slice_index_or all f []) ≡ map (map (seen regions)) (slice_index_or us f [])
  function_is [] [] zero e = refl
  function_is [] [] (suc f) e = refl
  function_is [] (u ∷ us) f e = cc
  function_is (t ∷ all) [] f e = cc
  function_is (t ∷ all) (u ∷ us) zero e = cc
  function_is (t ∷ all) (u ∷ us) (suc f) e = let rest : map (map (map view)) all ≡ map (map (map (seen regions))) us = cc in function_is all us f rest

pub all_are : (g : ℕ → List Within) (h : ℕ → List Access) → ((f : ℕ) → g f ≡ map line_of (h f)) → (fs : List ℕ) → flat_map g fs ≡ map line_of (flat_map h fs)
all_are g h same [] = refl
all_are g h same (f ∷ fs) =
    ap (λ l. l ++ flat_map g fs) (same f)
    ∙ ap (λ l. map line_of (h f) ++ l) (all_are g h same fs)
    ∙ sym (map-append line_of (h f) (flat_map h fs))
