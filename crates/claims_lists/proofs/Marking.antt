-- The addresses of one mark among those of all.
use Rattle.std.proofs.Common.{◌≡◌, ℕ, suc, Bool, true, false, List, [], ◌∷◌, ◌++◌, map, refl, sym, ap, ◌∙◌}
use Rattle.std.specs.Prelude.{◌==◌, Option, None, Some, slice_index, if◌then◌else◌}
use Rattle.std.specs.List.{flat_map}
use Rattle.std.proofs.lemmas.List.{map-append}
use Rattle.asm_program.specs.Functions.{PlacedBlock}
use Rattle.claims_definition.specs.Listed as listed
use Rattle.claims_lists.specs.declared.marks.Marked.{Marked}
use Rattle.claims_lists.specs.Marks.{marked, marked_from, places_among}
use Rattle.claims_lists.specs.Outlines.{mark_in}

module _ (mark : ℕ) where
  either : (b : Bool) (a : ℕ) (xs ys : List ℕ) → (if b then a ∷ (xs ++ ys) else xs ++ ys) ≡ (if b then a ∷ xs else xs) ++ ys
  either true a xs ys = refl
  either false a xs ys = refl

  among_both : (xs ys : List Marked) → places_among mark (xs ++ ys) ≡ places_among mark xs ++ places_among mark ys
  among_both [] ys = refl
  among_both (x ∷ xs) ys =
      ap (λ l. if x.mark == mark then x.at ∷ l else l) (among_both xs ys)
      ∙ either (x.mark == mark) x.at (places_among mark xs) (places_among mark ys)

  among_one : (start : List ℕ) (b : ℕ) (m : Option ℕ) → places_among mark (marked m (slice_index start b)) ≡ map (slice_index start) (listed.marked_here mark b m)
  among_one start b None = refl
  among_one start b (Some m) = by_test (m == mark)
    where
      by_test : (t : Bool) → (if t then slice_index start b ∷ [] else []) ≡ map (slice_index start) (if t then b ∷ [] else [])
      by_test true = refl
      by_test false = refl

  pub among_blocks : (start : List ℕ) (b : ℕ) (bs : List PlacedBlock) → places_among mark (marked_from start b (map mark_in bs)) ≡ map (slice_index start) (listed.marked_from mark b bs)
  among_blocks start b [] = refl
  among_blocks start b (x ∷ bs) =
      among_both (marked x.mark (slice_index start b)) (marked_from start (suc b) (map mark_in bs))
      ∙ ap (λ l. l ++ places_among mark (marked_from start (suc b) (map mark_in bs))) (among_one start b x.mark)
      ∙ ap (λ l. map (slice_index start) (listed.marked_here mark b x.mark) ++ l) (among_blocks start (suc b) bs)
      ∙ sym (map-append (slice_index start) (listed.marked_here mark b x.mark) (listed.marked_from mark (suc b) bs))

  pub among_all : (g : ℕ → List Marked) (h : ℕ → List ℕ) → ((f : ℕ) → places_among mark (g f) ≡ h f) → (fs : List ℕ) → places_among mark (flat_map g fs) ≡ flat_map h fs
  among_all g h same [] = refl
  among_all g h same (f ∷ fs) =
      among_both (g f) (flat_map g fs)
      ∙ ap (λ l. l ++ places_among mark (flat_map g fs)) (same f)
      ∙ ap (λ l. h f ++ l) (among_all g h same fs)
