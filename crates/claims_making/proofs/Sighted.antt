-- What is seen by the regions of claims is what is seen of their arrays.
use Rattle.std.proofs.Common.{◌≡◌, ℕ, zero, suc, List, [], ◌∷◌, map, refl, ap, ◌∙◌}
use Rattle.std.specs.Prelude.{◌||◌, Bool, Some, slice_index_or}
use Rattle.rv_core.specs.declared.regions.Region.{Region}
use Rattle.rv_core.specs.declared.regions.Region.TheVariants.{Flash, Spm, Ram}
use Rattle.low_ir.specs.declared.places.LowReg.{LowReg}
use Rattle.low_ir.specs.Placings.{placed_of}
use Rattle.asm_program.specs.Frames.{Memory}
use Rattle.claims_definition.specs.Lines.{Letters, letters_of, same_region, touches_region}
use Rattle.claims_definition.specs.Touches.{Touch, Nothing, OfFrame, OfArrays, program_touches}
use Rattle.claims_regions.specs.Seen.{seen}
use Rattle.claims_touches.specs.declared.touch.Touch as names
use Rattle.claims_touches.specs.declared.touch.Touch.TheVariants as named
use Rattle.claims_touches.specs.Named.{AreTouches, touch_in}
use Rattle.claims_making.specs.Sights.{no_letters, seen_by}

-- one map for two
map_both : {A B C : Type 0} (f : A → C) (g : B → C) (h : A → B) → ((x : A) → f x ≡ g (h x)) → (xs : List A) → map f xs ≡ map g (map h xs)
map_both f g h same [] = refl
map_both f g h same (x ∷ xs) = ap (λ y. y ∷ map f xs) (same x) ∙ ap (λ ys. g (h x) ∷ ys) (map_both f g h same xs)

pub map_same : {A B : Type 0} (g h : A → B) → ((x : A) → g x ≡ h x) → (xs : List A) → map g xs ≡ map h xs
map_same g h same [] = refl
map_same g h same (x ∷ xs) = ap (λ y. y ∷ map g xs) (same x) ∙ ap (λ ys. h x ∷ ys) (map_same g h same xs)

module _ (regions : ℕ → Region) where
  letters_at : (claims : List (List ℕ)) (claim : ℕ) → slice_index_or (map (letters_of regions) claims) claim no_letters ≡ letters_of regions (slice_index_or claims claim [])
  letters_at [] zero = refl
  letters_at [] (suc claim) = refl
  letters_at (c ∷ claims) zero = refl
  letters_at (c ∷ claims) (suc claim) = letters_at claims claim

  seen_named : (claims : List (List ℕ)) (t : names.Touch) → seen_by regions (map (letters_of regions) claims) t ≡ seen regions (touch_in claims t)
  seen_named claims named.Nothing = refl
  seen_named claims named.Frame = refl
  seen_named claims (named.Array o) = refl
  seen_named claims (named.Claim claim) = ap (λ (l : Letters). Some l) (letters_at claims claim)

  pub program_seen : (code : LowReg) (m : Memory) (letters : List Letters) (all : List (List (List names.Touch))) → letters ≡ map (letters_of regions) (placed_of code).claims → AreTouches code m all → map (map (map (seen_by regions letters))) all ≡ map (map (map (seen regions))) (program_touches m (placed_of code))
  program_seen code m letters all e touches =
      let claims = (placed_of code).claims in
      let f = seen_by regions (map (letters_of regions) claims) in
      let g = seen regions in
      let h = touch_in claims in
      ap (λ l. map (map (map (seen_by regions l))) all) e
      ∙ map_both (map (map f)) (map (map g)) (map (map h)) (map_both (map f) (map g) (map h) (map_both f g h (seen_named claims))) all
      ∙ ap (map (map (map g))) touches

-- regions that are the same array by array
module _ (here there : ℕ → Region) (same : (o : ℕ) → here o ≡ there o) where
  region_same : (r : Region) (os : List ℕ) → touches_region here r os ≡ touches_region there r os
  region_same r [] = refl
  region_same r (o ∷ os) = ap (λ z. same_region r z || touches_region here r os) (same o) ∙ ap (λ z. same_region r (there o) || z) (region_same r os)

  letters_same : (os : List ℕ) → letters_of here os ≡ letters_of there os
  letters_same os =
      let build : Bool → Bool → Bool → Letters = λ f s r. record { flash = f; spm = s; ram = r } in
      ap (λ f. build f (touches_region here Spm os) (touches_region here Ram os)) (region_same Flash os)
      ∙ ap (λ s. build (touches_region there Flash os) s (touches_region here Ram os)) (region_same Spm os)
      ∙ ap (λ r. build (touches_region there Flash os) (touches_region there Spm os) r) (region_same Ram os)

  seen_same : (t : Touch) → seen here t ≡ seen there t
  seen_same Nothing = refl
  seen_same OfFrame = refl
  seen_same (OfArrays os) = ap (λ (l : Letters). Some l) (letters_same os)

  pub all_same : (all : List (List (List Touch))) → map (map (map (seen here))) all ≡ map (map (map (seen there))) all
  all_same all = map_same (map (map (seen here))) (map (map (seen there))) (map_same (map (seen here)) (map (seen there)) (map_same (seen here) (seen there) seen_same)) all
