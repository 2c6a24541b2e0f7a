-- Where no array lies in the scratchpad, no line of regions names it.
use Rattle.std.proofs.Common.{◌≡◌, ℕ, ◌+◌, Bool, true, false, List, [], ◌∷◌, refl, ap, ◌∙◌, if◌then◌else◌}
use Rattle.std.specs.Prelude.{All, ◌||◌, slice_index_or}
use Rattle.std.specs.List.{flat_map, list_any}
use Rattle.std.proofs.lemmas.List.Elements.{All-append, All-cons, All-head, All-nil, All-tail}
use Rattle.rv_core.specs.declared.regions.Region.{Region}
use Rattle.rv_core.specs.declared.regions.Region.TheVariants.{Spm}
use Rattle.code_flow_system.specs.declared.claims.Within.{Within}
use Rattle.asm_items.specs.declared.item.Item.{Item}
use Rattle.asm_items.specs.Items.{size, total}
use Rattle.asm_items.specs.Placings.{Blocks, base_of, blocks_of}
use Rattle.claims_definition.specs.Lines.{Access, access_at, before, blocks_accesses, frame_letters, from, goes_on, items_accesses, letters_of, line_of, lines, same_region}
use Rattle.claims_definition.specs.Touches.{Touch, Nothing, OfFrame, OfArrays, program_touches}
use Rattle.claims_definition.specs.Listed.{Laid, accesses_in, accesses_of, by_address, placing, regions_of}

abbrev pub IsQuiet : Within → Type 0
IsQuiet w = w.spm ≡ false

abbrev Spares : Access → Type 0
Spares x = x.letters.spm ≡ false

before_quiet : (x : Access) (ws : List Within) → Spares x → All IsQuiet ws → All IsQuiet (before x ws)
before_quiet x [] e h = All-cons IsQuiet (line_of x) [] e (All-nil IsQuiet)
before_quiet x (w ∷ ws) e h = by_test (goes_on x.letters w)
  where
    by_test : (b : Bool) → All IsQuiet (if b then from x.at w ∷ ws else line_of x ∷ (w ∷ ws))
    by_test true = All-cons IsQuiet (from x.at w) ws (All-head IsQuiet w ws h) (All-tail IsQuiet w ws h)
    by_test false = All-cons IsQuiet (line_of x) (w ∷ ws) e h

lines_quiet : (xs : List Access) → All Spares xs → All IsQuiet (lines xs)
lines_quiet [] h = All-nil IsQuiet
lines_quiet (x ∷ xs) h = before_quiet x (lines xs) (All-head Spares x xs h) (lines_quiet xs (All-tail Spares x xs h))

module _ (regions : ℕ → Region) (none : (o : ℕ) → same_region Spm (regions o) ≡ false) where
  none_of : (os : List ℕ) → list_any (λ o. same_region Spm (regions o)) os ≡ false
  none_of [] = refl
  none_of (o ∷ os) = ap (λ b. b || list_any (λ n. same_region Spm (regions n)) os) (none o) ∙ none_of os

  touch_spares : (a : ℕ) (t : Touch) → All Spares (access_at regions a t)
  touch_spares a Nothing = All-nil Spares
  touch_spares a OfFrame = All-cons Spares (record { at = a; letters = frame_letters }) [] refl (All-nil Spares)
  touch_spares a (OfArrays os) = All-cons Spares (record { at = a; letters = letters_of regions os }) [] (none_of os) (All-nil Spares)

  items_spare : (a : ℕ) (ts : List Touch) (xs : List Item) → All Spares (items_accesses regions a ts xs)
  items_spare a [] xs = All-nil Spares
  items_spare a (t ∷ ts) [] = All-nil Spares
  items_spare a (t ∷ ts) (x ∷ xs) = All-append Spares (access_at regions a t) (items_accesses regions (a + size x) ts xs) (touch_spares a t) (items_spare (a + size x) ts xs)

  blocks_spare : (a : ℕ) (tss : List (List Touch)) (bs : Blocks) → All Spares (blocks_accesses regions a tss bs)
  blocks_spare a [] bs = All-nil Spares
  blocks_spare a (ts ∷ tss) [] = All-nil Spares
  blocks_spare a (ts ∷ tss) (xs ∷ bs) = All-append Spares (items_accesses regions a ts xs) (blocks_accesses regions (a + total xs) tss bs) (items_spare a ts xs) (blocks_spare (a + total xs) tss bs)

module _ (l : Laid) (none : (o : ℕ) → same_region Spm (l.regions o) ≡ false) where
  functions_spare : (fs : List ℕ) → All Spares (flat_map (accesses_in l) fs)
  functions_spare [] = All-nil Spares
  functions_spare (f ∷ fs) =
      All-append Spares (accesses_in l f) (flat_map (accesses_in l) fs) (blocks_spare l.regions none (base_of (placing l) f) (slice_index_or (program_touches l.memory l.program) f []) (blocks_of (placing l) f)) (functions_spare fs)

  pub quiet : All IsQuiet (regions_of l)
  quiet = lines_quiet (accesses_of l) (functions_spare (by_address l))
