-- The regions of what is touched, by those of the arrays of each claim.
use Rattle.std.specs.Prelude.{ℕ, false, List, [], ◌∷◌, map, Option, None, Some, slice_index_or}
use Rattle.rv_core.specs.declared.regions.Region.{Region}
use Rattle.rv_core.specs.declared.regions.Region.TheVariants.{Ram}
use Rattle.claims_definition.specs.Lines.{Letters, frame_letters, letters_of}
use Rattle.claims_touches.specs.declared.touch.Touch as names
use Rattle.claims_touches.specs.declared.touch.Touch.TheVariants as named
use Rattle.claims_regions.specs.Seen.{letters_in}
use Rattle.claims_making.specs.declared.sights.Sights.{Sights}

-- an array that the list doesn't reach lies in RAM
abbrev pub region_in : List Region → ℕ → Region
region_in regions o = slice_index_or regions o Ram

abbrev pub no_letters : Letters
no_letters = record { flash = false; spm = false; ram = false }

abbrev pub seen_by : (ℕ → Region) → List Letters → names.Touch → Option Letters
seen_by regions claims named.Nothing = None
seen_by regions claims named.Frame = Some frame_letters
seen_by regions claims (named.Array o) = Some (letters_of regions (o ∷ []))
seen_by regions claims (named.Claim claim) = Some (slice_index_or claims claim no_letters)

abbrev pub seen_in : Sights → names.Touch → Option Letters
seen_in s = seen_by (region_in s.regions.now) (map letters_in s.claims.now)
