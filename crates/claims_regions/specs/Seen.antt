-- What an item touches, as the regions in which that may lie.
use Rattle.std.specs.Prelude.{◌≡◌, ℕ, List, map, Option, None, Some, option_map}
use Rattle.rv_core.specs.declared.regions.Region.{Region}
use Rattle.claims_definition.specs.Lines.{Letters, frame_letters, letters_of}
use Rattle.claims_definition.specs.Touches.{Touch, Nothing, OfFrame, OfArrays, program_touches}
use Rattle.claims_definition.specs.Listed.{Laid}
use Rattle.claims_regions.specs.declared.walks.Touched as touched

abbrev pub letters_in : touched.Touched → Letters
letters_in t = record { flash = t.flash; spm = t.spm; ram = t.ram }

abbrev pub seen : (ℕ → Region) → Touch → Option Letters
seen regions Nothing = None
seen regions OfFrame = Some frame_letters
seen regions (OfArrays os) = Some (letters_of regions os)

abbrev pub view : Option touched.Touched → Option Letters
view t = option_map letters_in t

-- by function, block and item, the regions of what the items of a laid program touch
abbrev pub AreSeen : Laid → List (List (List (Option touched.Touched))) → Type 0
AreSeen l all = map (map (map view)) all ≡ map (map (map (seen l.regions))) (program_touches l.memory l.program)
