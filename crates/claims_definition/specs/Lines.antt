-- The lines of regions: accesses in the order of their addresses, each with the regions that it may touch.
use Rattle.std.specs.Prelude.{ℕ, ◌+◌, Bool, true, false, ◌&&◌, List, [], ◌∷◌, ◌++◌, if◌then◌else◌}
use Rattle.std.specs.List.{list_any}
use Rattle.rv_core.specs.declared.regions.Region.{Region}
use Rattle.rv_core.specs.declared.regions.Region.TheVariants.{Flash, Spm, Ram}
use Rattle.code_flow_system.specs.declared.claims.Within.{Within}
use Rattle.asm_items.specs.declared.item.Item.{Item}
use Rattle.asm_items.specs.Items.{size, total}
use Rattle.asm_items.specs.Placings.{Blocks}
use Rattle.claims_definition.specs.Touches.{Touch, Nothing, OfFrame, OfArrays}

-- the regions that an access may touch
pub record Letters : Type 0 where
  pub flash : Bool
  pub spm : Bool
  pub ram : Bool

abbrev pub same_region : Region → Region → Bool
same_region Flash Flash = true
same_region Spm Spm = true
same_region Ram Ram = true
same_region r s = false

-- some array of these lies in the region
abbrev pub touches_region : (ℕ → Region) → Region → List ℕ → Bool
touches_region regions r os = list_any (λ o. same_region r (regions o)) os

abbrev pub letters_of : (ℕ → Region) → List ℕ → Letters
letters_of regions os = record { flash = touches_region regions Flash os; spm = touches_region regions Spm os; ram = touches_region regions Ram os }

-- frames lie in RAM
abbrev pub frame_letters : Letters
frame_letters = record { flash = false; spm = false; ram = true }

-- a load or store at an address
pub record Access : Type 0 where
  pub at : ℕ
  pub letters : Letters

abbrev pub access_at : (ℕ → Region) → ℕ → Touch → List Access
access_at regions a Nothing = []
access_at regions a OfFrame = record { at = a; letters = frame_letters } ∷ []
access_at regions a (OfArrays os) = record { at = a; letters = letters_of regions os } ∷ []

-- of items from an address on, and what they touch
abbrev pub items_accesses : (ℕ → Region) → ℕ → List Touch → List Item → List Access
items_accesses regions a [] xs = []
items_accesses regions a (t ∷ ts) [] = []
items_accesses regions a (t ∷ ts) (x ∷ xs) = access_at regions a t ++ items_accesses regions (a + size x) ts xs

abbrev pub blocks_accesses : (ℕ → Region) → ℕ → List (List Touch) → Blocks → List Access
blocks_accesses regions a [] bs = []
blocks_accesses regions a (ts ∷ tss) [] = []
blocks_accesses regions a (ts ∷ tss) (xs ∷ bs) = items_accesses regions a ts xs ++ blocks_accesses regions (a + total xs) tss bs

abbrev pub same : Bool → Bool → Bool
same true b = b
same false true = false
same false false = true

abbrev pub goes_on : Letters → Within → Bool
goes_on l w = same l.flash w.flash && (same l.spm w.spm && same l.ram w.ram)

abbrev pub line_of : Access → Within
line_of x = record { first = x.at; end = x.at + 4; flash = x.letters.flash; spm = x.letters.spm; ram = x.letters.ram }

abbrev pub from : ℕ → Within → Within
from a w = record { first = a; end = w.end; flash = w.flash; spm = w.spm; ram = w.ram }

-- a line goes on for as long as the letters are the same
abbrev pub before : Access → List Within → List Within
before x [] = line_of x ∷ []
before x (w ∷ ws) = if goes_on x.letters w then from x.at w ∷ ws else line_of x ∷ (w ∷ ws)

abbrev pub lines : List Access → List Within
lines [] = []
lines (x ∷ xs) = before x (lines xs)
