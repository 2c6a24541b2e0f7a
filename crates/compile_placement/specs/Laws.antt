-- What some of the items of a laid program are as a placement of it.
use Rattle.std.specs.Prelude.{◌≡◌, ℕ, ◌+◌, ◌*◌, ◌^◌, ◌≤◌, List, [], length, map, All}
use Rattle.rv_core.specs.Table.{Table}
use Rattle.code_flow_system.specs.declared.cert.Part.{Part}
use Rattle.low_ir.specs.Places.{Placed}
use Rattle.image_frames.specs.Memories.{Placement}
use Rattle.image_definition.specs.Sizes.{HasRoom, globals_size}
use Rattle.claims_definition.specs.ClaimLaws.{IsSettled}
use Rattle.claims_definition.specs.Listed.{Laid}
use Rattle.claims_image.specs.Images.{laid_of}
use Rattle.claims_definition.specs.Movables.{movables_of}
use Rattle.layout_relation.specs.Items.{HasElements}
use Rattle.image_frames.specs.Placings.{MovesItems}
use Rattle.spm_placement.specs.declared.item.Item.{Item}
use Rattle.spm_placement.specs.Gains.{gained}
use Rattle.spm_placement.specs.Placings.{AreApart}
use Rattle.spm_placement.specs.Sets.{AreBest, HasWholeWords, IsPartOf, bytes, number}
use Rattle.compile_stages.specs.Placed.{CanBePlaced, HasNumbers, placed_bytes}

-- the items of a program, with what they gain by a listed flow
abbrev pub items_of : Table → List Part → Laid → List Item
items_of t ps l = map (gained t ps) (movables_of l)

abbrev pub ItemsAreApart : Type 0
ItemsAreApart = (t : Table) (ps : List Part) (l : Laid) → AreApart (items_of t ps l)

abbrev pub ItemsAreWhole : Type 0
ItemsAreWhole = (t : Table) (ps : List Part) (l : Laid) → IsSettled l → All HasWholeWords (items_of t ps l)

-- there are at most as many as functions and words of arrays that aren't local, where no array is empty
abbrev pub ItemsAreFew : Type 0
ItemsAreFew = (t : Table) (ps : List Part) (l : Laid) → HasElements l.program → 4 * length (items_of t ps l) ≤ 4 * length l.program.functions + globals_size l.program.objects

-- a placement has the numbers of some of the items of a program, which gain by the layout under another one
pub record IsChoice (t : Table) (ps : List Part) (before : Placement) (p : Placed) (s : List Item) (pl : Placement) : Type 0 where
  pub part : IsPartOf s (items_of t ps (laid_of before p))
  pub placed : HasNumbers (map number s) p pl

abbrev pub ChoicesMoveItems : Type 0
ChoicesMoveItems = (t : Table) (ps : List Part) (before : Placement) (p : Placed) (s : List Item) (pl : Placement) → IsChoice t ps before p s pl → MovesItems pl p

-- what is placed takes what the items do
abbrev pub ChoicesTake : Type 0
ChoicesTake = (t : Table) (ps : List Part) (before : Placement) (p : Placed) (s : List Item) (pl : Placement) → IsChoice t ps before p s pl → placed_bytes pl p ≡ bytes s

-- nothing can be placed
abbrev pub NothingCanBePlaced : Type 0
NothingCanBePlaced = (p : Placed) → HasRoom p → CanBePlaced [] p

-- the best of what fits can be
abbrev pub ChoicesCanBePlaced : Type 0
ChoicesCanBePlaced =
    (t : Table) (ps : List Part) (before : Placement) (p : Placed) (capacity : ℕ) (ids : List ℕ) → HasRoom p → capacity ≤ 2 ^ 16 → AreBest (items_of t ps (laid_of before p)) capacity ids
    → CanBePlaced ids p

-- and takes at most the capacity
abbrev pub ChoicesFit : Type 0
ChoicesFit =
    (t : Table) (ps : List Part) (before : Placement) (p : Placed) (capacity : ℕ) (ids : List ℕ) (pl : Placement) → AreBest (items_of t ps (laid_of before p)) capacity ids → HasNumbers ids p pl
    → placed_bytes pl p ≤ capacity
