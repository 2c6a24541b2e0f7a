-- What is promised of what an image takes, and of where its items lie.
use Rattle.std.specs.Prelude.{◌≡◌, map, All}
use Rattle.low_ir.specs.Places.{Placed}
use Rattle.image_frames.specs.Memories.{Placement}
use Rattle.image_frames.specs.Placings.{MovesItems}
use Rattle.image_definition.specs.Images.{FitsImage, image_in}
use Rattle.image_definition.specs.Sizes.{HasWords}
use Rattle.claims_definition.specs.ClaimLaws.{IsSettled}
use Rattle.claims_definition.specs.Listed.{regions_of}
use Rattle.claims_image.specs.Images.{laid_of}
use Rattle.claims_definition.specs.Movables.{movables_of}
use Rattle.layout_relation.specs.Segments.{AreFilled}
use Rattle.layout_relation.specs.Items.{HasElements, item_sizes, sized}
use Rattle.layout_relation.specs.Images.{AreCounted, AreSmall, LieWherePlaced}

-- the image has a segment that isn't empty in each region that a line names
abbrev pub RegionsAreFilled : Type 0
RegionsAreFilled = (pl : Placement) (p : Placed) → IsSettled (laid_of pl p) → FitsImage pl p → MovesItems pl p → HasElements p → All (AreFilled (image_in pl p).segments) (regions_of (laid_of pl p))

abbrev pub SegmentsAreSmall : Type 0
SegmentsAreSmall = (pl : Placement) (p : Placed) → IsSettled (laid_of pl p) → HasWords p → MovesItems pl p → AreSmall pl p

abbrev pub ItemsLie : Type 0
ItemsLie = (pl : Placement) (p : Placed) → IsSettled (laid_of pl p) → FitsImage pl p → LieWherePlaced pl p

abbrev pub ClaimsAreCounted : Type 0
ClaimsAreCounted = (pl : Placement) (p : Placed) → IsSettled (laid_of pl p) → AreCounted pl p

-- items have their numbers and sizes whatever is placed
abbrev pub ItemsKeepSizes : Type 0
ItemsKeepSizes = (pl : Placement) (p : Placed) → map sized (movables_of (laid_of pl p)) ≡ item_sizes p
