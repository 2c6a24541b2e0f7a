-- What is laid of a program.
use Rattle.std.specs.Prelude.{◌≡◌, suc, length, map}
use Rattle.asm_graphs.specs.Laid.{spans_from}
use Rattle.low_ir.specs.declared.places.LowReg.{LowReg}
use Rattle.low_ir.specs.Placings.{placed_of}
use Rattle.image_frames.specs.Memories.{Placement}
use Rattle.image_definition.specs.Images.{image_in}
use Rattle.claims_definition.specs.Listed as listed
use Rattle.claims_definition.specs.Listed.{claims_of, code_ranges, placing, places_below}
use Rattle.claims_definition.specs.Shapes.{AreShaped}
use Rattle.claims_definition.specs.Movables.{movables_of, movable_of}
use Rattle.claims_lists.specs.Lists.{range_of}
use Rattle.claims_image.specs.Images.{laid_of}
use Rattle.layout_program.specs.declared.laid.Claimed.{Claimed}
use Rattle.layout_program.specs.declared.laid.Lists.{Lists}
use Rattle.layout_program.specs.declared.laid.Laid.{Laid}

-- the claims on a laid program, and the shapes of its loops
pub record AreClaimed (l : listed.Laid) (y : Claimed) : Type 0 where
  pub claims : y.claims ≡ claims_of l
  pub shapes : AreShaped (claims_of l).loops y.shapes.items

-- the lists of a laid program of the code
pub record AreListed (code : LowReg) (l : listed.Laid) (y : Lists) : Type 0 where
  pub spans : y.spans.items ≡ spans_from (placing l) 0 (suc (length l.program.functions))
  pub ranges : map range_of y.ranges.items ≡ code_ranges l
  -- a list for each mark
  pub places : y.places.items ≡ places_below l code.low.marks
  pub items : map movable_of y.items.items ≡ movables_of l

pub record IsLaid (pl : Placement) (code : LowReg) (y : Laid) : Type 0 where
  pub image : y.image ≡ image_in pl (placed_of code)
  pub claimed : AreClaimed (laid_of pl (placed_of code)) y.claimed
  pub lists : AreListed code (laid_of pl (placed_of code)) y.lists
