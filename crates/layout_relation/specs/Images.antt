-- What an image takes, where its items lie, and how many claims it has.
use Rattle.std.specs.Prelude.{◌≡◌, ℕ, ◌+◌, ◌*◌, ◌≤◌, false, length, Some, slice_get, slice_index_or, sum_by}
use Rattle.rv_core.specs.declared.regions.Region.TheVariants.{Spm}
use Rattle.asm_items.specs.Placings.{base_of, blocks_of, blocks_size}
use Rattle.low_ir.specs.Arrays.{bytes_of}
use Rattle.low_ir.specs.Code.{Object}
use Rattle.low_ir.specs.Places.{Placed}
use Rattle.low_ir.specs.Room.{room}
use Rattle.asm_program.specs.Frames.{object_at}
use Rattle.asm_program.specs.Functions.{PlacedFunction}
use Rattle.simulation_relation.specs.Plans.{LiesIn}
use Rattle.image_frames.specs.Memories.{Placement}
use Rattle.image_definition.specs.Images.{image_in}
use Rattle.claims_definition.specs.Listed.{claims_of, placing}
use Rattle.claims_image.specs.Images.{laid_of}
use Rattle.claims_definition.specs.Movables.{array_item, code_region, function_item, movables_of}
use Rattle.layout_relation.specs.Segments.{bytes_kept, taken_in}
use Rattle.layout_relation.specs.Items.{array_region, instructions_in, scratchpad_size}
use Rattle.image_definition.specs.Sizes.{globals_size}

pub record AreSmall (pl : Placement) (p : Placed) : Type 0 where
  pub instructions : instructions_in pl p ≤ room p
  -- in bytes
  pub kept : bytes_kept (image_in pl p).segments ≤ 4 * instructions_in pl p + globals_size p.objects
  pub scratchpad : taken_in Spm (image_in pl p).segments ≤ scratchpad_size (movables_of (laid_of pl p))

-- functions and arrays lie in the regions of their items, which the placement says
pub record LieWherePlaced (pl : Placement) (p : Placed) : Type 0 where
  pub functions : (f : ℕ) → f ≤ length p.functions → LiesIn (function_item (laid_of pl p) f).region (base_of (placing (laid_of pl p)) f) (blocks_size (blocks_of (placing (laid_of pl p)) f))
  pub function_regions : (f : ℕ) → (function_item (laid_of pl p) f).region ≡ code_region (slice_index_or pl.functions f false)
  pub arrays : (o : ℕ) (x : Object) → slice_get p.objects o ≡ Some x → LiesIn (array_item (laid_of pl p) o x).region (object_at (laid_of pl p).memory o) (bytes_of x)
  pub array_regions : (o : ℕ) (x : Object) → slice_get p.objects o ≡ Some x → (array_item (laid_of pl p) o x).region ≡ array_region (slice_index_or pl.objects o false) x.storage

pub record AreCounted (pl : Placement) (p : Placed) : Type 0 where
  pub exits : length (claims_of (laid_of pl p)).exits ≤ instructions_in pl p
  pub regions : length (claims_of (laid_of pl p)).regions ≤ instructions_in pl p
  pub loops : length (claims_of (laid_of pl p)).loops ≤ sum_by (λ (fn : PlacedFunction). length fn.loops) p.functions
