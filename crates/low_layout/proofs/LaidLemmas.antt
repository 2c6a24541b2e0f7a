-- A layout whose image has room is roomy, and lays its program.
use Rattle.std.proofs.Common.{sym, ap, ◌∙◌}
use Rattle.asm_forms.specs.declared.layouts.Layout.{Layout}
use Rattle.asm_forms.specs.Laid.{IsFormed}
use Rattle.asm_forms.specs.Regions.{bases_of, tables_from}
use Rattle.low_ir.specs.Places.{Placed}
use Rattle.image_frames.specs.Memories.{Placement}
use Rattle.image_definition.specs.Images.{FitsImage, formed_in, items_in, rows_in}
use Rattle.image_making.proofs.LayingLemmas.{bases_room}
use Rattle.claims_lists.specs.Places.{IsRoomy}

pub roomy : (pl : Placement) (p : Placed) (y : Layout) → IsFormed (rows_in pl p) (items_in pl p) y → FitsImage pl p → IsRoomy y
roomy pl p y formed fit = record {
  starts = formed.laid.starts ∙ sym (ap (λ b. tables_from b 0 y.functions.items) formed.laid.bases ∙ ap (tables_from (bases_of (rows_in pl p) (formed_in pl p)) 0) formed.laid.functions);
  room = bases_room pl p y formed fit;
}
