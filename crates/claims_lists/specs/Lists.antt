-- The lists of a laid program.
use Rattle.std.specs.Prelude.{◌≡◌, ℕ, List, Option, None, slice_index_or}
use Rattle.asm_forms.specs.declared.layouts.Layout.{Layout}
use Rattle.asm_forms.specs.Laid.{IsLaid}
use Rattle.low_ir.specs.declared.places.LowReg.{LowReg}
use Rattle.low_ir.specs.Placings.{placed_of}
use Rattle.claims_definition.specs.Listed.{CodeRange, Laid, functions_of}
use Rattle.claims_lists.specs.declared.laying.Laying.{Laying}
use Rattle.claims_lists.specs.declared.ranges.CodeRange as ranges
use Rattle.claims_lists.specs.Outlines.{outline_at}
use Rattle.claims_lists.specs.Places.{base_in, end_in}

-- the code is that of this laid program, and the layout is where it lies
pub record IsOf (y : Laying) (l : Laid) : Type 0 where
  pub program : l.program ≡ placed_of y.code.now
  pub placed : l.rows.placed ≡ y.placed.now
  pub laid : IsLaid l.rows (functions_of l) y.layout.now

-- the first of a function's marks
abbrev pub first_mark : List (Option ℕ) → Option ℕ
first_mark ms = slice_index_or ms 0 None

abbrev pub range_of : ranges.CodeRange → CodeRange
range_of r = record { function = r.function; first = r.first; end = r.end }

abbrev pub range_in : LowReg → Layout → ℕ → CodeRange
range_in code y f = record { function = first_mark (outline_at code f).marks; first = base_in y f; end = end_in y f }
