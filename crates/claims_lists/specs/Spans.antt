-- The spans of functions in a layout, and the shapes of loops.
use Rattle.std.specs.Prelude.{ℕ, List, map, None}
use Rattle.std.specs.List.{range_with_len}
use Rattle.code_flow_system.specs.declared.claims.LoopClaim.{LoopClaim}
use Rattle.code_flow_system.specs.declared.shapes.LoopShape.{LoopShape}
use Rattle.code_flow_system.specs.declared.shapes.Span.{Span}
use Rattle.asm_forms.specs.declared.layouts.Layout.{Layout}
use Rattle.claims_lists.specs.Places.{end_in, start_in}

abbrev pub span_in : Layout → ℕ → Span
span_in y f = record { first = start_in y f 0; end = end_in y f }

-- of n functions, by number
abbrev pub spans_in : Layout → ℕ → List Span
spans_in y n = map (span_in y) (range_with_len 0 n)

-- the shape of a loop, without the loop around it
abbrev pub shape_in : LoopClaim → LoopShape
shape_in c = record { header = c.header; back = c.back; parent = None; first = c.header; last = c.back }
