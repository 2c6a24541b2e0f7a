-- What the lists of laid code take from a program: the loops of each function, and the marks of its blocks.
use Rattle.std.specs.Prelude.{ℕ, List, [], map, Option, slice_index_or}
use Rattle.low_ir.specs.declared.low.Block as blocks
use Rattle.low_ir.specs.declared.low.Function as functions
use Rattle.low_ir.specs.declared.places.LowReg.{LowReg}
use Rattle.low_ir.specs.Code.{Block, Function, Loop}
use Rattle.low_ir.specs.View.{loop_of}

pub record Outline : Type 0 where
  pub loops : List Loop
  pub marks : List (Option ℕ)

abbrev pub mark_in : {R K : Type 0} → Block R K → Option ℕ
mark_in b = b.mark

abbrev pub outline : {R K : Type 0} → Function R K → Outline
outline fn = record { loops = fn.loops; marks = map mark_in fn.blocks }

abbrev pub no_outline : Outline
no_outline = record { loops = []; marks = [] }

-- of a function in the code
abbrev pub block_mark : blocks.Block → Option ℕ
block_mark b = b.mark

abbrev pub outline_of : functions.Function → Outline
outline_of fn = record { loops = map loop_of fn.loops.items; marks = map block_mark fn.blocks.items }

abbrev pub outlines : LowReg → List Outline
outlines code = map outline_of code.low.functions.items

-- of function f; the start code, which comes behind the functions, has none
abbrev pub outline_at : LowReg → ℕ → Outline
outline_at code f = slice_index_or (outlines code) f no_outline
