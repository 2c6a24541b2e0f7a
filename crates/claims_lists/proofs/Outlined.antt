-- A program over its places has the loops and marks of the code.
use Rattle.std.proofs.Common.{◌≡◌, ℕ, zero, suc, ◌+◌, List, [], ◌∷◌, length, map, refl, ap}
use Rattle.std.specs.Prelude.{slice_index_or}
use Rattle.low_ir.specs.declared.low.Block as blocks
use Rattle.low_ir.specs.declared.low.Function as functions
use Rattle.low_ir.specs.declared.places.Place.{Place}
use Rattle.low_ir.specs.declared.places.LowReg.{LowReg}
use Rattle.low_ir.specs.View.{block_of, function_of}
use Rattle.low_ir.specs.Places.{Assignment, place_blocks, place_functions}
use Rattle.low_ir.specs.Placings.{assignment_of, placed_of}
use Rattle.asm_program.specs.Functions.{function_in, no_function}
use Rattle.claims_lists.specs.Outlines.{block_mark, mark_in, no_outline, outline, outline_at, outline_of}

marks_same : (pl : ℕ → Place) (kept : ℕ → List ℕ) (p : ℕ) (bs : List blocks.Block) → map mark_in (place_blocks pl kept p (map block_of bs)) ≡ map block_mark bs
marks_same pl kept p [] = refl
marks_same pl kept p (b ∷ bs) = ap (λ ms. block_mark b ∷ ms) (marks_same pl kept (p + suc (length (block_of b).code)) bs)

none_same : (f : ℕ) → outline (slice_index_or [] f no_function) ≡ slice_index_or [] f no_outline
none_same zero = refl
none_same (suc f) = refl

module _ (a : Assignment) where
  same_from : (k : ℕ) (xs : List functions.Function) (f : ℕ) → outline (slice_index_or (place_functions a k (map function_of xs)) f no_function) ≡ slice_index_or (map outline_of xs) f no_outline
  same_from k [] f = none_same f
  same_from k (x ∷ xs) zero = ap (λ ms. record { loops = (function_of x).loops; marks = ms }) (marks_same (a.place k) (a.kept k) 0 x.blocks.items)
  same_from k (x ∷ xs) (suc f) = same_from (suc k) xs f

pub outline_same : (code : LowReg) (f : ℕ) → outline (function_in (placed_of code) f) ≡ outline_at code f
outline_same code f = same_from (assignment_of code) 0 code.low.functions.items f
