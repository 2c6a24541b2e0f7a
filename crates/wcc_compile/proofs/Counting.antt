-- A program over places has as many functions and arrays as its low form.
use Rattle.std.proofs.Common.{◌≡◌, ℕ, suc, List, [], ◌∷◌, length, refl, sym, ap, ◌∙◌}
use Rattle.std.proofs.lemmas.List.{length-map}
use Rattle.low_ir.specs.declared.places.LowReg.{LowReg}
use Rattle.low_ir.specs.Code.{Function, Note}
use Rattle.low_ir.specs.Places.{Assignment, place_functions}
use Rattle.low_ir.specs.Placings.{assignment_of, placed_of}
use Rattle.low_ir.specs.Programs.{low_of}
use Rattle.low_ir.specs.View.{function_of, object_of}

as_many : (a : Assignment) (f : ℕ) (fns : List (Function ℕ Note)) → length (place_functions a f fns) ≡ length fns
as_many a f [] = refl
as_many a f (fn ∷ fns) = ap suc (as_many a (suc f) fns)

module _ (code : LowReg) (n : ℕ) where
  pub functions_many : n ≡ length code.low.functions.items → n ≡ length (placed_of code).functions
  functions_many e = e ∙ sym (length-map code.low.functions.items function_of) ∙ sym (as_many (assignment_of code) 0 (low_of code.low).functions)

  pub objects_many : n ≡ length code.low.objects.items → n ≡ length (placed_of code).objects
  objects_many e = e ∙ sym (length-map code.low.objects.items object_of)
