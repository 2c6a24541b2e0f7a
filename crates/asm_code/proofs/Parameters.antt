-- The places in which a call passes its arguments.
use Rattle.std.proofs.Common.{◌≡◌, ℕ, zero, suc, ◌≤◌, List, [], length, map, take, Some, None, All, refl, sym, ap, ◌∙◌, subst, arith}
use Rattle.std.specs.Prelude.{slice_get, slice_index_or}
use Rattle.std.proofs.lemmas.List.{length-map, length-take, take-map}
use Rattle.std.proofs.lemmas.List.Elements.{All-take}
use Rattle.low_ir.specs.declared.low.Function as functions
use Rattle.low_ir.specs.declared.places.Place.{Place}
use Rattle.low_ir.specs.declared.places.LowReg.{LowReg}
use Rattle.low_ir.specs.Code.{Operand}
use Rattle.low_ir.specs.View.{function_of}
use Rattle.low_ir.specs.Places.{Placed, no_placing}
use Rattle.low_ir.specs.Placings.{placings_of, assignment_of, placed_of}
use Rattle.low_ir.specs.Programs.{low_of}
use Rattle.asm_program.specs.Functions.{PlacedFunction, no_function, function_in}
use Rattle.asm_program.specs.Ranges.{IsLasting, InProgram}
use Rattle.asm_sound.proofs.Programs as sound
use Rattle.asm_emission.specs.declared.placed.PlacedOperand.{PlacedOperand}
use Rattle.asm_emission.specs.View.{operand_of, place_at}
use Rattle.asm_code.proofs.Placed.{function_at, none_at, map-get, map-none}

take-none : {A : Type 0} (n : ℕ) → take {A = A} n [] ≡ []
take-none zero = refl
take-none (suc n) = refl

pub parameters-some : (code : LowReg) (f n : ℕ) (x : functions.Function) → slice_get code.low.functions.items f ≡ Some x → map (place_at (slice_index_or (placings_of code) f no_placing).places) (take n x.parameters.items) ≡ take n (function_in (placed_of code) f).parameters
parameters-some code f n x e =
    let own = function_at (assignment_of code) (low_of code.low).functions f (function_of x) no_function (map-get function_of code.low.functions.items f x e) in
    sym (ap (λ (fn : PlacedFunction). take n fn.parameters) own ∙ take-map (place_at (slice_index_or (placings_of code) f no_placing).places) n x.parameters.items)

pub parameters-none : (code : LowReg) (f n : ℕ) → slice_get code.low.functions.items f ≡ None → [] ≡ take n (function_in (placed_of code) f).parameters
parameters-none code f n e =
    sym (ap (λ (fn : PlacedFunction). take n fn.parameters) (none_at (assignment_of code) 0 (low_of code.low).functions f no_function (map-none function_of code.low.functions.items f e)) ∙ take-none n)

pub parameters-there : (p : Placed) (callee n : ℕ) (places : List Place) → InProgram p → places ≡ take n (function_in p callee).parameters → All IsLasting places
parameters-there p callee n places h e = subst (All IsLasting) (sym e) (All-take IsLasting n (function_in p callee).parameters (sound.function_at p.functions callee h).0)

pub few : (p : Placed) (callee n : ℕ) (places : List Place) (xs : List PlacedOperand) (args : List (Operand Place)) → places ≡ take n (function_in p callee).parameters → map operand_of xs ≡ args → n ≡ length args → length places ≤ length xs
few p callee n places xs args e h k =
    let some = ap length e in
    let most = length-take n (function_in p callee).parameters in
    let same = ap length h in
    let count = length-map xs operand_of in
    omega arith
