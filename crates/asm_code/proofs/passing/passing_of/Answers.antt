use Rattle.std.proofs.Common.{length, map, take, All, sym, ap, ◌∙◌, subst}
use Rattle.std.proofs.lemmas.List.{length-map}
use Rattle.low_ir.specs.View as view
use Rattle.low_ir.specs.Places.{machine_registers, registers_of, place_operand}
use Rattle.asm_program.specs.Emission.{kept_among}
use Rattle.asm_program.specs.Functions.{function_in}
use Rattle.asm_program.specs.Ranges.{IsLasting, InOperand}
use Rattle.asm_emission.specs.View.{place_at}
use Rattle.asm_code.specs.Scopes.{program}
use Rattle.asm_code.proofs.Parameters.{few, parameters-there}
use Rattle.asm_code.proofs.passing.passing_of.Goals as goal

pub kept_among-requires : goal.kept_among-requires
kept_among-requires c =
    subst (All IsLasting) (sym c.as_slice.ensures.value) (parameters-there (program c.args.scope.now) c.args.function (length c.args.arguments.now) c.in_ok-places.places.items c.requires.program c.in_ok-places.ensures)

pub returns-clause-passes : goal.returns-clause-passes
returns-clause-passes c =
    let s = c.args.scope.now in
    let args = c.args.arguments.now in
    let read = map view.operand_of args in
    let pl = place_at s.places.now in
    let count = length-map read (place_operand pl) ∙ length-map args view.operand_of in
    record {
      places = c.in_ok-places.ensures ∙ ap (λ n. take n (function_in (program s) c.args.function).parameters) (sym count);
      arguments = c.in_ok-arguments.ensures;
      kept = c.in_ok-kept.ensures.value ∙ ap (λ ps. kept_among ps (registers_of machine_registers c.mask_at.result)) c.as_slice.ensures.value ∙ ap (λ m. kept_among c.in_ok-places.places.items (registers_of machine_registers m)) c.mask_at.ensures;
    }

pub returns-clause-fits : goal.returns-clause-fits
returns-clause-fits c =
    let s = c.args.scope.now in
    let args = c.args.arguments.now in
    let read = map view.operand_of args in
    let pl = place_at s.places.now in
    let count = length-map read (place_operand pl) ∙ length-map args view.operand_of in
    record {
      registers = parameters-there (program s) c.args.function (length c.args.arguments.now) c.in_ok-places.places.items c.requires.program c.in_ok-places.ensures;
      operands = subst (All InOperand) (sym c.in_ok-arguments.ensures) c.requires.arguments;
      below = c.in_ok-kept.ensures.below;
      few = few (program s) c.args.function (length c.args.arguments.now) c.in_ok-places.places.items c.in_ok-arguments.arguments.items (map (place_operand pl) read) c.in_ok-places.ensures c.in_ok-arguments.ensures (sym count);
    }
