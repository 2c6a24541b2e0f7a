use Rattle.std.proofs.Common.{map, sym, ap, ◌∙◌, subst}
use Rattle.low_ir.specs.Placings.{assignment_of, placed_of}
use Rattle.low_ir.specs.Programs.{low_of}
use Rattle.asm_program.specs.Ranges.{InProgram}
use Rattle.asm_code.specs.Scopes.{memory, program}
use Rattle.asm_code.proofs.Registers.{placed_there}
use Rattle.asm_code.proofs.Steps.{own-blocks, own-there}
use Rattle.claims_definition.specs.Touches.{function_touches}
use Rattle.claims_touches.specs.Named.{touch_in}
use Rattle.claims_touches.proofs.programs.touches_of_function.Goals as goal

pub function_touches-requires-clause-program : goal.function_touches-requires-clause-program
function_touches-requires-clause-program c =
    let code = c.args.code.now in
    subst (λ z. InProgram (placed_of z)) (sym c.in_ok-scope.ensures.scope.program_is) (placed_there (assignment_of code) (low_of code.low) code.low.is_low code.is_assignment)

pub function_touches-requires-clause-own : goal.function_touches-requires-clause-own
function_touches-requires-clause-own c =
    own-blocks c.args.code.now c.args.memory.now c.args.number c.in_ok-scope.scope c.args.function.now c.as_slice.result.now c.in_ok-scope.ensures.scope c.requires c.as_slice.ensures.value

pub function_touches-requires-clause-there : goal.function_touches-requires-clause-there
function_touches-requires-clause-there c =
    let code = c.args.code.now in
    let s = c.in_ok-scope.scope in
    let all = subst (λ z. InProgram (placed_of z)) (sym c.in_ok-scope.ensures.scope.program_is) (placed_there (assignment_of code) (low_of code.low) code.low.is_low code.is_assignment) in
    own-there (program s) s.number _ all (own-blocks code c.args.memory.now c.args.number s c.args.function.now c.as_slice.result.now c.in_ok-scope.ensures.scope c.requires c.as_slice.ensures.value)

pub returns : goal.returns
returns c =
    let code = c.args.code.now in
    let s = c.in_ok-scope.scope in
    let is = c.in_ok-scope.ensures.scope in
    ap (λ z. map (map (touch_in (placed_of z).claims)) c.in_ok-touches.touches) (sym is.program_is)
    ∙ c.in_ok-touches.ensures
    ∙ ap (λ z. function_touches (memory s) (placed_of z) s.number) is.program_is
    ∙ ap (λ m. function_touches m (placed_of code) s.number) is.memory_is
    ∙ ap (function_touches c.args.memory.now (placed_of code)) is.number_is
