use Rattle.std.proofs.Common.{subst, sym}
use Rattle.low_ir.specs.Placings.{assignment_of, placed_of}
use Rattle.low_ir.specs.Programs.{low_of}
use Rattle.asm_program.specs.Ranges.{InProgram}
use Rattle.asm_code.specs.Scopes.{program}
use Rattle.asm_code.proofs.Registers.{placed_there}
use Rattle.asm_code.proofs.Steps.{own-blocks, own-there}
use Rattle.asm_code.proofs.programs.items_of_function.Goals as goal

pub function_items-requires-clause-program : goal.function_items-requires-clause-program
function_items-requires-clause-program c =
    let code = c.args.code.now in
    subst (λ z. InProgram (placed_of z)) (sym c.in_ok-scope.ensures.scope.program_is) (placed_there (assignment_of code) (low_of code.low) code.low.is_low code.is_assignment)

pub function_items-requires-clause-own : goal.function_items-requires-clause-own
function_items-requires-clause-own c =
    own-blocks c.args.code.now c.args.memory.now c.args.number c.in_ok-scope.scope c.args.function.now c.as_slice.result.now c.in_ok-scope.ensures.scope c.requires c.as_slice.ensures.value

pub function_items-requires-clause-there : goal.function_items-requires-clause-there
function_items-requires-clause-there c =
    let code = c.args.code.now in
    let s = c.in_ok-scope.scope in
    let all = subst (λ z. InProgram (placed_of z)) (sym c.in_ok-scope.ensures.scope.program_is) (placed_there (assignment_of code) (low_of code.low) code.low.is_low code.is_assignment) in
    own-there (program s) s.number _ all (own-blocks code c.args.memory.now c.args.number s c.args.function.now c.as_slice.result.now c.in_ok-scope.ensures.scope c.requires c.as_slice.ensures.value)
