use Rattle.std.proofs.Common.{◌≤◌, length, arith}
use Rattle.low_ir.specs.Placings.{assignment_of, placed_of}
use Rattle.asm_code.proofs.Steps.{functions-done}
use Rattle.asm_code.proofs.programs.all_functions.Goals as goal

pub returns : goal.returns
returns c =
    let code = c.args.code.now in
    let past : length code.low.functions.items ≤ c.loop-number.number = omega arith in
    functions-done (assignment_of code) c.args.memory.now (placed_of code) c.loop-number.all.items c.loop-number.number code.low.functions.items past c.loop-number.invariant
