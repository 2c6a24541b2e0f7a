use Rattle.std.proofs.Common.{◌+◌, ◌<◌, length, map, drop, arith}
use Rattle.asm_program.specs.Emission.{pass_code}
use Rattle.asm_emission.specs.View.{operand_of}
use Rattle.asm_emission.proofs.Passing.{emitted, drop-next, operand-there, pass-step, pass-done}
use Rattle.asm_emission.proofs.calls.emit_pass.Goals as goal

pub emit_passed-requires-clause-argument : goal.emit_passed-requires-clause-argument
emit_passed-requires-clause-argument c =
    let test = c.loop-index-test.true in
    let few = c.requires.few in
    let less : c.loop-index.index < length c.args.arguments.now = omega arith in
    operand-there c.args.arguments.now c.loop-index.index _ c.requires.arguments less

pub loop-index-preserved : goal.loop-index-preserved
loop-index-preserved c =
    let test = c.loop-index-test.true in
    let few = c.requires.few in
    let k = c.loop-index.index in
    let fr = c.args.frame.now in
    let callee = c.args.callee.now in
    let args = c.args.arguments.now in
    let places = c.args.places.now in
    let less : k < length args = omega arith in
    emitted c.loop-index.code.items c.emit_passed.new.code.items _ _ (pass_code fr callee places (map operand_of (drop (k + 1) args)) (drop (k + 1) places)) (pass_code fr callee places (map operand_of (drop k args)) (drop k places))
    c.in_ok-emit_passed.ensures
    (pass-step fr callee places args places k _ _ c.goes_at_once-direct.result (drop-next args k _ less) (drop-next places k _ test) c.goes_at_once-direct.ensures)
    c.loop-index.invariant

pub returns : goal.returns
returns c =
    let past = c.loop-index-test.false in
    let args = map operand_of (drop c.loop-index.index c.args.arguments.now) in
    pass-done c.args.frame.now c.args.callee.now c.args.places.now args c.args.places.now c.loop-index.index c.loop-index.code.items _ past c.loop-index.invariant
