use Rattle.std.proofs.Common.{ap, ◌∙◌}
use Rattle.rv_core.specs.Instructions.{instruction}
use Rattle.asm_program.specs.Operands.{operand_code, operand_register}
use Rattle.asm_program.specs.Emission.{store_op}
use Rattle.asm_emission.specs.View.{operand_of}
use Rattle.asm_emission.proofs.Passing.{emitted_one, offset-is}
use Rattle.asm_emission.proofs.plain.emit_write.Goals as goal

pub returns : goal.returns
returns c =
    let x = operand_of c.args.value in
    let register = operand_register c.args.frame.now 6 x in
    emitted_one c.args.code.now.items c.emit_operand.new.code.items c.emit.new.code.items (operand_code c.args.frame.now 6 x) c.write.result (instruction (store_op c.args.kind) 0 c.args.to.register register c.args.to.offset)
    c.in_ok-emit_operand.ensures c.in_ok-emit.ensures
    (c.write.ensures
    ∙ ap (instruction (store_op c.args.kind) 0 c.args.to.register c.operand_register-register.result) (offset-is c.args.to.offset c.requires.offset)
    ∙ ap (λ r. instruction (store_op c.args.kind) 0 c.args.to.register r c.args.to.offset) c.operand_register-register.ensures.value)
