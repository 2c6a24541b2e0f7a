use Rattle.low_ir.specs.View.{instr_of}
use Rattle.pass_strength_reduction_law.specs.Steps.{NamesNoSpare}
use Rattle.pass_strength_reduction.specs.Scenes.{is_spare}
use Rattle.low_parts.proofs.Filling.{all_done, all_step}
use Rattle.pass_strength_reduction.proofs.registers.code_names_none.Goals as goal

pub loop-instr-preserved : goal.loop-instr-preserved
loop-instr-preserved c = all_step instr_of (NamesNoSpare (is_spare c.args.spare.now)) c.args.code.now c.loop-instr.instr-index c.instr-item.result c.loop-instr-test.true c.instr-item.is c.loop-instr.invariant (c.in_ok-names_none.ensures c.if-not-branch.false)

pub returns : goal.returns
returns c = λ done. all_done instr_of (NamesNoSpare (is_spare c.args.spare.now)) c.args.code.now c.loop-instr.instr-index c.loop-instr-test.false c.loop-instr.invariant
