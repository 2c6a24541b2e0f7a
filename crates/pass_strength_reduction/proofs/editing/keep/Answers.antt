use Rattle.low_ir.specs.View.{instr_of}
use Rattle.pass_strength_reduction.proofs.Making.{keeps}
use Rattle.pass_strength_reduction.proofs.editing.keep.Goals as goal

pub returns : goal.returns
returns c = λ sc size. keeps sc c.args.registers (instr_of c.args.instr.now) (instr_of c.in_ok-same.same) c.args.known.now.facts.items c.pass.new.self.facts.items size c.in_ok-same.ensures c.pass.ensures
