use Rattle.std.proofs.Common.{subst, sym}
use Rattle.std.specs.Prelude.{IfSome}
use Rattle.std.proofs.lemmas.Option.{IfSome_then}
use Rattle.low_ir.specs.View.{operand_of}
use Rattle.pass_dataflow_transfer.specs.Learning.{Gives}
use Rattle.pass_dataflow_transfer.proofs.Operators.{sum_gives}
use Rattle.pass_dataflow_transfer.proofs.passing.given.Goals as goal

pub returns-in-Sum : goal.returns-in-Sum
returns-in-Sum c = subst (λ op. IfSome c.plus.result (Gives op c.args.a c.args.b (operand_of c.args.right))) (sym c.in-Sum.is) (IfSome_then c.plus.result c.plus.ensures (λ f is. sum_gives c.args.a c.args.b f (operand_of c.args.right) is))
