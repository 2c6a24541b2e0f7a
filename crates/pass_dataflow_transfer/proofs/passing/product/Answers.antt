use Rattle.low_ir.specs.View.{operand_of}
use Rattle.std.proofs.lemmas.Option.{IfSome_then}
use Rattle.pass_dataflow_transfer.proofs.Operators.{left_product, right_product}
use Rattle.pass_dataflow_transfer.proofs.passing.product.Goals as goal

pub returns-then-is_constant : goal.returns-then-is_constant
returns-then-is_constant c = IfSome_then c.plus.result c.plus.ensures (λ f is. right_product c.args.a c.args.b f c.constant.result (operand_of c.args.right) (c.is_constant.ensures c.if-is_constant.true) c.constant.ensures is)

pub returns-then-is_constant-2 : goal.returns-then-is_constant-2
returns-then-is_constant-2 c = IfSome_then c.plus-then-is_constant-2.result c.plus-then-is_constant-2.ensures (λ f is. left_product c.args.a c.args.b f c.constant-then-is_constant-2.result (operand_of c.args.right) (c.is_constant-2.ensures c.if-is_constant-2.true) c.constant-then-is_constant-2.ensures is)
