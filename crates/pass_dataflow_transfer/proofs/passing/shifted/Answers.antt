use Rattle.std.proofs.Common.{ap, subst, sym}
use Rattle.std.specs.Prelude.{IfSome}
use Rattle.std.proofs.lemmas.Option.{IfSome_then}
use Rattle.rv_core.specs.declared.row.Alu.TheVariants.{ShiftLeft}
use Rattle.low_ir.specs.View.{operand_of}
use Rattle.pass_dataflow_transfer.specs.Learning.{Gives}
use Rattle.pass_dataflow_transfer.proofs.Operators.{shift_gives}
use Rattle.pass_dataflow_transfer.proofs.passing.shifted.Goals as goal

pub returns-in-Constant : goal.returns-in-Constant
returns-in-Constant c = subst (λ y. IfSome c.plus.result (Gives ShiftLeft c.args.a c.args.b y)) (sym (ap operand_of c.in-Constant.is)) (IfSome_then c.plus.result c.plus.ensures (λ f is. shift_gives c.args.a c.args.b f c.constant.result c.in-Constant.word c.power.result c.constant.ensures c.power.ensures is))
