use Rattle.high_ir.specs.Size.{expr_nodes}
use Rattle.high_ir.specs.View.{expr_of}
use Rattle.lower_expression.proofs.testing.+tested.Given as goal

abbrev pub decreases-tested : goal.decreases-tested
decreases-tested l = expr_nodes (expr_of l.test.now)
