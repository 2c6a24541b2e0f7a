use Rattle.std.proofs.Common.{◌+◌, ◌*◌}
use Rattle.high_ir.specs.Size.{expr_nodes}
use Rattle.high_ir.specs.View.{expr_of}
use Rattle.lower_expression.proofs.walk.+expressions.Given as goal

abbrev pub decreases-value_into : goal.decreases-value_into
decreases-value_into l = 8 * expr_nodes (expr_of l.expr.now)

abbrev pub decreases-in_register : goal.decreases-in_register
decreases-in_register l = 8 * expr_nodes (expr_of l.expr.now) + 1

abbrev pub decreases-operand : goal.decreases-operand
decreases-operand l = 8 * expr_nodes (expr_of l.expr.now) + 2

abbrev pub decreases-index_of : goal.decreases-index_of
decreases-index_of l = 8 * expr_nodes (expr_of l.expr.now) + 3

abbrev pub decreases-element_into : goal.decreases-element_into
decreases-element_into l = 8 * expr_nodes (expr_of l.index.now) + 4
