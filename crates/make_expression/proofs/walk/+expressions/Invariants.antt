use Rattle.std.proofs.Common.{◌≡◌, ◌+◌, ◌*◌, ◌≤◌, drop, length}
use Rattle.types_tree.specs.View.{expr_of, exprs_of, place_of}
use Rattle.plan_definition.specs.Values.{passing}
use Rattle.make_expression.specs.Makes.{passing_of}
use Rattle.make_expression.specs.Sizes.{expr_size, exprs_size, place_size}
use Rattle.make_expression.proofs.walk.+expressions.Given as goal

abbrev pub decreases-made : goal.decreases-made
decreases-made l = 4 * expr_size (expr_of l.expr.now)

abbrev pub decreases-stepped_place : goal.decreases-stepped_place
decreases-stepped_place l = 4 * place_size (place_of l.target.now) + 1

abbrev pub decreases-assigned_place : goal.decreases-assigned_place
decreases-assigned_place l = 4 * (place_size (place_of l.target.now) + expr_size (expr_of l.value.now)) + 3

abbrev pub decreases-updated_place : goal.decreases-updated_place
decreases-updated_place l = 4 * (place_size (place_of l.target.now) + expr_size (expr_of l.value.now)) + 3

abbrev pub decreases-value : goal.decreases-value
decreases-value l = 4 * expr_size (expr_of l.expr.now) + 1

abbrev pub decreases-code : goal.decreases-code
decreases-code l = 4 * expr_size (expr_of l.expr.now) + 1

abbrev pub decreases-aimed : goal.decreases-aimed
decreases-aimed l = 4 * place_size (place_of l.place.now)

abbrev pub decreases-values : goal.decreases-values
decreases-values l = 4 * (expr_size (expr_of l.left.now) + expr_size (expr_of l.right.now)) + 2

abbrev pub decreases-aimed_and_value : goal.decreases-aimed_and_value
decreases-aimed_and_value l = 4 * (place_size (place_of l.target.now) + expr_size (expr_of l.right.now)) + 2

abbrev pub decreases-in_turn : goal.decreases-in_turn
decreases-in_turn l = 4 * (expr_size (expr_of l.left.now) + expr_size (expr_of l.right.now)) + 2

abbrev pub decreases-conjunction : goal.decreases-conjunction
decreases-conjunction l = 4 * (expr_size (expr_of l.left.now) + expr_size (expr_of l.right.now)) + 3

abbrev pub decreases-disjunction : goal.decreases-disjunction
decreases-disjunction l = 4 * (expr_size (expr_of l.left.now) + expr_size (expr_of l.right.now)) + 3

abbrev pub decreases-way : goal.decreases-way
decreases-way l = 4 * expr_size (expr_of l.expr.now) + 2

abbrev pub decreases-choose : goal.decreases-choose
decreases-choose l = 4 * expr_size (expr_of l.test.now) + 2

abbrev pub decreases-ways : goal.decreases-ways
decreases-ways l = 4 * (expr_size (expr_of l.test.now) + expr_size (expr_of l.first.now) + expr_size (expr_of l.second.now)) + 3

abbrev pub decreases-passing : goal.decreases-passing
decreases-passing l = 4 * exprs_size (exprs_of l.arguments.now) + 3

abbrev pub decreases-passed_behind : goal.decreases-passed_behind
decreases-passed_behind l = 4 * expr_size (expr_of l.given.now) + 2

abbrev pub invariant-passing-loop-i : goal.invariant-passing-loop-i
invariant-passing-loop-i l = record {
  within : l.i ≤ length l.arguments;
  passed : passing_of l.passed ≡ passing l.scope.homes.now (exprs_of (drop l.i l.arguments)) (l.k + l.i);
}

abbrev pub decreases-passing-loop-i : goal.decreases-passing-loop-i
decreases-passing-loop-i l = l.i
