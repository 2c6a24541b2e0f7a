use Rattle.std.proofs.Common.{◌≡◌, ◌+◌, ◌≤◌, drop, length}
use Rattle.types_tree.specs.View.{items_of}
use Rattle.plan_definition.specs.Statements.{label_count, label_tests}
use Rattle.make_pieces.specs.View.{code_of, leaf_expr}
use Rattle.make_statement.proofs.labels.label_tests.Given as goal

abbrev pub invariant-loop-i : goal.invariant-loop-i
invariant-loop-i l = record {
  within : l.i ≤ length l.items;
  number : l.number + label_count (items_of (drop l.i l.items)) ≡ 1 + label_count (items_of l.items);
  tests : code_of l.tests ≡ label_tests (leaf_expr l.choice_by.word) l.choice_by.noted (items_of (drop l.i l.items)) l.number;
}

abbrev pub decreases-loop-i : goal.decreases-loop-i
decreases-loop-i l = l.i
