use Rattle.std.proofs.Common.{◌≡◌, ◌+◌, drop}
use Rattle.facts_definitions.specs.Most.{cut, exprs_most}
use Rattle.types_tree.specs.View.{exprs_of}
use Rattle.facts_most.specs.Items.{calls_by}
use Rattle.facts_most.proofs.executed.+exprs.Given as goal

abbrev pub invariant-exprs_most-loop-expr : goal.invariant-exprs_most-loop-expr
invariant-exprs_most-loop-expr l = record {
  fits : cut l.most ≡ l.most;
  same : cut (l.most + exprs_most (calls_by l.calls) (exprs_of (drop l.expr-index l.exprs))) ≡ cut (exprs_most (calls_by l.calls) (exprs_of l.exprs));
}
