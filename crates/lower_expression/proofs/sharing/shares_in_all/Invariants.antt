use Rattle.std.proofs.Common.{◌≡◌, drop, map}
use Rattle.high_ir.specs.View.{expr_of}
use Rattle.lower_expression.specs.View.{scope_of, shares_of}
use Rattle.lower_definition.specs.Values.{scaled_in_all, shares_from}
use Rattle.lower_expression.proofs.sharing.shares_in_all.Given as goal

abbrev pub invariant-loop-expr : goal.invariant-loop-expr
invariant-loop-expr l =
    shares_from l.first (shares_of l.shares.items) (scaled_in_all (scope_of l.scope) (map expr_of (drop l.expr-index l.exprs)))
    ≡ shares_from l.first (shares_of l.initial.shares.items) (scaled_in_all (scope_of l.scope) (map expr_of l.exprs))
