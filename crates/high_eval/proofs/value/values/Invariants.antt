use Rattle.std.proofs.Common.{◌≡◌, drop, map}
use Rattle.high_ir.specs.Meaning.{values_of}
use Rattle.high_ir.specs.View.{expr_of}
use Rattle.high_eval.proofs.Behind.{behind}
use Rattle.high_eval.proofs.value.values.Given as goal

abbrev pub invariant-loop-expr : goal.invariant-loop-expr
invariant-loop-expr l =
    let all = values_of l.passed l.state.variables l.state.world in
    behind l.words.items (all (map expr_of (drop l.expr-index l.exprs))) ≡ all (map expr_of l.exprs)
