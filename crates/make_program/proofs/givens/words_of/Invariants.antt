use Rattle.std.proofs.Common.{◌≡◌, ◌++◌, drop}
use Rattle.types_tree.specs.View.{exprs_of}
use Rattle.plan_definition.specs.Layouts.{words_of}
use Rattle.make_program.proofs.givens.words_of.Given as goal

abbrev pub invariant-loop-expr : goal.invariant-loop-expr
invariant-loop-expr l = l.words.items ++ words_of (exprs_of (drop l.expr-index l.exprs)) ≡ words_of (exprs_of l.exprs)
