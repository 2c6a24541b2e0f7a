use Rattle.std.proofs.Common.{◌<◌, ◌≤◌, ◌^◌, subst, sym, ◌∙◌}
use Rattle.wcc_base.specs.Budgets.{most_depth}
use Rattle.high_ir.specs.Size.{depth, nodes}
use Rattle.high_ir.specs.View.{statement_of}
use Rattle.unroller.specs.View.{progress_of}
use Rattle.unroller.proofs.Progress.{function_goes, function_more, functions_all, functions_gone}
use Rattle.unroller.proofs.spreading.functions.Goals as goal

pub function-requires : goal.function-requires
function-requires c =
    subst (λ f. (depth (statement_of f.body) ≤ most_depth) × (nodes (statement_of f.body) < 2 ^ 26)) (sym c.each-item.is)
    (c.requires c.loop-each.each-index c.each-item.result c.loop-each-test.true)

pub loop-each-preserved : goal.loop-each-preserved
loop-each-preserved c =
    record {
      code =
          function_more c.args.factor c.args.functions.now c.loop-each.made.items _ c.loop-each.each-index c.each-item.result _ (progress_of c.loop-each.walk) _
          c.loop-each-test.true c.each-item.is c.in_ok-function.ensures.code c.in_ok-function.ensures.progress c.in_ok-push.ensures.items
          ∙ c.loop-each.invariant.code;
      progress =
          function_goes c.args.factor c.args.functions.now c.loop-each.each-index c.each-item.result (progress_of c.loop-each.walk) _ c.loop-each-test.true c.each-item.is c.in_ok-function.ensures.progress
          ∙ c.loop-each.invariant.progress;
    }

pub returns-clause-code : goal.returns-clause-code
returns-clause-code c =
    functions_all c.args.factor c.args.functions.now c.loop-each.made.items c.loop-each.each-index (progress_of c.loop-each.walk).place c.loop-each-test.false ∙ c.loop-each.invariant.code

pub returns-clause-progress : goal.returns-clause-progress
returns-clause-progress c =
    functions_gone c.args.factor c.args.functions.now c.loop-each.each-index (progress_of c.loop-each.walk) c.loop-each-test.false ∙ c.loop-each.invariant.progress
