use Rattle.std.proofs.Common.{ap, map, ◌∙◌}
use Rattle.std.proofs.lemmas.List.{map_push}
use Rattle.high_ir.specs.View.{function_of}
use Rattle.high_fold.proofs.Making.{function_folded, function_kept}
use Rattle.high_fold.proofs.program.folded_functions.Goals as goal

pub loop-function-preserved : goal.loop-function-preserved
loop-function-preserved c =
    record {
      made =
          function_folded c.args.functions.now _ _ c.loop-function.function-index c.function-item.result _
          _ _ c.loop-function-test.true c.function-item.is c.in_ok-folded_function.ensures.made c.in_ok-folded_function.ensures.kept
          (ap (map function_of) c.in_ok-push.ensures.items ∙ map_push function_of c.loop-function.made.items c.in_ok-folded_function.field-0)
          ∙ c.loop-function.invariant.made;
      kept =
          function_kept c.args.functions.now c.loop-function.function-index c.function-item.result _ _ c.loop-function-test.true c.function-item.is c.in_ok-folded_function.ensures.kept
          ∙ c.loop-function.invariant.kept;
    }
