use Rattle.std.proofs.Common.{◌+◌, [], ◌∷◌, ap, length, map, ◌∙◌}
use Rattle.std.proofs.lemmas.List.{length-map, map-append}
use Rattle.high_ir.specs.Standing.{loops_of, marks_of}
use Rattle.high_ir.specs.View.{function_of}
use Rattle.high_renumber.specs.Numbered.{ids}
use Rattle.high_renumber.proofs.Numerals.{all_loops_more, all_marks_more, functions_more}
use Rattle.high_renumber.proofs.Walks.{length_behind}
use Rattle.high_renumber.proofs.numbering.functions_numbered.Goals as goal

pub loop-function-preserved : goal.loop-function-preserved
loop-function-preserved c =
    let origins = c.loop-function.origins in
    let body = (function_of c.function-item.result).body in
    let marks = length_behind origins.marks.items _ (marks_of body) c.in_ok-function_numbered.ensures.marks in
    let loops = length_behind origins.loops.items _ (ids (loops_of body)) c.in_ok-function_numbered.ensures.loops ∙ ap (λ n. length origins.loops.items + n) (length-map (loops_of body) (λ l. l.id)) in
    record {
      made =
          functions_more (map function_of c.loop-function.made.items) _ c.args.functions.now c.loop-function.function-index c.function-item.result (function_of c.in_ok-function_numbered.field-0) (length origins.marks.items) (length origins.loops.items) _ _ c.loop-function-test.true c.function-item.is
          c.in_ok-function_numbered.ensures.made (ap (map function_of) c.in_ok-push.ensures.items ∙ map-append function_of c.loop-function.made.items (c.in_ok-function_numbered.field-0 ∷ [])) marks loops
          ∙ c.loop-function.invariant.made;
      marks = all_marks_more origins.marks.items _ c.args.functions.now c.loop-function.function-index c.function-item.result c.loop-function-test.true c.function-item.is c.in_ok-function_numbered.ensures.marks ∙ c.loop-function.invariant.marks;
      loops = all_loops_more origins.loops.items _ c.args.functions.now c.loop-function.function-index c.function-item.result c.loop-function-test.true c.function-item.is c.in_ok-function_numbered.ensures.loops ∙ c.loop-function.invariant.loops;
    }
