use Rattle.std.proofs.Common.{◌≡◌, [], ◌∷◌, ◌++◌, ap, map, subst, sym, ◌∙◌}
use Rattle.low_ir.specs.Example.{square, squares}
use Rattle.low_ir.specs.Formed.{IsLow}
use Rattle.low_ir.specs.View.{function_of, object_of, program}
use Rattle.layout_cases.proofs.Examples.{both, example_with_arrays}
use Rattle.layout_cases.proofs.programs.sum_of_squares.Goals as goal

pub invariant_of-result : goal.invariant_of-result
invariant_of-result c =
    let f = c.in_ok-square.field-0 in
    let g = c.in_ok-squares.field-0 in
    let xs = c.args.objects.items in
    let functions = c.in_ok-push-2.ensures.items ∙ ap (λ fs. fs ++ g ∷ []) (c.in_ok-push.ensures.items ∙ ap (λ fs. fs ++ f ∷ []) c.new-functions.ensures.items) in
    let same : program c.push-2.new.self.items c.new.result.items xs 1 3 ≡ both square squares (map object_of xs) =
    ap (λ fs. program fs c.new.result.items xs 1 3) functions
    ∙ ap (λ cs. program (f ∷ g ∷ []) cs xs 1 3) c.new.ensures.items
    ∙ ap (λ x. both x (function_of g) (map object_of xs)) c.in_ok-square.ensures
    ∙ ap (λ x. both square x (map object_of xs)) c.in_ok-squares.ensures in
    record { is_low = subst IsLow (sym same) (example_with_arrays (map object_of xs)) }
