use Rattle.std.proofs.Common.{[], ◌∷◌, ◌++◌, ap, ◌∙◌}
use Rattle.high_ir.proofs.Rows.{statement_of-Seq}
use Rattle.high_ir.specs.Tree.{Seq}
use Rattle.high_ir.specs.View.{statements_of}
use Rattle.high_cases.proofs.inlined.pair.Goals as goal

pub returns : goal.returns
returns c =
    statement_of-Seq c.push-2.new.self
    ∙ ap (λ xs. Seq (statements_of xs)) (c.in_ok-push-2.ensures.items ∙ ap (λ xs. xs ++ c.args.other ∷ []) (c.in_ok-push.ensures.items ∙ ap (λ xs. xs ++ c.args.first ∷ []) c.new-parts.ensures.items))
