use Rattle.std.proofs.Common.{map, ap, ◌∙◌}
use Rattle.std.proofs.lemmas.Result.{MatchResult-weaker}
use Rattle.high_code.specs.Code.{alone, joined}
use Rattle.high_ir.specs.Tree.{Mark, Seq, Then}
use Rattle.high_ir.specs.View.{expr_of, statement_of}
use Rattle.inliner.specs.Opening.{assigned}
use Rattle.inliner.proofs.Walks.{assigned_end}
use Rattle.inliner.proofs.opening.opening.Goals as goal

pub returns-in-Ok : goal.returns-in-Ok
returns-in-Ok c =
    let values = map expr_of c.args.call.now.values.now in
    let mark = Mark c.args.call.now.function in
    let body = statement_of c.in_ok-body.body in
    MatchResult-weaker c.seq_with.result c.seq_with.ensures (λ opened made.
    made
    ∙ ap (λ a. Seq (joined a (alone body))) c.in-Ok.ensures
    ∙ ap (λ b. Seq (Then mark b)) (assigned_end c.args.base values (alone body))
    ∙ ap (λ b. Seq (Then mark (assigned c.args.base values (alone b)))) c.in_ok-body.ensures) (λ memory no_call. no_call)
