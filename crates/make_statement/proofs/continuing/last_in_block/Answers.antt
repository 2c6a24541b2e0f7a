use Rattle.std.proofs.Common.{◌≡◌, IfOk, ap, subst, sym, ◌∙◌}
use Rattle.high_code.specs.Code.{alone, joined}
use Rattle.high_ir.specs.View.{statements_of}
use Rattle.plan_definition.specs.Statements.{last_in_block}
use Rattle.make_pieces.specs.View.{code_of}
use Rattle.make_statement.proofs.Lasts.{last_view}
use Rattle.make_statement.proofs.continuing.last_in_block.Goals as goal

pub returns-in-Ok : goal.returns-in-Ok
returns-in-Ok c =
    let rest = c.pop.new.self.items in
    subst (λ s. IfOk c.then.result (λ x. code_of x ≡ s))
    (ap (λ s. joined (statements_of rest) (alone s)) c.in-Ok.ensures ∙ sym (ap (λ xs. last_in_block (statements_of xs)) c.in-Some.ensures.items ∙ last_view rest c.in-Some.last))
    c.then.ensures
