use Rattle.std.proofs.Common.{◌≡◌, IfOk, ap, subst, ◌∙◌}
use Rattle.high_code.specs.Code.{alone, joined}
use Rattle.high_ir.specs.Tree.{Constant, Set}
use Rattle.plan_definition.specs.Values.{in_block}
use Rattle.make_pieces.proofs.Lists.{joined_then}
use Rattle.make_pieces.specs.View.{code_of}
use Rattle.make_statement.proofs.walk.switched.Goals as goal

pub returns-in-Ok-then : goal.returns-in-Ok-then
returns-in-Ok-then c =
    let note = Set c.args.noted (Constant c.args.selector.default) in
    let behind = joined (code_of c.args.selector.tests) (in_block (code_of c.args.parts)) in
    subst (λ s. IfOk c.joined.result (λ x. code_of x ≡ s))
    (ap (λ x. joined x (code_of c.in-Ok.behind)) c.in-Ok-then.ensures ∙ ap (joined (joined (code_of c.args.selector.word.code) (alone note))) c.in-Ok.ensures ∙ joined_then (code_of c.args.selector.word.code) note behind)
    c.joined.ensures
