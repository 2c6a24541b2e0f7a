use Rattle.std.proofs.Common.{◌≡◌, IfOk, ap, arith, subst, ◌∙◌}
use Rattle.facts_definitions.specs.Sites.{count_exprs}
use Rattle.c_tree.specs.Named.{map_option}
use Rattle.types_tree.specs.View.{exprs_of, loop_of}
use Rattle.high_code.specs.Code.{joined}
use Rattle.plan_definition.specs.Statements.{filling, listed}
use Rattle.make_pieces.specs.View.{code_of}
use Rattle.make_statement.specs.Planned.{plan_said}
use Rattle.make_statement.proofs.Lists.{count_length}
use Rattle.make_statement.proofs.declaring.filled_list.Goals as goal

pub returns-in-Ok : goal.returns-in-Ok
returns-in-Ok c =
    let plan = plan_said c.args.plan.now in
    let number = map_option loop_of c.args.filler.number in
    let count : c.in_ok-count.count ≡ count_exprs (exprs_of c.args.values.now) = omega (arith, c.in_ok-count.ensures, count_length c.args.values.now) in
    subst (λ s. IfOk c.joined.result (λ x. code_of x ≡ s))
    (ap (λ x. joined x (code_of c.in-Ok.filling)) c.in_ok-code.ensures
    ∙ ap (joined (listed plan c.args.home (exprs_of c.args.values.now) 0 c.args.k)) (c.in-Ok.ensures ∙ ap (λ n. filling plan c.args.home c.args.filler.shift number n c.args.k) count))
    c.joined.ensures
