use Rattle.std.proofs.Common.{ap, sym, ◌∙◌}
use Rattle.c_tree.specs.Named.{map_option}
use Rattle.types_tree.specs.View.{exprs_of, initial_of, loop_of}
use Rattle.plan_definition.specs.Statements.{initialised}
use Rattle.make_statement.specs.Planned.{list_planned, plan_said}
use Rattle.make_statement.proofs.declaring.initialised.Goals as goal

pub returns-in_ok-filled_list-in-List : goal.returns-in_ok-filled_list-in-List
returns-in_ok-filled_list-in-List c =
    let plan = plan_said c.args.plan.now in
    c.in_ok-filled_list-in-List.ensures
    ∙ ap (λ xs. list_planned plan c.args.home (exprs_of xs) (map_option loop_of c.in-List.filling) c.args.shift c.args.k) c.deref.ensures.value
    ∙ sym (ap (λ i. initialised plan c.args.home (initial_of i) c.args.shift c.args.k) c.in-List.is)
