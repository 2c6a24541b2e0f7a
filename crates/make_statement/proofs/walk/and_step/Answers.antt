use Rattle.std.proofs.Common.{ap}
use Rattle.c_tree.specs.Named.{map_option}
use Rattle.types_tree.specs.View.{expr_of}
use Rattle.plan_definition.specs.Statements.{stepped}
use Rattle.make_pieces.specs.View.{code_of}
use Rattle.make_statement.specs.Planned.{plan_said}
use Rattle.make_statement.proofs.Items.{joined_none}
use Rattle.make_statement.proofs.walk.and_step.Goals as goal

pub returns-in-None : goal.returns-in-None
returns-in-None c =
    joined_none (code_of c.args.before) (stepped (plan_said c.args.plan.now) (map_option expr_of c.args.step.now) c.args.k)
    (ap (λ o. stepped (plan_said c.args.plan.now) (map_option expr_of o) c.args.k) c.in-None.is)
