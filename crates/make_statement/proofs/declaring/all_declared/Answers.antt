use Rattle.std.proofs.Common.{ap, map, sym, ◌∙◌}
use Rattle.std.proofs.Math.ListN.{drop_of_length-le}
use Rattle.types_tree.specs.View.{object_of}
use Rattle.high_code.specs.Code.{joined}
use Rattle.plan_definition.specs.Statements.{all_declared}
use Rattle.make_pieces.proofs.Lists.{joined_end}
use Rattle.make_pieces.specs.View.{code_of}
use Rattle.make_statement.specs.Planned.{plan_said}
use Rattle.make_statement.proofs.Lists.{one_object}
use Rattle.make_statement.proofs.declaring.all_declared.Goals as goal

pub loop-object-preserved : goal.loop-object-preserved
loop-object-preserved c =
    one_object (plan_said c.args.plan.now) c.args.objects.now c.loop-object.object-index c.object-item.result c.args.shift c.args.k (code_of c.loop-object.code) (code_of c.in_ok-code.code) c.loop-object-test.true c.object-item.is c.in_ok-code.ensures
    ∙ c.loop-object.invariant

pub returns : goal.returns
returns c =
    sym (joined_end (code_of c.loop-object.code))
    ∙ sym (ap (λ xs. joined (code_of c.loop-object.code) (all_declared (plan_said c.args.plan.now) (map object_of xs) c.args.shift c.args.k)) (drop_of_length-le c.args.objects.now c.loop-object-test.false))
    ∙ c.loop-object.invariant
