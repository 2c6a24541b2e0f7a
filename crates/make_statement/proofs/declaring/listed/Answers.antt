use Rattle.std.proofs.Common.{◌<◌, ap, arith, length, refl, sym, ◌∙◌}
use Rattle.std.proofs.Math.ListN.{drop_of_length-le}
use Rattle.types_tree.specs.View.{exprs_of}
use Rattle.high_code.specs.Code.{joined}
use Rattle.plan_definition.specs.Statements.{listed}
use Rattle.make_pieces.proofs.Lists.{joined_end}
use Rattle.make_pieces.specs.View.{code_of}
use Rattle.make_statement.specs.Planned.{plan_said}
use Rattle.make_statement.proofs.Lists.{one_element}
use Rattle.make_statement.proofs.declaring.listed.Goals as goal

pub loop-index-preserved : goal.loop-index-preserved
loop-index-preserved c =
    let below : c.loop-index.index < length c.args.values.now = omega (arith, c.loop-index-test.true, c.in_ok-count.ensures) in
    one_element (plan_said c.args.plan.now) c.args.home c.args.values.now c.loop-index.index c.loop-index.index c.index-values-index.result c.args.k (code_of c.loop-index.code) (code_of c.in_ok-code.code) below c.index-values-index.is refl c.in_ok-code.ensures
    ∙ c.loop-index.invariant

pub returns : goal.returns
returns c =
    sym (joined_end (code_of c.loop-index.code))
    ∙ sym (ap (λ xs. joined (code_of c.loop-index.code) (listed (plan_said c.args.plan.now) c.args.home (exprs_of xs) c.loop-index.index c.args.k)) (drop_of_length-le c.args.values.now (omega (arith, c.loop-index-test.false, c.in_ok-count.ensures))))
    ∙ c.loop-index.invariant
