use Rattle.std.proofs.Common.{rules, ◌≤◌, length}
use Rattle.pass_register_promotion.proofs.Going.{few_done, few_step}
use Rattle.pass_register_promotion.proofs.program.are_few.Goals as goal

pub loop-own-preserved : goal.loop-own-preserved
loop-own-preserved c =
    let few : length c.own-item.result.items ≤ 8 = search rules in
    few_step c.args.residents.now c.loop-own.own-index c.own-item.result c.loop-own-test.true c.own-item.is few c.loop-own.invariant

pub returns : goal.returns
returns c = λ done. few_done c.args.residents.now c.loop-own.own-index c.loop-own-test.false c.loop-own.invariant
