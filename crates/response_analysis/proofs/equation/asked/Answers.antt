use Rattle.std.proofs.Common.{arith, ◌∙◌}
use Rattle.response_analysis.proofs.Ceilings.{ask_fits}
use Rattle.response_analysis.proofs.equation.asked.Goals as goal

pub overflow_mul-result : goal.overflow_mul-result
overflow_mul-result c =
    let fits = ask_fits c.from.result c.from-2.result c.args.within c.args.task.period c.args.task.cycles (c.from.ensures ∙ c.div_ceil.ensures) c.from-2.ensures c.requires.task.positive c.requires.within c.requires.task.small in
    omega (arith, fits)

pub returns-clause-small : goal.returns-clause-small
returns-clause-small c =
    ask_fits c.from.result c.from-2.result c.args.within c.args.task.period c.args.task.cycles (c.from.ensures ∙ c.div_ceil.ensures) c.from-2.ensures c.requires.task.positive c.requires.within c.requires.task.small
