use Rattle.layout_cases.proofs.Rooming.{small_fits}
use Rattle.layout_cases.proofs.laying.memory_of.Goals as goal

pub memory-requires-clause-fit : goal.memory-requires-clause-fit
memory-requires-clause-fit c = small_fits c.args.placement.now c.args.code.now (c.is_small.ensures c.if-not-is_small.false)
