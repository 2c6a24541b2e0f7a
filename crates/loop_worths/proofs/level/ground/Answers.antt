use Rattle.std.proofs.Common.{arith, ◌-◌, length}
use Rattle.loop_worths.proofs.CodeLemmas.{rings, walk_steps}
use Rattle.loop_worths.proofs.level.ground.Goals as goal

pub weigh-requires-clause-loops : goal.weigh-requires-clause-loops
weigh-requires-clause-loops c = rings (length c.args.worths.now - 1) (length c.args.weights.now) c.args.code.steps.now c.args.code.loops.now (let a = c.requires.some in let b = c.requires.long in omega (arith, a, b)) c.requires.steps c.requires.loops

pub walk-requires-clause-steps : goal.walk-requires-clause-steps
walk-requires-clause-steps c = walk_steps (length c.args.worths.now - 1) (length c.args.worths.now) c.args.code.steps.now (let a = c.requires.some in omega (arith, a)) c.requires.steps
