use Rattle.std.proofs.Common.{map}
use Rattle.std.specs.Prelude.{All}
use Rattle.low_ir.specs.View.{block_of, function_of}
use Rattle.pass_jump_threading.specs.Planning.{IsSeen, SoFar, plan_of}
use Rattle.pass_jump_threading.proofs.making.blocks_of.Given as goal

abbrev pub invariant-loop-at : goal.invariant-loop-at
invariant-loop-at l = All (IsSeen l.plan.seen.items) (function_of l.function).loops → SoFar (function_of l.function) (plan_of l.plan) l.at (map block_of l.made.items)
