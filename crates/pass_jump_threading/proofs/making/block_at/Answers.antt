use Rattle.std.proofs.Common.{Option, All, map, subst, sym}
use Rattle.std.specs.Prelude.{IfOk, IfSome}
use Rattle.low_ir.specs.declared.low.Block.{Block}
use Rattle.low_ir.specs.View.{block_of, function_of, loop_of}
use Rattle.pass_jump_threading_law.specs.Threads.{BlockThreaded}
use Rattle.pass_jump_threading.specs.Planning.{IsSeen, plan_of}
use Rattle.pass_jump_threading.proofs.making.block_at.Goals as goal

pub returns-then-at-eq0 : goal.returns-then-at-eq0
returns-then-at-eq0 c =
    subst
    (λ n. IfOk c.first_block.result (λ (o : Option Block). IfSome o (λ (new : Block). All (IsSeen c.args.plan.now.seen.items) (map loop_of c.args.function.now.loops.items) → BlockThreaded (function_of c.args.function.now) (plan_of c.args.plan.now) n (block_of c.args.block.now) (block_of new))))
    (sym c.if-at-eq0.true) c.first_block.ensures
