use Rattle.std.proofs.Common.{map, take}
use Rattle.std.specs.List.{AllZip}
use Rattle.low_ir.specs.View.{loop_of}
use Rattle.pass_jump_threading_law.specs.Threads.{LoopThreaded}
use Rattle.pass_jump_threading.specs.Planning.{name_in}
use Rattle.pass_jump_threading.proofs.making.loops_of.Given as goal

abbrev pub invariant-loop-each : goal.invariant-loop-each
invariant-loop-each l = AllZip (LoopThreaded (name_in l.plan.stays.items)) (map loop_of (take l.each-index l.loops)) (map loop_of l.new.items)
