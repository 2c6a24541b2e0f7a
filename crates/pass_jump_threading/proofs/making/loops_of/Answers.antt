use Rattle.std.proofs.Common.{ap, map, refl, ◌∙◌}
use Rattle.std.proofs.lemmas.List.{map_push}
use Rattle.low_ir.specs.View.{loop_of}
use Rattle.pass_jump_threading_law.specs.Threads.{LoopThreaded}
use Rattle.pass_jump_threading.specs.Planning.{name_in}
use Rattle.low_parts.proofs.Filling.{zip_taken}
use Rattle.pass_jump_threading.proofs.making.loops_of.Goals as goal

pub loop-each-preserved : goal.loop-each-preserved
loop-each-preserved c =
    let made = c.loop-each.new.items in
    zip_taken (LoopThreaded (name_in c.args.plan.now.stays.items)) loop_of c.args.loops.now (map loop_of made) (map loop_of c.push.new.self.items) c.loop-each.each-index _ _ (loop_of c.in-Some.it)
    c.loop-each-test.true refl c.loop-each.invariant c.in-Some.ensures (ap (map loop_of) c.in_ok-push.ensures.items ∙ map_push loop_of made c.in-Some.it)
