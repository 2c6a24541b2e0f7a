use Rattle.std.proofs.Common.{map, subst}
use Rattle.std.specs.Prelude.{All, slice_get}
use Rattle.std.proofs.lemmas.List.{take_all}
use Rattle.std.proofs.lemmas.List.Elements.{All-map, All-more}
use Rattle.low_ir.specs.Code.{Loop}
use Rattle.low_ir.specs.View.{block_of, loop_of}
use Rattle.pass_strength_reduction_law.specs.Steps.{IsIdle}
use Rattle.pass_strength_reduction.proofs.functions.are_idle.Goals as goal

pub loop-each-preserved : goal.loop-each-preserved
loop-each-preserved c =
    All-more (λ each. IsIdle (slice_get (map block_of c.args.blocks.now) (loop_of each).latch)) c.args.loops.now c.loop-each.each-index _ c.loop-each-test.true c.loop-each.invariant (c.is_idle.ensures c.if-not-is_idle.false)

pub returns : goal.returns
returns c = λ done.
    All-map (λ (l : Loop). IsIdle (slice_get (map block_of c.args.blocks.now) l.latch)) loop_of c.args.loops.now
    (subst (All (λ each. IsIdle (slice_get (map block_of c.args.blocks.now) (loop_of each).latch))) (take_all c.loop-each.each-index c.args.loops.now c.loop-each-test.false) c.loop-each.invariant)
