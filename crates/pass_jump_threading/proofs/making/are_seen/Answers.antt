use Rattle.std.proofs.Common.{All, subst, sym, ◌∙◌}
use Rattle.std.proofs.lemmas.List.{take_all}
use Rattle.std.proofs.lemmas.List.Elements.{All-map, All-more}
use Rattle.low_ir.specs.View.{loop_of}
use Rattle.pass_jump_threading.specs.Planning.{IsSeen}
use Rattle.pass_jump_threading.proofs.making.are_seen.Goals as goal

pub loop-each-preserved : goal.loop-each-preserved
loop-each-preserved c =
    All-more (λ each. IsSeen c.args.seen.now (loop_of each)) c.args.loops.now c.loop-each.each-index _ c.loop-each-test.true c.loop-each.invariant
    (sym c.is_seen.ensures ∙ c.if-not-is_seen.false, sym c.is_seen-else-not-is_seen.ensures ∙ c.if-not-is_seen-2.false)

pub returns : goal.returns
returns c = λ done.
    All-map (IsSeen c.args.seen.now) loop_of c.args.loops.now
    (subst (All (λ each. IsSeen c.args.seen.now (loop_of each))) (take_all c.loop-each.each-index c.args.loops.now c.loop-each-test.false) c.loop-each.invariant)
