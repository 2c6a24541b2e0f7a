use Rattle.std.proofs.Common.{rules, arith, ◌<◌, ◌^◌, ◌++◌, ◌∙◌, ap}
use Rattle.loop_flows.specs.Passes.{amount_at}
use Rattle.loop_flow_counts.specs.Wraps.{all_wrapped}
use Rattle.loop_flow_counts.proofs.WrapLemmas.{wrapped-long}
use Rattle.path_flows.specs.Flows.{parts_of}
use Rattle.path_flow_counts.specs.Parts.{part_if}
use Rattle.path_flow_counts.proofs.FlowLemmas.{read_whole, fits_at, parts_next}
use Rattle.path_flow_counts.proofs.parts.parts.Goals as goal

pub push_part-requires : goal.push_part-requires
push_part-requires c =
    let t = c.loop-i-test.true in
    let l = c.requires.long in
    let small : amount_at c.args.amounts.now c.loop-i.i < 2 ^ 128 = search rules in
    fits_at c.args.amounts.now c.loop-i.i (omega (arith, t, l)) c.requires.fits small

pub loop-i-preserved : goal.loop-i-preserved
loop-i-preserved c =
    let t = c.loop-i-test.true in
    let l = c.requires.long in
    let w = wrapped-long c.args.amounts.now in
    let us = all_wrapped c.args.amounts.now in
    let small : amount_at c.args.amounts.now c.loop-i.i < 2 ^ 128 = search rules in
    parts_next c.args.moves.now us c.loop-i.parts.items c.push_part.new.parts.items (parts_of c.args.moves.now us) c.loop-i.i c.index-moves-i.result (amount_at c.args.amounts.now c.loop-i.i) t (omega (arith, t, l, w)) (read_whole c.args.amounts.now c.loop-i.i small) c.loop-i.invariant
    (c.in_ok-push_part.ensures ∙ ap (λ m. c.loop-i.parts.items ++ part_if m (amount_at c.args.amounts.now c.loop-i.i)) c.index-moves-i.is)
