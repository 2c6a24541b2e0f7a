use Rattle.std.proofs.Common.{arith, ◌<◌, None, length, get_or}
use Rattle.code_flow_system.specs.declared.shapes.LoopShape.{LoopShape}
use Rattle.path_walks.specs.Deals.{no_pair}
use Rattle.path_walks.proofs.ListLemmas.{before_span, behind_span, within_span}
use Rattle.path_walks.proofs.DealLemmas.{deals_start, deals_next, deals_end}
use Rattle.path_walks.proofs.deal.deal.Goals as goal

abbrev no_shape : LoopShape
no_shape = record { header = 0; back = 0; parent = None; first = 0; last = 0 }

pub loop-i-init : goal.loop-i-init
loop-i-init c = deals_start c.args.moves.now c.args.span c.args.shapes.now c.args.pairs.now c.args.found.now c.loops_before-first.result c.requires.long (λ k d lt l. before_span c.args.span (get_or c.args.shapes.now k d).header (c.loops_before-first.ensures.point.0 k d (omega arith) lt))

pub deal_one-used-requires-clause-place : goal.deal_one-used-requires-clause-place
deal_one-used-requires-clause-place c =
    let l = c.loop-i.invariant.long in
    let b = c.loops_before-end.ensures.bound in
    let t = c.loop-i-test.true in
    omega (arith, l, b, t)

pub loop-i-preserved : goal.loop-i-preserved
loop-i-preserved c =
    let ls = c.args.shapes.now in
    let i = c.loop-i.i in
    let b = c.loops_before-end.ensures.bound in
    let t = c.loop-i-test.true in
    let a = c.loop-i.auto.i in
    let lt : i < length ls = omega (arith, b, t) in
    let inside = within_span c.args.span (get_or ls i no_shape).header (c.loops_before-first.ensures.point.1 i no_shape (omega (arith, a)) lt) (c.loops_before-end.ensures.point.0 i no_shape (omega arith) (omega (arith, t))) in
    deals_next c.args.moves.now c.args.span ls c.args.pairs.now c.args.found.now c.loop-i.pairs i c.loop-i.used no_shape no_pair c.requires.long lt inside c.loop-i.invariant c.deal_one-used.new.pairs c.deal_one-used.result c.deal_one-used.ensures.pairs c.deal_one-used.ensures.used

pub returns : goal.returns
returns c =
    let f = c.loop-i-test.false in
    deals_end c.args.moves.now c.args.span c.args.shapes.now c.args.pairs.now c.args.found.now c.loop-i.pairs c.loop-i.i c.loop-i.used c.requires.long (λ k d le lt. behind_span c.args.span (get_or c.args.shapes.now k d).header (c.loops_before-end.ensures.point.1 k d (omega (arith, f, le)) lt)) c.loop-i.invariant
