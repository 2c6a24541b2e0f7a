use Rattle.std.proofs.Common.{rules, refl, pos, get_or, FitsSigned}
use mir.Val.{to_z, of_z}
use Rattle.std.specs.Int.{w128}
use Rattle.std.proofs.lemmas.Int.{to_z-of_z}
use Rattle.simplex_tables.proofs.StepLemmas.{goes_on, stops, small_of, wide_of, at_end}
use Rattle.simplex_tables.proofs.rows.combined.Goals as goal

pub returns-in-None-clause-none : goal.returns-in-None-clause-none
returns-in-None-clause-none c =
    let ep = to_z-of_z w128 c.args.p c.ranges.p in
    let eq = to_z-of_z w128 c.args.q c.ranges.q in
    let i = c.loop-i.invariant in
    let n = c.in-None.ensures in
    let f : FitsSigned w128 (get_or c.args.row.now c.loop-i.i (pos 0)) = search rules in
    let g : FitsSigned w128 (get_or c.args.base.now c.loop-i.i (pos 0)) = search rules in
    let e1 = to_z-of_z w128 (get_or c.args.row.now c.loop-i.i (pos 0)) f in
    let e2 = to_z-of_z w128 (get_or c.args.base.now c.loop-i.i (pos 0)) g in
    let w = wide_of (to_z w128 (of_z w128 c.args.p)) (to_z w128 (of_z w128 c.args.q)) (pos 0) (pos 0) _ _ _ _ e1 e2 (n.none.0 refl) in
    let k = stops (to_z w128 (of_z w128 c.args.p)) (to_z w128 (of_z w128 c.args.q)) c.args.row.now c.args.base.now c.loop-i.i c.loop-i-test.true c.requires w i.1 in
    (λ h. cc (ep, eq, k), λ h. refl)

pub loop-i-preserved : goal.loop-i-preserved
loop-i-preserved c =
    let ep = to_z-of_z w128 c.args.p c.ranges.p in
    let eq = to_z-of_z w128 c.args.q c.ranges.q in
    let n = c.in-Some.ensures in
    let f : FitsSigned w128 (get_or c.args.row.now c.loop-i.i (pos 0)) = search rules in
    let g : FitsSigned w128 (get_or c.args.base.now c.loop-i.i (pos 0)) = search rules in
    let e1 = to_z-of_z w128 (get_or c.args.row.now c.loop-i.i (pos 0)) f in
    let e2 = to_z-of_z w128 (get_or c.args.base.now c.loop-i.i (pos 0)) g in
    let fz : FitsSigned w128 c.in-Some.z = search rules in
    let ez = to_z-of_z w128 c.in-Some.z fz in
    goes_on (to_z w128 (of_z w128 c.args.p)) (to_z w128 (of_z w128 c.args.q)) c.args.row.now c.args.base.now c.loop-i.out.items _ (to_z w128 (of_z w128 c.in-Some.z)) c.loop-i.i c.loop-i-test.true c.requires c.in_ok-push-in-Some.ensures.items (cc (ez, e1, e2, n.some)) (small_of (to_z w128 (of_z w128 c.args.p)) (to_z w128 (of_z w128 c.args.q)) _ _ _ _ e1 e2 n.none.1) c.loop-i.invariant

pub returns-clause-none : goal.returns-clause-none
returns-clause-none c =
    let ep = to_z-of_z w128 c.args.p c.ranges.p in
    let eq = to_z-of_z w128 c.args.q c.ranges.q in
    let k = at_end c.args.p _ c.args.q _ c.args.row.now c.args.base.now _ c.loop-i.i ep eq c.loop-i-test.false c.requires c.loop-i.invariant in
    (λ h. cc, λ h. cc (h, k.1))

pub returns-clause-some : goal.returns-clause-some
returns-clause-some c =
    let ep = to_z-of_z w128 c.args.p c.ranges.p in
    let eq = to_z-of_z w128 c.args.q c.ranges.q in
    (at_end c.args.p _ c.args.q _ c.args.row.now c.args.base.now _ c.loop-i.i ep eq c.loop-i-test.false c.requires c.loop-i.invariant).0
