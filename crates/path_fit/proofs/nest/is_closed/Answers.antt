use Rattle.std.proofs.Common.{◌≤◌, ◌<◌, get_or, arith, None, refl, rules}
use Rattle.code_flow_system.specs.declared.shapes.LoopShape.{LoopShape}
use Rattle.path_fit.proofs.NestLemmas.{end_start, end_more, past_next, closed_end, closed_before, not_closed}
use Rattle.path_fit.proofs.nest.is_closed.Goals as goal

abbrev first_shape : LoopShape
first_shape = record { header = 0; back = 0; parent = None; first = 0; last = 0 }

pub loop-next-init : goal.loop-next-init
loop-next-init c = end_start c.args.shapes.now c.args.place _

pub loop-next-preserved : goal.loop-next-preserved
loop-next-preserved c =
    let behind = c.loop-next.invariant.behind in
    let long = c.loop-next-test.true in
    let le : (get_or c.args.shapes.now c.loop-next.next first_shape).last ≤ (get_or c.args.shapes.now c.args.place first_shape).last = search rules in
    end_more c.args.shapes.now c.args.place c.loop-next.next _ c.begun_by-next.result first_shape long c.begun_by-next.ensures.bound
    (c.requires.behind c.loop-next.next (omega (arith, behind)) long) le c.begun_by-next.ensures.point
    (past_next c.args.shapes.now c.loop-next.next c.begun_by-next.result first_shape long (c.requires.filled c.loop-next.next first_shape long) c.begun_by-next.ensures.point)
    c.loop-next.invariant

pub loop-next-smaller : goal.loop-next-smaller
loop-next-smaller c =
    let long = c.loop-next-test.true in
    let past = past_next c.args.shapes.now c.loop-next.next c.begun_by-next.result first_shape long (c.requires.filled c.loop-next.next first_shape long) c.begun_by-next.ensures.point in
    omega (arith, past, long)

pub returns-then-last-inner : goal.returns-then-last-inner
returns-then-last-inner c =
    let beyond : (get_or c.args.shapes.now c.args.place first_shape).last < (get_or c.args.shapes.now c.loop-next.next first_shape).first = search rules in
    (λ e. closed_before c.args.shapes.now c.args.place c.loop-next.next _ first_shape first_shape c.requires.ascending c.requires.place c.loop-next-test.true refl beyond c.loop-next.invariant, λ h. refl)

pub returns-then-last-inner-2 : goal.returns-then-last-inner-2
returns-then-last-inner-2 c =
    let begun : (get_or c.args.shapes.now c.loop-next.next first_shape).first ≤ (get_or c.args.shapes.now c.args.place first_shape).last = search rules in
    let beyond : (get_or c.args.shapes.now c.args.place first_shape).last < (get_or c.args.shapes.now c.loop-next.next first_shape).last = search rules in
    (λ e. cc, λ h. absurd (not_closed c.args.shapes.now c.args.place c.loop-next.next _ first_shape first_shape c.requires.place c.loop-next-test.true refl c.loop-next.invariant.behind begun beyond h))

pub returns : goal.returns
returns c = (λ e. closed_end c.args.shapes.now c.args.place c.loop-next.next _ first_shape c.requires.place refl c.loop-next-test.false c.loop-next.invariant, λ h. refl)
