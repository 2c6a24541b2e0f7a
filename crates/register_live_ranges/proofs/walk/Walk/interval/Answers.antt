use Rattle.std.proofs.Common.{◌≡◌, ◌+◌, ap, arith, length, rules, subst, sym, vec_len, ◌∙◌}
use Rattle.std.proofs.lemmas.List.{length-map}
use Rattle.low_ir.specs.View.{block_of, function_of}
use Rattle.register_live_ranges.specs.Intervals.{IsHull, LivesAt}
use Rattle.register_live_ranges.specs.Walks.{IsFresh, Walk, all_left, all_taken, restarted}
use Rattle.register_live_ranges.proofs.Beginning.{still_fresh, taken_all}
use Rattle.register_live_ranges.proofs.Noting.{accesses_row, row}
use Rattle.register_live_ranges.proofs.Walking.{turn, walked}
use Rattle.register_live_ranges.proofs.walk.Walk.interval.Goals as goal

pub loop-block-init : goal.loop-block-init
loop-block-init c =
    let fn = function_of c.args.reading.now.function.now in
    let v = c.args.register in
    let list = c.accesses_in.ensures ∙ (ap (λ rows. row rows v) c.requires.reading.accesses ∙ accesses_row fn v c.requires.register) in
    let made = c.in_ok-take_all.ensures ∙ ap (all_taken v c.accesses_in.result.now) c.restart.ensures in
    let fresh = subst (λ n. IsFresh n v fn.size c.args.self.now) (sym (length-map c.args.reading.now.function.now.blocks.items block_of)) c.requires.fresh in
    taken_all v fn.size fn.blocks c.args.self.now c.requires.register fresh c.accesses_in.result.now c.take_all.new.self list made

pub loop-block-preserved : goal.loop-block-preserved
loop-block-preserved c =
    let fn = function_of c.args.reading.now.function.now in
    let v = c.args.register in
    let w = c.loop-block.self in
    let t : Walk = record { live = c.self.inside.live.items; latest = c.self.inside.latest.items; work = c.pop.new.self.items; found = c.self.inside.found } in
    let left = c.in_ok-leave_all.ensures ∙ ap (λ xs. all_left v xs t) (c.sources_in.ensures ∙ ap (λ rows. row rows c.in-Some.block) c.requires.reading.sources) in
    (turn v fn.blocks (restarted c.args.self.now) w t c.leave_all.new.self c.in-Some.block c.loop-block.invariant (ap (λ (z : Walk). z.live) c.self.view_is) (ap (λ (z : Walk). z.latest) c.self.view_is) (ap (λ (z : Walk). z.found) c.self.view_is)
    (sym (ap (λ (z : Walk). z.work) c.self.view_is) ∙ c.in-Some.ensures.items) left).0

pub loop-block-smaller : goal.loop-block-smaller
loop-block-smaller c =
    let fn = function_of c.args.reading.now.function.now in
    let v = c.args.register in
    let w = c.loop-block.self in
    let t : Walk = record { live = c.self.inside.live.items; latest = c.self.inside.latest.items; work = c.pop.new.self.items; found = c.self.inside.found } in
    let left = c.in_ok-leave_all.ensures ∙ ap (λ xs. all_left v xs t) (c.sources_in.ensures ∙ ap (λ rows. row rows c.in-Some.block) c.requires.reading.sources) in
    (turn v fn.blocks (restarted c.args.self.now) w t c.leave_all.new.self c.in-Some.block c.loop-block.invariant (ap (λ (z : Walk). z.live) c.self.view_is) (ap (λ (z : Walk). z.latest) c.self.view_is) (ap (λ (z : Walk). z.found) c.self.view_is)
    (sym (ap (λ (z : Walk). z.work) c.self.view_is) ∙ c.in-Some.ensures.items) left).1

pub returns-clause-found : goal.returns-clause-found
returns-clause-found c =
    let fn = function_of c.args.reading.now.function.now in
    let v = c.args.register in
    let w = c.loop-block.self in
    let few = c.requires.fresh.few in
    let lt = c.requires.register in
    let zero : vec_len c.self.inside.work ≡ 0 = c.in_default.ensures.cases.0 in
    let none : length c.self.inside.work.items ≡ 0 = search rules in
    let work = ap (λ (z : Walk). length z.work) c.self.view_is in
    subst (IsHull (λ p. LivesAt fn.blocks p v)) (sym (ap (λ (z : Walk). z.found) c.self-2.view_is ∙ ap (λ (z : Walk). z.found) c.self.view_is))
    (walked v fn.blocks (restarted c.args.self.now) w (omega (arith, few, lt)) c.loop-block.invariant (omega (arith, none, work)))

pub returns-clause-fresh : goal.returns-clause-fresh
returns-clause-fresh c =
    let fn = function_of c.args.reading.now.function.now in
    let v = c.args.register in
    let w = c.loop-block.self in
    let t : Walk = record { live = c.self.inside.live.items; latest = c.self.inside.latest.items; work = c.pop.new.self.items; found = c.self.inside.found } in
    let same = length-map c.args.reading.now.function.now.blocks.items block_of in
    let fresh = subst (λ n. IsFresh n v fn.size c.args.self.now) (sym same) c.requires.fresh in
    let zero : vec_len c.pop.new.self ≡ 0 = c.in_default.ensures.cases.1 in
    let none : length c.pop.new.self.items ≡ 0 = search rules in
    subst (λ n. IsFresh n (v + 1) fn.size t) same
    (still_fresh v fn.size fn.blocks c.args.self.now c.requires.register fresh w t c.loop-block.invariant (ap (λ (z : Walk). z.live) c.self.view_is) (ap (λ (z : Walk). z.latest) c.self.view_is) none)
