use Rattle.std.proofs.Common.{◌≡◌, ◌∷◌, [], length, vec_len, subst, refl, rules}
use Rattle.code_flow_system.specs.Moves.{code_by}
use Rattle.code_flow.specs.Walks.{targets, Sees}
use Rattle.code_flow.proofs.PlaceLemmas.{stands_at_places}
use Rattle.code_flow.proofs.WalkLemmas.{started, turn, explored_by}
use Rattle.code_flow.proofs.walk.explore.Goals as goal

pub loop-at-init : goal.loop-at-init
loop-at-init c =
    started (code_by c.args.image.now c.args.exits.now) c.args.image.now.entry c.in_ok-walk.walk c.see.new.self
    (λ a none. stands_at_places c.args.image.now a (rw (← c.segments-segments.ensures.value) c.segments-segments.ensures.valid) none)
    c.in_ok-walk.ensures
    (subst (λ e. Sees (e ∷ []) c.in_ok-walk.walk c.see.new.self) c.entry.ensures c.in_ok-see.ensures)

pub loop-at-preserved : goal.loop-at-preserved
loop-at-preserved c =
    turn (code_by c.args.image.now c.args.exits.now) c.args.image.now.entry c.in-Some.at c.loop-at.walk (record { marks = c.loop-at.walk.marks; others = c.loop-at.walk.others; work = c.pop.new.self }) c.follow.new.self
    (λ a none. stands_at_places c.args.image.now a (rw (← c.segments-segments.ensures.value) c.segments-segments.ensures.valid) none)
    c.loop-at.invariant refl refl c.in-Some.ensures.items
    (subst (λ w. Sees (targets w c.in-Some.at) (record { marks = c.loop-at.walk.marks; others = c.loop-at.walk.others; work = c.pop.new.self }) c.follow.new.self) c.way_at.ensures c.in_ok-follow.ensures)

pub returns : goal.returns
returns c =
    let z : vec_len c.loop-at.walk.work ≡ 0 = c.in_default.ensures.cases.0 in
    let n : length c.loop-at.walk.work.items ≡ 0 = search rules in
    explored_by (code_by c.args.image.now c.args.exits.now) c.args.image.now.entry c.loop-at.walk (record { marks = c.loop-at.walk.marks; others = c.loop-at.walk.others; work = c.pop.new.self }) refl refl c.loop-at.invariant n

pub see-requires : goal.see-requires
see-requires c = c.in_ok-walk.ensures.marks.long

pub follow-requires : goal.follow-requires
follow-requires c = c.loop-at.invariant.long
