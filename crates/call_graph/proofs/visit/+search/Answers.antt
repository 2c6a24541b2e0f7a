use Rattle.std.proofs.Common.{◌≡◌, ◌<◌, arith, sym, ◌∙◌, subst, suc, length, get_or}
use Rattle.std.proofs.lemmas.List.{length-set}
use Rattle.call_graph.specs.declared.graph.Mark.TheVariants.{Open}
use Rattle.types_calls.specs.Chains.{Among, callees}
use Rattle.call_graph.specs.Search.{Keeps, fresh}
use Rattle.call_graph.proofs.Greatest.{IsSoFar, so_far_all, so_far_step, read_callees, among_at, drop_past, drop_at}
use Rattle.call_graph.proofs.Marks.{fresh-open, sound_open, path_open, path_on, keeps_more, keeps_done}
use Rattle.call_graph.proofs.visit.+search.Goals as goal

pub visit-visit_all-requires : goal.visit-visit_all-requires
visit-visit_all-requires t c =
    let graph = c.args.graph.now in
    let old = c.args.marks.now in
    let f = c.args.f in
    let within : f < length old = omega (arith, c.requires.within, c.requires.size) in
    let new = sym c.mark_at.ensures ∙ c.in-New.is in
    let a : suc (fresh c.mark.new.marks) ≡ fresh old = rw c.mark.ensures (fresh-open old f within new) in
    (omega (arith, a, c.decreases), (c.requires.within, (rw c.mark.ensures (length-set old f Open ∙ c.requires.size), (c.requires.range, (rw c.mark.ensures (sound_open graph old f within c.requires.sound), rw c.mark.ensures (path_open graph old f c.requires.path))))))

pub visit-returns-in-Ok : goal.visit-returns-in-Ok
visit-returns-in-Ok t c =
    let graph = c.args.graph.now in
    let old = c.args.marks.now in
    let f = c.args.f in
    let mid = c.visit_all.new.marks in
    let within : f < length old = omega (arith, c.requires.within, c.requires.size) in
    let new = sym c.mark_at.ensures ∙ c.in-New.is in
    (c.in-Ok.ensures.0, rw c.mark-in-Ok.ensures (keeps_done graph old mid f c.in-Ok.rank within new c.in-Ok.ensures.0 (subst (λ m. Keeps graph m mid) c.mark.ensures c.in-Ok.ensures.1)))

pub visit_all-visit-requires : goal.visit_all-visit-requires
visit_all-visit-requires t c =
    let graph = c.args.graph.now in
    let f = c.args.f in
    let cs = c.as_slice-callees.result.now in
    let i = c.loop-g.g-index in
    let kept = c.loop-g.invariant.1 in
    let same : cs ≡ callees graph f = c.as_slice-callees.ensures ∙ read_callees graph f _ c.requires.within c.index-graph-f.is in
    let member = subst (Among (get_or cs i 0)) same (among_at cs i c.loop-g-test.true) in
    (omega (arith, kept.fewer, c.decreases), (c.requires.range.within f (get_or cs i 0) member, (kept.size ∙ c.requires.size, (c.requires.range, (kept.sound, path_on graph c.args.marks.now c.loop-g.marks f (get_or cs i 0) c.requires.path kept member)))))

pub visit_all-loop-g-preserved : goal.visit_all-loop-g-preserved
visit_all-loop-g-preserved t c =
    let graph = c.args.graph.now in
    let f = c.args.f in
    let cs = c.as_slice-callees.result.now in
    let i = c.loop-g.g-index in
    let same : cs ≡ callees graph f = c.as_slice-callees.ensures ∙ read_callees graph f _ c.requires.within c.index-graph-f.is in
    let member = subst (Among (get_or cs i 0)) same (among_at cs i c.loop-g-test.true) in
    let so_far = subst (IsSoFar graph f c.loop-g.rank) (drop_at cs i c.loop-g-test.true) c.loop-g.invariant.0 in (
      so_far_step graph f c.loop-g.rank (get_or cs i 0) c.in-Ok.below c.in_ok-rank-in-Ok.rank _ member c.in-Ok.ensures.0 c.in_ok-rank-in-Ok.ensures so_far,
      keeps_more graph c.args.marks.now c.loop-g.marks c.visit.new.marks c.loop-g.invariant.1 c.in-Ok.ensures.1,
    )

pub visit_all-returns : goal.visit_all-returns
visit_all-returns t c =
    let graph = c.args.graph.now in
    let f = c.args.f in
    let cs = c.as_slice-callees.result.now in
    (so_far_all graph f c.loop-g.rank (subst (IsSoFar graph f c.loop-g.rank) (drop_past cs c.loop-g.g-index c.loop-g-test.false) c.loop-g.invariant.0), c.loop-g.invariant.1)
