use Rattle.std.proofs.Common.{◌≡◌, ◌<◌, arith, sym, ◌∙◌, subst, length, get_or}
use Rattle.types_calls.specs.Chains.{Among, callees}
use Rattle.call_graph.specs.Search.{Spreads}
use Rattle.call_graph.proofs.Greatest.{read_callees, among_at, drop_at}
use Rattle.call_graph.proofs.Seen.{spread_begin, spread_step, unseen-set}
use Rattle.call_graph.proofs.spread.+spread.Goals as goal

pub loop-k-init : goal.loop-k-init
loop-k-init t c =
    let graph = c.args.graph.now in
    let old = c.args.seen.now in
    let g = c.args.g in
    let within : g < length old = omega (arith, c.requires.within, c.requires.size) in
    let same : c.as_slice-callees.result.now ≡ callees graph g = c.as_slice-callees.ensures ∙ read_callees graph g _ c.requires.within c.index-graph-g.is in
    let new = sym c.was_seen.ensures ∙ c.if-was_seen.false in
    (rw (c.see.ensures, same) (spread_begin graph g old within new), rw c.see.ensures (let n = unseen-set old g within new in omega (arith, n)))

pub loop-k-preserved : goal.loop-k-preserved
loop-k-preserved t c =
    let graph = c.args.graph.now in
    let g = c.args.g in
    let cs = c.as_slice-callees.result.now in
    let i = c.loop-k.k-index in
    let same : cs ≡ callees graph g = c.as_slice-callees.ensures ∙ read_callees graph g _ c.requires.within c.index-graph-g.is in
    let member = subst (Among (get_or cs i 0)) same (among_at cs i c.loop-k-test.true) in
    let before = subst (λ left. Spreads graph g left c.args.seen.now c.loop-k.seen) (drop_at cs i c.loop-k-test.true) c.loop-k.invariant.0 in
    (spread_step graph g (get_or cs i 0) _ c.args.seen.now c.loop-k.seen c.spread.new.seen member before c.spread.ensures, omega (arith, c.loop-k.invariant.1, c.spread.ensures.fewer))

pub spread-requires : goal.spread-requires
spread-requires t c =
    let graph = c.args.graph.now in
    let g = c.args.g in
    let cs = c.as_slice-callees.result.now in
    let i = c.loop-k.k-index in
    let same : cs ≡ callees graph g = c.as_slice-callees.ensures ∙ read_callees graph g _ c.requires.within c.index-graph-g.is in
    let member = subst (Among (get_or cs i 0)) same (among_at cs i c.loop-k-test.true) in
    (omega (arith, c.loop-k.invariant.1, c.decreases), (c.requires.range.within g (get_or cs i 0) member, (c.loop-k.invariant.0.size ∙ c.requires.size, c.requires.range)))
