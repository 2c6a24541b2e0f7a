use Rattle.std.proofs.Common.{◌≡◌, sym, ◌∙◌, subst, get_or}
use Rattle.types_calls.specs.Chains.{Among, callees}
use Rattle.call_graph.specs.Search.{IsRoot}
use Rattle.call_graph.proofs.Greatest.{read_callees, among_at, drop_past, drop_at}
use Rattle.call_graph.proofs.Seen.{root_step, root_tells}
use Rattle.call_graph.proofs.spread.tells.Goals as goal

pub loop-k-init : goal.loop-k-init
loop-k-init c =
    let graph = c.args.graph.now in
    let f = c.args.f in
    let same : c.as_slice-callees.result.now ≡ callees graph f = c.as_slice-callees.ensures ∙ read_callees graph f _ c.requires.within c.index-graph-f.is in
    subst (λ left. IsRoot graph f left c.args.seen.now) (sym same) c.requires.begin

pub spread-requires-clause-within : goal.spread-requires-clause-within
spread-requires-clause-within c =
    let graph = c.args.graph.now in
    let f = c.args.f in
    let cs = c.as_slice-callees.result.now in
    let i = c.loop-k.k-index in
    let same : cs ≡ callees graph f = c.as_slice-callees.ensures ∙ read_callees graph f _ c.requires.within c.index-graph-f.is in
    c.requires.range.within f (get_or cs i 0) (subst (Among (get_or cs i 0)) same (among_at cs i c.loop-k-test.true))

pub loop-k-preserved : goal.loop-k-preserved
loop-k-preserved c =
    let graph = c.args.graph.now in
    let f = c.args.f in
    let cs = c.as_slice-callees.result.now in
    let i = c.loop-k.k-index in
    let same : cs ≡ callees graph f = c.as_slice-callees.ensures ∙ read_callees graph f _ c.requires.within c.index-graph-f.is in
    let member = subst (Among (get_or cs i 0)) same (among_at cs i c.loop-k-test.true) in
    let before = subst (λ left. IsRoot graph f left c.loop-k.seen) (drop_at cs i c.loop-k-test.true) c.loop-k.invariant in
    root_step graph f (get_or cs i 0) _ c.loop-k.seen c.spread.new.seen member before c.spread.ensures

pub returns : goal.returns
returns c =
    let graph = c.args.graph.now in
    let f = c.args.f in
    let cs = c.as_slice-callees.result.now in
    let done = subst (λ left. IsRoot graph f left c.loop-k.seen) (drop_past cs c.loop-k.k-index c.loop-k-test.false) c.loop-k.invariant in
    rw c.was_seen.ensures (root_tells graph f c.loop-k.seen done)
