use Rattle.std.proofs.Common.{ℕ, List, map, ap, ◌∙◌}
use Rattle.std.specs.Prelude.{Option}
use Rattle.std.specs.List.{flat_map}
use Rattle.low_ir.specs.View.{claim_of}
use Rattle.claims_lists.specs.declared.marks.Marked.{Marked}
use Rattle.claims_lists.specs.Rows.{ordered}
use Rattle.claims_lists.proofs.Listing.{order_same}
use Rattle.claims_movables.specs.Alone.{alone, alone_by}
use Rattle.claims_movables.proofs.AloneLemmas.{accesses_same}
use Rattle.claims_movables.proofs.alone.accesses.Goals as goal

pub returns : goal.returns
returns c = λ l is touches o.
    let y = c.args.laying.now in
    let all = c.args.touches.now in
    let by : List (Option ℕ) → ℕ → List Marked = λ only. alone_by only all y.layout.now in
    accesses_same y l is all touches o c.in_ok-accesses.accesses.items
    (c.in_ok-accesses.ensures
    ∙ ap (λ only. flat_map (by only) c.as_slice-3.result.now) (c.as_slice-2.ensures.value ∙ c.in_ok-claims.ensures ∙ ap (λ cs. map alone (map claim_of cs)) c.as_slice.ensures.value)
    ∙ ap (flat_map (by (map alone (map claim_of y.code.now.low.claims.items)))) (c.as_slice-3.ensures.value ∙ c.in_ok-order.ensures ∙ ap (ordered y.placed.now) (c.len.ensures ∙ y.layout.now.functions.ok.0) ∙ order_same y l is))
