use Rattle.std.proofs.Common.{◌≡◌, ◌++◌, [], ◌∷◌, ap, arith, map, sym, ◌∙◌}
use Rattle.std.specs.List.{range_with_len}
use Rattle.std.proofs.lemmas.List.FromFn.{map-range_with_len_more}
use Rattle.low_ir.specs.View.{object_of}
use Rattle.low_eval.specs.First.{first_element}
use Rattle.low_eval.proofs.FirstElements.{first_elements-places}
use Rattle.low_eval.proofs.cells.Cells.new.Goals as goal

pub loop-index-preserved : goal.loop-index-preserved
loop-index-preserved c =
    let o = object_of c.args.object.now in
    let i = c.loop-index.index in
    c.in_ok-push.ensures.items
    ∙ ap (λ l. l ++ c.first_element.result ∷ []) c.loop-index.invariant
    ∙ ap (λ e. map (first_element o.storage o) (range_with_len 0 i) ++ e ∷ []) c.first_element.ensures
    ∙ sym (map-range_with_len_more (first_element o.storage o) 0 i i (omega arith))

pub returns : goal.returns
returns c =
    let o = object_of c.args.object.now in
    let all : c.loop-index.index ≡ o.size = omega (arith, c.loop-index-test.false, c.loop-index.auto.index-end) in
    ap (λ es. record { kind = o.kind; storage = o.storage; elements = es })
    (c.loop-index.invariant ∙ ap (λ n. map (first_element o.storage o) (range_with_len 0 n)) all ∙ sym (first_elements-places o.storage o))
