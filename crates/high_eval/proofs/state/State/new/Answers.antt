use Rattle.std.proofs.Common.{◌≡◌, ◌++◌, ℕ, List, [], ap, drop, map, sym, ◌∙◌}
use Rattle.std.proofs.lemmas.List.{take_all}
use Rattle.std.proofs.lemmas.Simd.{map-map}
use Rattle.high_ir.specs.Meaning.{Contents, State, Variables}
use Rattle.high_ir.specs.Runs.{contents}
use Rattle.high_ir.specs.View.{object_of}
use Rattle.high_eval.proofs.state.State.new.Goals as goal

abbrev stands : Variables → List Contents → List ℕ → List ℕ → List ℕ → State
stands variables objects input output trace = record { variables = variables; world = record { objects = objects; input = input; output = output }; trace = trace }

stands_so : (vs ws : Variables) (os ps : List Contents) (is js us xs ts ys : List ℕ) → vs ≡ ws → os ≡ ps → is ≡ js → us ≡ xs → ts ≡ ys → stands vs os is us ts ≡ stands ws ps js xs ys
stands_so vs ws os ps is js us xs ts ys a b c d e =
    ap (λ v. stands v os is us ts) a ∙ ap (λ o. stands ws o is us ts) b ∙ ap (λ i. stands ws ps i us ts) c ∙ ap (λ u. stands ws ps js u ts) d ∙ ap (λ t. stands ws ps js xs t) e

pub returns : goal.returns
returns c =
    let objects = c.args.objects.now in
    let arrays = c.loop-object.invariant ∙ ap (map (λ o. contents (object_of o))) (take_all c.loop-object.object-index objects c.loop-object-test.false) ∙ sym (map-map contents object_of objects) in
    let input = ap (drop 0) (c.in_ok-extend_from_slice.ensures.items ∙ ap (λ l. l ++ c.args.input.now) c.new-bytes.ensures.items) in
    stands_so c.new-2.result.items [] c.loop-object.arrays.items (map contents (map object_of objects)) (drop 0 c.extend_from_slice.new.self.items) c.args.input.now c.new-3.result.items [] c.new-4.result.items [] c.new-2.ensures.items arrays input c.new-3.ensures.items c.new-4.ensures.items
