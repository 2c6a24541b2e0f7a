use Rattle.std.proofs.Common.{◌≡◌, ◌++◌, ℕ, List, [], ap, drop, map, sym, ◌∙◌}
use Rattle.std.proofs.lemmas.List.{take_all}
use Rattle.std.proofs.lemmas.Simd.{map-map}
use Rattle.low_ir.specs.declared.run.Began.{Began}
use Rattle.low_ir.specs.Effects.{Contents, World, contents}
use Rattle.low_ir.specs.View.{object_of}
use Rattle.low_eval.proofs.world.World.new.Goals as goal

abbrev world : List Contents → List ℕ → List ℕ → List Began → World
world objects input output trace = record { objects = objects; input = input; output = output; trace = trace }

same_world : (os ps : List Contents) (is js us xs : List ℕ) (ts ys : List Began) → os ≡ ps → is ≡ js → us ≡ xs → ts ≡ ys → world os is us ts ≡ world ps js xs ys
same_world os ps is js us xs ts ys a b c d =
    ap (λ o. world o is us ts) a ∙ ap (λ i. world ps i us ts) b ∙ ap (λ u. world ps js u ts) c ∙ ap (λ t. world ps js xs t) d

pub returns : goal.returns
returns c =
    let objects = c.args.objects.now in
    let arrays = c.loop-object.invariant ∙ ap (map (λ o. contents (object_of o))) (take_all c.loop-object.object-index objects c.loop-object-test.false) ∙ sym (map-map contents object_of objects) in
    let input = ap (drop 0) (c.in_ok-extend_from_slice.ensures.items ∙ ap (λ l. l ++ c.args.input.now) c.new-bytes.ensures.items) in
    same_world c.loop-object.arrays.items (map contents (map object_of objects)) (drop 0 c.extend_from_slice.new.self.items) c.args.input.now c.new-2.result.items [] c.new-3.result.items [] arrays input c.new-2.ensures.items c.new-3.ensures.items
