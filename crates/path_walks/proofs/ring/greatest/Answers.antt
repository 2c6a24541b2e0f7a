use Rattle.std.proofs.Common.{rules, FitsSigned, ◌∙◌, ◌-◌, ap, ℤ, pos, length, get_or}
use mir.Val.{to_z, of_z}
use Rattle.std.specs.Int.{w128}
use Rattle.std.proofs.lemmas.Int.{to_z-of_z}
use Rattle.loop_walks.specs.Walks.{larger}
use Rattle.path_walks.proofs.PriceLemmas.{greatest_on}
use Rattle.path_walks.proofs.ring.greatest.Goals as goal

pub loop-k-preserved : goal.loop-k-preserved
loop-k-preserved c =
    let f : FitsSigned w128 c.larger-best.result = search rules in
    let z = get_or c.args.prices.now (length c.args.prices.now - 1 - c.loop-k.k) (pos 0) in
    let g : FitsSigned w128 z = search rules in
    to_z-of_z w128 c.larger-best.result f
    ∙ greatest_on (to_z w128 (of_z w128 c.args.low)) (to_z w128 c.loop-k.best-bits) c.larger-best.result c.args.prices.now c.loop-k.k c.loop-k-test.true c.loop-k.invariant (c.larger-best.ensures ∙ ap (λ (y : ℤ). larger y (to_z w128 c.loop-k.best-bits)) (to_z-of_z w128 z g))
