use Rattle.std.proofs.Common.{rules, FitsSigned, ◌∙◌, sym, ap, subst, ℤ, List, Option, IfSome}
use mir.Val.{to_z, of_z}
use Rattle.std.specs.Int.{w128}
use Rattle.std.proofs.lemmas.Int.{to_z-of_z}
use Rattle.loop_walks.specs.Turns.{way_at}
use Rattle.loop_worths.specs.Sizes.{IsSmall}
use Rattle.loop_worths.proofs.CodeLemmas.{gain_from, small_way}
use Rattle.loop_worths.proofs.turn.gain.Goals as goal

pub gain_by-requires-clause-way : goal.gain_by-requires-clause-way
gain_by-requires-clause-way c =
    let e = to_z-of_z w128 c.args.low c.ranges.low in
    subst (λ (o : Option ℤ). IfSome o IsSmall) (sym c.way_at.ensures) (small_way c.args.low c.args.weights.now c.args.ring c.args.steps.now c.deref.result.now (cc (e, c.deref.ensures.value, c.in_ok-ways.ensures)) c.requires.small)

pub returns : goal.returns
returns c =
    let f : FitsSigned w128 c.gain_by.result = search rules in
    let p : FitsSigned w128 c.args.ring.price = search rules in
    gain_from c.args.weights.now c.args.ring c.args.steps.now c.args.low (to_z w128 (of_z w128 c.args.low)) (to_z w128 (of_z w128 c.args.ring.price)) c.gain_by.result (to_z w128 (of_z w128 c.gain_by.result)) c.way_at.result
    (to_z-of_z w128 c.gain_by.result f) c.gain_by.ensures (to_z-of_z w128 c.args.low c.ranges.low) (to_z-of_z w128 c.args.ring.price p) (c.way_at.ensures ∙ ap (λ (ts : List (Option ℤ)). way_at ts 0) (c.deref.ensures.value ∙ c.in_ok-ways.ensures))
