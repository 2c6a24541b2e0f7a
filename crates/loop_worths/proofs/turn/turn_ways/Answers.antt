use Rattle.std.proofs.Common.{arith, ◌≡◌, ◌++◌, ◌∙◌, ap, ℤ, length, take, drop}
use Rattle.std.specs.Int.{w128}
use Rattle.std.proofs.Math.Seq.{take-append_seam}
use Rattle.std.proofs.lemmas.Int.{to_z-of_z}
use Rattle.loop_walks.specs.Turns.{turn_ways}
use Rattle.loop_worths.proofs.turn.turn_ways.Goals as goal

pub returns : goal.returns
returns c =
    let ways = c.turn.new.ways in
    let rest = drop (length ways) c.in_ok-ways.ways.items in
    let long : c.in_ok-ways.ways.len ≡ length ways = (let a = c.turn.auto.ways in let b = c.deref_mut.ensures.len in omega (arith, a, b)) in
    ap (λ k. take k (ways ++ rest)) long
    ∙ (take-append_seam ways rest
    ∙ (c.turn.ensures ∙ ap (λ (z : ℤ). turn_ways z c.args.weights.now c.args.ring c.args.steps.now) (to_z-of_z w128 c.args.low c.ranges.low)))
