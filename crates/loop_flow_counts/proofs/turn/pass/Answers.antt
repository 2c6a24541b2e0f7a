use Rattle.std.proofs.Common.{rules, arith, ◌≡◌, ◌∙◌, ap, subst, ℕ, ℤ, pos, drop, get_or}
use Rattle.std.specs.Int.{w128}
use Rattle.std.proofs.lemmas.Int.{to_z-of_z}
use Rattle.loop_walks.specs.Rows.{Each}
use Rattle.loop_flows.specs.Passes.{spread}
use Rattle.loop_flows.specs.Flows.{together}
use Rattle.loop_flows.specs.Turns.{is_turn}
use Rattle.loop_flow_counts.specs.Made.{NotChosen}
use Rattle.loop_flow_counts.proofs.PassLemmas.{turn_start, turn_next, turn_end}
use Rattle.loop_flow_counts.proofs.turn.pass.Goals as goal

pub loop-k-init : goal.loop-k-init
loop-k-init c =
    let ring = c.args.ring in
    let chosen = is_turn c.args.weighed.low c.args.weighed.weights.now ring c.args.ways.now in (c.requires.order.0, turn_start chosen c.args.weighed.steps.now c.args.counts.now c.args.amounts.now ring.head c.requires.counts c.requires.before)

pub loop-k-preserved : goal.loop-k-preserved
loop-k-preserved c =
    let ring = c.args.ring in
    let ms = c.args.weighed.steps.now in
    let chosen = is_turn c.args.weighed.low c.args.weighed.weights.now ring c.args.ways.now in
    let e = to_z-of_z w128 c.args.weighed.low (search rules) in
    let t = c.loop-k-test.true in
    let o = c.requires.order.1 in (
      omega (arith, t),
      turn_next chosen ms c.loop-k.counts c.loop-k.amounts c.loop-k.k (together c.args.counts.now (spread chosen c.args.amounts.now ms)) (record { at = 0; on = 0; price = pos 0 })
          (omega (arith, t, o)) (c.loop-k.auto.counts ∙ c.requires.counts) c.loop-k.invariant.1 c.add.new.counts c.make_if.new.amounts c.is_turn-chosen.result c.make_if.result
          (c.is_turn-chosen.ensures ∙ ap (λ (z : ℤ). is_turn z c.args.weighed.weights.now ring c.args.ways.now (get_or ms c.loop-k.k (record { at = 0; on = 0; price = pos 0 }))) e) c.make_if.ensures.handed c.make_if.ensures.made c.add.ensures,
    )

pub returns : goal.returns
returns c =
    let chosen = is_turn c.args.weighed.low c.args.weighed.weights.now c.args.ring c.args.ways.now in
    let ms = c.args.weighed.steps.now in
    let f = c.loop-k-test.false in
    let le = c.loop-k.invariant.0 in
    let ended : c.args.ring.rest ≡ c.loop-k.k = omega (arith, f, le) in
    turn_end chosen ms c.loop-k.counts c.loop-k.amounts c.loop-k.k (together c.args.counts.now (spread chosen c.args.amounts.now ms)) (c.loop-k.auto.counts ∙ c.requires.counts)
    (subst (λ (k : ℕ). Each (NotChosen chosen) (drop k ms)) ended c.requires.behind) c.loop-k.invariant.1
