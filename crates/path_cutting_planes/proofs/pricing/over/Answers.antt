use Rattle.std.proofs.Common.{rules, ◌≡◌, ◌∙◌, arith, sym, ap, subst, length, List, ℤ}
use Rattle.std.specs.Int.{w128}
use Rattle.std.proofs.lemmas.Int.{to_z-of_z}
use Rattle.simplex_rounds.specs.declared.pricing.Multipliers.{Multipliers}
use Rattle.path_cutting_planes.specs.Guesses.{IsGuess}
use Rattle.path_cutting_planes.proofs.SignLemmas.{over_next, over_done}
use Rattle.path_cutting_planes.proofs.pricing.over.Goals as goal

pub loop-fact-preserved : goal.loop-fact-preserved
loop-fact-preserved c =
    over_next c.args.ops.now c.loop-fact.fact c.args.times _ c.loop-fact.facts.items c.push.new.self.items _ c.multiplier.result c.requires.times c.loop-fact-test.true c.in_ok-push.ensures.items (to_z-of_z w128 c.multiplier.result (search rules)) c.multiplier.ensures.sign c.multiplier.ensures.small c.loop-fact.invariant

pub returns : goal.returns
returns c =
    let e : c.loop-fact.fact ≡ length c.args.ops.now = omega arith in
    subst (λ (y : Multipliers). IsGuess c.args.ops.now c.args.times y) (sym (ap (λ n. record { scale = n; facts = c.new.result }) c.from.ensures ∙ ap (λ (ys : List ℤ). record { scale = c.args.scale; facts = ys }) c.new.ensures))
    (over_done c.args.ops.now c.loop-fact.fact c.args.times c.args.scale c.loop-fact.facts.items c.requires.some c.requires.scale e c.loop-fact.invariant)
