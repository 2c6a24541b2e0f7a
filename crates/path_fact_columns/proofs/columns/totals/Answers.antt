use Rattle.std.proofs.Common.{rules, ◌≡◌, ◌<◌, ◌∙◌, sym, ap, subst, List, length, get_or, All, FitsSigned}
use Rattle.std.specs.Int.{w128}
use Rattle.std.proofs.lemmas.Int.{to_z-of_z}
use Rattle.code_flow_system.specs.declared.claims.FactClaim.{FactClaim}
use Rattle.code_flow_system.specs.Claims.{Claims}
use Rattle.code_flow_system.specs.Counts.{count}
use Rattle.code_flow_system.specs.Certificates.{listed}
use Rattle.path_conditions.specs.Natural.{IsNaturalFact}
use Rattle.path_fact_columns.proofs.CountLemmas.{totals_next}
use Rattle.path_fact_columns.proofs.columns.totals.Goals as goal

pub total_of-requires-clause-natural : goal.total_of-requires-clause-natural
total_of-requires-clause-natural c =
    let facts = c.facts-facts.ensures.value ∙ ap (λ (x : Claims). x.facts) c.claims.ensures in
    let natural = subst (All IsNaturalFact) (sym facts) c.requires.natural in
    subst IsNaturalFact (sym c.index-facts-i.is) (natural c.loop-i.i c.index-facts-i.result c.loop-i-test.true)

pub loop-i-preserved : goal.loop-i-preserved
loop-i-preserved c =
    let facts = c.facts-facts.ensures.value ∙ ap (λ (x : Claims). x.facts) c.claims.ensures in
    let f = c.index-facts-i.result in
    let is = subst (λ (fs : List FactClaim). f ≡ get_or fs c.loop-i.i f) facts c.index-facts-i.is in
    let lt = subst (λ (fs : List FactClaim). c.loop-i.i < length fs) facts c.loop-i-test.true in
    let fits : FitsSigned w128 c.total_of.result = search rules in
    totals_next (count (listed c.args.parts.now) c.args.system.now.moves) c.args.system.now.claims.facts c.loop-i.i f _ c.loop-i.totals.items _ is lt (to_z-of_z w128 c.total_of.result fits ∙ c.total_of.ensures.value) c.in_ok-push.ensures.items c.loop-i.invariant
