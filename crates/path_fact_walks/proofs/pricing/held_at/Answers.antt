use Rattle.std.proofs.Common.{rules, ◌∙◌, sym, ap, List, FitsSigned}
use Rattle.std.specs.Int.{w128}
use Rattle.std.proofs.lemmas.Int.{to_z-of_z}
use Rattle.code_flow_system.specs.declared.claims.FactClaim.{FactClaim}
use Rattle.code_flow_system.specs.Claims.{Claims}
use Rattle.code_flow_system.specs.Certificates.{fact_limits, held}
use Rattle.path_fact_walks.proofs.pricing.held_at.Goals as goal

pub returns-then-not-is_mentioned-clause-value : goal.returns-then-not-is_mentioned-clause-value
returns-then-not-is_mentioned-clause-value c = sym (c.is_mentioned.ensures c.if-not-is_mentioned.true c.args.multiplied.facts.now c.requires.fits.count)

pub returns-clause-value : goal.returns-clause-value
returns-clause-value c =
    let ys = c.args.multiplied.facts.now in
    let fits : FitsSigned w128 c.held.result = search rules in
    let facts = c.facts.ensures.value ∙ ap (λ (x : Claims). x.facts) c.claims.ensures in
    to_z-of_z w128 c.held.result fits ∙ (c.held.ensures.value ∙ ap (λ (fs : List FactClaim). held (fact_limits fs ys) c.args.at) facts)
