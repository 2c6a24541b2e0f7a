use Rattle.std.proofs.Common.{◌∙◌, sym, ap, subst, length, All}
use Rattle.rv_core.specs.Table.{table_of}
use Rattle.code_flow_system.specs.Claims.{Claims}
use Rattle.code_flow_system.specs.Certificates.{fact_limits, IsSigned}
use Rattle.simplex_rounds.specs.declared.pricing.Multipliers.{Multipliers}
use Rattle.path_enum.specs.Steps.{IsAnswered, IsAsked}
use Rattle.path_enum.proofs.BoundLemmas.{none_signed, begun}
use Rattle.path_enum.proofs.bounding.bound.Goals as goal

pub ask-requires-clause-signs : goal.ask-requires-clause-signs
ask-requires-clause-signs c =
    let t = table_of c.args.costs.now in
    let s = c.args.system.now in
    let ls = c.args.shapes.now in
    let ps = c.args.spans.now in
    let count = ap length (c.facts-facts.ensures.value ∙ ap (λ (x : Claims). x.facts) c.claims.ensures) in
    subst (λ (y : Multipliers). All IsSigned (fact_limits s.claims.facts y.facts)) (sym c.in_ok-multipliers.ensures) (none_signed t s ls ps c.is_searchable.ensures (length c.facts-facts.result.now) count)

pub both-requires-clause-first : goal.both-requires-clause-first
both-requires-clause-first c =
    let t = table_of c.args.costs.now in
    let s = c.args.system.now in
    let ls = c.args.shapes.now in
    let ps = c.args.spans.now in
    let count = ap length (c.facts-facts.ensures.value ∙ ap (λ (x : Claims). x.facts) c.claims.ensures) in
    let h = subst (IsAsked t s ls ps c.in_ok-multipliers.multipliers) c.in-Found.is c.in_ok-cert.ensures in
    begun t s ls ps c.is_searchable.ensures (length c.facts-facts.result.now) count c.in-Found.first (subst (λ (y : Multipliers). IsAnswered t s ls ps y c.in-Found.first) c.in_ok-multipliers.ensures h)
