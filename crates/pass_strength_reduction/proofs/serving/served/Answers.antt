use Rattle.std.proofs.Common.{◌++◌, ap, map, subst, sym, ◌∙◌}
use Rattle.low_ir.specs.View.{address_of, claim_of}
use Rattle.pass_strength_reduction_law.specs.Steps.{claims_of}
use Rattle.pass_dataflow_facts.specs.declared.facts.Origin.TheVariants.{Object}
use Rattle.pass_dataflow_transfer.specs.Learning.{Sure}
use Rattle.pass_strength_reduction.specs.Making.{LeadAlike, Serves}
use Rattle.pass_strength_reduction.proofs.Ways.{by_pointer}
use Rattle.pass_strength_reduction.proofs.serving.served.Goals as goal

pub returns-then-lead_alike : goal.returns-then-lead_alike
returns-then-lead_alike c =
    let news = map claim_of c.args.scope.now.claims.now ++ claims_of c.args.scope.now.alone.now in
    let facts = c.args.facts.now in
    let old = address_of c.args.old in
    let way = c.args.way in
    let it = c.in-Some-array_of in
    subst (λ b. Sure facts (Serves news old b)) (sym c.address-new.ensures)
    (by_pointer facts news old way.register way.claim way.displacement it.there c.base_origin.result (c.in-Some.ensures ∙ ap Object (sym c.if-there-object.true)) c.base_origin.ensures it.ensures.points it.ensures.lists
    (subst (LeadAlike facts old) c.address-new.ensures (c.lead_alike.ensures c.if-lead_alike.true)))
