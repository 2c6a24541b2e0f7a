use Rattle.std.proofs.Common.{ap, subst, ◌∙◌}
use Rattle.code_flow_system.specs.Claims.{is_listed}
use Rattle.code_flow.specs.Walks.{IsReach}
use Rattle.code_flow.proofs.SystemLemmas.{code_same}
use Rattle.code_flow.proofs.finding.system.Goals as goal

pub system_of_walk-requires-clause-found : goal.system_of_walk-requires-clause-found
system_of_walk-requires-clause-found c = record {
  loadable = rw (← c.segments-segments.ensures.value) c.segments-segments.ensures.valid;
  reach = subst (λ k. IsReach k c.args.image.now.entry c.in-Ok-reach.walk)
      (code_same c.args.image.now c.deref.result.now c.args.claims.now.exits (λ a. ap (λ xs. is_listed xs a) c.deref.ensures.value ∙ (c.in-Ok.ensures.same a ∙ ap (λ xs. is_listed xs a) c.exits.ensures.value)))
      c.in-Ok-reach.ensures.reach;
  sorted = c.in-Ok-reach.ensures.sorted;
}
