use Rattle.std.proofs.Common.{ap, subst, ◌∙◌}
use Rattle.code_flow_system.specs.Claims.{Claims}
use Rattle.claims_definition.specs.Shapes.{AreShaped}
use Rattle.low_layout.proofs.laying.claims_in.Goals as goal

pub returns-in-Ok : goal.returns-in-Ok
returns-in-Ok c = λ l w.
    let claims = c.in_ok-claims.ensures l w in
    record {
      claims = claims;
      shapes = subst (λ ls. AreShaped ls c.in-Ok.shapes.items) (c.loops.ensures.value ∙ ap (λ (k : Claims). k.loops) claims) c.in-Ok.ensures;
    }
