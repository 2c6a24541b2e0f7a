use Rattle.std.proofs.Common.{sym, subst}
use Rattle.code_flow_system.specs.Systems.{IsSystemOf}
use Rattle.try_images.proofs.bounds.found_is_reached.Goals as goal

pub systems_are_reached-requires : goal.systems_are_reached-requires
systems_are_reached-requires c =
    let h = c.requires in
    subst (λ l. IsSystemOf c.args.image.now l c.args.system.now) (sym h.same_claims) h
