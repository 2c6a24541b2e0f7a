use Rattle.std.proofs.Common.{subst, sym}
use Rattle.code_flow_system.specs.declared.claims.Never.{Never}
use Rattle.code_flow_system.specs.declared.claims.LoopClaim.{LoopClaim}
use Rattle.path_walks.specs.Opens.{AddressesRise}
use Rattle.path_walks.proofs.SoundLemmas.{nevers_rise, loops_rise}
use Rattle.path_walks.proofs.open.is_stop.Goals as goal

pub is_never-requires : goal.is_never-requires
is_never-requires c = subst (λ cs. AddressesRise (λ (x : Never). x.at) cs) (sym c.nevers.ensures.value) (nevers_rise c.args.claims.now c.requires)

pub is_shut-requires : goal.is_shut-requires
is_shut-requires c = subst (λ cs. AddressesRise (λ (x : LoopClaim). x.header) cs) (sym c.loops.ensures.value) (loops_rise c.args.claims.now c.requires)
