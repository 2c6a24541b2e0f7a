use Rattle.std.proofs.Common.{◌∙◌, sym, subst}
use Rattle.code_flow_system.specs.Certificates.{AddressesAscend}
use Rattle.code_flow_system.specs.Systems.{AreAscending}
use Rattle.path_cert.proofs.PartLemmas.{potentials_ascend}
use Rattle.path_loose_fit.proofs.fit.values_under.Goals as goal

pub bound_values-requires-clause-ascending : goal.bound_values-requires-clause-ascending
bound_values-requires-clause-ascending c = subst AddressesAscend (sym (c.deref.ensures.value ∙ c.in_ok-places.ensures)) (potentials_ascend c.moves.result.now c.as_slice.result.now c.moves.result.now (subst AreAscending (sym c.moves.ensures.value) c.moves.ensures.valid.ascending))
