use Rattle.std.proofs.Common.{sym, subst}
use Rattle.code_flow_system.specs.Systems.{IsSystemOf}
use Rattle.compile_report.specs.Found.{AreClaimsOf}
use Rattle.compile_report.proofs.finding.find.Goals as goal

pub find_in-requires-clause-claims : goal.find_in-requires-clause-claims
find_in-requires-clause-claims c = subst (AreClaimsOf c.args.source.now c.args.made.now) (sym c.in_ok-system.ensures.same_claims) c.requires.claims

pub find_in-requires-clause-system : goal.find_in-requires-clause-system
find_in-requires-clause-system c = subst (λ l. IsSystemOf c.args.made.now.laid.image l c.in_ok-system.system) (sym c.in_ok-system.ensures.same_claims) c.in_ok-system.ensures

pub returns-in-Ok : goal.returns-in-Ok
returns-in-Ok c = record { system = c.in_ok-system.system; is_system = c.in_ok-system.ensures; bound = c.in-Ok.ensures }
