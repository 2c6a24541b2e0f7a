use Rattle.std.proofs.Common.{◌≡◌, ◌++◌, drop, map}
use Rattle.low_ir.specs.View.{claim_of}
use Rattle.pass_strength_reduction_law.specs.Steps.{claims_of}
use Rattle.pass_strength_reduction.proofs.program.add_claims.Given as goal

abbrev pub invariant-loop-object : goal.invariant-loop-object
invariant-loop-object l = map claim_of l.claims.items ++ claims_of (drop l.object-index l.alone) ≡ map claim_of l.initial.claims.items ++ claims_of l.alone
