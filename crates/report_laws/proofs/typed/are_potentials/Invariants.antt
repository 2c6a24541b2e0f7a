use Rattle.std.proofs.Common.{All, take}
use Rattle.report_laws.specs.Typed.{IsWord}
use Rattle.report_laws.proofs.typed.are_potentials.Given as goal

abbrev pub invariant-loop-potential : goal.invariant-loop-potential
invariant-loop-potential l = All (λ t. IsWord t.0) (take l.potential-index l.potentials)
