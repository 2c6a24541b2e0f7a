use Rattle.std.proofs.Common.{All, take}
use Rattle.report_laws.specs.Typed.{IsWord}
use Rattle.report_laws.proofs.typed.are_terms.Given as goal

abbrev pub invariant-loop-term : goal.invariant-loop-term
invariant-loop-term l = All (λ t. IsWord t.0) (take l.term-index l.terms)
