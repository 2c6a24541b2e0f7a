use Rattle.std.proofs.Common.{All, take}
use Rattle.report_laws.specs.Typed.{IsTypedFact}
use Rattle.report_laws.proofs.typed.are_facts.Given as goal

abbrev pub invariant-loop-claim : goal.invariant-loop-claim
invariant-loop-claim l = All IsTypedFact (take l.claim-index l.claims)
