use Rattle.std.proofs.Common.{All, take}
use Rattle.report_laws.specs.Typed.{IsTypedNever}
use Rattle.report_laws.proofs.typed.are_nevers.Given as goal

abbrev pub invariant-loop-claim : goal.invariant-loop-claim
invariant-loop-claim l = All IsTypedNever (take l.claim-index l.claims)
