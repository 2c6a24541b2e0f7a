use Rattle.std.proofs.Common.{All, take}
use Rattle.report_laws.specs.Typed.{IsTypedWithin}
use Rattle.report_laws.proofs.typed.are_regions.Given as goal

abbrev pub invariant-loop-claim : goal.invariant-loop-claim
invariant-loop-claim l = All IsTypedWithin (take l.claim-index l.claims)
