use Rattle.std.proofs.Common.{All, take}
use Rattle.report_laws.specs.Typed.{IsTypedLoop}
use Rattle.report_laws.proofs.typed.are_loops.Given as goal

abbrev pub invariant-loop-claim : goal.invariant-loop-claim
invariant-loop-claim l = All IsTypedLoop (take l.claim-index l.claims)
