use Rattle.std.proofs.Common.{All, take}
use Rattle.report_laws.specs.Typed.{IsTypedShare}
use Rattle.report_laws.proofs.typed.are_shares.Given as goal

abbrev pub invariant-loop-share : goal.invariant-loop-share
invariant-loop-share l = All IsTypedShare (take l.share-index l.shares)
