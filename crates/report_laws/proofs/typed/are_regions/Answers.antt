use Rattle.std.proofs.Common.{All, subst}
use Rattle.std.proofs.lemmas.List.Elements.{All-more}
use Rattle.report_laws.specs.Typed.{IsTypedWithin}
use Rattle.report_laws.proofs.ListLemmas.{take_whole}
use Rattle.report_laws.proofs.typed.are_regions.Goals as goal

pub loop-claim-preserved : goal.loop-claim-preserved
loop-claim-preserved c = All-more IsTypedWithin c.args.claims.now c.loop-claim.claim-index _ c.loop-claim-test.true c.loop-claim.invariant c.is_region.ensures

pub returns : goal.returns
returns c = subst (All IsTypedWithin) (take_whole c.args.claims.now c.loop-claim.claim-index c.loop-claim-test.false) c.loop-claim.invariant
