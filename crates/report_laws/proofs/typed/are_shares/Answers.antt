use Rattle.std.proofs.Common.{All, subst}
use Rattle.std.proofs.lemmas.List.Elements.{All-more}
use Rattle.report_laws.specs.Typed.{IsTypedShare}
use Rattle.report_laws.proofs.ListLemmas.{take_whole}
use Rattle.report_laws.proofs.typed.are_shares.Goals as goal

pub loop-share-preserved : goal.loop-share-preserved
loop-share-preserved c = All-more IsTypedShare c.args.shares.now c.loop-share.share-index c.share-item.result c.loop-share-test.true c.loop-share.invariant (subst IsTypedShare c.share-item.is c.is_share.ensures)

pub returns : goal.returns
returns c = subst (All IsTypedShare) (take_whole c.args.shares.now c.loop-share.share-index c.loop-share-test.false) c.loop-share.invariant
