use Rattle.std.proofs.Common.{All, subst}
use Rattle.std.proofs.lemmas.List.Elements.{All-more}
use Rattle.report_laws.specs.Typed.{IsTypedFact}
use Rattle.report_laws.proofs.ListLemmas.{take_whole}
use Rattle.report_laws.proofs.typed.are_facts.Goals as goal

pub loop-claim-preserved : goal.loop-claim-preserved
loop-claim-preserved c = All-more IsTypedFact c.args.claims.now c.loop-claim.claim-index c.claim-item.result c.loop-claim-test.true c.loop-claim.invariant (subst IsTypedFact c.claim-item.is c.is_fact.ensures)

pub returns : goal.returns
returns c = subst (All IsTypedFact) (take_whole c.args.claims.now c.loop-claim.claim-index c.loop-claim-test.false) c.loop-claim.invariant
