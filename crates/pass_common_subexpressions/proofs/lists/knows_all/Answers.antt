use Rattle.std.proofs.Common.{All, subst}
use Rattle.std.proofs.lemmas.List.{take_all}
use Rattle.std.proofs.lemmas.List.Elements.{All-more}
use Rattle.pass_common_subexpressions_law.specs.Facts.{Knows}
use Rattle.pass_common_subexpressions.specs.declared.facts.Fact.{Fact}
use Rattle.pass_common_subexpressions.specs.Making.{fact_of}
use Rattle.pass_common_subexpressions.proofs.lists.knows_all.Goals as goal

pub loop-fact-preserved : goal.loop-fact-preserved
loop-fact-preserved c =
    let known : Fact → Type 0 = λ f. Knows c.args.known.now (fact_of f) in
    All-more known c.args.list.now c.loop-fact.fact-index _ c.loop-fact-test.true c.loop-fact.invariant c.in-Some.ensures

pub returns : goal.returns
returns c = λ done. subst (All (λ f. Knows c.args.known.now (fact_of f))) (take_all c.loop-fact.fact-index c.args.list.now c.loop-fact-test.false) c.loop-fact.invariant
