use Rattle.std.proofs.Common.{subst, ◌<◌}
use Rattle.std.proofs.lemmas.List.{take_all}
use Rattle.std.proofs.lemmas.List.Elements.{All-more}
use Rattle.pass_common_subexpressions.specs.declared.facts.Fact.{Fact}
use Rattle.pass_common_subexpressions.specs.Making.{AreFew}
use Rattle.pass_common_subexpressions.proofs.lists.are_few.Goals as goal

pub loop-fact-preserved : goal.loop-fact-preserved
loop-fact-preserved c =
    let few : Fact → Type 0 = λ f. f.register < c.args.registers in
    All-more few c.args.list.now c.loop-fact.fact-index _ c.loop-fact-test.true c.loop-fact.invariant c.if-fact-registers.false

pub returns : goal.returns
returns c = λ done. subst (AreFew c.args.registers) (take_all c.loop-fact.fact-index c.args.list.now c.loop-fact-test.false) c.loop-fact.invariant
