use Rattle.std.proofs.Common.{All, subst}
use Rattle.std.specs.Prelude.{Vec}
use Rattle.std.specs.Global.{Global}
use Rattle.std.proofs.lemmas.List.{take_all}
use Rattle.std.proofs.lemmas.List.Elements.{All-more}
use Rattle.pass_common_subexpressions.specs.declared.facts.Fact.{Fact}
use Rattle.pass_common_subexpressions.specs.Making.{AreFew, facts_of}
use Rattle.pass_common_subexpressions.proofs.lists.all_few.Goals as goal

pub loop-list-preserved : goal.loop-list-preserved
loop-list-preserved c =
    let few : Vec Fact Global → Type 0 = λ list. AreFew c.args.registers (facts_of list) in
    All-more few c.args.lists.now c.loop-list.list-index c.list-item.result c.loop-list-test.true c.loop-list.invariant
    (subst few c.list-item.is (subst (AreFew c.args.registers) c.deref.ensures.value (c.are_few.ensures c.if-not-are_few.false)))

pub returns : goal.returns
returns c = λ done. subst (All (λ list. AreFew c.args.registers (facts_of list))) (take_all c.loop-list.list-index c.args.lists.now c.loop-list-test.false) c.loop-list.invariant
