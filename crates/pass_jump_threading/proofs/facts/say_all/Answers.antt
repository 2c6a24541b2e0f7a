use Rattle.std.proofs.Common.{All, subst}
use Rattle.std.proofs.lemmas.List.{take_all}
use Rattle.std.proofs.lemmas.List.Elements.{All-more}
use Rattle.pass_jump_threading.specs.Facts.{Says, known_in}
use Rattle.pass_jump_threading.proofs.facts.say_all.Goals as goal

pub loop-fact-preserved : goal.loop-fact-preserved
loop-fact-preserved c =
    All-more (Says (known_in c.args.held.now c.args.facts.now) c.args.told) c.args.wanted.now c.loop-fact.fact-index _ c.loop-fact-test.true c.loop-fact.invariant (c.says.ensures c.if-not-says.false)

pub returns : goal.returns
returns c = λ done. subst (All (Says (known_in c.args.held.now c.args.facts.now) c.args.told)) (take_all c.loop-fact.fact-index c.args.wanted.now c.loop-fact-test.false) c.loop-fact.invariant
