use Rattle.std.proofs.Common.{subst, sym}
use Rattle.c_tree.specs.Names.{name_of}
use Rattle.parse_words.specs.Words.{Tell}
use Rattle.parse_words.proofs.Tellings.{token_at, spoken_more, told_all, all_numbered, all_named, all_formed, few_words}
use Rattle.parse_words.proofs.word.read_words.Goals as goal

pub say-requires : goal.say-requires
say-requires c = rw c.source-source.ensures (token_at c.args.tokens.now.source c.list-spans.result.now c.loop-i.i _ c.list-spans.ensures.formed c.loop-i-test.true)

pub loop-i-preserved : goal.loop-i-preserved
loop-i-preserved c = subst (Tell c.say.new.list.items c.say.new.names) (sym (spoken_more c.source-source.result.now c.list-spans.result.now c.loop-i.i _ c.loop-i-test.true)) (c.in_ok-say.ensures _ c.loop-i.invariant)

pub returns-clause-said : goal.returns-clause-said
returns-clause-said c = told_all c.loop-i.list.items _ c.in_ok-names.names.items c.source-source.result.now c.list-spans.result.now c.loop-i.i c.args.tokens.now c.in_ok-names.ensures.all c.loop-i.invariant c.loop-i-test.false c.source-source.ensures c.list-spans.ensures.listed

pub returns-clause-numbered : goal.returns-clause-numbered
returns-clause-numbered c = all_numbered c.loop-i.list.items _ c.in_ok-names.names.items c.source-source.result.now c.list-spans.result.now c.loop-i.i c.args.tokens.now c.in_ok-names.ensures.all c.loop-i.invariant c.loop-i-test.false c.source-source.ensures c.list-spans.ensures.listed

pub returns-clause-names : goal.returns-clause-names
returns-clause-names c = all_named c.loop-i.list.items _ c.in_ok-names.names.items c.source-source.result.now c.list-spans.result.now c.loop-i.i c.args.tokens.now c.in_ok-names.ensures.all c.loop-i.invariant c.loop-i-test.false c.source-source.ensures c.list-spans.ensures.listed

pub returns-clause-formed : goal.returns-clause-formed
returns-clause-formed c = all_formed c.loop-i.list.items _ c.in_ok-names.names.items c.source-source.result.now c.list-spans.result.now c.loop-i.i c.args.tokens.now c.in_ok-names.ensures.all c.loop-i.invariant c.loop-i-test.false c.source-source.ensures c.list-spans.ensures.listed (rw c.source-source.ensures c.list-spans.ensures.formed)

pub returns-clause-few : goal.returns-clause-few
returns-clause-few c =
    let said = told_all c.loop-i.list.items _ c.in_ok-names.names.items c.source-source.result.now c.list-spans.result.now c.loop-i.i c.args.tokens.now c.in_ok-names.ensures.all c.loop-i.invariant c.loop-i-test.false c.source-source.ensures c.list-spans.ensures.listed in
    few_words c.loop-i.list.items (name_of c.in_ok-names.names.items) c.args.tokens.now said c.list-spans.result.now c.list-spans.ensures.listed c.list-spans.ensures.most
