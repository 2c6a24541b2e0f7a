use Rattle.std.proofs.Common.{arith}
use Rattle.code_flow_system.proofs.IndexLemmas.{below_next}
use Rattle.low_layout.specs.Words.{InstrHasWords}
use Rattle.low_layout.proofs.words.code_has_words.Goals as goal

pub loop-i-preserved : goal.loop-i-preserved
loop-i-preserved c = below_next InstrHasWords c.args.code.now c.loop-i.i c.index-code-i.result c.loop-i.invariant c.loop-i-test.true c.index-code-i.is c.instr_has_words.ensures

pub returns : goal.returns
returns c = λ k d lt. c.loop-i.invariant k d (let h = c.loop-i-test.false in omega arith)
