use Rattle.std.proofs.Common.{arith}
use Rattle.code_flow_system.proofs.IndexLemmas.{below_next}
use Rattle.low_layout.specs.Words.{BlockHasWords}
use Rattle.low_layout.proofs.words.blocks_have_words.Goals as goal

pub loop-i-preserved : goal.loop-i-preserved
loop-i-preserved c = below_next BlockHasWords c.args.blocks.now c.loop-i.i c.index-blocks-i.result c.loop-i.invariant c.loop-i-test.true c.index-blocks-i.is c.block_has_words.ensures

pub returns : goal.returns
returns c = λ k d lt. c.loop-i.invariant k d (let h = c.loop-i-test.false in omega arith)
