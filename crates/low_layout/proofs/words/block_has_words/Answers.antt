use Rattle.std.proofs.Common.{All, subst}
use Rattle.low_layout.specs.Words.{InstrHasWords}
use Rattle.low_layout.proofs.words.block_has_words.Goals as goal

pub returns : goal.returns
returns c = subst (All InstrHasWords) c.deref.ensures.value c.code_has_words.ensures
