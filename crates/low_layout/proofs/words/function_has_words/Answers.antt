use Rattle.std.proofs.Common.{All, subst}
use Rattle.low_layout.specs.Words.{BlockHasWords}
use Rattle.low_layout.proofs.words.function_has_words.Goals as goal

pub returns : goal.returns
returns c = subst (All BlockHasWords) c.deref.ensures.value c.blocks_have_words.ensures
