use Rattle.std.proofs.Common.{All, subst}
use Rattle.low_layout.specs.Words.{FunctionHasWords}
use Rattle.low_layout.proofs.WordLemmas.{words_placed}
use Rattle.low_layout.proofs.words.has_words.Goals as goal

pub returns : goal.returns
returns c = words_placed c.args.code.now (subst (All FunctionHasWords) c.deref.ensures.value c.functions_have_words.ensures)
