use Rattle.c_lexer.proofs.TextLemmas.{stands_or_not}
use Rattle.c_lexer.proofs.texts.stands.Goals as goal

pub returns : goal.returns
returns c = stands_or_not _ _ _ _ c.requires.within c.requires.set c.starts_with.ensures.value
