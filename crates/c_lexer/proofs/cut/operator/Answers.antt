use Rattle.c_lexer.proofs.Longest.{no_operator}
use Rattle.c_lexer.proofs.cut.operator.Goals as goal

pub returns-in_default-clause-none : goal.returns-in_default-clause-none
returns-in_default-clause-none c = no_operator _ _ _ c.requires.within c.requires.word c.requires.whole (λ end within o. c.in_default.ensures.none end o)
