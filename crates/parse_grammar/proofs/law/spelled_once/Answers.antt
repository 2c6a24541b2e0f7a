use Rattle.c_tree.specs.Spelling.{spoken}
use Rattle.parse_grammar.proofs.ReadUnit.{one_unit}
use Rattle.parse_grammar.proofs.law.spelled_once.Goals as goal

pub returns : goal.returns
returns c = λ tokens s t f g a b. one_unit s t (spoken tokens) f g a b
