use Rattle.parse_grammar.proofs.Laws.{deepens_true}
use Rattle.parse_grammar.proofs.law.deepens_true.Goals as goal

pub returns : goal.returns
returns c = deepens_true
