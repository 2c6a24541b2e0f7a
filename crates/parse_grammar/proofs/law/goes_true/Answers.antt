use Rattle.parse_grammar.proofs.Completion.{goes_true}
use Rattle.parse_grammar.proofs.law.goes_true.Goals as goal

pub returns : goal.returns
returns c = goes_true
