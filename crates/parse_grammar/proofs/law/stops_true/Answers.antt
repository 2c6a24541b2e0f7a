use Rattle.parse_grammar.proofs.Laws.{stops_true}
use Rattle.parse_grammar.proofs.law.stops_true.Goals as goal

pub returns : goal.returns
returns c = stops_true
