use Rattle.parse_grammar.proofs.Nodes.{nodes_unit}
use Rattle.parse_grammar.proofs.law.counts_true.Goals as goal

pub returns : goal.returns
returns c = nodes_unit
