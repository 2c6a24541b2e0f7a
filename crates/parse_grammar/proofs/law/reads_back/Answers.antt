use Rattle.parse_grammar.proofs.ReadUnit.{read_unit}
use Rattle.parse_grammar.proofs.law.reads_back.Goals as goal

pub returns : goal.returns
returns c = read_unit
