use Rattle.parse_grammar.proofs.SoundSteps.{read_sound}
use Rattle.parse_grammar.proofs.law.reads_true.Goals as goal

pub returns : goal.returns
returns c = read_sound
