use Rattle.command_numbered.proofs.Lengths.{short}
use Rattle.command_numbered.proofs.laws.sources_are_short.Goals as goal

pub returns : goal.returns
returns c = short
