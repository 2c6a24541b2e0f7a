use Rattle.code_flow_lookup.proofs.LineLemmas.{lines_laid}
use Rattle.code_flow_lookup.proofs.costs.lines_are_laid.Goals as goal

pub returns : goal.returns
returns c = lines_laid _ c.is_system.ensures.sound
