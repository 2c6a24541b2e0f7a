use Rattle.path_places.proofs.FunctionLemmas.{functions_are}
use Rattle.path_places.proofs.laws.functions_fit.Goals as goal

pub returns : goal.returns
returns c price low ws p ip = functions_are _ _ _ c.requires price low ws p ip
