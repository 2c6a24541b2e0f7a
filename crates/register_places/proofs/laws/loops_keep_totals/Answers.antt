use Rattle.register_places.proofs.Following.{all_totals}
use Rattle.register_places.proofs.laws.loops_keep_totals.Goals as goal

pub returns : goal.returns
returns c = all_totals
