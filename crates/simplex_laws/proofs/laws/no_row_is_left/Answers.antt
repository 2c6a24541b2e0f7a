use Rattle.std.proofs.Common.{None}
use Rattle.simplex_laws.proofs.QuotientLemmas.{none_left}
use Rattle.simplex_laws.proofs.laws.no_row_is_left.Goals as goal

pub returns : goal.returns
returns c w start b t is left = (none_left t 0 None b.owns b.rows is.shape.owns left).1
