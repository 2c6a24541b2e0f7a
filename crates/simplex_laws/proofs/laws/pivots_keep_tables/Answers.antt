use Rattle.simplex_laws.proofs.TableLemmas.{kept_next}
use Rattle.simplex_laws.proofs.laws.pivots_keep_tables.Goals as goal

pub returns : goal.returns
returns c = kept_next
