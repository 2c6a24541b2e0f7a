use Rattle.rv_core.proofs.Storing.{is-stored, read-stored, read-beside_store}
use Rattle.rv_core.proofs.laws.read_behind_store.Goals as goal

pub returns-clause-one_block : goal.returns-clause-one_block
returns-clause-one_block c = is-stored

pub returns-clause-same : goal.returns-clause-same
returns-clause-same c = read-stored

pub returns-clause-beside : goal.returns-clause-beside
returns-clause-beside c = read-beside_store
