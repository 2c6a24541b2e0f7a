use Rattle.rv_core.specs.Table.{table_of}
use Rattle.path_cert.proofs.RangeLemmas.{sizes_cover_prices}
use Rattle.path_cert.proofs.laws.sizes_cover_prices.Goals as goal

pub returns : goal.returns
returns c = sizes_cover_prices (table_of c.args.costs.now) c.args.system.now
