use Rattle.rv_core.specs.Table.{table_of}
use Rattle.path_cert.proofs.PricedLemmas.{prices_pay}
use Rattle.path_cert.proofs.laws.prices_pay_facts.Goals as goal

pub returns : goal.returns
returns c = prices_pay (table_of c.args.costs.now) c.args.system.now
