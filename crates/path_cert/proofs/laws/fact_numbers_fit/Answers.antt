use Rattle.path_cert.proofs.FactLemmas.{numbers_fit}
use Rattle.path_cert.proofs.laws.fact_numbers_fit.Goals as goal

pub returns : goal.returns
returns c = numbers_fit
