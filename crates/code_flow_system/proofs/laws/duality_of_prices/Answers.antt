use Rattle.code_flow_system.proofs.DualityLemmas.{bounds_totals, reaches_potential}
use Rattle.code_flow_system.proofs.laws.duality_of_prices.Goals as goal

pub returns : goal.returns
returns c = record {
  bound = λ d dual. bounds_totals _ d dual;
  reached = λ d. reaches_potential _ d;
}
