use Rattle.code_flow_system.proofs.DualityLemmas.{weak_duality, keeps_promise}
use Rattle.code_flow_system.proofs.laws.weak_duality.Goals as goal

pub returns : goal.returns
returns c = record {
  bound = weak_duality _ _ _ c.requires.accepted;
  promise = keeps_promise _ _ _ c.requires.form c.requires.accepted;
}
