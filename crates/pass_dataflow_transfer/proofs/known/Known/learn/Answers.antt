use Rattle.std.proofs.Common.{sym}
use Rattle.pass_dataflow_transfer.proofs.Tables.{all_true_of, all_with}
use Rattle.pass_dataflow_transfer.proofs.known.Known.learn.Goals as goal

pub returns : goal.returns
returns c = λ s known is. all_true_of s _ _ (sym c.set_fact.ensures) (all_with s _ c.place-at.result c.args.fact known is)
