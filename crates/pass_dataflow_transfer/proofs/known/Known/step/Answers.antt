use Rattle.pass_dataflow_transfer.specs.Learning.{Steps}
use Rattle.pass_dataflow_transfer.proofs.Tables.{all_become}
use Rattle.pass_dataflow_transfer.proofs.known.Known.step.Goals as goal

pub returns : goal.returns
returns c = λ s v grows known. all_become (Steps c.args.register c.args.by) s _ _ _ (λ f g r. r s v grows) c.step.ensures known
