use Rattle.std.proofs.Common.{sym}
use Rattle.pass_dataflow_transfer.proofs.Tables.{all_behind, all_true_of}
use Rattle.pass_dataflow_transfer.proofs.known.Known.new.Goals as goal

pub loop-init : goal.loop-init
loop-init c = λ s known. all_true_of s _ _ (sym c.in_ok-all.ensures.items) known

pub loop-preserved : goal.loop-preserved
loop-preserved c = λ s known. all_true_of s _ _ (sym c.in_ok-push.ensures.items) (all_behind s c.loop.all.items c.nothing_of.result (c.loop.invariant s known) (c.nothing_of.ensures s))
