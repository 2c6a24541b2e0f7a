use Rattle.std.proofs.Common.{◌<◌, subst, sym}
use Rattle.pass_dataflow_transfer.specs.Learning.{Survives}
use Rattle.pass_dataflow_transfer.proofs.Tables.{all_become}
use Rattle.pass_dataflow_transfer.proofs.known.Known.write.Goals as goal

pub returns-then-register-size : goal.returns-then-register-size
returns-then-register-size c = λ s v wide is known.
    c.learn.ensures _ (all_become (Survives c.args.register) s _ _ _ (λ f g r. r s v) c.forget.ensures known)
    (c.written.ensures s v (subst (λ n. c.args.register < n) (sym wide) c.if-register-size.true) is)

pub returns-else-register-size : goal.returns-else-register-size
returns-else-register-size c = λ s v wide is known. all_become (Survives c.args.register) s _ _ _ (λ f g r. r s v) c.forget.ensures known
