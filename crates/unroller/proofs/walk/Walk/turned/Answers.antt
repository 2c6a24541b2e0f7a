use Rattle.std.proofs.Common.{ap, ◌∙◌}
use Rattle.high_ir.specs.Standing.{marks_of}
use Rattle.high_ir.specs.View.{statement_of}
use Rattle.high_unrolled.specs.Factor.{as_loop}
use Rattle.high_unrolled.specs.Starts.{repeated}
use Rattle.unroller.specs.View.{copied, progress_of}
use Rattle.unroller.proofs.Progress.{turned_made}
use Rattle.unroller.proofs.walk.Walk.turned.Goals as goal

pub returns-clause-code : goal.returns-clause-code
returns-clause-code c =
    let by = c.args.by in
    turned_made c.args.factor c.args.number (as_loop by.id by.min by.max (statement_of c.args.body.now)) _ _ _ (progress_of c.args.self.now) _
    c.in_ok-parts.ensures.code c.in_ok-parts.ensures.progress c.in_ok-last.ensures.code c.in_ok-seq_then.ensures

pub returns-clause-progress : goal.returns-clause-progress
returns-clause-progress c = c.in_ok-last.ensures.progress ∙ ap (λ q. copied q (repeated c.args.factor (marks_of (statement_of c.args.body.now)))) c.in_ok-parts.ensures.progress
