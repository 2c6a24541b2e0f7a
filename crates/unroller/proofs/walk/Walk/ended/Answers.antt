use Rattle.std.proofs.Common.{[], ◌∷◌, ap, ◌∙◌}
use Rattle.high_ir.specs.View.{statement_of}
use Rattle.high_unrolled.specs.declared.made.Made.TheVariants.{Behind}
use Rattle.unroller.specs.View.{noted, progress_of}
use Rattle.unroller.proofs.Progress.{ended_made}
use Rattle.unroller.proofs.walk.Walk.ended.Goals as goal

pub returns-clause-code : goal.returns-clause-code
returns-clause-code c =
    ended_made c.args.id 0 c.args.count c.in_ok-never.never (statement_of c.args.body.now) _ _ (progress_of c.args.self.now) _
    c.in_ok-parts.ensures.code c.in_ok-parts.ensures.progress c.in_ok-never.ensures.number c.in_ok-seq_then.ensures

pub returns-clause-progress : goal.returns-clause-progress
returns-clause-progress c = c.in_ok-never.ensures.progress ∙ ap (λ q. noted q (Behind c.args.id ∷ [])) c.in_ok-parts.ensures.progress
