use Rattle.std.proofs.Common.{IfOk, ap, subst, sym, ◌≡◌, ◌∙◌}
use Rattle.low_ir.specs.Programs.{low_of}
use Rattle.low_ir.specs.Runs.{run, virtual}
use Rattle.low_eval.specs.Evaluated.{seen, seen_run}
use Rattle.low_eval.specs.Progress.{going}
use Rattle.low_eval.proofs.Steps.{run_bad}
use Rattle.low_eval.proofs.evaluation.evaluate.Goals as goal

pub returns-in-None : goal.returns-in-None
returns-in-None c =
    let p = low_of c.args.low.now in
    ap seen_run (sym (ap (run virtual p c.args.steps) (c.in_ok-first.ensures ∙ ap going c.in-None.is) ∙ run_bad p c.args.steps))

pub returns-in-Some : goal.returns-in-Some
returns-in-Some c =
    let p = low_of c.args.low.now in
    subst (λ r. IfOk c.finish.result (λ e. seen e ≡ seen_run (run virtual p c.args.steps r))) (sym (c.in_ok-first.ensures ∙ ap going c.in-Some.is)) c.finish.ensures
