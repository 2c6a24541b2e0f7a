use Rattle.std.proofs.Common.{IfOk, ap, option_map, subst, sym, ◌≡◌, ◌∙◌}
use Rattle.low_eval.specs.Evaluated.{seen}
use Rattle.low_ir.specs.Placings.{placed_of}
use Rattle.low_ir.specs.Places.{places}
use Rattle.low_ir.specs.Runs.{run}
use Rattle.register_eval.specs.Seen.{seen_run}
use Rattle.register_eval.specs.Stands.{going, running_of}
use Rattle.register_eval.proofs.Steps.{run_bad}
use Rattle.register_eval.proofs.evaluation.evaluate.Goals as goal

pub returns-in-None : goal.returns-in-None
returns-in-None c =
    let p = placed_of c.args.code.now in
    ap seen_run (sym (ap (run places p c.args.steps) (c.in_ok-first.ensures ∙ ap (λ o. going (option_map running_of o)) c.in-None.is) ∙ run_bad p c.args.steps))

pub returns-in-Some : goal.returns-in-Some
returns-in-Some c =
    let p = placed_of c.args.code.now in
    subst (λ r. IfOk c.finish.result (λ e. seen e ≡ seen_run (run places p c.args.steps r))) (sym (c.in_ok-first.ensures ∙ ap (λ o. going (option_map running_of o)) c.in-Some.is)) c.finish.ensures
