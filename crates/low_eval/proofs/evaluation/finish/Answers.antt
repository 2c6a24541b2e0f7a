use Rattle.std.proofs.Common.{◌≡◌, ℕ, suc, ◌+◌, ◌-◌, ◌<◌, ap, arith, sym, ◌∙◌}
use Rattle.low_ir.specs.Code.{Low, Note}
use Rattle.low_ir.specs.Programs.{low_of}
use Rattle.low_ir.specs.Runs.{Run, Going, Done, Bad, Bank, run, step, virtual}
use Rattle.low_eval.specs.Evaluated.{HasEnded, seen_run}
use Rattle.low_eval.specs.Progress.{run_of}
use Rattle.low_eval.proofs.Steps.{run_step, run_done, run_bad}
use Rattle.low_eval.proofs.evaluation.finish.Goals as goal

-- one step more of a run
ran_on : (p : Low) (steps k : ℕ) (first r s : Run ℕ Note Bank) → k < steps → run virtual p (steps - k) r ≡ run virtual p steps first → step virtual p r ≡ s → run virtual p (steps - (k + 1)) s ≡ run virtual p steps first
ran_on p steps k first r s lt before goes =
    let one : steps - k ≡ suc (steps - (k + 1)) = omega arith in
    sym (run_step p (steps - k) (steps - (k + 1)) r s one goes) ∙ before

pub loop-preserved : goal.loop-preserved
loop-preserved c =
    ran_on (low_of c.args.low.now) c.args.steps c.loop.counter _ (Going c.loop.running) (Going c.step.new.self) c.loop-test.true c.loop.invariant
    (c.in_ok-step.ensures ∙ ap (λ q. run_of q c.step.new.self) c.in-Going.is)

pub returns-in-Bad : goal.returns-in-Bad
returns-in-Bad c =
    let p = low_of c.args.low.now in
    ap seen_run (sym (run_bad p (c.args.steps - (c.loop.counter + 1)))
    ∙ ran_on p c.args.steps c.loop.counter _ (Going c.loop.running) Bad c.loop-test.true c.loop.invariant
    (c.in_ok-step.ensures ∙ ap (λ q. run_of q c.step.new.self) c.in-Bad.is))

pub returns-in-Done : goal.returns-in-Done
returns-in-Done c =
    let p = low_of c.args.low.now in
    let v = c.in-Done.value in
    ap (λ o. HasEnded (record { value = v; output = o; trace = c.into_parts-output.result.1.items })) c.into_parts-output.ensures.output
    ∙ ap (λ t. HasEnded (record { value = v; output = c.into_world.result.output; trace = t })) c.into_parts-output.ensures.trace
    ∙ ap (λ w. HasEnded (record { value = v; output = w.output; trace = w.trace })) c.into_world.ensures
    ∙ ap seen_run (sym (run_done p (c.args.steps - (c.loop.counter + 1)) v c.step.new.self.world)
    ∙ ran_on p c.args.steps c.loop.counter _ (Going c.loop.running) (Done v c.step.new.self.world) c.loop-test.true c.loop.invariant
    (c.in_ok-step.ensures ∙ ap (λ q. run_of q c.step.new.self) c.in-Done.is))

pub returns : goal.returns
returns c =
    let p = low_of c.args.low.now in
    let none : c.args.steps - c.loop.counter ≡ 0 = omega (arith, c.loop-test.false) in
    ap seen_run (sym (ap (λ n. run virtual p n (Going c.loop.running)) none) ∙ c.loop.invariant)
