use Rattle.std.proofs.Common.{◌≡◌, ℕ, suc, ◌+◌, ◌-◌, ◌<◌, List, ap, arith, sym, ◌∙◌}
use Rattle.low_eval.specs.Evaluated.{HasEnded}
use Rattle.low_ir.specs.declared.places.Place.{Place}
use Rattle.low_ir.specs.Placings.{placed_of}
use Rattle.low_ir.specs.Places.{File, Placed, places}
use Rattle.low_ir.specs.Runs.{Run, Going, Done, Bad, run, step}
use Rattle.register_eval.specs.Seen.{seen_run}
use Rattle.register_eval.specs.Stands.{run_of, running_of}
use Rattle.register_eval.proofs.Steps.{run_step, run_done, run_bad}
use Rattle.register_eval.proofs.evaluation.finish.Goals as goal

-- one step more of a run
ran_on : (p : Placed) (steps k : ℕ) (first r s : Run Place (List ℕ) File) → k < steps → run places p (steps - k) r ≡ run places p steps first → step places p r ≡ s → run places p (steps - (k + 1)) s ≡ run places p steps first
ran_on p steps k first r s lt before goes =
    let one : steps - k ≡ suc (steps - (k + 1)) = omega arith in
    sym (run_step p (steps - k) (steps - (k + 1)) r s one goes) ∙ before

pub loop-preserved : goal.loop-preserved
loop-preserved c =
    ran_on (placed_of c.args.code.now) c.args.steps c.loop.counter _ (Going (running_of c.loop.running)) (Going (running_of c.step.new.self)) c.loop-test.true c.loop.invariant
    (c.in_ok-step.ensures ∙ ap (λ q. run_of q (running_of c.step.new.self)) c.in-Going.is)

pub returns-in-Bad : goal.returns-in-Bad
returns-in-Bad c =
    let p = placed_of c.args.code.now in
    ap seen_run (sym (run_bad p (c.args.steps - (c.loop.counter + 1)))
    ∙ ran_on p c.args.steps c.loop.counter _ (Going (running_of c.loop.running)) Bad c.loop-test.true c.loop.invariant
    (c.in_ok-step.ensures ∙ ap (λ q. run_of q (running_of c.step.new.self)) c.in-Bad.is))

pub returns-in-Done : goal.returns-in-Done
returns-in-Done c =
    let p = placed_of c.args.code.now in
    let v = c.in-Done.value in
    ap (λ o. HasEnded (record { value = v; output = o; trace = c.into_parts-output.result.1.items })) c.into_parts-output.ensures.output
    ∙ ap (λ t. HasEnded (record { value = v; output = c.into_world.result.output; trace = t })) c.into_parts-output.ensures.trace
    ∙ ap (λ w. HasEnded (record { value = v; output = w.output; trace = w.trace })) c.into_world.ensures
    ∙ ap seen_run (sym (run_done p (c.args.steps - (c.loop.counter + 1)) v c.step.new.self.world)
    ∙ ran_on p c.args.steps c.loop.counter _ (Going (running_of c.loop.running)) (Done v c.step.new.self.world) c.loop-test.true c.loop.invariant
    (c.in_ok-step.ensures ∙ ap (λ q. run_of q (running_of c.step.new.self)) c.in-Done.is))

pub returns : goal.returns
returns c =
    let p = placed_of c.args.code.now in
    let none : c.args.steps - c.loop.counter ≡ 0 = omega (arith, c.loop-test.false) in
    ap seen_run (sym (ap (λ n. run places p n (Going (running_of c.loop.running))) none) ∙ c.loop.invariant)
