use Rattle.std.proofs.Common.{◌≡◌, ℕ, List, [], Option, None, Some, ap, map, sym, ◌∙◌}
use Rattle.high_ir.specs.Meaning.{State}
use Rattle.high_ir.specs.Programs.{program_of}
use Rattle.high_ir.specs.Runs.{hrun, run_of, start}
use Rattle.high_ir.specs.Tree.{Program}
use Rattle.high_ir.specs.View.{object_of}
use Rattle.high_eval.specs.Ends.{given_of, main_call}
use Rattle.high_eval.proofs.evaluation.evaluate.Goals as goal

-- the run of a program, where it starts in this state and its call gives this
runs_so : (p : Program) (input : List ℕ) (first last : State) (given given' : Option ℕ) → start p.objects input ≡ first.world → [] ≡ first.trace → main_call p first.world first.trace ≡ given_of given last → given ≡ given' → hrun p input ≡ run_of (given_of given' last)
runs_so p input first last given given' world trace called same =
    ap (λ w. run_of (main_call p w [])) world ∙ ap (λ t. run_of (main_call p first.world t)) trace ∙ ap run_of called ∙ ap (λ g. run_of (given_of g last)) same

pub returns-in-None : goal.returns-in-None
returns-in-None c =
    let world = sym (ap (λ st. st.world) c.in_ok-state.ensures ∙ ap (λ os. start (map object_of os) c.args.input.now) c.deref.ensures.value) in
    sym (runs_so (program_of c.args.program.now) c.args.input.now c.in_ok-state.state c.run_main.new.state c.in_ok-run_main.field-0 None world (sym (ap (λ st. st.trace) c.in_ok-state.ensures)) c.in_ok-run_main.ensures c.in-None.is)

pub returns-in-Some : goal.returns-in-Some
returns-in-Some c =
    let world = sym (ap (λ st. st.world) c.in_ok-state.ensures ∙ ap (λ os. start (map object_of os) c.args.input.now) c.deref.ensures.value) in
    ap (λ o. Some (record { value = c.in-Some.value; output = o; trace = c.into_parts-output.result.1.items })) c.into_parts-output.ensures.output
    ∙ ap (λ t. Some (record { value = c.in-Some.value; output = c.run_main.new.state.world.output; trace = t })) c.into_parts-output.ensures.trace
    ∙ sym (runs_so (program_of c.args.program.now) c.args.input.now c.in_ok-state.state c.run_main.new.state c.in_ok-run_main.field-0 (Some c.in-Some.value) world (sym (ap (λ st. st.trace) c.in_ok-state.ensures)) c.in_ok-run_main.ensures c.in-Some.is)
