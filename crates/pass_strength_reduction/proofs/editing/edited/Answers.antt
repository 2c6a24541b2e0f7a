use Rattle.std.proofs.Common.{Option, map, subst}
use Rattle.std.specs.Prelude.{IfSome}
use Rattle.low_ir.specs.View.{instr_of}
use Rattle.pass_dataflow_facts.specs.Facts.{all_true}
use Rattle.pass_strength_reduction.specs.declared.editing.Step.{Step}
use Rattle.pass_strength_reduction.specs.Scenes.{Fits, IsStep, Scene}
use Rattle.pass_strength_reduction.proofs.Making.{none_made, step_made}
use Rattle.pass_strength_reduction.proofs.editing.edited.Goals as goal

pub loop-edit-init : goal.loop-edit-init
loop-edit-init c = λ sc fits. none_made sc (all_true c.args.known.now.facts.items) (map instr_of c.args.code.now) c.new-made.result.items c.new-made.ensures.items

pub loop-edit-preserved : goal.loop-edit-preserved
loop-edit-preserved c = λ sc fits.
    let scope = c.args.scope.now in
    let known = all_true c.loop-edit.known.facts.items in
    let now = all_true c.one_edit.new.known.facts.items in
    let rest = c.loop-edit.rest.now in
    let step =
    subst (λ (o : Option Step). IfSome o (λ (st : Step). (sc : Scene) → Fits scope.claims.now scope.alone.now scope.objects scope.registers scope.spare.now sc → IsStep sc st.takes (instr_of st.instr) (map instr_of rest) known now)) c.in-Some.is c.in_ok-one_edit.ensures in
    step_made sc (all_true c.args.known.now.facts.items) known now (map instr_of c.args.code.now) rest c.left_of-rest.result.now c.loop-edit.made.items c.push.new.self.items c.in-Some.step.takes c.in-Some.step.instr
    (c.loop-edit.invariant sc fits) (step sc fits) c.left_of-rest.ensures c.in_ok-push-in-Some.ensures.items

pub returns : goal.returns
returns c = λ sc fits. c.in_ok-keep_rest.ensures sc fits.size (all_true c.args.known.now.facts.items) (map instr_of c.args.code.now) (c.loop-edit.invariant sc fits)
