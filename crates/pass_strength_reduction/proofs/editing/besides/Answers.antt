use Rattle.std.proofs.Common.{Option, subst}
use Rattle.std.specs.Prelude.{IfSome}
use Rattle.low_ir.specs.declared.instruction.Instr.{Instr}
use Rattle.low_ir.specs.View.{instr_of}
use Rattle.pass_dataflow_facts.specs.Facts.{all_true}
use Rattle.pass_strength_reduction.specs.Scenes.{Adds, Fits, Scene}
use Rattle.pass_strength_reduction.proofs.editing.besides.Goals as goal

pub returns-in-Some : goal.returns-in-Some
returns-in-Some c =
    let scope = c.args.scope.now in
    subst (λ (o : Option Instr). IfSome o (λ (j : Instr). (sc : Scene) → Fits scope.claims.now scope.alone.now scope.objects scope.registers scope.spare.now sc → Adds sc (instr_of j) (all_true c.args.known.now.facts.items) (all_true c.insert.new.known.facts.items))) c.in-Some.is c.in_ok-insert.ensures
