use Rattle.std.proofs.Common.{map}
use Rattle.low_ir.specs.View.{instr_of}
use Rattle.pass_dataflow_facts.specs.Facts.{all_true}
use Rattle.pass_strength_reduction.specs.Scenes.{Fits, Scene, SoFar}
use Rattle.pass_strength_reduction.proofs.editing.edited.Given as goal

abbrev pub invariant-loop-edit : goal.invariant-loop-edit
invariant-loop-edit l = (sc : Scene) → Fits l.scope.claims.now l.scope.alone.now l.scope.objects l.scope.registers l.scope.spare.now sc → SoFar sc (all_true l.initial.known.facts.items) (map instr_of l.code) (all_true l.known.facts.items) (map instr_of l.rest) (map instr_of l.made.items)
