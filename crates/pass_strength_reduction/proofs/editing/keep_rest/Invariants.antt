use Rattle.std.proofs.Common.{◌≡◌, drop, map}
use Rattle.low_ir.specs.View.{instr_of}
use Rattle.pass_strength_reduction_law.specs.Knowing.{Knowing}
use Rattle.pass_strength_reduction_law.specs.Steps.{Code}
use Rattle.pass_dataflow_facts.specs.Facts.{all_true}
use Rattle.pass_strength_reduction.specs.Scenes.{Scene, SoFar}
use Rattle.pass_strength_reduction.proofs.editing.keep_rest.Given as goal

abbrev pub invariant-loop-instr : goal.invariant-loop-instr
invariant-loop-instr l = (sc : Scene) → sc.fn.size ≡ l.registers → (begun : Knowing) (whole : Code) → SoFar sc begun whole (all_true l.initial.known.facts.items) (map instr_of l.rest) (map instr_of l.initial.made.items)
    → SoFar sc begun whole (all_true l.known.facts.items) (map instr_of (drop l.instr-index l.rest)) (map instr_of l.made.items)
