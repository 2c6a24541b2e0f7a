use Rattle.std.proofs.Common.{◌≡◌, drop, map}
use Rattle.high_ir.specs.View.{expr_of}
use Rattle.inliner.specs.Measures.{beside, values_measure}
use Rattle.inliner.proofs.measuring.values_measure.Given as goal

abbrev pub invariant-loop-value : goal.invariant-loop-value
invariant-loop-value l = beside l.all (values_measure (map expr_of (drop l.value-index l.values))) ≡ values_measure (map expr_of l.values)
