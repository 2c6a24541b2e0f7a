use Rattle.std.proofs.Common.{◌≡◌, drop}
use Rattle.high_ir.specs.Meaning.{objects_of}
use Rattle.high_eval.proofs.Behind.{behind}
use Rattle.high_eval.proofs.value.numbers.Given as goal

abbrev pub invariant-loop-base : goal.invariant-loop-base
invariant-loop-base l = behind l.numbers.items (objects_of l.passed (drop l.base-index l.bases)) ≡ objects_of l.passed l.bases
