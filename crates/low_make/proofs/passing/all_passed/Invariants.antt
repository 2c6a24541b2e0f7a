use Rattle.std.proofs.Common.{◌≡◌, ◌≤◌, length, map, take}
use Rattle.std.specs.Prelude.{reverse}
use Rattle.high_ir.specs.View.{function_of}
use Rattle.low_make.specs.View.{passed_of}
use Rattle.lower_definition.specs.Calls.{by_functions}
use Rattle.low_make.proofs.passing.all_passed.Given as goal

abbrev pub invariant-loop-i : goal.invariant-loop-i
invariant-loop-i l = record {
  within : l.i ≤ length l.order;
  passed : by_functions l.objects (map function_of l.functions) (reverse (take l.i l.order)) (passed_of l.passed.items) ≡ by_functions l.objects (map function_of l.functions) (reverse l.order) (passed_of l.initial.passed.items);
}

abbrev pub decreases-loop-i : goal.decreases-loop-i
decreases-loop-i l = l.i
