use Rattle.std.proofs.Common.{◌≡◌, ◌++◌, drop, length, map}
use Rattle.high_ir.specs.Standing.{loops_in, marks_in}
use Rattle.high_ir.specs.View.{function_of}
use Rattle.high_renumber.specs.Numbered.{functions_numbered, ids}
use Rattle.high_renumber.proofs.numbering.functions_numbered.Given as goal

abbrev pub invariant-loop-function : goal.invariant-loop-function
invariant-loop-function l =
    let left = map function_of (drop l.function-index l.functions) in
    let all = map function_of l.functions in
    record {
      made : map function_of l.made.items ++ functions_numbered (length l.origins.marks.items) (length l.origins.loops.items) left ≡ functions_numbered (length l.initial.origins.marks.items) (length l.initial.origins.loops.items) all;
      marks : l.origins.marks.items ++ marks_in left ≡ l.initial.origins.marks.items ++ marks_in all;
      loops : l.origins.loops.items ++ ids (loops_in left) ≡ l.initial.origins.loops.items ++ ids (loops_in all);
    }
