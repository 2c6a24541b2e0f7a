use Rattle.std.proofs.Common.{◌≡◌, ◌≤◌, ◌++◌, drop, length, map}
use Rattle.types_tree.specs.View.{function_of, program_of}
use Rattle.plan_definition.specs.Layouts.{firsts_of, homes_from, homes_of}
use Rattle.make_program.specs.Parts.{next_of}
use Rattle.make_program.proofs.homes.homes.Given as goal

abbrev pub invariant-loop-i : goal.invariant-loop-i
invariant-loop-i l = record {
  left : l.homes.items ++ homes_from (firsts_of (map function_of (drop l.from l.program.functions.items))) (drop l.i l.program.variables.items) l.i (next_of l.next) ≡ homes_of (program_of l.program);
  within : l.from ≤ length l.program.functions.items;
}
