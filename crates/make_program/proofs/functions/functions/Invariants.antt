use Rattle.std.proofs.Common.{◌≡◌, ◌++◌, drop, map}
use Rattle.types_tree.specs.View.{function_of as defined_of}
use Rattle.high_ir.specs.View.{function_of}
use Rattle.plan_definition.specs.Programs.{functions_planned}
use Rattle.make_statement.specs.Planned.{plan_said}
use Rattle.make_program.proofs.functions.functions.Given as goal

abbrev pub invariant-loop-i : goal.invariant-loop-i
invariant-loop-i l = map function_of l.functions.items ++ functions_planned (plan_said l.plan) l.variables l.ranks l.i (map defined_of (drop l.i l.defined)) ≡ functions_planned (plan_said l.plan) l.variables l.ranks 0 (map defined_of l.defined)
