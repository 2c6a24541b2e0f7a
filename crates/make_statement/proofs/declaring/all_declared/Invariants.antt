use Rattle.std.proofs.Common.{◌≡◌, drop, map}
use Rattle.types_tree.specs.View.{object_of}
use Rattle.high_code.specs.Code.{joined}
use Rattle.plan_definition.specs.Statements.{all_declared}
use Rattle.make_pieces.specs.View.{code_of}
use Rattle.make_statement.specs.Planned.{plan_said}
use Rattle.make_statement.proofs.declaring.all_declared.Given as goal

abbrev pub invariant-loop-object : goal.invariant-loop-object
invariant-loop-object l = joined (code_of l.code) (all_declared (plan_said l.plan) (map object_of (drop l.object-index l.objects)) l.shift l.k) ≡ all_declared (plan_said l.plan) (map object_of l.objects) l.shift l.k
