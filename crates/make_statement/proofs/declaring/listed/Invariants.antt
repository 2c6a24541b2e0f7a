use Rattle.std.proofs.Common.{◌≡◌, drop}
use Rattle.types_tree.specs.View.{exprs_of}
use Rattle.high_code.specs.Code.{joined}
use Rattle.plan_definition.specs.Statements.{listed}
use Rattle.make_pieces.specs.View.{code_of}
use Rattle.make_statement.specs.Planned.{plan_said}
use Rattle.make_statement.proofs.declaring.listed.Given as goal

abbrev pub invariant-loop-index : goal.invariant-loop-index
invariant-loop-index l = joined (code_of l.code) (listed (plan_said l.plan) l.home (exprs_of (drop l.index l.values)) l.index l.k) ≡ listed (plan_said l.plan) l.home (exprs_of l.values) 0 l.k
