use Rattle.std.proofs.Common.{map}
use Rattle.types_tree.specs.View.{param_of}
use Rattle.types_rules.specs.Typing.{and_param}
use Rattle.types_declaration.proofs.ParamRows.{mere_walk}
use Rattle.types_declaration.proofs.Rows.{Made, SoFar}
use Rattle.types_declaration.proofs.params.check_params.Given as goal

abbrev pub invariant-loop-source : goal.invariant-loop-source
invariant-loop-source l = SoFar mere_walk l.given l.table l.source-index l.table l.fault × Made mere_walk and_param l.given l.table l.source-index l.table (map param_of l.params.items)
