use Rattle.types_declaration.proofs.ParamRows.{declared_walk}
use Rattle.types_declaration.proofs.Rows.{SoFar}
use Rattle.types_declaration.proofs.params.declare_params.Given as goal

abbrev pub invariant-loop-source : goal.invariant-loop-source
invariant-loop-source l = SoFar declared_walk l.given l.fn.table l.source-index l.table l.fault
