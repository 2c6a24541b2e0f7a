use Rattle.types_statement.proofs.ItemLists.{SoFar}
use Rattle.types_statement.specs.Within.{within_said}
use Rattle.types_statement.proofs.walk.+statements.Given as goal

abbrev pub invariant-check_items-loop-source : goal.invariant-check_items-loop-source
invariant-check_items-loop-source l = SoFar (within_said l.within) l.given l.fn.table l.source-index l.table l.items.items l.labels l.fault
