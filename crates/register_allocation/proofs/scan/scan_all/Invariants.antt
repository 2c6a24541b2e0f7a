use Rattle.std.proofs.Common.{◌≤◌, take}
use Rattle.low_ir.specs.View.{function_of}
use Rattle.register_allocation.specs.Scans.{Scanned}
use Rattle.register_allocation.proofs.scan.scan_all.Given as goal

abbrev pub invariant-loop-each : goal.invariant-loop-each
invariant-loop-each l = record {
  scanned : Scanned (function_of l.function) (function_of l.function).size l.order (take l.each-index l.order) l.scan;
  slots : l.scan.slots ≤ l.each-index;
}
