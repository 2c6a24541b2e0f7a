use Rattle.std.proofs.Common.{◌≡◌, drop}
use Rattle.report_shares.specs.Faults.{lesser, least_by, unheld}
use Rattle.report_shares.proofs.faults.least_unheld.Given as goal

abbrev pub invariant-loop-part : goal.invariant-loop-part
invariant-loop-part l = lesser l.least (least_by (unheld l.shares) (drop l.part-index l.parts)) ≡ least_by (unheld l.shares) l.parts
