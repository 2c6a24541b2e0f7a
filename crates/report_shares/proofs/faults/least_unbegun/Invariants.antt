use Rattle.std.proofs.Common.{◌≡◌, drop}
use Rattle.report_shares.specs.Faults.{lesser, least_by, unbegun}
use Rattle.report_shares.proofs.faults.least_unbegun.Given as goal

abbrev pub invariant-loop-step : goal.invariant-loop-step
invariant-loop-step l = lesser l.least (least_by (unbegun l.shares) (drop l.step-index l.moves)) ≡ least_by (unbegun l.shares) l.moves
