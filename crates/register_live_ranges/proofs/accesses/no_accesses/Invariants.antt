use Rattle.std.proofs.Common.{◌≡◌, [], replicate}
use Rattle.register_live_ranges.specs.Rows.{rows_of}
use Rattle.register_live_ranges.proofs.accesses.no_accesses.Given as goal

abbrev pub invariant-loop : goal.invariant-loop
invariant-loop l = rows_of l.rows.items ≡ replicate l.counter []
