use Rattle.std.proofs.Common.{◌≡◌, ◌^◌, pos, ◌+ℤ◌, ◌≤ℤ◌, drop}
use Rattle.frac128.specs.Terms.{applied}
use Rattle.code_flow_system.specs.Counts.{count}
use Rattle.code_flow_system.specs.Certificates.{listed}
use Rattle.path_fact_columns.proofs.counting.side.Given as goal

abbrev pub invariant-loop-i : goal.invariant-loop-i
invariant-loop-i l =
    let n = count (listed l.parts) l.system.moves in
    ((l.all +ℤ applied (drop l.i l.terms) n) ≡ applied l.terms n) × (pos 0 ≤ℤ l.all) × (l.all ≤ℤ pos (2 ^ 66))
