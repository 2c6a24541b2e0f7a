use Rattle.std.proofs.Common.{◌≡◌, drop}
use Rattle.code_flow_lookup.proofs.LookLemmas.{first_part}
use Rattle.code_flow_lookup.proofs.cert.amount.Given as goal

abbrev pub invariant-loop-i : goal.invariant-loop-i
invariant-loop-i l = first_part l.here l.fn.number ≡ first_part (drop l.i l.here) l.fn.number
