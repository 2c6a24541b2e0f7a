use Rattle.std.proofs.Common.{◌≡◌, drop}
use Rattle.code_flow_lookup.proofs.LookLemmas.{has_number}
use Rattle.code_flow_lookup.proofs.moves.has_move.Given as goal

abbrev pub invariant-loop-i : goal.invariant-loop-i
invariant-loop-i l = has_number l.steps l.fn.number ≡ has_number (drop l.i l.steps) l.fn.number
