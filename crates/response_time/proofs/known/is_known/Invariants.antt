use Rattle.std.proofs.Common.{◌≡◌, drop}
use Rattle.response_time.specs.Entries.{names_of, is_among}
use Rattle.response_time.proofs.known.is_known.Given as goal

abbrev pub invariant-loop-i : goal.invariant-loop-i
invariant-loop-i l = is_among (names_of (drop l.i l.known)) l.name ≡ is_among (names_of l.known) l.name
