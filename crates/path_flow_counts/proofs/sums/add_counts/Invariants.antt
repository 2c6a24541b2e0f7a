use Rattle.std.proofs.Common.{◌≡◌, length}
use Rattle.path_places.specs.Places.{is_walked}
use Rattle.path_flow_counts.proofs.SumLemmas.{Adds}
use Rattle.path_flow_counts.proofs.sums.add_counts.Given as goal

abbrev pub invariant-loop-i : goal.invariant-loop-i
invariant-loop-i l =
    let s = l.priced.system.now in
    Adds s.moves (is_walked s.claims l.priced.shapes.now l.fn.span) l.counts l.fn.tally.amounts.now l.fn.tally.starts.now l.tally.amounts.now l.tally.starts.now l.used l.i
    × (l.tally.room.now ≡ l.fn.tally.room.now) × (length l.tally.starts.now ≡ length l.fn.tally.starts.now)
