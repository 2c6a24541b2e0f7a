use Rattle.std.proofs.Common.{◌≡◌, take}
use Rattle.promise_report.specs.Facts.{places_in}
use Rattle.compile_report.proofs.restricting.places_in.Given as goal

abbrev pub invariant-loop-line : goal.invariant-loop-line
invariant-loop-line l = l.places.items ≡ places_in (take l.line-index l.lines)
