use Rattle.std.proofs.Common.{map, drop}
use Rattle.report_lines.specs.ListProgress.{IsReadingPlaces}
use Rattle.report_lines.proofs.lists.addresses.Given as goal

abbrev pub invariant-loop-word : goal.invariant-loop-word
invariant-loop-word l = IsReadingPlaces l.addresses.items (map (λ w. w.now) (drop l.word-index l.words)) (map (λ w. w.now) l.words)
