use Rattle.std.proofs.Common.{map, drop}
use Rattle.report_lines.specs.ListProgress.{IsReadingNumbers}
use Rattle.report_lines.proofs.lists.integers.Given as goal

abbrev pub invariant-loop-word : goal.invariant-loop-word
invariant-loop-word l = IsReadingNumbers l.integers.items (map (λ w. w.now) (drop l.word-index l.words)) (map (λ w. w.now) l.words)
