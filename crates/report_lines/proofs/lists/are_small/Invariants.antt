use Rattle.std.proofs.Common.{map, drop}
use Rattle.report_lines.specs.ListProgress.{IsTestingNumbers}
use Rattle.report_lines.proofs.lists.are_small.Given as goal

abbrev pub invariant-loop-word : goal.invariant-loop-word
invariant-loop-word l = IsTestingNumbers (map (λ w. w.now) (drop l.word-index l.words)) (map (λ w. w.now) l.words)
