use Rattle.std.proofs.Common.{◌≡◌, map, drop}
use Rattle.report_lines.specs.LineLists.{are_integers}
use Rattle.report_lines.proofs.lists.are_integers.Given as goal

abbrev pub invariant-loop-word : goal.invariant-loop-word
invariant-loop-word l = are_integers (map (λ w. w.now) (drop l.word-index l.words)) ≡ are_integers (map (λ w. w.now) l.words)
