use Rattle.std.proofs.Common.{map, drop}
use Rattle.report_words.specs.Testing.{IsTesting}
use Rattle.report_words.proofs.shapes.are_in_range.Given as goal

abbrev pub invariant-loop-i : goal.invariant-loop-i
invariant-loop-i l = IsTesting (drop l.i l.shapes) (map (λ w. w.now) (drop l.i l.words)) l.shapes (map (λ w. w.now) l.words)
