use Rattle.std.proofs.Common.{◌≡◌, map, drop}
use Rattle.report_words.specs.Shapes.{fit}
use Rattle.report_words.proofs.shapes.fit.Given as goal

abbrev pub invariant-loop-i : goal.invariant-loop-i
invariant-loop-i l = fit (drop l.i l.shapes) (map (λ w. w.now) (drop l.i l.words)) ≡ fit l.shapes (map (λ w. w.now) l.words)
