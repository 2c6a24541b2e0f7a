use Rattle.std.proofs.Common.{◌∷◌, ◌*◌, map, drop}
use Rattle.report_lines.specs.Sums.{IsReadingSum}
use Rattle.report_lines.proofs.sums.sum.Given as goal

abbrev pub invariant-terms : goal.invariant-terms
invariant-terms l = IsReadingSum l.sum (map (λ w. w.now) (drop (2 * l.i) l.words)) (l.first ∷ map (λ w. w.now) l.words)
