use Rattle.std.proofs.Common.{◌*◌, map, drop}
use Rattle.report_lines.specs.Sums.{IsTestingSum}
use Rattle.report_lines.proofs.facts.are_more_in_range.Given as goal

abbrev pub invariant-terms : goal.invariant-terms
invariant-terms l = IsTestingSum (map (λ w. w.now) (drop (2 * l.i) l.words)) (map (λ w. w.now) l.words)
