use Rattle.std.proofs.Common.{◌≡◌, ◌*◌, map, drop}
use Rattle.report_lines.specs.Sums.{are_more_terms}
use Rattle.report_lines.proofs.facts.are_more_terms.Given as goal

abbrev pub invariant-terms : goal.invariant-terms
invariant-terms l = are_more_terms l.last (map (λ w. w.now) (drop (2 * l.i) l.words)) ≡ are_more_terms l.first (map (λ w. w.now) l.words)
