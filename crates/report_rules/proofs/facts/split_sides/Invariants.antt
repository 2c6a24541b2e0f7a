use Rattle.std.proofs.Common.{map, take, drop}
use Rattle.report_rules.specs.FactForms.{IsSplitting}
use Rattle.report_rules.proofs.facts.split_sides.Given as goal

abbrev pub invariant-loop-i : goal.invariant-loop-i
invariant-loop-i l = IsSplitting (map (λ w. w.now) (take l.i l.words)) (map (λ w. w.now) (drop l.i l.words)) (map (λ w. w.now) l.words)
