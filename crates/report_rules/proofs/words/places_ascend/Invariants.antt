use Rattle.std.proofs.Common.{map, drop}
use Rattle.report_rules.specs.WordTests.{IsTestingPlaces}
use Rattle.report_rules.proofs.words.places_ascend.Given as goal

abbrev pub invariant-loop-word : goal.invariant-loop-word
invariant-loop-word l = IsTestingPlaces l.least (map (λ w. w.now) (drop l.word-index l.words)) (map (λ w. w.now) l.words)
