use Rattle.std.proofs.Common.{◌≡◌, length}
use Rattle.facts_definitions.specs.PragmaTexts.{runs, sum}
use Rattle.facts_pragma.specs.Reading.{before, numbered}
use Rattle.facts_pragma.proofs.sums.read_sum.Given as goal

abbrev pub invariant-loop-terms : goal.invariant-loop-terms
invariant-loop-terms l = numbered l.names (sum (runs l.text)) ≡ before l.terms.items (numbered l.names (sum (runs l.rest)))

abbrev pub decreases-loop-terms : goal.decreases-loop-terms
decreases-loop-terms l = length l.rest
