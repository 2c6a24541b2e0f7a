use Rattle.std.proofs.Common.{◌≡◌, drop, take}
use Rattle.facts_definitions.specs.PragmaTexts.{runs, runs_from}
use Rattle.facts_pragma.proofs.runs.run_length.Given as goal

abbrev pub invariant-loop-at : goal.invariant-loop-at
invariant-loop-at l = runs l.text ≡ runs_from l.named (take l.at l.text) (drop l.at l.text)
