use Rattle.std.proofs.Common.{◌≡◌, drop}
use Rattle.facts_definitions.specs.PragmaTexts.{runs}
use Rattle.facts_pragma.proofs.runs.behind_blanks.Given as goal

abbrev pub invariant-loop-i : goal.invariant-loop-i
invariant-loop-i l = runs l.text ≡ runs (drop l.i l.text)
