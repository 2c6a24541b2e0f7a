use Rattle.std.proofs.Common.{◌≡◌, ◌≤◌, drop}
use Rattle.facts_definitions.specs.PragmaTexts.{digits}
use Rattle.facts_pragma.proofs.bounds.digits.Given as goal

abbrev pub invariant-loop-i : goal.invariant-loop-i
invariant-loop-i l = record { same : digits 0 l.bytes ≡ digits l.value (drop l.i l.bytes); small : l.value ≤ l.limit }
