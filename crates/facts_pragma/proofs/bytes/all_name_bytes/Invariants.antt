use Rattle.std.proofs.Common.{◌≡◌, drop}
use Rattle.facts_definitions.specs.PragmaTexts.{all_name_bytes}
use Rattle.facts_pragma.proofs.bytes.all_name_bytes.Given as goal

abbrev pub invariant-loop-i : goal.invariant-loop-i
invariant-loop-i l = all_name_bytes l.bytes ≡ all_name_bytes (drop l.i l.bytes)
