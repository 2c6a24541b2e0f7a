use Rattle.std.proofs.Common.{◌≡◌, ◌++◌, map, drop}
use Rattle.report_words.specs.Words.{spaced}
use Rattle.std.specs.Fmt.{signed_decimal}
use Rattle.report_text.proofs.writing.put_numbers.Given as goal

abbrev pub invariant-loop-number : goal.invariant-loop-number
invariant-loop-number l = l.text.items ++ spaced (map signed_decimal (drop l.number-index l.numbers)) ≡ l.initial.text.items ++ spaced (map signed_decimal l.numbers)
