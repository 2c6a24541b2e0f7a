use Rattle.std.proofs.Common.{◌≡◌, drop}
use Rattle.report_words.specs.Numbers.{are_hex_digits}
use Rattle.report_words.proofs.numbers.are_hex_digits.Given as goal

abbrev pub invariant-loop-byte : goal.invariant-loop-byte
invariant-loop-byte l = are_hex_digits (drop l.byte-index l.word) ≡ are_hex_digits l.word
