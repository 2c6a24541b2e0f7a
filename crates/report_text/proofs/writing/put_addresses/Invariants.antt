use Rattle.std.proofs.Common.{◌≡◌, ◌++◌, map, drop}
use Rattle.report_words.specs.Words.{spaced}
use Rattle.report_words.specs.Words.{address_word}
use Rattle.report_text.proofs.writing.put_addresses.Given as goal

abbrev pub invariant-loop-at : goal.invariant-loop-at
invariant-loop-at l = l.text.items ++ spaced (map address_word (drop l.at-index l.addresses)) ≡ l.initial.text.items ++ spaced (map address_word l.addresses)
