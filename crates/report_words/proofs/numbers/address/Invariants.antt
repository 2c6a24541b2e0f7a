use Rattle.std.proofs.Common.{drop}
use Rattle.report_words.specs.Scanning.{IsReadingAddress}
use Rattle.report_words.proofs.numbers.address.Given as goal

abbrev pub invariant-loop-byte : goal.invariant-loop-byte
invariant-loop-byte l = IsReadingAddress l.address (drop l.byte-index l.word) l.word
