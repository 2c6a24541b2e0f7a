use Rattle.std.proofs.Common.{drop}
use Rattle.report_words.specs.Scanning.{IsReading}
use Rattle.report_words.proofs.numbers.number.Given as goal

abbrev pub invariant-loop-byte : goal.invariant-loop-byte
invariant-loop-byte l = IsReading l.number (drop l.byte-index l.word) l.word
