use Rattle.std.proofs.Common.{◌≡◌, take, true}
use Rattle.report_words.specs.Splitting.{lacks}
use Rattle.report_words.proofs.lines.length_before.Given as goal

abbrev pub invariant-loop-i : goal.invariant-loop-i
invariant-loop-i l = lacks l.stop (take l.i l.text) ≡ true
