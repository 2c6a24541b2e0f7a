use Rattle.std.proofs.Common.{◌≡◌, ◌++◌, map, drop}
use Rattle.report_words.specs.Words.{lines_text}
use Rattle.report_text.specs.Lines.{potential_line}
use Rattle.report_text.proofs.writing.put_potentials.Given as goal

abbrev pub invariant-loop-potential : goal.invariant-loop-potential
invariant-loop-potential l = l.text.items ++ lines_text (map potential_line (drop l.potential-index l.potentials)) ≡ l.initial.text.items ++ lines_text (map potential_line l.potentials)
