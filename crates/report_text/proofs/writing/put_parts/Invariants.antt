use Rattle.std.proofs.Common.{◌≡◌, ◌++◌, map, drop}
use Rattle.report_words.specs.Words.{lines_text}
use Rattle.report_text.specs.Lines.{flow_line}
use Rattle.report_text.proofs.writing.put_parts.Given as goal

abbrev pub invariant-loop-part : goal.invariant-loop-part
invariant-loop-part l = l.text.items ++ lines_text (map flow_line (drop l.part-index l.parts)) ≡ l.initial.text.items ++ lines_text (map flow_line l.parts)
