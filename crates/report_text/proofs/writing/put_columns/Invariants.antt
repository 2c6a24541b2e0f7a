use Rattle.std.proofs.Common.{◌≡◌, ◌++◌, map, drop}
use Rattle.report_words.specs.Words.{lines_text}
use Rattle.report_text.specs.Lines.{column_line}
use Rattle.report_text.proofs.writing.put_columns.Given as goal

abbrev pub invariant-loop-column : goal.invariant-loop-column
invariant-loop-column l = l.text.items ++ lines_text (map column_line (drop l.column-index l.columns)) ≡ l.initial.text.items ++ lines_text (map column_line l.columns)
