use Rattle.std.proofs.Common.{◌≡◌, ◌++◌, map, drop}
use Rattle.report_words.specs.Words.{spaced}
use Rattle.report_words.specs.Fields.{field_word}
use Rattle.report_words.proofs.fields.put_fields.Given as goal

abbrev pub invariant-loop-field : goal.invariant-loop-field
invariant-loop-field l = l.text.items ++ spaced (map field_word (drop l.field-index l.fields)) ≡ l.initial.text.items ++ spaced (map field_word l.fields)
