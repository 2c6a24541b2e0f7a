-- What a writer of lines is given for a word.
use Rattle.std.specs.Fmt.{decimal, signed_decimal}
use Rattle.report_words.specs.declared.fields.Field.{Field}
use Rattle.report_words.specs.declared.fields.Field.TheVariants as fields
use Rattle.report_words.specs.Words.{Word, address_word, term_word}

abbrev pub field_word : Field → Word
field_word (fields.Number n) = decimal n
field_word (fields.Signed z) = signed_decimal z
field_word (fields.Address a) = address_word a
field_word (fields.Term a z) = term_word (a, z)
field_word (fields.Word w) = w.now
