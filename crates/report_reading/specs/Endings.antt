-- The end of a text: the shares and the last line.
use Rattle.std.specs.Prelude.{◌≡◌, ℕ, List, [], ◌∷◌, ◌++◌, map, Bool}
use Rattle.report_words.specs.Words.{lines_text}
use Rattle.report_text.specs.declared.entries.Share.{Share}
use Rattle.report_text.specs.Lines.{share_line, end_line}
use Rattle.report_reading.specs.Texts.{lines_of}
use Rattle.report_reading.specs.Sections.{Goes}
use Rattle.report_reading.specs.Faults.{tail}
use Rattle.report_reading.specs.Reading.{At}

-- the text that is left is the lines of those shares and the last line
pub record IsEnding (version : ℕ) (greatest : Bool) (from : At) (shares : List Share) : Type 0 where
  pub number : ℕ
  pub goes : tail (record { version = version; greatest = greatest }) from.number (lines_of from.rest) ≡ Goes tt number (lines_of [])
  pub text : from.rest ≡ lines_text (map share_line shares ++ end_line ∷ [])
