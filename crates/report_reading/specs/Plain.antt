-- Words without blanks and line ends.
use Rattle.std.specs.Prelude.{◌≡◌, [], ◌∷◌, true}
use Rattle.report_words.specs.Words.{Word, Line}
use Rattle.report_words.specs.Splitting.{lacks}

pub record IsPlain (w : Word) : Type 0 where
  pub unspaced : lacks 32 w ≡ true
  pub unended : lacks 10 w ≡ true

abbrev pub ArePlain : Line → Type 0
ArePlain [] = Unit {0}
ArePlain (w ∷ ws) = IsPlain w × ArePlain ws
