-- How far the test of ranges has come.
use Rattle.std.specs.Prelude.{◌≡◌, List, true}
use Rattle.report_words.specs.Words.{Word}
use Rattle.report_words.specs.declared.shapes.Shape.{Shape}
use Rattle.report_words.specs.Shapes.{fit, are_in_range}

-- the words that are left fit, and are in range where all are
pub record IsTesting (shapes : List Shape) (words : List Word) (all : List Shape) (line : List Word) : Type 0 where
  pub fits : fit shapes words ≡ true
  pub same : are_in_range shapes words ≡ are_in_range all line
