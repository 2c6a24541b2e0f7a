-- How far the reader of a list of words has come.
use Rattle.std.specs.Prelude.{◌≡◌, ℕ, ℤ, List, ◌++◌, map, true}
use Rattle.std.specs.Fmt.{signed_decimal}
use Rattle.report_words.specs.Words.{Word, address_word}
use Rattle.report_words.specs.Numbers.{address_of, signed_of}
use Rattle.report_lines.specs.LineLists.{are_addresses, are_integers, are_small}

-- the words of what was read, and those that are left, are all
pub record IsReadingPlaces (places : List ℕ) (left all : List Word) : Type 0 where
  pub form : are_addresses left ≡ true
  pub same : map address_word places ++ left ≡ all
  pub values : places ++ map address_of left ≡ map address_of all

pub record IsReadingNumbers (numbers : List ℤ) (left all : List Word) : Type 0 where
  pub form : are_integers left ≡ true
  pub small : are_small left ≡ true
  pub same : map signed_decimal numbers ++ left ≡ all
  pub values : numbers ++ map signed_of left ≡ map signed_of all

-- the numbers that are left are numbers, and are small where all are
pub record IsTestingNumbers (left all : List Word) : Type 0 where
  pub form : are_integers left ≡ true
  pub same : are_small left ≡ are_small all
