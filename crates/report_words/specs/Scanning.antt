-- How far the readers of numbers and addresses have come.
use Rattle.std.specs.Prelude.{◌≡◌, ℕ, ◌<◌, ◌≤◌, ◌^◌, List, true, min}
use Rattle.std.specs.Str.{all_ascii_digits}
use Rattle.report_words.specs.Numbers.{read_on, are_hex_digits, read_hex_on}

-- with the number so far, what is left of the digits comes to that of all, below 2^120
pub record IsReading (n : ℕ) (left all : List ℕ) : Type 0 where
  pub digits : all_ascii_digits left ≡ true
  pub capped : n ≤ 2 ^ 120
  pub same : min (read_on n left) (2 ^ 120) ≡ min (read_on 0 all) (2 ^ 120)

-- with the address so far, what is left of the digits comes to that of all
pub record IsReadingAddress (n : ℕ) (left all : List ℕ) : Type 0 where
  pub digits : are_hex_digits left ≡ true
  pub same : read_hex_on n left ≡ read_hex_on 0 all
  pub small : read_hex_on 0 all < 2 ^ 32
