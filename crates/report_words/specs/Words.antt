-- The words of a line, and the text of lines: words are kept apart by one blank each, and a line ends with the byte 0A.
use Rattle.std.specs.Prelude.{ℕ, ◌/◌, ◌%◌, ◌==◌, ◌&&◌, ◌||◌, ℤ, List, [], ◌∷◌, ◌++◌, Bool, true, false, nat_le}
use Rattle.std.specs.Fmt.{signed_decimal}
use Rattle.std.specs.Char.{digit_char}

abbrev pub Word : Type 0
Word = List ℕ

-- a line is the list of its words
abbrev pub Line : Type 0
Line = List Word

-- an address: eight hexadecimal digits in lower case
unfoldable pub address_word : ℕ → Word
address_word a =
    digit_char (a / 0x1000_0000 % 16) ∷ digit_char (a / 0x100_0000 % 16) ∷ digit_char (a / 0x10_0000 % 16) ∷ digit_char (a / 0x1_0000 % 16)
    ∷ digit_char (a / 0x1000 % 16) ∷ digit_char (a / 0x100 % 16) ∷ digit_char (a / 0x10 % 16) ∷ digit_char (a % 16) ∷ []

-- a term of a sum: its number, a star and its address
abbrev pub term_word : ℕ × ℤ → Word
term_word t = signed_decimal t.1 ++ 42 ∷ address_word t.0

-- a letter or an underscore
abbrev pub is_letter : ℕ → Bool
is_letter b = (nat_le 97 b && nat_le b 122) || ((nat_le 65 b && nat_le b 90) || (b == 95))

abbrev pub is_name_byte : ℕ → Bool
is_name_byte b = is_letter b || (nat_le 48 b && nat_le b 57)

abbrev pub are_name_bytes : List ℕ → Bool
are_name_bytes [] = true
are_name_bytes (b ∷ bs) = is_name_byte b && are_name_bytes bs

-- a name of the source language (C11 6.4.2.1): a letter, then letters and digits
abbrev pub is_name : Word → Bool
is_name [] = false
is_name (b ∷ bs) = is_letter b && are_name_bytes bs

-- words, each behind a blank
abbrev pub spaced : List Word → List ℕ
spaced [] = []
spaced (w ∷ ws) = 32 ∷ (w ++ spaced ws)

-- a line with its end
abbrev pub line_text : Line → List ℕ
line_text [] = 10 ∷ []
line_text (w ∷ ws) = w ++ (spaced ws ++ 10 ∷ [])

abbrev pub lines_text : List Line → List ℕ
lines_text [] = []
lines_text (l ∷ ls) = line_text l ++ lines_text ls
