-- Which words are numbers, addresses and terms, and what they say: numbers have no leading zero, and 0 no sign.
use Rattle.std.specs.Prelude.{ℕ, ◌+◌, ◌-◌, ◌*◌, ◌==◌, ◌&&◌, ◌||◌, ℤ, pos, neg_ℤ, List, [], ◌∷◌, length, take, drop, Bool, true, false, not, nat_le, if◌then◌else◌}
use Rattle.std.specs.Str.{all_ascii_digits}
use Rattle.std.specs.Char.{is_ascii_digit}
use Rattle.report_words.specs.Words.{Word}

abbrev pub is_empty : List ℕ → Bool
is_empty [] = true
is_empty (b ∷ bs) = false

-- digits, the first of which is 0 only where it is the last
abbrev pub is_number : Word → Bool
is_number [] = false
is_number (b ∷ bs) = if b == 48 then is_empty bs else all_ascii_digits (b ∷ bs)

-- the number that digits stand for, behind others
abbrev pub read_on : ℕ → List ℕ → ℕ
read_on n [] = n
read_on n (b ∷ bs) = read_on (10 * n + (b - 48)) bs

unfoldable pub number_of : Word → ℕ
number_of w = read_on 0 w

-- a number that doesn't begin with 0
abbrev pub is_positive : Word → Bool
is_positive [] = false
is_positive (b ∷ bs) = not (b == 48) && all_ascii_digits (b ∷ bs)

abbrev pub is_signed : Word → Bool
is_signed [] = false
is_signed (b ∷ bs) = if b == 45 then is_positive bs else is_number (b ∷ bs)

-- a number, maybe behind a minus
abbrev pub signed_of : Word → ℤ
signed_of [] = pos 0
signed_of (b ∷ bs) = if b == 45 then neg_ℤ (pos (number_of bs)) else pos (number_of (b ∷ bs))

-- a digit or a letter from a to f
abbrev pub is_hex_digit : ℕ → Bool
is_hex_digit b = is_ascii_digit b || (nat_le 97 b && nat_le b 102)

abbrev pub are_hex_digits : List ℕ → Bool
are_hex_digits [] = true
are_hex_digits (b ∷ bs) = is_hex_digit b && are_hex_digits bs

abbrev pub is_address : Word → Bool
is_address w = (length w == 8) && are_hex_digits w

abbrev pub hex_value : ℕ → ℕ
hex_value b = if nat_le b 57 then b - 48 else b - 87

abbrev pub read_hex_on : ℕ → List ℕ → ℕ
read_hex_on n [] = n
read_hex_on n (b ∷ bs) = read_hex_on (16 * n + hex_value b) bs

unfoldable pub address_of : Word → ℕ
address_of w = read_hex_on 0 w

-- a term: a number, a star and an address, which take the last nine bytes
abbrev pub term_number : Word → Word
term_number w = take (length w - 9) w

abbrev pub term_address : Word → Word
term_address w = drop (length w - 8) w

abbrev pub is_starred : List ℕ → Bool
is_starred [] = false
is_starred (b ∷ bs) = (b == 42) && is_address bs

abbrev pub is_term : Word → Bool
is_term w = nat_le 10 (length w) && (is_number (term_number w) && is_starred (drop (length w - 9) w))
