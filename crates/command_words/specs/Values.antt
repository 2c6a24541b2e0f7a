-- What the matches of a command give its arguments.
use Rattle.std.specs.Prelude.{◌≡◌, ℕ, Bool, false, List, [], Option, Some, codes, option_map, unwrap_or}
use Rattle.std.specs.Option.{option_map_or}
use Rattle.std.specs.Str.{bytes_eq}
use Rattle.std.specs.Str.Parse.{digits_value, without_leading_plus}
use Rattle.clap.specs.Words.{Row, Text, first_of}
use Rattle.clap.specs.Values.{IsUnsignedIn}

-- the name that stands for a file
abbrev pub name_of : Text → List Row → Text
name_of id rows = unwrap_or (first_of id rows) []

-- the number that a text writes
abbrev pub number_in : Text → ℕ
number_in text = digits_value 10 (without_leading_plus text)

-- the number of an option, if it is given
abbrev pub number_of : Text → List Row → Option ℕ
number_of id rows = option_map number_in (first_of id rows)

-- the number at a place, or `missing` where there is none
abbrev pub placed_number_of : Text → ℕ → List Row → ℕ
placed_number_of id missing rows = unwrap_or (number_of id rows) missing

-- whether a flag is given
abbrev pub flag_of : Text → List Row → Bool
flag_of id rows = option_map_or (λ t. bytes_eq t (codes "true")) (first_of id rows) false

-- what is given writes a number from `least` to `most`
abbrev pub IsGivenIn : ℕ → ℕ → Text → List Row → Type 0
IsGivenIn least most id rows = (t : Text) → first_of id rows ≡ Some t → IsUnsignedIn least most t
