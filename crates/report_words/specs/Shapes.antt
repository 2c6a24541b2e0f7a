-- What the words of a line have to be: their form, and then the range of their numbers.
use Rattle.std.specs.Prelude.{◌^◌, ◌==◌, ◌&&◌, ◌||◌, List, [], ◌∷◌, Bool, true, false, nat_le, nat_lt, unsigned_abs}
use Rattle.report_words.specs.Words.{Word, is_name}
use Rattle.report_words.specs.Numbers.{is_empty, is_number, number_of, is_signed, signed_of, is_address}
use Rattle.report_words.specs.declared.shapes.Shape.{Shape}
use Rattle.report_words.specs.declared.shapes.Shape.TheVariants.{Number, Amount, Signed, Address, Name, Label, Letters}

-- the word `-`
abbrev pub is_dash : Word → Bool
is_dash [] = false
is_dash (b ∷ bs) = (b == 45) && is_empty bs

abbrev pub is_ram : Word → Bool
is_ram [] = false
is_ram (b ∷ bs) = (b == 114) && is_empty bs

abbrev pub is_spm_on : Word → Bool
is_spm_on [] = false
is_spm_on (b ∷ bs) = ((b == 115) && (is_empty bs || is_ram bs)) || is_ram (b ∷ bs)

-- letters of `fsr` in this order, and not none
abbrev pub are_letters : Word → Bool
are_letters [] = false
are_letters (b ∷ bs) = ((b == 102) && (is_empty bs || is_spm_on bs)) || is_spm_on (b ∷ bs)

-- the word has the form
abbrev pub has_form : Shape → Word → Bool
has_form (Number least most) w = is_number w
has_form (Amount least) w = is_number w
has_form Signed w = is_signed w
has_form Address w = is_address w
has_form Name w = is_name w
has_form Label w = is_dash w || is_name w
has_form Letters w = are_letters w

-- the number of a word of that form is in range
abbrev pub is_in_range : Shape → Word → Bool
is_in_range (Number least most) w = nat_le least (number_of w) && nat_le (number_of w) most
is_in_range (Amount least) w = nat_le least (number_of w) && nat_lt (number_of w) (2 ^ 120)
is_in_range Signed w = nat_lt (unsigned_abs (signed_of w)) (2 ^ 120)
is_in_range _ w = true

-- as many words as shapes, each of its form
abbrev pub fit : List Shape → List Word → Bool
fit [] [] = true
fit [] (w ∷ ws) = false
fit (s ∷ ss) [] = false
fit (s ∷ ss) (w ∷ ws) = has_form s w && fit ss ws

abbrev pub are_in_range : List Shape → List Word → Bool
are_in_range [] ws = true
are_in_range (s ∷ ss) [] = true
are_in_range (s ∷ ss) (w ∷ ws) = is_in_range s w && are_in_range ss ws
