-- What the words of a line have to be, where there may be any number of them.
use Rattle.std.specs.Prelude.{◌^◌, ◌&&◌, List, [], ◌∷◌, Bool, true, nat_lt, unsigned_abs}
use Rattle.report_words.specs.Words.{Word}
use Rattle.report_words.specs.Numbers.{is_address, is_signed, signed_of}

abbrev pub are_addresses : List Word → Bool
are_addresses [] = true
are_addresses (w ∷ ws) = is_address w && are_addresses ws

abbrev pub are_integers : List Word → Bool
are_integers [] = true
are_integers (w ∷ ws) = is_signed w && are_integers ws

-- below 2^120 in absolute value
abbrev pub are_small : List Word → Bool
are_small [] = true
are_small (w ∷ ws) = nat_lt (unsigned_abs (signed_of w)) (2 ^ 120) && are_small ws
