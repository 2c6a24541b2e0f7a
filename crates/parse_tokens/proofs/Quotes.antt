-- What stands behind the text of a string.
use Rattle.std.proofs.Common.{◌≡◌, ℕ, Bool, true, false, List, [], ◌∷◌, length, drop, refl}
use Rattle.std.specs.Prelude.{if◌then◌else◌, nat_eq}
use Rattle.c_tree.specs.Pragmas.{before_quote, from_quote}

at_quote : (b : ℕ) (bytes before behind : List ℕ) → behind ≡ drop (length before) bytes → (quote : Bool) → (if quote then b ∷ bytes else behind) ≡ drop (length (if quote then [] else b ∷ before)) (b ∷ bytes)
at_quote b bytes before behind h true = refl
at_quote b bytes before behind h false = h

pub from_quote_drop : (escaped : Bool) (bytes : List ℕ) → from_quote escaped bytes ≡ drop (length (before_quote escaped bytes)) bytes
from_quote_drop escaped [] = refl
from_quote_drop true (b ∷ bytes) = from_quote_drop false bytes
from_quote_drop false (b ∷ bytes) = at_quote b bytes (before_quote (nat_eq b 92) bytes) (from_quote (nat_eq b 92) bytes) (from_quote_drop (nat_eq b 92) bytes) (nat_eq b 34)
