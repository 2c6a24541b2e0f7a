-- Pragmas (C11 6.10.6, 6.10.9): what stands between blanks and comments, the text, and the names in it.
use Rattle.std.specs.Prelude.{◌≡◌, ◌≢◌, ℕ, ◌-◌, ◌+◌, ◌⊎◌, Bool, true, false, ◌||◌, nat_eq, if◌then◌else◌, List, [], ◌∷◌, ◌++◌, length, drop, take, slice_index, slice_range, codes}
use Rattle.std.specs.List.{IsAmong}
use Rattle.c_tree.specs.Bytes.{IsNameByte, Each, Stands, is_blank, is_letter, is_name_byte}

-- within blanks and comments: between them, behind a slash, in a comment up to the line's end, in one up to a star and
-- a slash, which goes from there on, or behind a star in such a one
pub data Within : Type 0 where
  Blanks : Within
  Slash : Within
  Line : Within
  Block : (comment : List ℕ) → Within
  Star : (comment : List ℕ) → Within

-- what stands behind blanks and comments; a comment without its end is none
abbrev pub behind_blanks : Within → List ℕ → List ℕ
behind_blanks Blanks [] = []
behind_blanks Slash [] = 47 ∷ []
behind_blanks Line [] = []
behind_blanks (Block comment) [] = comment
behind_blanks (Star comment) [] = comment
behind_blanks Blanks (b ∷ bytes) = if is_blank b then behind_blanks Blanks bytes else (if nat_eq b 47 then behind_blanks Slash bytes else b ∷ bytes)
behind_blanks Slash (b ∷ bytes) = if nat_eq b 47 then behind_blanks Line bytes else (if nat_eq b 42 then behind_blanks (Block (47 ∷ b ∷ bytes)) bytes else 47 ∷ b ∷ bytes)
behind_blanks Line (b ∷ bytes) = if nat_eq b 10 then behind_blanks Blanks bytes else behind_blanks Line bytes
behind_blanks (Block comment) (b ∷ bytes) = if nat_eq b 42 then behind_blanks (Star comment) bytes else behind_blanks (Block comment) bytes
behind_blanks (Star comment) (b ∷ bytes) = if nat_eq b 47 then behind_blanks Blanks bytes else (if nat_eq b 42 then behind_blanks (Star comment) bytes else behind_blanks (Block comment) bytes)

-- the bytes behind `#` and blanks, up to the end of the line
abbrev pub behind_hash : List ℕ → (at end : ℕ) → List ℕ
behind_hash source at end = behind_blanks Blanks (slice_range source (at + 1) end)

-- without the carriage return that ends a line
abbrev pub without_return : List ℕ → List ℕ
without_return bytes = if nat_eq (slice_index bytes (length bytes - 1)) 13 then take (length bytes - 1) bytes else bytes

-- the text of a string up to its closing quote; a backslash takes the next byte with it
abbrev pub before_quote : (escaped : Bool) → List ℕ → List ℕ
before_quote escaped [] = []
before_quote true (b ∷ bytes) = b ∷ before_quote false bytes
before_quote false (b ∷ bytes) = if nat_eq b 34 then [] else b ∷ before_quote (nat_eq b 92) bytes

-- from the closing quote on
abbrev pub from_quote : (escaped : Bool) → List ℕ → List ℕ
from_quote escaped [] = []
from_quote true (b ∷ bytes) = from_quote false bytes
from_quote false (b ∷ bytes) = if nat_eq b 34 then b ∷ bytes else from_quote (nat_eq b 92) bytes

-- from the bracket behind `_Pragma` on, from the quote behind that bracket, from the closing quote and from the closing bracket
abbrev pub from_open : List ℕ → (at : ℕ) → List ℕ
from_open source at = behind_blanks Blanks (drop (at + 7) source)

abbrev pub from_string : List ℕ → (at : ℕ) → List ℕ
from_string source at = behind_blanks Blanks (drop 1 (from_open source at))

abbrev pub from_string_end : List ℕ → (at : ℕ) → List ℕ
from_string_end source at = from_quote false (drop 1 (from_string source at))

abbrev pub from_close : List ℕ → (at : ℕ) → List ℕ
from_close source at = behind_blanks Blanks (drop 1 (from_string_end source at))

-- the text in the string of `_Pragma`
abbrev pub string_text : List ℕ → (at : ℕ) → List ℕ
string_text source at = before_quote false (drop 1 (from_string source at))

-- the text of a pragma: what stands behind `#pragma` on its line, or in the string of `_Pragma`
abbrev pub pragma_text : List ℕ → (at end : ℕ) → List ℕ
pragma_text source at end = if nat_eq (slice_index source at) 35 then without_return (drop 6 (behind_hash source at end)) else string_text source at

-- a line that goes on with `pragma` as a whole word
abbrev pub IsPragmaWord : List ℕ → Type 0
IsPragmaWord line = Stands line 0 (codes "pragma") × (IsNameByte (slice_index line 6) → ⊥)

-- `#`, `pragma` as a whole word, and a text, on one line
pub record IsDirective (source : List ℕ) (at end : ℕ) : Type 0 where
  pub hash : slice_index source at ≡ 35
  pub line : Each (λ b. b ≢ 10) source at end
  pub word : IsPragmaWord (behind_hash source at end)

-- `_Pragma`, and a string on one line in round brackets
pub record IsOperator (source : List ℕ) (at end : ℕ) : Type 0 where
  pub word : Stands source at (codes "_Pragma")
  pub opens : Stands (from_open source at) 0 (codes "(")
  pub string : Stands (from_string source at) 0 (codes "\"")
  pub line : IsAmong (string_text source at) 10 → ⊥
  pub string_ends : Stands (from_string_end source at) 0 (codes "\"")
  pub closes : Stands (from_close source at) 0 (codes ")")
  pub ends : end + length (from_close source at) ≡ length source + 1

abbrev pub is_gap : ℕ → Bool
is_gap b = nat_eq b 32 || nat_eq b 9

-- up to the next space or tab
abbrev pub before_gap : List ℕ → List ℕ
before_gap [] = []
before_gap (b ∷ bytes) = if is_gap b then [] else b ∷ before_gap bytes

-- the first word of a text
abbrev pub first_word : List ℕ → List ℕ
first_word [] = []
first_word (b ∷ bytes) = if is_gap b then first_word bytes else b ∷ before_gap bytes

-- a pragma whose text begins with this word
abbrev pub IsPragma : (word : List ℕ) → List ℕ → (at end : ℕ) → Type 0
IsPragma word source at end = (IsDirective source at end ⊎ IsOperator source at end) × (first_word (pragma_text source at end) ≡ word)

-- what stands behind the first word of a text; and whether that word has begun
abbrev pub behind_first_word : (begun : Bool) → List ℕ → List ℕ
behind_first_word begun [] = []
behind_first_word false (b ∷ bytes) = behind_first_word (if is_gap b then false else true) bytes
behind_first_word true (b ∷ bytes) = if is_gap b then b ∷ bytes else behind_first_word true bytes

-- a run of letters, digits and `_`, where it is a name, before others
abbrev pub with_run : List ℕ → List (List ℕ) → List (List ℕ)
with_run [] names = names
with_run (b ∷ bytes) names = if is_letter b then (b ∷ bytes) ∷ names else names

-- the longest runs of letters, digits and `_` that begin with no digit; the first goes on from what has begun
abbrev pub names_from : (begun : List ℕ) → List ℕ → List (List ℕ)
names_from begun [] = with_run begun []
names_from begun (b ∷ bytes) = if is_name_byte b then names_from (begun ++ b ∷ []) bytes else with_run begun (names_from [] bytes)

-- the names in the text of a marker or of a restriction, in order
abbrev pub names_in : List ℕ → List (List ℕ)
names_in bytes = names_from [] (behind_first_word false bytes)
