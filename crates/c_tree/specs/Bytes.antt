-- Bytes of a source, by their places (C11 5.2.1, 6.4.2.1).
use Rattle.std.specs.Prelude.{◌≡◌, ℕ, ◌+◌, ◌<◌, ◌≤◌, ◌⊎◌, Bool, ◌&&◌, ◌||◌, nat_eq, nat_le, List, [], ◌∷◌, length, slice_index}

abbrev pub IsLetter : ℕ → Type 0
IsLetter b = ((65 ≤ b) × (b ≤ 90)) ⊎ (((97 ≤ b) × (b ≤ 122)) ⊎ (b ≡ 95))

abbrev pub IsDigit : ℕ → Type 0
IsDigit b = (48 ≤ b) × (b ≤ 57)

-- a byte of a name behind its first
abbrev pub IsNameByte : ℕ → Type 0
IsNameByte b = IsLetter b ⊎ IsDigit b

abbrev pub IsBlankByte : ℕ → Type 0
IsBlankByte b = ((9 ≤ b) × (b ≤ 13)) ⊎ (b ≡ 32)

-- the same, as tests
abbrev pub is_letter : ℕ → Bool
is_letter b = (nat_le 65 b && nat_le b 90) || ((nat_le 97 b && nat_le b 122) || nat_eq b 95)

abbrev pub is_name_byte : ℕ → Bool
is_name_byte b = is_letter b || (nat_le 48 b && nat_le b 57)

abbrev pub is_blank : ℕ → Bool
is_blank b = (nat_le 9 b && nat_le b 13) || nat_eq b 32

-- each byte of a part of the source
abbrev pub Each : (ℕ → Type 0) → List ℕ → ℕ → ℕ → Type 0
Each P source at end = (i : ℕ) → at ≤ i → i < end → P (slice_index source i)

-- these bytes stand there
abbrev pub Stands : List ℕ → ℕ → List ℕ → Type 0
Stands source at [] = Unit {0}
Stands source at (b ∷ bytes) = (slice_index source at ≡ b) × Stands source (at + 1) bytes

-- these bytes stand there, and they are all of the span
abbrev pub Spans : List ℕ → ℕ → ℕ → List ℕ → Type 0
Spans source at end bytes = Stands source at bytes × (end ≡ at + length bytes)

-- one of these texts is the whole span
abbrev pub SpansOne : List ℕ → ℕ → ℕ → List (List ℕ) → Type 0
SpansOne source at end [] = ⊥
SpansOne source at end (text ∷ texts) = Spans source at end text ⊎ SpansOne source at end texts
