-- Constants (C11 6.4.4.1, 6.4.4.4).
use Rattle.std.specs.Prelude.{◌≡◌, ◌≢◌, ℕ, zero, suc, ◌+◌, ◌*◌, ◌-◌, ◌<◌, ◌≤◌, ◌⊎◌, Bool, ◌&&◌, ◌||◌, nat_eq, nat_le, if◌then◌else◌, List, slice_index}
use Rattle.c_tree.specs.declared.token.Constant.{Constant}
use Rattle.c_tree.specs.declared.token.ConstantType.{ConstantType}
use Rattle.c_tree.specs.declared.token.ConstantType.TheVariants as types
use Rattle.c_tree.specs.Bytes.{IsDigit, Each}

-- the value of a digit; of any other byte 16, which no base has
abbrev pub digit : ℕ → ℕ
digit b =
    if nat_le 48 b && nat_le b 57 then b - 48
    else (if nat_le 97 b && nat_le b 102 then b - 87 else (if nat_le 65 b && nat_le b 70 then b - 55 else 16))

-- the number that so many digits spell, from the first on
abbrev pub number : (base : ℕ) → List ℕ → (at count : ℕ) → ℕ
number base source at zero = 0
number base source at (suc count) = number base source at count * base + digit (slice_index source (at + count))

abbrev pub is_u : ℕ → Bool
is_u b = nat_eq b 117 || nat_eq b 85

abbrev pub is_l : ℕ → Bool
is_l b = nat_eq b 108 || nat_eq b 76

-- whether an integer constant that ends there has the suffix u, alone or beside an l
abbrev pub has_u : List ℕ → ℕ → Bool
has_u source end = is_u (slice_index source (end - 1)) || (is_l (slice_index source (end - 1)) && is_u (slice_index source (end - 2)))

abbrev pub has_l : List ℕ → ℕ → Bool
has_l source end = is_l (slice_index source (end - 1)) || (is_u (slice_index source (end - 1)) && is_l (slice_index source (end - 2)))

abbrev pub one_if : Bool → ℕ
one_if b = if b then 1 else 0

-- where the suffix begins
abbrev pub digits_end : List ℕ → ℕ → ℕ
digits_end source end = end - (one_if (has_u source end) + one_if (has_l source end))

abbrev pub is_hexadecimal : List ℕ → (at end : ℕ) → Bool
is_hexadecimal source at end = nat_eq (slice_index source at) 48 && (nat_eq (slice_index source (at + 1)) 120 || nat_eq (slice_index source (at + 1)) 88) && nat_le (at + 2) end

-- an octal constant begins with 0, which is one itself
abbrev pub base_of : List ℕ → (at end : ℕ) → ℕ
base_of source at end = if is_hexadecimal source at end then 16 else (if nat_eq (slice_index source at) 48 then 8 else 10)

-- where the digits begin
abbrev pub digits_start : List ℕ → (at end : ℕ) → ℕ
digits_start source at end = if is_hexadecimal source at end then at + 2 else at

abbrev pub integer_value : List ℕ → (at end : ℕ) → ℕ
integer_value source at end = let first = digits_start source at end in number (base_of source at end) source first (digits_end source end - first)

-- the greatest value that has a type
abbrev pub most : (u : Bool) (base : ℕ) → ℕ
most u base = if u || nat_le base 8 || nat_le 16 base then 4294967295 else 2147483647

abbrev pub type_of : (u l : Bool) (value : ℕ) → ConstantType
type_of u l value = if u || nat_le 2147483648 value then types.Unsigned else (if l then types.Long else types.Int)

-- what an integer constant says
abbrev pub integer : List ℕ → (at end : ℕ) → Constant
integer source at end = let value = integer_value source at end in record { value = value; scalar = type_of (has_u source end) (has_l source end) value }

-- decimal, octal or hexadecimal digits, and a suffix; and the value has a type
pub record IsInteger (source : List ℕ) (at end : ℕ) : Type 0 where
  pub first : IsDigit (slice_index source at)
  pub some : digits_start source at end < digits_end source end
  pub digits : Each (λ b. digit b < base_of source at end) source (digits_start source at end) (digits_end source end)
  pub typed : integer_value source at end ≤ most (has_u source end) (base_of source at end)

-- the value of the letter behind a backslash; of any other byte 256
abbrev pub simple_escape : ℕ → ℕ
simple_escape b =
    if nat_eq b 39 || nat_eq b 34 || nat_eq b 63 || nat_eq b 92 then b
    else (if nat_eq b 97 then 7 else (if nat_eq b 98 then 8 else (if nat_eq b 102 then 12 else (if nat_eq b 110 then 10
    else (if nat_eq b 114 then 13 else (if nat_eq b 116 then 9 else (if nat_eq b 118 then 11 else 256)))))))

-- the value of a character constant between its quotes, the closing one at `last`
abbrev pub character : List ℕ → (at last : ℕ) → ℕ
character source at last =
    let first = slice_index source (at + 1) in
    let second = slice_index source (at + 2) in
    if nat_eq first 92
    then (if nat_eq second 120 then number 16 source (at + 3) (last - (at + 3)) else (if nat_le (digit second) 7 then number 8 source (at + 2) (last - (at + 2)) else simple_escape second))
    else first

abbrev pub IsPlain : List ℕ → (at last : ℕ) → Type 0
IsPlain source at last = (last ≡ at + 2) × (32 ≤ slice_index source (at + 1)) × (slice_index source (at + 1) ≤ 126) × (slice_index source (at + 1) ≢ 39) × (slice_index source (at + 1) ≢ 92)

abbrev pub IsSimple : List ℕ → (at last : ℕ) → Type 0
IsSimple source at last = (slice_index source (at + 1) ≡ 92) × (last ≡ at + 3) × (simple_escape (slice_index source (at + 2)) < 256)

-- one to three digits
abbrev pub IsOctal : List ℕ → (at last : ℕ) → Type 0
IsOctal source at last = (slice_index source (at + 1) ≡ 92) × (at + 3 ≤ last) × (last ≤ at + 5) × Each (λ b. digit b < 8) source (at + 2) last

abbrev pub IsHexadecimal : List ℕ → (at last : ℕ) → Type 0
IsHexadecimal source at last = (slice_index source (at + 1) ≡ 92) × (slice_index source (at + 2) ≡ 120) × (at + 4 ≤ last) × Each (λ b. digit b < 16) source (at + 3) last

-- one byte or one escape in quotes, of a value that a byte has
pub record IsCharacter (source : List ℕ) (at last : ℕ) : Type 0 where
  pub opens : slice_index source at ≡ 39
  pub closes : slice_index source last ≡ 39
  pub form : IsPlain source at last ⊎ IsSimple source at last ⊎ IsOctal source at last ⊎ IsHexadecimal source at last
  pub value : character source at last < 256
