-- The integer types and their conversions (C11 6.2.5, 6.3.1.1, 6.3.1.3, 6.3.1.8).
use Rattle.std.specs.Prelude.{ℕ, ◌%◌, ◌^◌, ◌==◌, Bool, true, false}
use Rattle.wcc_base.specs.Words.{sign_filled}
use Rattle.types_value.specs.declared.kind.Kind.{Kind}
use Rattle.types_value.specs.declared.kind.Kind.TheVariants.{Void, Char, SignedChar, UnsignedChar, Short, UnsignedShort, Int, Unsigned, Long, UnsignedLong}

-- a number for each type
abbrev pub kind_number : Kind → ℕ
kind_number Void = 0
kind_number Char = 1
kind_number SignedChar = 2
kind_number UnsignedChar = 3
kind_number Short = 4
kind_number UnsignedShort = 5
kind_number Int = 6
kind_number Unsigned = 7
kind_number Long = 8
kind_number UnsignedLong = 9

abbrev pub same_kind : Kind → Kind → Bool
same_kind a b = kind_number a == kind_number b

abbrev pub is_void : Kind → Bool
is_void Void = true
is_void _ = false

-- the bytes of a value
abbrev pub bytes : Kind → ℕ
bytes Void = 0
bytes Char = 1
bytes SignedChar = 1
bytes UnsignedChar = 1
bytes Short = 2
bytes UnsignedShort = 2
bytes _ = 4

-- whether one of its bits is a sign
abbrev pub is_signed : Kind → Bool
is_signed SignedChar = true
is_signed Short = true
is_signed Int = true
is_signed Long = true
is_signed _ = false

-- a type narrower than int becomes int, which holds all of its values
abbrev pub promoted : Kind → Kind
promoted Unsigned = Unsigned
promoted Long = Long
promoted UnsignedLong = UnsignedLong
promoted _ = Int

-- of two promoted types the one of greater rank, at equal rank the one without a sign; and since a long of 32 bits
-- doesn't hold every unsigned int, these two give unsigned long
abbrev pub joined : Kind → Kind → Kind
joined Int b = b
joined a Int = a
joined Unsigned Unsigned = Unsigned
joined Long Long = Long
joined _ _ = UnsignedLong

-- the usual arithmetic conversions
abbrev pub common : Kind → Kind → Kind
common a b = joined (promoted a) (promoted b)

-- a word converted to a type: its number modulo a power of two, in the range of the type
abbrev pub converted : Kind → ℕ → ℕ
converted Char w = w % 2 ^ 8
converted SignedChar w = sign_filled 8 w
converted UnsignedChar w = w % 2 ^ 8
converted Short w = sign_filled 16 w
converted UnsignedShort w = w % 2 ^ 16
converted _ w = w
