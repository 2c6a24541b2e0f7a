-- What instructions compute of words, numbers below 2^32 (RISC-V unprivileged manual 2.4, 2.5, and 13.1 and 13.2 of M).
use Rattle.std.specs.Prelude.{ℕ, ◌+◌, ◌*◌, ◌/◌, ◌%◌, ◌^◌, ◌==◌, ℤ, pos, ◌*ℤ◌, Bool, true, false, not, nat_lt, int_lt}
use Rattle.std.specs.Int.{w32, w64, cast_unsigned}
use Rattle.wcc_base.specs.Signs.{signed_of}
use Rattle.wcc_base.specs.Words.{signed_word, sum_word, difference_word, product_word, quotient_word, remainder_word, signed_quotient_word, signed_remainder_word, and_word, or_word, xor_word, left_shift_word, right_shift_word, signed_right_shift_word, less_word, signed_less_word}
use Rattle.rv_core.specs.declared.row.Alu.{Alu}
use Rattle.rv_core.specs.declared.row.Alu.TheVariants.{Sum, Difference, ShiftLeft, IsLess, IsLessUnsigned, BitXor, ShiftRight, ShiftRightSigned, BitOr, BitAnd, Product, HighProduct, HighProductMixed, HighProductUnsigned, Quotient, QuotientUnsigned, Remainder, RemainderUnsigned}
use Rattle.rv_core.specs.declared.row.Condition.{Condition}
use Rattle.rv_core.specs.declared.row.Condition.TheVariants.{Equal, NotEqual, Less, AtLeast, LessUnsigned, AtLeastUnsigned}
use Rattle.rv_core.specs.declared.row.Width.{Width}
use Rattle.rv_core.specs.declared.row.Width.TheVariants.{Byte, Half, Word}

-- the signed number of a word, in two's complement
abbrev pub signed : ℕ → ℤ
signed x = signed_word x

-- the word of an immediate
abbrev pub word : ℤ → ℕ
word z = cast_unsigned w32 z

-- a word plus an immediate, modulo 2^32
abbrev pub displaced : ℕ → ℤ → ℕ
displaced x imm = (x + word imm) % 2 ^ 32

-- the upper word of a product of 64 bits
abbrev pub upper_word : ℤ → ℕ
upper_word z = cast_unsigned w64 z / 2 ^ 32

-- what each function gives; shifts go by the low five bits, and quotients and remainders are total
unfoldable pub alu_value : Alu → ℕ → ℕ → ℕ
alu_value Sum x y = sum_word x y
alu_value Difference x y = difference_word x y
alu_value ShiftLeft x y = left_shift_word x y
alu_value IsLess x y = signed_less_word x y
alu_value IsLessUnsigned x y = less_word x y
alu_value BitXor x y = xor_word x y
alu_value ShiftRight x y = right_shift_word x y
alu_value ShiftRightSigned x y = signed_right_shift_word x y
alu_value BitOr x y = or_word x y
alu_value BitAnd x y = and_word x y
alu_value Product x y = product_word x y
alu_value HighProduct x y = upper_word (signed x *ℤ signed y)
alu_value HighProductMixed x y = upper_word (signed x *ℤ pos y)
alu_value HighProductUnsigned x y = x * y / 2 ^ 32
alu_value Quotient x y = signed_quotient_word x y
alu_value QuotientUnsigned x y = quotient_word x y
alu_value Remainder x y = signed_remainder_word x y
alu_value RemainderUnsigned x y = remainder_word x y

-- whether a branch is taken
unfoldable pub holds : Condition → ℕ → ℕ → Bool
holds Equal x y = x == y
holds NotEqual x y = not (x == y)
holds Less x y = int_lt (signed x) (signed y)
holds AtLeast x y = not (int_lt (signed x) (signed y))
holds LessUnsigned x y = nat_lt x y
holds AtLeastUnsigned x y = not (nat_lt x y)

-- how many bytes a load or store touches
abbrev pub byte_count : Width → ℕ
byte_count Byte = 1
byte_count Half = 2
byte_count Word = 4

-- what a load puts into its register, of a number of so many bytes
unfoldable pub extended : Width → Bool → ℕ → ℕ
extended w false n = n
extended Byte true n = word (signed_of 8 n)
extended Half true n = word (signed_of 16 n)
extended Word true n = n
