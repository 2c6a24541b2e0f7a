-- The operators of C on words of 32 bits, made total as the machine's are
-- (C11 6.5.3 to 6.5.14; RISC-V unprivileged 2.4 and the M extension).
use Rattle.std.specs.Prelude.{ℕ, zero, suc, ◌+◌, ◌-◌, ◌*◌, ◌/◌, ◌%◌, ◌^◌, ℤ, pos, negsuc, Bool, nat_lt, ◌==◌, int_lt, int_div, int_rem, bit_and, bit_or, bit_xor, if◌then◌else◌}
use Rattle.wcc_base.specs.Signs.{signed_of, unsigned_of}

-- a word as a number with a sign
abbrev pub signed_word : ℕ → ℤ
signed_word w = signed_of 32 w

-- a number with a sign, modulo 2^32
abbrev pub wrapped : ℤ → ℕ
wrapped z = unsigned_of 32 z

-- the low bits of a word, filled up with copies of their sign
abbrev pub sign_filled : ℕ → ℕ → ℕ
sign_filled bits w = wrapped (signed_of bits (w % 2 ^ bits))

-- 1 for a test that holds, else 0
abbrev pub truth_word : Bool → ℕ
truth_word b = if b then 1 else 0

abbrev pub sum_word : ℕ → ℕ → ℕ
sum_word a b = (a + b) % 2 ^ 32

abbrev pub difference_word : ℕ → ℕ → ℕ
difference_word a b = (a + (2 ^ 32 - b)) % 2 ^ 32

abbrev pub product_word : ℕ → ℕ → ℕ
product_word a b = a * b % 2 ^ 32

-- the quotient of numbers without a sign; all bits set where the divisor is 0
abbrev pub quotient_word : ℕ → ℕ → ℕ
quotient_word a zero = 2 ^ 32 - 1
quotient_word a (suc b) = a / suc b

-- their remainder; the dividend where the divisor is 0
abbrev pub remainder_word : ℕ → ℕ → ℕ
remainder_word a zero = a
remainder_word a (suc b) = a % suc b

-- the quotient of numbers with a sign, truncated towards 0; -1 where the divisor is 0, and the dividend at -2^31 by -1
abbrev pub signed_quotient_word : ℕ → ℕ → ℕ
signed_quotient_word a zero = 2 ^ 32 - 1
signed_quotient_word a (suc b) = wrapped (int_div (signed_word a) (signed_word (suc b)))

-- their remainder, with the dividend's sign; the dividend where the divisor is 0, and 0 at -2^31 by -1
abbrev pub signed_remainder_word : ℕ → ℕ → ℕ
signed_remainder_word a zero = a
signed_remainder_word a (suc b) = wrapped (int_rem (signed_word a) (signed_word (suc b)))

abbrev pub and_word : ℕ → ℕ → ℕ
and_word a b = bit_and a b

abbrev pub or_word : ℕ → ℕ → ℕ
or_word a b = bit_or a b

abbrev pub xor_word : ℕ → ℕ → ℕ
xor_word a b = bit_xor a b

-- a shift counts by the low five bits of its right side
abbrev pub left_shift_word : ℕ → ℕ → ℕ
left_shift_word a b = a * 2 ^ (b % 32) % 2 ^ 32

-- a right shift that fills with zeros
abbrev pub right_shift_word : ℕ → ℕ → ℕ
right_shift_word a b = a / 2 ^ (b % 32)

-- the floor of a quotient by a power of two
abbrev pub floor_shift : ℤ → ℕ → ℤ
floor_shift (pos n) k = pos (n / 2 ^ k)
floor_shift (negsuc n) k = negsuc (n / 2 ^ k)

-- a right shift that fills with copies of the sign
abbrev pub signed_right_shift_word : ℕ → ℕ → ℕ
signed_right_shift_word a b = wrapped (floor_shift (signed_word a) (b % 32))

abbrev pub equal_word : ℕ → ℕ → ℕ
equal_word a b = truth_word (a == b)

abbrev pub less_word : ℕ → ℕ → ℕ
less_word a b = truth_word (nat_lt a b)

abbrev pub signed_less_word : ℕ → ℕ → ℕ
signed_less_word a b = truth_word (int_lt (signed_word a) (signed_word b))
