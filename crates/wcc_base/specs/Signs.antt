-- Whole numbers in two's complement of k bits (C11 6.2.6.2, 6.3.1.3).
use Rattle.std.specs.Prelude.{ℕ, ◌-◌, ◌^◌, ◌%◌, ℤ, pos, negsuc, nat_lt, if◌then◌else◌}

-- the number that k bits stand for, with a sign
abbrev pub signed_of : ℕ → ℕ → ℤ
signed_of k n = if nat_lt n (2 ^ (k - 1)) then pos n else negsuc (2 ^ k - 1 - n)

-- the k bits of a number: the number modulo 2^k
abbrev pub unsigned_of : ℕ → ℤ → ℕ
unsigned_of k (pos n) = n % 2 ^ k
unsigned_of k (negsuc n) = 2 ^ k - 1 - n % 2 ^ k
