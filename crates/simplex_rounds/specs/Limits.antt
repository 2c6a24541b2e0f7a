-- The limit of numerators and denominators.
use Rattle.std.specs.Prelude.{ℕ, ◌*◌, ◌^◌, ◌&&◌, nat_le, unsigned_abs, [], ◌∷◌, Bool, true}
use Rattle.simplex_tables.specs.Rows.{Row}

-- a number and one more than the number of loop claims have a product of at most 2^44
abbrev pub is_narrow : ℕ → ℕ → Bool
is_narrow n z = nat_le (z * n) (2 ^ 44)

abbrev pub all_narrow : ℕ → Row → Bool
all_narrow n [] = true
all_narrow n (a ∷ as') = is_narrow n (unsigned_abs a) && all_narrow n as'
