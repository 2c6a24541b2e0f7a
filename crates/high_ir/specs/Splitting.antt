-- The bounds of a loop whose body is several starts of another.
use Rattle.std.specs.Prelude.{ℕ, ◌+◌, ◌-◌, ◌/◌, ◌%◌, ◌==◌, max, if◌then◌else◌}
use Rattle.high_ir.specs.Standing.{Bounds}

-- the starts that are peeled, so that the others are a multiple of k
abbrev pub peeled : ℕ → ℕ → ℕ
peeled most k = most % k

-- the bounds behind the peeled starts, k starts at a time
abbrev pub split : Bounds → ℕ → Bounds
split b k = record { least = max 1 ((b.least - peeled b.most k + k - 1) / k); most = b.most / k }

-- a factor of 1 leaves a loop as it is
abbrev pub by_factor : Bounds → ℕ → Bounds
by_factor b k = if k == 1 then b else split b k
