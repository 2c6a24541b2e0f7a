-- What arrays take in memory.
use Rattle.std.specs.Prelude.{ℕ, ◌+◌, ◌*◌, ◌/◌}

-- so many bytes, rounded up to whole words
abbrev pub rounded : ℕ → ℕ
rounded n = (n + 3) / 4 * 4
