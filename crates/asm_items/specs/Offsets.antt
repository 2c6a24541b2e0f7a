-- How far one address of code lies from another, as jumps say it (RISC-V unprivileged manual 2.4.1, 2.5: JAL and branches by an offset, AUIPC with JALR by two parts of it).
use Rattle.std.specs.Prelude.{◌≡◌, ℕ, ◌+◌, ◌-◌, ◌*◌, ◌/◌, ◌%◌, ◌^◌, ◌<◌, ℤ, pos, ◌-ℤ◌}

-- code lies at multiples of 4 below 2^30
pub record IsCodeAddress (a : ℕ) : Type 0 where
  pub low : a < 2 ^ 30
  pub aligned : a % 4 ≡ 0

-- in one part
abbrev pub offset : ℕ → ℕ → ℤ
offset a to = pos to -ℤ pos a

-- raised so far that it isn't negative, and that its low part is at least 0
abbrev pub raised : ℕ → ℕ → ℕ
raised a to = to + 2 ^ 30 + 2 ^ 11 - a

-- in two parts: one whose low 12 bits are 0, and one of 12 bits with a sign
abbrev pub upper_part : ℕ → ℕ → ℤ
upper_part a to = pos (raised a to / 2 ^ 12 * 2 ^ 12) -ℤ pos (2 ^ 30)

abbrev pub lower_part : ℕ → ℕ → ℤ
lower_part a to = pos (raised a to % 2 ^ 12) -ℤ pos (2 ^ 11)
