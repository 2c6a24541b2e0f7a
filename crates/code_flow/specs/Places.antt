-- Places: the words of flash and scratchpad, where code can stand, numbered from 0.
use Rattle.std.specs.Prelude.{ℕ, ◌+◌, ◌-◌, ◌*◌, ◌/◌, ◌&&◌, Option, Some, None, nat_lt, nat_le, if◌then◌else◌}
use Rattle.code_flow_system.specs.Claims.{is_aligned}

-- how many words flash and scratchpad have together
abbrev pub all_places : ℕ
all_places = 0x20_4000

-- the place of an address, if code can stand there
abbrev pub place_of : ℕ → Option ℕ
place_of a =
    if is_aligned a then
    (if nat_lt a 0x80_0000 then Some (a / 4)
    else (if nat_le 0x1000_0000 a && nat_lt a 0x1001_0000 then Some (0x20_0000 + (a - 0x1000_0000) / 4) else None))
    else None

abbrev pub address_at : ℕ → ℕ
address_at p = if nat_lt p 0x20_0000 then 4 * p else 0x1000_0000 + 4 * (p - 0x20_0000)
