-- The regions of the address space: flash from 00000000, 8 MiB; scratchpad from 10000000, 64 KiB; RAM from 20000000, 2 MiB.
use Rattle.std.specs.Prelude.{ℕ, ◌+◌, Option, Some, None, Bool, ◌&&◌, nat_lt, nat_le, if◌then◌else◌}
use Rattle.rv_core.specs.declared.regions.Region.{Region}
use Rattle.rv_core.specs.declared.regions.Region.TheVariants.{Flash, Spm, Ram}

abbrev pub region_start : Region → ℕ
region_start Flash = 0
region_start Spm = 0x1000_0000
region_start Ram = 0x2000_0000

abbrev pub region_size : Region → ℕ
region_size Flash = 0x80_0000
region_size Spm = 0x1_0000
region_size Ram = 0x20_0000

-- the address lies in the region
abbrev pub lies_in : Region → ℕ → Bool
lies_in r at = nat_le (region_start r) at && nat_lt at (region_start r + region_size r)

-- the region of an address
abbrev pub region_of : ℕ → Option Region
region_of at = if lies_in Flash at then Some Flash else (if lies_in Spm at then Some Spm else (if lies_in Ram at then Some Ram else None))
