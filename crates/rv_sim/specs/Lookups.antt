-- What is found in a simulated memory, with the region that it costs by.
use Rattle.std.specs.Prelude.{◌≡◌, ◌≢◌, ℕ, ◌*◌, ◌^◌, ◌<◌, ◌&&◌, ◌++◌, List, length, take, drop, slice_index_or, Bool, true, Option, Some, None}
use Rattle.std.specs.Option.{option_map}
use Rattle.rv_core.specs.declared.regions.Region.TheVariants.{Ram}
use Rattle.rv_core.specs.declared.row.Width.{Width}
use Rattle.rv_core.specs.Arithmetic.{byte_count}
use Rattle.rv_core.specs.Words.{decode_of}
use Rattle.rv_core.specs.Regions.{region_of}
use Rattle.rv_core.specs.Memory.{Block, holds_span, written_to}
use Rattle.rv_sim.specs.declared.blocks.Fetched.{Fetched}
use Rattle.rv_sim.specs.declared.blocks.Found.{Found}
use Rattle.rv_sim.specs.declared.blocks.Place.{Place}

-- the instruction of a fetched word, and the region of the pc, which isn't RAM
pub record IsFetch (word pc : ℕ) (f : Fetched) : Type 0 where
  pub instr : f.instr ≡ decode_of word
  pub region : region_of pc ≡ Some f.region
  pub never_ram : f.region ≢ Ram

abbrev pub Fetches : Option ℕ → ℕ → Option Fetched → Type 0
Fetches None pc None = Unit {0}
Fetches None pc (Some f) = ⊥
Fetches (Some word) pc None = ⊥
Fetches (Some word) pc (Some f) = IsFetch word pc f

-- the number at an address, and the address's region
pub record IsFound (w : Width) (number at : ℕ) (f : Found) : Type 0 where
  pub number_is : f.number ≡ number
  pub small : f.number < 2 ^ (8 * byte_count w)
  pub region : region_of at ≡ Some f.region

abbrev pub Finds : Width → Option ℕ → ℕ → Option Found → Type 0
Finds w None at None = Unit {0}
Finds w None at (Some f) = ⊥
Finds w (Some number) at None = ⊥
Finds w (Some number) at (Some f) = IsFound w number at f

-- whether a block may be written and holds this much from an address on
abbrev pub takes : Width → ℕ → Block → Bool
takes w at b = b.write && holds_span b at (byte_count w)

-- the first block that takes a store, and the address's region
pub record IsPlace (w : Width) (at : ℕ) (bs : List Block) (p : Place) : Type 0 where
  pub within : p.index < length bs
  pub takes : (d : Block) → takes w at (slice_index_or bs p.index d) ≡ true
  pub first : (v : ℕ) → written_to w bs at v ≡ option_map (λ rest. take p.index bs ++ rest) (written_to w (drop p.index bs) at v)
  pub region : region_of at ≡ Some p.region

-- where a store goes, if any block takes it
abbrev pub Places : Width → ℕ → List Block → Option Place → Type 0
Places w at bs None = (v : ℕ) → written_to w bs at v ≡ None
Places w at bs (Some p) = IsPlace w at bs p
