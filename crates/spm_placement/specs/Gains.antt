-- What functions and arrays gain in the scratchpad, by a listed flow.
use Rattle.std.specs.Prelude.{ℕ, ◌+◌, ◌<◌, ◌^◌, ℤ, pos, ◌-ℤ◌, ◌*ℤ◌, unsigned_abs, Bool, true, false, List, [], ◌∷◌, Some}
use Rattle.rv_core.specs.declared.regions.Region.{Region}
use Rattle.rv_core.specs.Table.{Table, access_cost}
use Rattle.code_flow_system.specs.declared.cert.Part.{Part}
use Rattle.code_flow_lookup.specs.Runs.{those_at}
use Rattle.claims_definition.specs.Movables.{Movable}
use Rattle.spm_placement.specs.declared.item.Item.{Item}

-- the numbers of moves, which are positive
abbrev pub all_parts : List Part → ℕ
all_parts [] = 0
all_parts (p ∷ ps) = unsigned_abs p.part + all_parts ps

-- how often a flow is at an address, over its unit: the numbers of the moves from there, added
abbrev pub visits : List Part → ℕ → ℕ
visits ps a = all_parts (those_at (λ (p : Part). p.at) a ps)

abbrev pub all_visits : List Part → List ℕ → ℕ
all_visits ps [] = 0
all_visits ps (a ∷ rest) = visits ps a + all_visits ps rest

-- a flow of a search is at its addresses less often than that
abbrev pub HasFewVisits : List Part → Movable → Type 0
HasFewVisits ps m = all_visits ps m.at < 2 ^ 100

-- what a fetch costs, or an access of data, where an item lies and in the scratchpad

abbrev pub cost_here : Table → Bool → Region → ℕ
cost_here t true r = t.fetch_flash
cost_here t false r = access_cost t (Some r)

abbrev pub cost_there : Table → Bool → ℕ
cost_there t true = t.fetch_spm
cost_there t false = t.data_spm

-- what all fetches of its instructions save, or all accesses that touch this array alone
abbrev pub gain_of : Table → List Part → Movable → ℤ
gain_of t ps m = pos (all_visits ps m.at) *ℤ (pos (cost_here t m.code m.region) -ℤ pos (cost_there t m.code))

abbrev pub gained : Table → List Part → Movable → Item
gained t ps m = record { id = m.id; size = m.size; gain = gain_of t ps m }
