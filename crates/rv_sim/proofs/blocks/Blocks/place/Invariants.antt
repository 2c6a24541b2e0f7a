use Rattle.std.proofs.Common.{◌≡◌, ℕ, drop, take, ◌++◌}
use Rattle.std.specs.Option.{option_map}
use Rattle.rv_core.specs.Memory.{written_to}
use Rattle.rv_sim.proofs.blocks.Blocks.place.Given as goal

-- the blocks so far take no store
abbrev pub invariant-loop-index : goal.invariant-loop-index
invariant-loop-index l = (v : ℕ) → written_to l.width l.self l.at v ≡ option_map (λ rest. take l.index l.self ++ rest) (written_to l.width (drop l.index l.self) l.at v)
