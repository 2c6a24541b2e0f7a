-- Functions whose items keep to a graph.
use Rattle.std.specs.Prelude.{◌≡◌, ◌≢◌, ℕ, ◌<◌, Bool, List, [], ◌∷◌, length, slice_index_or, Contains}
use Rattle.asm_items.specs.declared.item.Item.{Item}
use Rattle.asm_items.specs.declared.item.Item.TheVariants.{Jump}
use Rattle.asm_items.specs.Placings.{Blocks}
use Rattle.asm_items.specs.Promises.{Keeps}
use Rattle.asm_graphs.specs.Graphs.{Graph, Loop}

abbrev pub blocks_in : List Blocks → ℕ → Blocks
blocks_in fs f = slice_index_or fs f []

abbrev pub block_in : List Blocks → ℕ → ℕ → List Item
block_in fs f b = slice_index_or (blocks_in fs f) b []

-- each block has items, and they go where the graph says; a loop's latch is its one jump back
pub record Promised (g : Graph) (fs : List Blocks) : Type 0 where
  pub functions : length fs ≡ g.functions
  pub blocks : (f : ℕ) → length (blocks_in fs f) ≡ g.blocks f
  pub keeps : (f b : ℕ) → f < g.functions → b < g.blocks f → Keeps (g.follows f b) (g.calls f) b (block_in fs f b)
  pub some : (f b : ℕ) → f < g.functions → b < g.blocks f → block_in fs f b ≢ []
  pub latch : (f : ℕ) (k : Loop) → f < g.functions → Contains (g.loops f) k → (far : Bool) × (block_in fs f k.latch ≡ Jump far k.header ∷ [])
