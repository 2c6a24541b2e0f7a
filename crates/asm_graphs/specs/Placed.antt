-- A program's items that are placed in the code of an image.
use Rattle.std.specs.Prelude.{◌≡◌, ◌≢◌, ◌⊎◌, ℕ, ◌%◌, ◌^◌, ◌<◌, ◌≤◌, Bool, false, [], ◌∷◌, length, Contains}
use Rattle.rv_core.specs.Runs.{sets_upper}
use Rattle.code_flow_system.specs.Moves.{Code}
use Rattle.asm_items.specs.declared.item.Item.TheVariants.{Jump}
use Rattle.asm_items.specs.Placings.{Placing, blocks_of, block_of, base_of, start_of, end_of, blocks_words}
use Rattle.asm_items.specs.Promises.{Keeps}
use Rattle.asm_items.specs.Standing.{HasWords, ListsExits}
use Rattle.asm_graphs.specs.Graphs.{Loop, Graph, IsShaped}
use Rattle.asm_graphs.specs.Laid.{IsLaid}

-- the instructions of each function stand in a row from its base on
pub record IsPlaced (g : Graph) (l : Placing) (c : Code) : Type 0 where
  pub functions : length l.functions ≡ g.functions
  pub blocks : (f : ℕ) → length (blocks_of l f) ≡ g.blocks f
  pub words : (f : ℕ) → f < g.functions → HasWords c (base_of l f) (blocks_words (start_of l) f (base_of l f) (blocks_of l f))
  pub exits : (f b : ℕ) → f < g.functions → b < g.blocks f → ListsExits c (start_of l f b) (block_of l f b)
  pub keeps : (f b : ℕ) → f < g.functions → b < g.blocks f → Keeps (g.follows f b) (g.calls f) b (block_of l f b)
  pub some : (f b : ℕ) → f < g.functions → b < g.blocks f → block_of l f b ≢ []
  pub latch : (f : ℕ) (k : Loop) → f < g.functions → Contains (g.loops f) k → (far : Bool) × (block_of l f k.latch ≡ Jump far k.header ∷ [])
  pub aligned : (f : ℕ) → f < g.functions → base_of l f % 4 ≡ 0
  pub low : (f : ℕ) → f < g.functions → end_of l f < 2 ^ 30
  pub apart : (f h : ℕ) → f ≢ h → f < g.functions → h < g.functions → (end_of l f ≤ base_of l h) ⊎ (end_of l h ≤ base_of l f)
  pub no_link : (a : ℕ) → sets_upper (c.fetch a) 1 ≡ false

-- such code is laid
abbrev pub PlacedIsLaid : Type 0
PlacedIsLaid = (g : Graph) (l : Placing) (c : Code) → IsShaped g → IsPlaced g l c → IsLaid g l c
