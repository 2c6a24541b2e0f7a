-- Code that is laid as a graph says, and the ranges of its loops and functions.
use Rattle.std.specs.Prelude.{◌≡◌, ◌≢◌, ◌⊎◌, ℕ, zero, suc, ◌+◌, ◌-◌, ◌^◌, ◌<◌, ◌≤◌, Bool, true, false, List, [], ◌∷◌, length, All, Contains}
use Rattle.rv_core.specs.Runs.{sets_upper}
use Rattle.rv_core.specs.Images.{Image}
use Rattle.code_flow_system.specs.declared.shapes.LoopShape.{LoopShape}
use Rattle.code_flow_system.specs.declared.shapes.Span.{Span}
use Rattle.code_flow_system.specs.Claims.{Claims}
use Rattle.code_flow_system.specs.Moves.{Code, code_of}
use Rattle.code_flow_system.specs.Reach.{IsReached, IsCode}
use Rattle.code_flow_system.specs.Systems.{System, IsSystemOf}
use Rattle.code_flow_system.specs.Shapes.{AreShapesOf, is_back, Fits}
use Rattle.asm_items.specs.declared.item.Item.TheVariants.{Jump}
use Rattle.asm_items.specs.Offsets.{IsCodeAddress}
use Rattle.asm_items.specs.Items.{total}
use Rattle.asm_items.specs.Placings.{Placing, blocks_of, block_of, start_of, end_of}
use Rattle.asm_items.specs.Promises.{Keeps}
use Rattle.asm_items.specs.Standing.{HasItems}
use Rattle.asm_graphs.specs.Graphs.{Loop, Graph, IsShaped}

-- each block of a graph's functions stands in its place and keeps to the graph, and functions share no address
pub record IsLaid (g : Graph) (l : Placing) (c : Code) : Type 0 where
  pub functions : length l.functions ≡ g.functions
  pub blocks : (f : ℕ) → length (blocks_of l f) ≡ g.blocks f
  pub stands : (f b : ℕ) → f < g.functions → b < g.blocks f → HasItems (start_of l) c f (start_of l f b) (block_of l f b)
  pub keeps : (f b : ℕ) → f < g.functions → b < g.blocks f → Keeps (g.follows f b) (g.calls f) b (block_of l f b)
  pub some : (f b : ℕ) → f < g.functions → b < g.blocks f → block_of l f b ≢ []
  pub latch : (f : ℕ) (k : Loop) → f < g.functions → Contains (g.loops f) k → (far : Bool) × (block_of l f k.latch ≡ Jump far k.header ∷ [])
  pub apart : (f h : ℕ) → f ≢ h → f < g.functions → h < g.functions → (end_of l f ≤ start_of l h 0) ⊎ (end_of l h ≤ start_of l f 0)
  pub room : (f : ℕ) → f < g.functions → end_of l f ≤ 2 ^ 30
  pub places : (f b : ℕ) → IsCodeAddress (start_of l f b)
  -- no return is resolved by an instruction before it
  pub no_link : (a : ℕ) → sets_upper (c.fetch a) 1 ≡ false

-- the address of a block's last instruction
abbrev pub last_of : Placing → ℕ → ℕ → ℕ
last_of l f b = start_of l f b + total (block_of l f b) - 4

-- how a loop lies in memory: from its header to the jump back, the last instruction of its latch
pub record IsShapeOf (l : Placing) (f : ℕ) (k : Loop) (s : LoopShape) : Type 0 where
  pub header : s.header ≡ start_of l f k.header
  pub back : s.back ≡ last_of l f k.latch
  pub first : s.first ≡ start_of l f k.header
  pub last : s.last ≡ last_of l f k.latch

abbrev pub IsShapeIn : Graph → Placing → LoopShape → Type 0
IsShapeIn g l s = (f : ℕ) × (k : Loop) × (f < g.functions) × Contains (g.loops f) k × IsShapeOf l f k s

-- the shapes of all loops, in any order
pub record AreShapes (g : Graph) (l : Placing) (ls : List LoopShape) : Type 0 where
  pub each : All (IsShapeIn g l) ls
  pub every : (f : ℕ) (k : Loop) → f < g.functions → Contains (g.loops f) k → is_back ls (last_of l f k.latch) ≡ true

abbrev pub span_of : Placing → ℕ → Span
span_of l f = record { first = start_of l f 0; end = end_of l f }

-- n functions from number f on
abbrev pub spans_from : Placing → ℕ → ℕ → List Span
spans_from l f zero = []
spans_from l f (suc n) = span_of l f ∷ spans_from l (suc f) n

-- an image that has laid code, entered at the beginning of a function
pub record IsImageOf (g : Graph) (l : Placing) (main : ℕ) (image : Image) (claims : Claims) : Type 0 where
  pub shaped : IsShaped g
  pub laid : IsLaid g l (code_of image claims)
  pub there : main < g.functions
  pub entry : image.entry ≡ start_of l main 0

-- each address that its runs can reach is code
abbrev pub ReachesCode : Type 0
ReachesCode = (g : Graph) (l : Placing) (main : ℕ) (image : Image) (claims : Claims) → IsImageOf g l main image claims → (a : ℕ) → IsReached (code_of image claims) image.entry a → IsCode (code_of image claims) image.entry a

-- its loops and functions fit its flow system
abbrev pub LoopsFit : Type 0
LoopsFit = (g : Graph) (l : Placing) (main : ℕ) (image : Image) (claims : Claims) (s : System) (ls : List LoopShape) → IsImageOf g l main image claims → IsSystemOf image claims s → AreShapesOf claims.loops ls → AreShapes g l ls → Fits s ls (spans_from l 0 g.functions)

-- blocks begin at different addresses
abbrev pub StartsApart : Type 0
StartsApart = (g : Graph) (l : Placing) (c : Code) → IsShaped g → IsLaid g l c → (f b h d : ℕ) → f < g.functions → b < g.blocks f → h < g.functions → d < g.blocks h → start_of l f b ≡ start_of l h d → (f ≡ h) × (b ≡ d)
