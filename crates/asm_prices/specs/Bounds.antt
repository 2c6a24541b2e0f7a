-- The code of low programs that is laid, and what bounds its loose flows.
use Rattle.std.specs.Prelude.{◌≡◌, ◌≢◌, ℕ, ◌*◌, ◌^◌, ◌<◌, ◌≤◌, pos, ◌*ℤ◌, ◌≤ℤ◌, ◌<ℤ◌, List, length, map, Some, All, AllPairs}
use Rattle.frac128.specs.Terms.{int_sum_by}
use Rattle.rv_core.specs.Images.{Image}
use Rattle.rv_core.specs.Table.{Table}
use Rattle.code_flow_system.specs.declared.moves.Move.{Move}
use Rattle.code_flow_system.specs.Claims.{Claims}
use Rattle.code_flow_system.specs.Systems.{System, IsSystemOf}
use Rattle.code_flow_system.specs.Counts.{Amounts, count, total}
use Rattle.code_flow_system.specs.MoveCosts.{move_cost}
use Rattle.code_flow_system.specs.Flows.{value}
use Rattle.code_flow_system.specs.Loose.{IsLoose}
use Rattle.asm_items.specs.Placings.{Placing, block_of, start_of}
use Rattle.asm_writing.specs.Forms.{AreLike}
use Rattle.asm_graphs.specs.Laid.{IsImageOf}
use Rattle.asm_prices.specs.Worths.{LoopBound, AreBounds}
use Rattle.low_ir.specs.Code.{Loop}
use Rattle.low_ir.specs.Places.{Placed}
use Rattle.low_ir.specs.Formed.{mark_of}
use Rattle.low_ir.specs.Room.{most_starts, weight, reach}
use Rattle.asm_program.specs.Frames.{Memory, frame_of}
use Rattle.asm_program.specs.Functions.{PlacedBlock, PlacedFunction, function_in, block_count, loop_of, graph_of, items_at}
use Rattle.asm_program.specs.Formed.{IsProgram}
use Rattle.asm_program.specs.Laws.{AreWords}

-- how often the loops of a function may start
abbrev pub bound_of : Loop → LoopBound
bound_of l = record { loop = loop_of l; most = most_starts l }

abbrev pub bounds_of : Placed → ℕ → List LoopBound
bounds_of p f = map bound_of (function_in p f).loops

-- the items of a program stand in a placing, in any forms; no function saves more registers than hold values
pub record HasCode (m : Memory) (p : Placed) (l : Placing) : Type 0 where
  pub program : IsProgram p
  pub words : All (λ (fn : PlacedFunction). All (λ (b : PlacedBlock). All AreWords b.code) fn.blocks) p.functions
  pub saved : (f : ℕ) → length (frame_of m f).saved ≤ 24
  pub like : (f b : ℕ) → f ≤ length p.functions → b < block_count m p f → AreLike (items_at m p f b) (block_of l f b)

-- an image of that code, entered at its start code, with a claim for each loop, and its flow system
pub record IsLaidProgram (m : Memory) (p : Placed) (l : Placing) (image : Image) (claims : Claims) (s : System) : Type 0 where
  pub code : HasCode m p l
  pub laid : IsImageOf (graph_of m p) l (length p.functions) image claims
  pub system : IsSystemOf image claims s
  pub bounds : AreBounds (graph_of m p) l (bounds_of p) claims.loops

-- the sum of all counts, which is that of all amounts
abbrev pub CountsBelowWeight : Type 0
CountsBelowWeight = (m : Memory) (p : Placed) (l : Placing) (image : Image) (claims : Claims) (s : System) → IsLaidProgram m p l image claims s → (unit : ℕ) (x : Amounts) → IsLoose s unit x → total (λ k. pos 1) x s.moves ≤ℤ (pos unit *ℤ pos (weight p))

-- a block with the mark begins at the address
pub record IsMarked (p : Placed) (l : Placing) (mark a : ℕ) : Type 0 where
  pub function : ℕ
  pub block : ℕ
  pub marked : mark_of p function block ≡ Some mark
  pub is : a ≡ start_of l function block

-- addresses of a mark, none twice
pub record AreMarked (p : Placed) (l : Placing) (mark : ℕ) (places : List ℕ) : Type 0 where
  pub each : All (IsMarked p l mark) places
  pub apart : AllPairs (λ (a : ℕ) (b : ℕ). a ≢ b) places

abbrev pub CountsBelowReach : Type 0
CountsBelowReach =
    (m : Memory) (p : Placed) (l : Placing) (image : Image) (claims : Claims) (s : System) → IsLaidProgram m p l image claims s → (unit : ℕ) (x : Amounts) → IsLoose s unit x
    → (mark : ℕ) (places : List ℕ) → AreMarked p l mark places → int_sum_by (λ a. count x s.moves a) places ≤ℤ (pos unit *ℤ pos (reach p mark))

-- with costs of at most 1000 a move costs at most 4000: its fetch, its class, its access and the wait of the instruction behind it
abbrev pub MovesCostFew : Table → Type 0
MovesCostFew t = (s : System) (k : Move) → move_cost t s k ≤ 4000

-- so no value of a loose flow is above 4000 times the weight per unit, and where that is below 2^60, none is above it
abbrev pub ValuesBelowWeight : Table → Type 0
ValuesBelowWeight t =
    (m : Memory) (p : Placed) (l : Placing) (image : Image) (claims : Claims) (s : System) → IsLaidProgram m p l image claims s → (unit : ℕ) (x : Amounts) → IsLoose s unit x
    → (value t s x ≤ℤ (pos unit *ℤ pos (4000 * weight p))) × (4000 * weight p < 2 ^ 60 → value t s x <ℤ (pos unit *ℤ pos (2 ^ 60)))
