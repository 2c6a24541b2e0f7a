-- What the items of a program keep to.
use Rattle.std.specs.Prelude.{◌≡◌, ◌≢◌, ℕ, suc, ◌+◌, ◌*◌, ◌^◌, ◌≤◌, ◌<◌, true, List, [], ◌∷◌, length, Contains}
use Rattle.asm_items.specs.declared.item.Item.{Item}
use Rattle.asm_items.specs.declared.item.Item.TheVariants as items
use Rattle.asm_items.specs.Items.{total}
use Rattle.asm_items.specs.Promises.{Keeps}
use Rattle.asm_graphs.specs.Graphs as graphs
use Rattle.asm_graphs.specs.Graphs.{IsShaped}
use Rattle.asm_graphs.specs.Promised.{Promised}
use Rattle.low_ir.specs.Places.{Assignment, Placed, placed}
use Rattle.low_ir.specs.declared.places.Place.{Place}
use Rattle.low_ir.specs.Code.{Plain, Set, Operate, Point, Load, Store, Put, Get, Instr, Do, Call, End, Low}
use Rattle.low_ir.specs.Room.{instr_room, end_room}
use Rattle.low_ir.specs.Formed.{IsLow}
use Rattle.asm_program.specs.Frames.{Memory}
use Rattle.asm_program.specs.Functions.{instr_items, end_items, block_count, items_at, graph_of, program_items}
use Rattle.asm_program.specs.Formed.{IsProgram}

-- the graph is reducible, and its calls go to lower numbers
abbrev pub GraphsAreShaped : Type 0
GraphsAreShaped = (m : Memory) (p : Placed) → IsProgram p → IsShaped (graph_of m p)

-- each block has items, and they keep to the graph
abbrev pub ItemsKeep : Type 0
ItemsKeep = (m : Memory) (p : Placed) → IsProgram p → (f b : ℕ) → f < suc (length p.functions) → b < block_count m p f → Keeps ((graph_of m p).follows f b) ((graph_of m p).calls f) b (items_at m p f b) × (items_at m p f b ≢ [])

-- a loop's latch is the one jump back to its header
abbrev pub LatchesJump : Type 0
LatchesJump = (m : Memory) (p : Placed) → IsProgram p → (f : ℕ) (k : graphs.Loop) → Contains ((graph_of m p).loops f) k → items_at m p f k.latch ≡ items.Jump true k.header ∷ []

-- the items of a program keep to its graph, where no frame belongs to no function
abbrev pub ItemsArePromised : Type 0
ItemsArePromised = (m : Memory) (p : Placed) → IsProgram p → length m.frames ≤ length p.functions → Promised (graph_of m p) (program_items m p)

-- displacements are words
abbrev pub HasWords : Plain Place → Type 0
HasWords (Set d x) = Unit {0}
HasWords (Operate operator d x y) = Unit {0}
HasWords (Point d a) = a.displacement < 2 ^ 32
HasWords (Load kind d a) = a.displacement < 2 ^ 32
HasWords (Store kind a x) = a.displacement < 2 ^ 32
HasWords (Put x) = Unit {0}
HasWords (Get d) = Unit {0}

abbrev pub AreWords : Instr Place (List ℕ) → Type 0
AreWords (Do i) = HasWords i
AreWords (Call d callee args note) = Unit {0}

-- the items of an instruction, and those with which a block ends, take at most the bytes of its room, in whatever is behind them
abbrev pub ItemsHaveRoom : Type 0
ItemsHaveRoom = (m : Memory) (p : Placed) (f : ℕ) (i : Instr Place (List ℕ)) (xs : List Item) → AreWords i → total (instr_items m p f i xs) ≤ 4 * instr_room i + total xs

abbrev pub EndsHaveRoom : Type 0
EndsHaveRoom = (m : Memory) (p : Placed) (f b : ℕ) (end : End Place) → total (end_items m p f b end) ≤ 4 * end_room end

-- a program over the places of its registers has the form that the items want
abbrev pub PlacedHasForm : Type 0
PlacedHasForm = (a : Assignment) (low : Low) → IsLow low → IsProgram (placed a low)
