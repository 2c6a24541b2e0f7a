-- What the image of a program in the low form keeps of it, with the claims on it.
use Rattle.std.specs.Prelude.{◌≡◌, ℕ, suc, ◌+◌, ◌*◌, ◌%◌, ◌^◌, ◌<◌, ◌≤◌, pos, List, length, map, Some, All, Contains, slice_get, take}
use Rattle.frac128.specs.Terms.{int_sum_by}
use Rattle.rv_core.specs.declared.costs.Costs.{Costs}
use Rattle.rv_core.specs.Images.{Image, AreLoadable}
use Rattle.rv_core.specs.Table.{Table, table_of}
use Rattle.rv_core.specs.Runs.{mrun, setup}
use Rattle.code_flow_system.specs.declared.shapes.LoopShape.{LoopShape}
use Rattle.code_flow_system.specs.Counts.{Amounts}
use Rattle.code_flow_system.specs.KeptRuns.{KeepsClaims, visit_count}
use Rattle.code_flow_system.specs.Loose.{IsLoose}
use Rattle.code_flow_system.specs.Systems.{System, IsSystemOf}
use Rattle.asm_items.specs.Items.{total}
use Rattle.asm_items.specs.Placings.{block_of, blocks_of, start_of}
use Rattle.asm_forms.specs.Regions.{functions_size}
use Rattle.asm_graphs.specs.Laid.{spans_from}
use Rattle.asm_program.specs.Marked.{functions_marked}
use Rattle.low_ir.specs.Code.{Function, Low, Note, Object}
use Rattle.low_ir.specs.Effects.{World}
use Rattle.low_ir.specs.Formed.{IsLow}
use Rattle.low_ir.specs.Runs.{lrun}
use Rattle.low_ir.specs.Turns.{IsGood, mark_count, CanTurn}
use Rattle.low_ir.specs.Places.{Placed, Placing, assignment, placed}
use Rattle.low_ir.specs.Room.{room, weight}
use Rattle.low_ir.specs.Spacing.{IsAssignment}
use Rattle.simulation_relation.specs.Following.{Ends}
use Rattle.image_frames.specs.Memories.{Placement}
use Rattle.image_definition.specs.Images.{image_in}
use Rattle.simulation_loaded.specs.Layouts.{layout_of}
use Rattle.image_definition.specs.Sizes.{HasSizes, HasWords}
use Rattle.claims_definition.specs.AccessLaws.{AreLines}
use Rattle.claims_definition.specs.Lines.{Access, access_at}
use Rattle.claims_definition.specs.Touches.{Touch}
use Rattle.claims_definition.specs.ClaimLaws.{AreLoopClaims, AreRanges, HasPlaces, IsPlaceOf, Rise}
use Rattle.claims_definition.specs.Listed.{Laid, accesses_of, claims_of, functions_of, places_of, placing, regions_of, touches_at}
use Rattle.claims_definition.specs.MovableLaws.{IsMovable}
use Rattle.claims_definition.specs.Movables.{array_item, movables_of}
use Rattle.claims_definition.specs.Flows.{KeepsBounds}
use Rattle.claims_definition.specs.Shapes.{AreShaped}
use Rattle.layout_relation.specs.Segments.{AreFilled}
use Rattle.layout_relation.specs.Items.{HasElements, item_sizes, sized}
use Rattle.image_frames.specs.Placings.{MovesItems}
use Rattle.layout_relation.specs.Images.{AreCounted, AreSmall, LieWherePlaced}
use Rattle.claims_image.specs.Images.{HasClaims, laid_of}
use Rattle.path_conditions.specs.Bounding.{CanBound}
use Rattle.layout_relation.specs.Rooms.{KeepsRoom}

-- no loop has to start more often than it may, and the numbers of a search stay small
pub record IsLight (low : Low) : Type 0 where
  pub turns : All (λ (fn : Function ℕ Note). All CanTurn fn.loops) low.functions
  pub light : 4000 * weight low < 2 ^ 60

-- whatever an item of a block may access is among the accesses, at the item's address
abbrev pub IsListed : Laid → Type 0
IsListed l =
    (f b j : ℕ) (t : Touch) (x : Access) → f ≤ length l.program.functions → b < length (blocks_of (placing l) f) → j < length (block_of (placing l) f b) → slice_get (touches_at l f b) j ≡ Some t
    → Contains (access_at l.regions (start_of (placing l) f b + total (take j (block_of (placing l) f b))) t) x → Contains (accesses_of l) x

module _ (pl : Placement) (ps : List Placing) (low : Low) where
  abbrev pub over : Placed
  over = placed (assignment ps) low

  abbrev pub image : Image
  image = image_in pl over

  abbrev pub laid : Laid
  laid = laid_of pl over

  -- n steps of the machine that runs the image, at these costs and on this input, have ended as a run with this value and world
  pub record KeepsRun (table : Table) (input : List ℕ) (v : ℕ) (u : World) (n : ℕ) : Type 0 where
    -- with its value, its output and its blocks, which begin in the same order
    pub ends : Ends (layout_of pl over) (setup image table input) v u n
    -- the claims are kept
    pub claims : (s : System) → IsSystemOf image (claims_of laid) s → KeepsClaims (claims_of laid) (mrun (setup image table input) n)
    -- a mark is passed as often as its addresses are visited, all together
    pub passes : (mark : ℕ) → int_sum_by (visit_count (mrun (setup image table input) n).visits) (places_of laid mark) ≡ pos (mark_count low u.trace mark)

  -- as each good run of the program
  abbrev pub Simulates : Type 0
  Simulates = (table : Table) (input : List ℕ) → All (λ b. b < 256) input → (i v : ℕ) (u : World) → IsGood low (lrun low input i) v u → (n : ℕ) × KeepsRun table input v u n

  -- per unit the counts of a loose flow add up to at most the weight, and those of a mark to at most its reach
  abbrev pub FlowsAreBounded : Type 0
  FlowsAreBounded = (c : Costs) (s : System) → IsSystemOf image (claims_of laid) s → (unit : ℕ) (x : Amounts) → IsLoose s unit x → KeepsBounds (table_of c) laid s unit x

  -- the greatest flow can be searched for
  abbrev pub CanBeBounded : Type 0
  CanBeBounded = (c : Costs) (s : System) (ls : List LoopShape) → IsSystemOf image (claims_of laid) s → AreShaped (claims_of laid).loops ls → IsLight low → CanBound (table_of c) s ls (spans_from (placing laid) 0 (suc (length over.functions)))

  pub record KeepsLow : Type 0 where
    pub rooms : KeepsRoom over low
    pub loadable : AreLoadable image.segments
    pub runs : Simulates
    -- no claim is bad, each address that is reached is code, and loops and functions fit the flow system
    pub claims : HasClaims laid image
    -- there are no more exits and lines of regions than instructions, and no more loop claims than loops
    pub few : AreCounted pl over
    -- each loop claim has the number and the bounds of a loop
    pub loops : AreLoopClaims laid
    -- each load and store lies in a line that has the regions of what it touches
    pub lines : AreLines (accesses_of laid) (regions_of laid)
    pub listed : IsListed laid
    -- and where only items are placed, and no array is empty, the image has a segment in each of these regions
    pub filled : MovesItems pl over → HasElements over → All (AreFilled image.segments) (regions_of laid)
    -- a mark has an address for each block that has it, and no two marks share one
    pub marks : (mark : ℕ) → HasPlaces laid mark
    pub standing : (mark : ℕ) → length (places_of laid mark) ≡ functions_marked mark over.functions
    pub apart : (m n a : ℕ) → IsPlaceOf laid m a → IsPlaceOf laid n a → m ≡ n
    pub ranges : AreRanges laid
    -- what may be moved has the same size under every placement, in whole words, and addresses in ascending order
    pub sizes : map sized (movables_of laid) ≡ item_sizes over
    pub functions : (f : ℕ) → f < length over.functions → IsMovable laid f
    pub arrays : (o : ℕ) (x : Object) → ((array_item laid o x).size % 4 ≡ 0) × Rise 0 (array_item laid o x).at
    -- in bytes, four for each instruction
    pub room : functions_size (functions_of laid) ≤ 4 * room low
    -- functions and arrays lie in the regions of their items, which the placement says
    pub lie : LieWherePlaced pl over
    -- segments keep four bytes for each instruction and the bytes of arrays that aren't local, and those in the scratchpad take no more
    -- than the items that are placed there
    pub small : MovesItems pl over → AreSmall pl over
    pub flows : FlowsAreBounded
    pub bounded : CanBeBounded

abbrev pub LayoutsKeep : Type 0
LayoutsKeep = (pl : Placement) (ps : List Placing) (low : Low) → IsLow low → IsAssignment (assignment ps) low → HasWords (placed (assignment ps) low) → HasSizes pl (placed (assignment ps) low) → KeepsLow pl ps low
