-- The items of blocks, functions and programs over places, and the graph that they promise.
use Rattle.std.specs.Prelude.{ℕ, zero, suc, ◌+◌, ◌-◌, ◌*◌, ◌==◌, ◌&&◌, ℤ, pos, ◌-ℤ◌, Bool, true, false, nat_lt, if◌then◌else◌, List, [], ◌∷◌, ◌++◌, map, length, take, Option, Some, None, slice_get, slice_index_or}
use Rattle.rv_core.specs.declared.row.Condition.{Condition}
use Rattle.rv_core.specs.Instructions.{Instruction, addi}
use Rattle.asm_items.specs.declared.item.Form.TheVariants.{Far}
use Rattle.asm_items.specs.declared.item.Item.{Item}
use Rattle.asm_items.specs.declared.item.Item.TheVariants as items
use Rattle.asm_items.specs.Items.{opposite}
use Rattle.asm_items.specs.Placings.{Blocks}
use Rattle.asm_graphs.specs.Graphs.{Graph}
use Rattle.asm_graphs.specs.Graphs as graphs
use Rattle.low_ir.specs.declared.places.Place.{Place}
use Rattle.low_ir.specs.Code.{Operand, Instr, Do, Call, End, Jump, Branch, Return, Block, Loop, Function}
use Rattle.low_ir.specs.Places.{Placed}
use Rattle.asm_program.specs.Numbers.{link, base, second_base, base_address, result, service, first_free, second_free, machine_register, is_near, load_upper, lower_of, load_word, store_word}
use Rattle.asm_program.specs.Frames.{Frame, Memory, frame_of, return_at, saved_at}
use Rattle.asm_program.specs.Operands.{operand_register, operand_code, into_code}
use Rattle.asm_program.specs.Emission.{plain_code, before_call, behind_call}

abbrev pub singles : List Instruction → List Item
singles is = map items.Single is

abbrev pub PlacedBlock : Type 0
PlacedBlock = Block Place (List ℕ)

abbrev pub PlacedFunction : Type 0
PlacedFunction = Function Place (List ℕ)

abbrev pub no_function : PlacedFunction
no_function = record { parameters = []; size = 0; loops = []; blocks = [] }

abbrev pub function_in : Placed → ℕ → PlacedFunction
function_in p f = slice_index_or p.functions f no_function

-- the functions that a block, and a function, calls
abbrev pub callees_in : List (Instr Place (List ℕ)) → List ℕ
callees_in [] = []
callees_in (Do i ∷ is) = callees_in is
callees_in (Call d callee args note ∷ is) = callee ∷ callees_in is

abbrev pub all_callees : List PlacedBlock → List ℕ
all_callees [] = []
all_callees (b ∷ bs) = callees_in b.code ++ all_callees bs

abbrev pub callees_of : PlacedFunction → List ℕ
callees_of fn = all_callees fn.blocks

-- a function that calls no other keeps its return address in x1
abbrev pub is_leaf : PlacedFunction → Bool
is_leaf fn = length (callees_of fn) == 0

-- The words that a function saves: one instruction reaches each of them, from x3 or, where the frame is too far, from x5.

abbrev pub is_frame_near : Frame → Bool
is_frame_near fr = is_near fr.at && is_near (fr.at + 4 * length fr.saved)

abbrev pub frame_code : Bool → Frame → List Instruction
frame_code true fr = []
frame_code false fr = load_upper first_free fr.at ∷ addi first_free first_free (lower_of fr.at) ∷ []

abbrev pub frame_register : Bool → ℕ
frame_register true = base
frame_register false = first_free

abbrev pub frame_offset : Bool → Frame → ℕ → ℤ
frame_offset true fr a = pos a -ℤ pos base_address
frame_offset false fr a = pos (a - fr.at)

abbrev pub link_store : Bool → Frame → Bool → List Instruction
link_store near fr true = []
link_store near fr false = store_word link (frame_register near) (frame_offset near fr (return_at fr)) ∷ []

abbrev pub link_load : Bool → Frame → Bool → List Instruction
link_load near fr true = []
link_load near fr false = load_word link (frame_register near) (frame_offset near fr (return_at fr)) ∷ []

abbrev pub saves : Bool → Frame → List ℕ → List Instruction
saves near fr [] = []
saves near fr (q ∷ qs) = store_word (machine_register q) (frame_register near) (frame_offset near fr (saved_at fr q)) ∷ saves near fr qs

abbrev pub loads : Bool → Frame → List ℕ → List Instruction
loads near fr [] = []
loads near fr (q ∷ qs) = load_word (machine_register q) (frame_register near) (frame_offset near fr (saved_at fr q)) ∷ loads near fr qs

abbrev pub saves_nothing : Bool → Frame → Bool
saves_nothing leaf fr = leaf && (length fr.saved == 0)

abbrev pub entry_code : Bool → Frame → List Instruction
entry_code leaf fr =
    if saves_nothing leaf fr then []
    else (let near = is_frame_near fr in frame_code near fr ++ (link_store near fr leaf ++ saves near fr fr.saved))

abbrev pub exit_code : Bool → Frame → List Instruction
exit_code leaf fr =
    if saves_nothing leaf fr then []
    else (let near = is_frame_near fr in frame_code near fr ++ (link_load near fr leaf ++ loads near fr fr.saved))

-- each return leaves by itself where that takes no more than one instruction before it; else one block behind the others does
abbrev pub leaves_at_once : Bool → Frame → Bool
leaves_at_once leaf fr = nat_lt (length (exit_code leaf fr)) 2

module _ (m : Memory) (p : Placed) (f : ℕ) where
  abbrev pub own_frame : Frame
  own_frame = frame_of m f

  abbrev pub own_function : PlacedFunction
  own_function = function_in p f

  abbrev pub at_once : Bool
  at_once = leaves_at_once (is_leaf own_function) own_frame

  -- the places in which a call passes its arguments
  abbrev pub passed_in : ℕ → List (Operand Place) → List Place
  passed_in callee args = take (length args) (function_in p callee).parameters

  -- an instruction, and what comes behind it
  abbrev pub instr_items : Instr Place (List ℕ) → List Item → List Item
  instr_items (Do i) rest = singles (plain_code own_frame m i) ++ rest
  instr_items (Call d callee args note) rest =
      singles (before_call own_frame (frame_of m callee) (passed_in callee args) note args)
      ++ (items.Call true callee ∷ (singles (behind_call own_frame d (passed_in callee args) note) ++ rest))

  -- no jump to the block that is next
  abbrev pub jump_items : Bool → ℕ → List Item
  jump_items true n = []
  jump_items false n = items.Jump true n ∷ []

  -- a branch to one of two blocks: where the next one is taken, the opposite branch alone leads to the other
  abbrev pub two_way_items : Bool → ℕ → Condition → ℕ → ℕ → ℕ → ℕ → List Item
  two_way_items true b condition x y taken other = items.Branch Far (opposite condition) x y other ∷ []
  two_way_items false b condition x y taken other = items.Branch Far condition x y taken ∷ jump_items (other == suc b) other

  abbrev pub leave_items : Bool → ℕ → List Item
  leave_items true b = singles (exit_code (is_leaf own_function) own_frame) ++ items.Return ∷ []
  leave_items false b = let last = length own_function.blocks in jump_items (last == suc b) last

  abbrev pub end_items : ℕ → End Place → List Item
  end_items b (Jump n) = jump_items (n == suc b) n
  end_items b (Branch condition x y taken other) =
      singles (operand_code own_frame first_free x ++ operand_code own_frame second_free y)
      ++ two_way_items (taken == suc b) b condition (operand_register own_frame first_free x) (operand_register own_frame second_free y) taken other
  end_items b (Return x) = singles (into_code own_frame result x) ++ leave_items at_once b

  abbrev pub body_items : ℕ → List (Instr Place (List ℕ)) → End Place → List Item
  body_items b [] end = end_items b end
  body_items b (i ∷ is) end = instr_items i (body_items b is end)

  -- a block has an instruction of its own
  abbrev pub filled : List Item → List Item
  filled [] = items.Single (addi 0 0 (pos 0)) ∷ []
  filled (x ∷ xs) = x ∷ xs

  -- a function begins with its first block
  abbrev pub opening_items : ℕ → List Item
  opening_items zero = singles (entry_code (is_leaf own_function) own_frame)
  opening_items (suc b) = []

  abbrev pub block_items : ℕ → PlacedBlock → List Item
  block_items b block = filled (opening_items b ++ body_items b block.code block.end)

  abbrev pub blocks_from : ℕ → List PlacedBlock → Blocks
  blocks_from b [] = []
  blocks_from b (block ∷ blocks) = block_items b block ∷ blocks_from (suc b) blocks

  abbrev pub leaving_blocks : Bool → Blocks
  leaving_blocks true = []
  leaving_blocks false = leave_items true 0 ∷ []

  abbrev pub function_items : Blocks
  function_items = blocks_from 0 own_function.blocks ++ leaving_blocks at_once

-- an address comes into a base, in two instructions; x7 has 0 from the beginning
abbrev pub based : ℕ → ℕ → List Instruction
based r a = load_upper r a ∷ addi r r (lower_of a) ∷ []

abbrev pub second_code : ℕ → List Instruction
second_code second = if second == 0 then [] else based second_base second

abbrev pub bases_code : ℕ → List Instruction
bases_code second = based base base_address ++ second_code second

abbrev pub main_items : ℕ → List Item
main_items main = items.Call true main ∷ items.Single (addi service 0 (pos 0)) ∷ items.Exit ∷ []

-- the start code: x3 and x7 get their addresses, main is called, and its value is that of the run
abbrev pub start_items : ℕ → ℕ → Blocks
start_items second main = (singles (bases_code second) ++ main_items main) ∷ []

abbrev pub functions_from : Memory → Placed → ℕ → List PlacedFunction → List Blocks
functions_from m p f [] = []
functions_from m p f (fn ∷ fns) = function_items m p f ∷ functions_from m p (suc f) fns

-- all functions, and the start code as the last one
abbrev pub program_items : Memory → Placed → List Blocks
program_items m p = functions_from m p 0 p.functions ++ start_items m.second p.main ∷ []

-- the graph that the items keep to

abbrev pub ends_at : Bool → ℕ → End Place → List ℕ
ends_at leaves last (Jump n) = n ∷ []
ends_at leaves last (Branch condition x y taken other) = taken ∷ other ∷ []
ends_at true last (Return x) = []
ends_at false last (Return x) = last ∷ []

abbrev pub ends_by : Bool → ℕ → Option PlacedBlock → List ℕ
ends_by leaves last None = []
ends_by leaves last (Some b) = ends_at leaves last b.end

abbrev pub block_count : Memory → Placed → ℕ → ℕ
block_count m p f =
    if f == length p.functions then 1
    else (length (function_in p f).blocks + (if at_once m p f then 0 else 1))

abbrev pub loop_of : Loop → graphs.Loop
loop_of l = record { header = l.header; latch = l.latch }

abbrev pub graph_of : Memory → Placed → Graph
graph_of m p = record {
  functions = suc (length p.functions);
  blocks = block_count m p;
  follows = λ f b. ends_by (at_once m p f) (length (function_in p f).blocks) (slice_get (function_in p f).blocks b);
  calls = λ f. if f == length p.functions then p.main ∷ [] else callees_of (function_in p f);
  loops = λ f. map loop_of (function_in p f).loops;
}

-- the items of block b of function f
abbrev pub items_at : Memory → Placed → ℕ → ℕ → List Item
items_at m p f b = slice_index_or (slice_index_or (program_items m p) f []) b []
