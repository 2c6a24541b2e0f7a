-- What the loads and stores of a program's items touch.
use Rattle.std.specs.Prelude.{ℕ, suc, Bool, true, false, List, [], ◌∷◌, ◌++◌, map, slice_index_or}
use Rattle.rv_core.specs.Rows.{row_of}
use Rattle.rv_core.specs.Table.{accesses}
use Rattle.asm_items.specs.declared.item.Item.{Item}
use Rattle.asm_items.specs.declared.item.Item.TheVariants as items
use Rattle.low_ir.specs.declared.places.Place.{Place}
use Rattle.low_ir.specs.Code.{Base, Fixed, Through, Load, Store, Instr, Do, End}
use Rattle.low_ir.specs.Places.{Placed}
use Rattle.asm_program.specs.Numbers.{first_free, second_free}
use Rattle.asm_program.specs.Frames.{Memory}
use Rattle.asm_program.specs.Operands.{address_code, operand_code, result_code}
use Rattle.asm_program.specs.Functions.{PlacedBlock, PlacedFunction, at_once, end_items, instr_items, leave_items, opening_items, own_frame, own_function, singles, start_items}

-- an item touches no memory, or a word of a frame, or one of these arrays
pub data Touch : Type 0 where
  Nothing : Touch
  OfFrame : Touch
  OfArrays : (objects : List ℕ) → Touch

abbrev pub touches_memory : Touch → Bool
touches_memory Nothing = false
touches_memory OfFrame = true
touches_memory (OfArrays os) = true

-- outside the accesses of arrays only words of frames are loaded and stored
abbrev pub frame_touch : Bool → Touch
frame_touch false = Nothing
frame_touch true = OfFrame

abbrev pub item_touch : Item → Touch
item_touch (items.Single i) = frame_touch (accesses (row_of i.op).class)
item_touch item = Nothing

abbrev pub touches : List Item → List Touch
touches xs = map item_touch xs

-- the arrays that an access may touch: its one array, or those of its claim
abbrev pub named : Placed → Base Place → List ℕ
named p (Fixed o) = o ∷ []
named p (Through r claim) = slice_index_or p.claims claim []

module _ (m : Memory) (p : Placed) (f : ℕ) where
  abbrev pub instr_touches : Instr Place (List ℕ) → List Touch
  instr_touches (Do (Load kind d a)) =
      touches (singles (address_code (own_frame m p f) m a)) ++ (OfArrays (named p a.base) ∷ touches (singles (result_code (own_frame m p f) first_free second_free d)))
  instr_touches (Do (Store kind a x)) =
      touches (singles (address_code (own_frame m p f) m a)) ++ (touches (singles (operand_code (own_frame m p f) second_free x)) ++ (OfArrays (named p a.base) ∷ []))
  instr_touches i = touches (instr_items m p f i [])

  abbrev pub body_touches : ℕ → List (Instr Place (List ℕ)) → End Place → List Touch
  body_touches b [] end = touches (end_items m p f b end)
  body_touches b (i ∷ is) end = instr_touches i ++ body_touches b is end

  -- a block has an instruction of its own
  abbrev pub filled_touches : List Touch → List Touch
  filled_touches [] = Nothing ∷ []
  filled_touches (t ∷ ts) = t ∷ ts

  -- those of a block's items, in order
  abbrev pub block_touches : ℕ → PlacedBlock → List Touch
  block_touches b block = filled_touches (touches (opening_items m p f b) ++ body_touches b block.code block.end)

  abbrev pub blocks_touches : ℕ → List PlacedBlock → List (List Touch)
  blocks_touches b [] = []
  blocks_touches b (block ∷ blocks) = block_touches b block ∷ blocks_touches (suc b) blocks

  abbrev pub leaving_touches : Bool → List (List Touch)
  leaving_touches true = []
  leaving_touches false = touches (leave_items m p f true 0) ∷ []

  -- of a function's blocks
  abbrev pub function_touches : List (List Touch)
  function_touches = blocks_touches 0 (own_function m p f).blocks ++ leaving_touches (at_once m p f)

abbrev pub functions_touches : Memory → Placed → ℕ → List PlacedFunction → List (List (List Touch))
functions_touches m p f [] = []
functions_touches m p f (fn ∷ fns) = function_touches m p f ∷ functions_touches m p (suc f) fns

-- of all functions, and of the start code
abbrev pub program_touches : Memory → Placed → List (List (List Touch))
program_touches m p = functions_touches m p 0 p.functions ++ map touches (start_items m.second p.main) ∷ []
