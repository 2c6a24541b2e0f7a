-- What items touch, by the names of arrays and claims.
use Rattle.std.specs.Prelude.{◌≡◌, ℕ, Bool, true, false, List, [], ◌∷◌, ◌++◌, map, slice_index_or}
use Rattle.rv_core.specs.Rows.{row_of}
use Rattle.rv_core.specs.Table.{accesses}
use Rattle.asm_items.specs.declared.item.Item.{Item}
use Rattle.asm_items.specs.declared.item.Item.TheVariants as items
use Rattle.low_ir.specs.declared.places.Place.{Place}
use Rattle.low_ir.specs.declared.places.LowReg.{LowReg}
use Rattle.low_ir.specs.Code.{Operand, Base, Fixed, Through, Address, Load, Store, Instr, Do}
use Rattle.low_ir.specs.Places.{Placed}
use Rattle.low_ir.specs.Placings.{placed_of}
use Rattle.asm_program.specs.Numbers.{first_free, second_free}
use Rattle.asm_program.specs.Frames.{Frame, Memory, frame_of}
use Rattle.asm_program.specs.Operands.{address_code, operand_code, result_code}
use Rattle.asm_program.specs.Functions.{instr_items, singles}
use Rattle.claims_definition.specs.Touches.{Touch, Nothing, OfFrame, OfArrays, program_touches}
use Rattle.claims_touches.specs.declared.touch.Touch as names
use Rattle.claims_touches.specs.declared.touch.Touch.TheVariants as named

-- what is touched, where claims have these arrays
abbrev pub touch_in : List (List ℕ) → names.Touch → Touch
touch_in claims named.Nothing = Nothing
touch_in claims named.Frame = OfFrame
touch_in claims (named.Array o) = OfArrays (o ∷ [])
touch_in claims (named.Claim claim) = OfArrays (slice_index_or claims claim [])

-- by function, block and item, what the items of a program touch
abbrev pub AreTouches : LowReg → Memory → List (List (List names.Touch)) → Type 0
AreTouches code m all = map (map (map (touch_in (placed_of code).claims))) all ≡ program_touches m (placed_of code)

-- outside the accesses of arrays only words of frames are loaded and stored
abbrev pub frame_name : Bool → names.Touch
frame_name false = named.Nothing
frame_name true = named.Frame

abbrev pub item_name : Item → names.Touch
item_name (items.Single i) = frame_name (accesses (row_of i.op).class)
item_name item = named.Nothing

abbrev pub item_names : List Item → List names.Touch
item_names xs = map item_name xs

-- an access of one array, or of those of a claim
abbrev pub base_name : Base Place → names.Touch
base_name (Fixed o) = named.Array o
base_name (Through r claim) = named.Claim claim

abbrev pub load_names : Frame → Memory → Place → Address Place → List names.Touch
load_names fr m d a = item_names (singles (address_code fr m a)) ++ (base_name a.base ∷ item_names (singles (result_code fr first_free second_free d)))

abbrev pub store_names : Frame → Memory → Address Place → Operand Place → List names.Touch
store_names fr m a x = item_names (singles (address_code fr m a)) ++ (item_names (singles (operand_code fr second_free x)) ++ (base_name a.base ∷ []))

module _ (m : Memory) (p : Placed) (f : ℕ) where
  abbrev pub instr_names : Instr Place (List ℕ) → List names.Touch
  instr_names (Do (Load kind d a)) = load_names (frame_of m f) m d a
  instr_names (Do (Store kind a x)) = store_names (frame_of m f) m a x
  instr_names i = item_names (instr_items m p f i [])
