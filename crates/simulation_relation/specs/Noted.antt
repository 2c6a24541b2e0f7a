-- Items with what each of them touches: those of a program over places.
use Rattle.std.specs.Prelude.{ℕ, pos, true, List, [], ◌∷◌, ◌++◌, map, Option, Some, None, slice_get}
use Rattle.rv_core.specs.Instructions.{Instruction, instruction, addi}
use Rattle.asm_items.specs.declared.item.Item.{Item}
use Rattle.asm_items.specs.declared.item.Item.TheVariants as items
use Rattle.low_ir.specs.declared.places.Place.{Place}
use Rattle.low_ir.specs.Code.{Load, Store, Instr, Do, Call, End}
use Rattle.low_ir.specs.Places.{Placed}
use Rattle.asm_program.specs.Numbers.{first_free, second_free}
use Rattle.asm_program.specs.Frames.{Memory, frame_of}
use Rattle.asm_program.specs.Operands.{address_code, address_offset, address_register, operand_code, operand_register, place_register, result_code}
use Rattle.asm_program.specs.Emission.{load_op, store_op, plain_code, before_call, behind_call}
use Rattle.asm_program.specs.Functions.{PlacedBlock, end_items, function_in, items_at, opening_items, own_frame, passed_in}
use Rattle.claims_definition.specs.Touches.{Touch, OfArrays, item_touch, named}

pub record Noted : Type 0 where
  pub item : Item
  pub touch : Touch

-- an item that accesses no array
abbrev pub noted : Item → Noted
noted x = record { item = x; touch = item_touch x }

abbrev pub single : Instruction → Noted
single i = noted (items.Single i)

abbrev pub singles : List Instruction → List Noted
singles is = map single is

abbrev pub touching : Touch → Instruction → Noted
touching t i = record { item = items.Single i; touch = t }

-- a block has an instruction of its own
abbrev pub noted_filled : List Noted → List Noted
noted_filled [] = single (addi 0 0 (pos 0)) ∷ []
noted_filled (x ∷ xs) = x ∷ xs

module _ (m : Memory) (p : Placed) (f : ℕ) where
  -- an instruction, whose one access of arrays touches those of its base, and what comes behind it
  abbrev pub noted_instr : Instr Place (List ℕ) → List Noted → List Noted
  noted_instr (Do (Load kind d a)) rest =
      singles (address_code (own_frame m p f) m a)
      ++ (touching (OfArrays (named p a.base)) (instruction (load_op kind) (place_register (own_frame m p f) first_free d) (address_register (own_frame m p f) m a) 0 (address_offset (own_frame m p f) m a))
      ∷ (singles (result_code (own_frame m p f) first_free second_free d) ++ rest))
  noted_instr (Do (Store kind a x)) rest =
      singles (address_code (own_frame m p f) m a)
      ++ (singles (operand_code (own_frame m p f) second_free x)
      ++ (touching (OfArrays (named p a.base)) (instruction (store_op kind) 0 (address_register (own_frame m p f) m a) (operand_register (own_frame m p f) second_free x) (address_offset (own_frame m p f) m a)) ∷ rest))
  noted_instr (Do i) rest = singles (plain_code (own_frame m p f) m i) ++ rest
  noted_instr (Call d callee args note) rest =
      singles (before_call (own_frame m p f) (frame_of m callee) (passed_in m p f callee args) note args)
      ++ (noted (items.Call true callee) ∷ (singles (behind_call (own_frame m p f) d (passed_in m p f callee args) note) ++ rest))

  abbrev pub noted_body : ℕ → List (Instr Place (List ℕ)) → End Place → List Noted
  noted_body b [] end = map noted (end_items m p f b end)
  noted_body b (i ∷ is) end = noted_instr i (noted_body b is end)

  abbrev pub noted_block : ℕ → PlacedBlock → List Noted
  noted_block b block = noted_filled (map noted (opening_items m p f b) ++ noted_body b block.code block.end)

  -- a block that isn't one of the program's function's accesses no array
  abbrev pub noted_by : ℕ → Option PlacedBlock → List Noted
  noted_by b None = map noted (items_at m p f b)
  noted_by b (Some block) = noted_block b block

-- the items of block b of function f
abbrev pub noted_at : Memory → Placed → ℕ → ℕ → List Noted
noted_at m p f b = noted_by m p f b (slice_get (function_in p f).blocks b)
