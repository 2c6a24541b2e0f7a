-- Operands come into machine registers, and results go to their places.
use Rattle.std.specs.Prelude.{ℕ, ◌+◌, ◌%◌, ◌^◌, ◌==◌, ℤ, pos, Bool, true, false, if◌then◌else◌, List, [], ◌∷◌, ◌++◌, Option, Some, None}
use Rattle.rv_core.specs.declared.op.Op.TheVariants.{Add}
use Rattle.rv_core.specs.Instructions.{Instruction, instruction}
use Rattle.low_ir.specs.declared.places.Place.{Place}
use Rattle.low_ir.specs.declared.places.Place.TheVariants.{Register as InRegister, Slot}
use Rattle.low_ir.specs.Code.{Operand, Register, Constant, Base, Fixed, Through, Address}
use Rattle.asm_program.specs.Numbers.{first_free, second_free, machine_register, reach_code, reach_register, reach_offset, object_code, object_register, object_offset, constant_code, load_word, store_word, move_code, is_short, load_upper, lower_of}
use Rattle.asm_program.specs.Frames.{Frame, Memory, slot_at, object_at}

-- a word of memory comes into a register, and the other way round by way of t
abbrev pub load_code : ℕ → ℕ → List Instruction
load_code r a = reach_code r a ++ load_word r (reach_register r a) (reach_offset a) ∷ []

abbrev pub store_code : ℕ → ℕ → ℕ → List Instruction
store_code t r a = reach_code t a ++ store_word r (reach_register t a) (reach_offset a) ∷ []

module _ (fr : Frame) where
  -- where a value is once its code has run, with t for what isn't in a register of its own
  abbrev pub place_register : ℕ → Place → ℕ
  place_register t (InRegister q) = machine_register q
  place_register t (Slot k) = t

  abbrev pub fetch_code : ℕ → Place → List Instruction
  fetch_code t (InRegister q) = []
  fetch_code t (Slot k) = load_code t (slot_at fr k)

  abbrev pub operand_register : ℕ → Operand Place → ℕ
  operand_register t (Register p) = place_register t p
  operand_register t (Constant w) = if w % 2 ^ 32 == 0 then 0 else t

  abbrev pub operand_code : ℕ → Operand Place → List Instruction
  operand_code t (Register p) = fetch_code t p
  operand_code t (Constant w) = if w % 2 ^ 32 == 0 then [] else constant_code t (w % 2 ^ 32)

  -- an operand comes into a register
  abbrev pub into_code : ℕ → Operand Place → List Instruction
  into_code r (Register (InRegister q)) = move_code r (machine_register q)
  into_code r (Register (Slot k)) = load_code r (slot_at fr k)
  into_code r (Constant w) = constant_code r (w % 2 ^ 32)

  -- a result that is in the register of its place, or in t, goes to its place
  abbrev pub result_code : ℕ → ℕ → Place → List Instruction
  result_code t u (InRegister q) = []
  result_code t u (Slot k) = store_code u t (slot_at fr k)

  -- what is in a register goes to a place
  abbrev pub put_code : ℕ → Place → List Instruction
  put_code r (InRegister q) = move_code (machine_register q) r
  put_code r (Slot k) = store_code first_free r (slot_at fr k)

  module _ (m : Memory) where
    -- an offset is added to what is in a register, into x5
    abbrev pub offset_code : ℕ → Option Place → List Instruction
    offset_code r None = []
    offset_code r (Some p) = fetch_code second_free p ++ instruction Add first_free r (place_register second_free p) (pos 0) ∷ []

    abbrev pub offset_register : ℕ → Option Place → ℕ
    offset_register r None = r
    offset_register r (Some p) = first_free

    -- a displacement that doesn't fit an instruction is added too, but for its lower part
    abbrev pub far_code : Bool → ℕ → ℕ → List Instruction
    far_code true r n = []
    far_code false r n = load_upper second_free n ∷ instruction Add first_free r second_free (pos 0) ∷ []

    abbrev pub far_register : Bool → ℕ → ℕ
    far_register true r = r
    far_register false r = first_free

    -- an address: the code that leads to it, the register, and what is to be added
    abbrev pub code_to : Base Place → Option Place → ℕ → List Instruction
    code_to (Fixed o) offset n = object_code m.second first_free ((object_at m o + n) % 2 ^ 32) ++ offset_code (object_register m.second first_free ((object_at m o + n) % 2 ^ 32)) offset
    code_to (Through p claim) offset n =
        fetch_code first_free p
        ++ (offset_code (place_register first_free p) offset ++ far_code (is_short (n % 2 ^ 32)) (offset_register (place_register first_free p) offset) (n % 2 ^ 32))

    abbrev pub register_to : Base Place → Option Place → ℕ → ℕ
    register_to (Fixed o) offset n = offset_register (object_register m.second first_free ((object_at m o + n) % 2 ^ 32)) offset
    register_to (Through p claim) offset n = far_register (is_short (n % 2 ^ 32)) (offset_register (place_register first_free p) offset)

    abbrev pub offset_to : Base Place → ℕ → ℤ
    offset_to (Fixed o) n = object_offset m.second ((object_at m o + n) % 2 ^ 32)
    offset_to (Through p claim) n = lower_of (n % 2 ^ 32)

    abbrev pub address_code : Address Place → List Instruction
    address_code a = code_to a.base a.offset a.displacement

    abbrev pub address_register : Address Place → ℕ
    address_register a = register_to a.base a.offset a.displacement

    abbrev pub address_offset : Address Place → ℤ
    address_offset a = offset_to a.base a.displacement
