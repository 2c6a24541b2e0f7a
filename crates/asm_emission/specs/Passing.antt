-- How one argument of a call comes to its place.
use Rattle.std.specs.Prelude.{ℕ, ◌==◌, Bool, false, if◌then◌else◌, List, [], ◌++◌}
use Rattle.rv_core.specs.Instructions.{Instruction}
use Rattle.low_ir.specs.declared.places.Place.{Place}
use Rattle.low_ir.specs.declared.places.Place.TheVariants.{Register as InRegister, Slot}
use Rattle.low_ir.specs.Code.{Operand}
use Rattle.asm_program.specs.Numbers.{first_free, second_free, machine_register}
use Rattle.asm_program.specs.Frames.{Frame, slot_at, home_at}
use Rattle.asm_program.specs.Operands.{load_code, store_code, operand_register, operand_code, into_code}
use Rattle.asm_program.specs.Emission.{is_direct}

-- the place is this register
abbrev pub is_in : ℕ → Place → Bool
is_in q (InRegister r) = r == q
is_in q (Slot k) = false

-- it goes into its register at once
abbrev pub goes_at_once : List Place → Place → List (Operand Place) → Bool
goes_at_once all (InRegister q) later = is_direct all q later
goes_at_once all (Slot k) later = false

module _ (fr callee : Frame) where
  abbrev pub argument_code : Operand Place → ℕ → List Instruction
  argument_code x a = operand_code fr first_free x ++ store_code second_free (operand_register fr first_free x) a

  abbrev pub passed_code : Bool → Operand Place → Place → List Instruction
  passed_code direct x (InRegister q) = if direct then into_code fr (machine_register q) x else argument_code x (home_at callee q)
  passed_code direct x (Slot k) = argument_code x (slot_at callee k)

  abbrev pub loaded_code : Bool → Place → List Instruction
  loaded_code direct (InRegister q) = if direct then [] else load_code (machine_register q) (home_at callee q)
  loaded_code direct (Slot k) = []
