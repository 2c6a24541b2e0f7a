-- What leads to an address where a pointer points.
use Rattle.std.specs.Prelude.{ℕ, List, ◌++◌, Option}
use Rattle.rv_core.specs.Instructions.{Instruction}
use Rattle.low_ir.specs.declared.places.Place.{Place}
use Rattle.asm_program.specs.Numbers.{first_free, is_short}
use Rattle.asm_program.specs.Frames.{Frame, Memory}
use Rattle.asm_program.specs.Operands.{place_register, fetch_code, offset_code, offset_register, far_code, far_register}

-- by a displacement that is a word
module _ (fr : Frame) (m : Memory) (p : Place) (offset : Option Place) (n : ℕ) where
  abbrev pub pointer_code : List Instruction
  pointer_code =
      fetch_code fr first_free p
      ++ (offset_code fr m (place_register fr first_free p) offset ++ far_code fr m (is_short n) (offset_register fr m (place_register fr first_free p) offset) n)

  abbrev pub pointer_register : ℕ
  pointer_register = far_register fr m (is_short n) (offset_register fr m (place_register fr first_free p) offset)
