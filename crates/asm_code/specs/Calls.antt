-- The items of a call.
use Rattle.std.specs.Prelude.{ℕ, true, List, ◌∷◌, ◌++◌, Option}
use Rattle.asm_items.specs.declared.item.Item.{Item}
use Rattle.asm_items.specs.declared.item.Item.TheVariants as items
use Rattle.low_ir.specs.declared.places.Place.{Place}
use Rattle.low_ir.specs.Code.{Operand}
use Rattle.asm_program.specs.Frames.{Frame}
use Rattle.asm_program.specs.Emission.{home_code, return_code, pass_code, late_code, value_code}
use Rattle.asm_program.specs.Functions.{singles}

-- a call of function f, whose frame is `callee`, and what comes behind it
abbrev pub call_items : Frame → Frame → ℕ → List Place → List (Operand Place) → List ℕ → Option Place → List Item → List Item
call_items fr callee f places args kept d rest =
    singles (home_code fr kept ++ (pass_code fr callee places args places ++ late_code fr callee places args places))
    ++ (items.Call true f ∷ (singles (return_code fr kept ++ value_code fr d) ++ rest))
