-- Pieces of the items with which a block ends.
use Rattle.std.specs.Prelude.{ℕ, Bool, true, false, List, [], ◌∷◌, ◌++◌}
use Rattle.rv_core.specs.declared.row.Condition.{Condition}
use Rattle.asm_items.specs.declared.item.Form.TheVariants.{Far}
use Rattle.asm_items.specs.declared.item.Item.{Item}
use Rattle.asm_items.specs.declared.item.Item.TheVariants as items
use Rattle.low_ir.specs.declared.places.Place.{Place}
use Rattle.low_ir.specs.Code.{Operand}
use Rattle.asm_program.specs.Numbers.{first_free, second_free}
use Rattle.asm_program.specs.Frames.{Frame}
use Rattle.asm_program.specs.Operands.{operand_register, operand_code}
use Rattle.asm_program.specs.Functions.{singles}

-- a jump, unless to the next block
abbrev pub jump_to : Bool → ℕ → List Item
jump_to true n = []
jump_to false n = items.Jump true n ∷ []

abbrev pub branch_items : Frame → Condition → Operand Place → Operand Place → ℕ → List Item
branch_items fr condition x y taken =
    singles (operand_code fr first_free x ++ operand_code fr second_free y)
    ++ (items.Branch Far condition (operand_register fr first_free x) (operand_register fr second_free y) taken ∷ [])
