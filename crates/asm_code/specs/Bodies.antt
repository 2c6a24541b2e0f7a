-- Items one after another.
use Rattle.std.specs.Prelude.{ℕ, suc, pos, List, [], ◌∷◌}
use Rattle.rv_core.specs.Instructions.{addi}
use Rattle.asm_items.specs.declared.item.Item.{Item}
use Rattle.asm_items.specs.declared.item.Item.TheVariants as items
use Rattle.asm_items.specs.Placings.{Blocks}
use Rattle.low_ir.specs.declared.places.Place.{Place}
use Rattle.low_ir.specs.Code.{Instr, Function, Note}
use Rattle.low_ir.specs.Places.{Placed}
use Rattle.asm_program.specs.Frames.{Memory}
use Rattle.asm_program.specs.Functions.{instr_items, function_items}

-- those of instructions, without an end
abbrev pub instrs_items : Memory → Placed → ℕ → List (Instr Place (List ℕ)) → List Item
instrs_items m p f [] = []
instrs_items m p f (i ∷ is) = instr_items m p f i (instrs_items m p f is)

-- a block has an instruction of its own
abbrev pub filled_items : List Item → List Item
filled_items [] = items.Single (addi 0 0 (pos 0)) ∷ []
filled_items (x ∷ xs) = x ∷ xs

-- those of functions from number f on
abbrev pub each_items : Memory → Placed → ℕ → List (Function ℕ Note) → List Blocks
each_items m p f [] = []
each_items m p f (fn ∷ fns) = function_items m p f ∷ each_items m p (suc f) fns
