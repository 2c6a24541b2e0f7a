-- Code that accesses no array.
use Rattle.std.proofs.Common.{◌≡◌, List, [], ◌∷◌, ◌++◌, map, refl, ap}
use Rattle.rv_core.specs.Instructions.{Instruction}
use Rattle.asm_items.specs.declared.item.Item.{Item}
use Rattle.asm_program.specs.Functions as plain
use Rattle.simulation_relation.specs.Noted.{noted, single, singles}

pub noted_code : (is : List Instruction) (xs : List Item) → map noted (plain.singles is ++ xs) ≡ singles is ++ map noted xs
noted_code [] xs = refl
noted_code (i ∷ is) xs = ap (λ ys. single i ∷ ys) (noted_code is xs)

pub noted_singles : (is : List Instruction) → map noted (plain.singles is) ≡ singles is
noted_singles [] = refl
noted_singles (i ∷ is) = ap (λ ys. single i ∷ ys) (noted_singles is)
