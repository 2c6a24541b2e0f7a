-- The addresses at which the items of functions exit.
use Rattle.std.specs.Prelude.{ℕ, suc, ◌+◌, List, [], ◌∷◌, ◌++◌, slice_index, if◌then◌else◌}
use Rattle.asm_items.specs.declared.item.Item.{Item}
use Rattle.asm_items.specs.Items.{size, total}
use Rattle.asm_items.specs.Placings.{Blocks}
use Rattle.asm_items.specs.Standing.{is_exit}
use Rattle.asm_forms.specs.Regions.{Rows, bases_of}

abbrev pub items_exits : ℕ → List Item → List ℕ
items_exits a [] = []
items_exits a (x ∷ xs) = if is_exit x then a ∷ items_exits (a + size x) xs else items_exits (a + size x) xs

abbrev pub blocks_exits : ℕ → Blocks → List ℕ
blocks_exits a [] = []
blocks_exits a (xs ∷ bs) = items_exits a xs ++ blocks_exits (a + total xs) bs

-- of the functions from number f on
abbrev pub functions_exits : List ℕ → ℕ → List Blocks → List ℕ
functions_exits bases f [] = []
functions_exits bases f (bs ∷ fs) = blocks_exits (slice_index bases f) bs ++ functions_exits bases (suc f) fs

abbrev pub exits_of : Rows → List Blocks → List ℕ
exits_of r fs = functions_exits (bases_of r fs) 0 fs
