-- Items in the forms that suffice where they stand, and in their longest forms.
use Rattle.std.specs.Prelude.{ℕ, suc, ◌+◌, true, List, [], ◌∷◌, map, slice_index}
use Rattle.asm_items.specs.declared.item.Form.TheVariants.{Far}
use Rattle.asm_items.specs.declared.item.Item.{Item}
use Rattle.asm_items.specs.declared.item.Item.TheVariants.{Single, Jump, Call, Branch, Return, Exit}
use Rattle.asm_items.specs.Items.{Starts, jump_size, form_size, size, total}
use Rattle.asm_items.specs.Placings.{Blocks}
use Rattle.asm_writing.specs.Targets.{target}
use Rattle.asm_forms.specs.Distances.{is_far, form_of}

abbrev pub longest : Item → Item
longest (Single i) = Single i
longest (Jump far n) = Jump true n
longest (Call far f) = Call true f
longest (Branch form c x y n) = Branch Far c x y n
longest Return = Return
longest Exit = Exit

abbrev pub items_longest : List Item → List Item
items_longest = map longest

abbrev pub blocks_longest : Blocks → Blocks
blocks_longest = map items_longest

abbrev pub functions_longest : List Blocks → List Blocks
functions_longest = map blocks_longest

-- an item that stands at an address and leads to another, in its shortest form
abbrev pub shorter : ℕ → ℕ → Item → Item
shorter at to (Single i) = Single i
shorter at to (Jump far n) = Jump (is_far at (at + jump_size far) to) n
shorter at to (Call far f) = Call (is_far at (at + jump_size far) to) f
shorter at to (Branch form c x y n) = Branch (form_of at (at + form_size form) to) c x y n
shorter at to Return = Return
shorter at to Exit = Exit

-- items of function f in a row, which stand as they are
abbrev pub items_shorter : Starts → ℕ → ℕ → List Item → List Item
items_shorter p f a [] = []
items_shorter p f a (x ∷ xs) = shorter a (target p f x) x ∷ items_shorter p f (a + size x) xs

abbrev pub blocks_shorter : Starts → ℕ → ℕ → Blocks → Blocks
blocks_shorter p f a [] = []
blocks_shorter p f a (xs ∷ bs) = items_shorter p f a xs ∷ blocks_shorter p f (a + total xs) bs

-- the functions from number f on
abbrev pub functions_shorter : Starts → List ℕ → ℕ → List Blocks → List Blocks
functions_shorter p bases f [] = []
functions_shorter p bases f (bs ∷ fs) = blocks_shorter p f (slice_index bases f) bs ∷ functions_shorter p bases (suc f) fs
