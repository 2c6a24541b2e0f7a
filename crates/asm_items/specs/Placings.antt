-- Where blocks stand: the blocks of a function in a row, from the address at which the function begins.
use Rattle.std.specs.Prelude.{ℕ, ◌+◌, List, [], ◌∷◌, ◌++◌, slice_index, slice_index_or}
use Rattle.rv_core.specs.Instructions.{Instruction}
use Rattle.asm_items.specs.declared.item.Item.{Item}
use Rattle.asm_items.specs.Items.{Starts, total, all_words}

-- a function: the items of its blocks, in order
abbrev pub Blocks : Type 0
Blocks = List (List Item)

abbrev pub starts_from : ℕ → Blocks → List ℕ
starts_from a [] = []
starts_from a (xs ∷ bs) = a ∷ starts_from (a + total xs) bs

abbrev pub blocks_size : Blocks → ℕ
blocks_size [] = 0
blocks_size (xs ∷ bs) = total xs + blocks_size bs

-- functions, and where each begins
pub record Placing : Type 0 where
  pub functions : List Blocks
  pub bases : List ℕ

abbrev pub blocks_of : Placing → ℕ → Blocks
blocks_of l f = slice_index_or l.functions f []

abbrev pub block_of : Placing → ℕ → ℕ → List Item
block_of l f b = slice_index_or (blocks_of l f) b []

-- where a function begins and ends
abbrev pub base_of : Placing → ℕ → ℕ
base_of l f = slice_index l.bases f

abbrev pub end_of : Placing → ℕ → ℕ
end_of l f = base_of l f + blocks_size (blocks_of l f)

-- where a block begins
abbrev pub start_of : Placing → Starts
start_of l f b = slice_index (starts_from (base_of l f) (blocks_of l f)) b

-- the instructions of the blocks of function f
abbrev pub blocks_words : Starts → ℕ → ℕ → Blocks → List Instruction
blocks_words p f a [] = []
blocks_words p f a (xs ∷ bs) = all_words p f a xs ++ blocks_words p f (a + total xs) bs
