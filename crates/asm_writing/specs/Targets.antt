-- Where items lead, by tables of addresses.
use Rattle.std.specs.Prelude.{ℕ, ◌^◌, ◌<◌, List, [], slice_index, slice_index_or}
use Rattle.rv_core.specs.Instructions.{Instruction}
use Rattle.asm_items.specs.declared.item.Item.{Item}
use Rattle.asm_items.specs.declared.item.Item.TheVariants.{Single, Jump, Call, Branch, Return, Exit}
use Rattle.asm_items.specs.Items.{Starts, words}

-- by function, where its blocks begin
abbrev pub starts_in : List (List ℕ) → Starts
starts_in table f b = slice_index (slice_index_or table f []) b

abbrev pub AreLow : List (List ℕ) → Type 0
AreLow table = (f b : ℕ) → starts_in table f b < 2 ^ 30

-- the address to which an item of function f leads; 0 where it leads nowhere
abbrev pub target : Starts → ℕ → Item → ℕ
target p f (Single i) = 0
target p f (Jump far block) = p f block
target p f (Call far function) = p function 0
target p f (Branch form c x y block) = p f block
target p f Return = 0
target p f Exit = 0

-- the instructions of an item that leads there
abbrev pub words_to : ℕ → ℕ → Item → List Instruction
words_to a to x = words (λ f b. to) 0 a x
