-- The instructions of items, and how many bytes they take.
use Rattle.std.specs.Prelude.{ℕ, ◌+◌, pos, Bool, true, false, ◌&&◌, List, [], ◌∷◌, ◌++◌}
use Rattle.rv_core.specs.declared.op.Op.{Op}
use Rattle.rv_core.specs.declared.op.Op.TheVariants.{Auipc, Jal, Jalr, Beq, Bne, Blt, Bge, Bltu, Bgeu}
use Rattle.rv_core.specs.declared.row.Condition.{Condition}
use Rattle.rv_core.specs.declared.row.Condition.TheVariants.{Equal, NotEqual, Less, AtLeast, LessUnsigned, AtLeastUnsigned}
use Rattle.rv_core.specs.Instructions.{Instruction, instruction, in_row, ecall}
use Rattle.asm_items.specs.declared.item.Form.{Form}
use Rattle.asm_items.specs.declared.item.Form.TheVariants.{Short, Inverted, Far}
use Rattle.asm_items.specs.declared.item.Item.{Item}
use Rattle.asm_items.specs.declared.item.Item.TheVariants.{Single, Jump, Call, Branch, Return, Exit}
use Rattle.asm_items.specs.Offsets.{offset, upper_part, lower_part}

-- where each block of each function begins
abbrev pub Starts : Type 0
Starts = ℕ → ℕ → ℕ

abbrev pub branch_op : Condition → Op
branch_op Equal = Beq
branch_op NotEqual = Bne
branch_op Less = Blt
branch_op AtLeast = Bge
branch_op LessUnsigned = Bltu
branch_op AtLeastUnsigned = Bgeu

-- the condition that holds where the other doesn't
abbrev pub opposite : Condition → Condition
opposite Equal = NotEqual
opposite NotEqual = Equal
opposite Less = AtLeast
opposite AtLeast = Less
opposite LessUnsigned = AtLeastUnsigned
opposite AtLeastUnsigned = LessUnsigned

-- x5 has the upper part of a far target, and x1 the return address
abbrev pub far_jump : ℕ → ℕ → ℕ → List Instruction
far_jump link a to = instruction Auipc 5 0 0 (upper_part a to) ∷ instruction Jalr link 5 0 (lower_part a to) ∷ []

abbrev pub near_jump : ℕ → ℕ → ℕ → List Instruction
near_jump link a to = instruction Jal link 0 0 (offset a to) ∷ []

abbrev pub jump_words : Bool → ℕ → ℕ → ℕ → List Instruction
jump_words false link a to = near_jump link a to
jump_words true link a to = far_jump link a to

-- a branch that reaches its target, or the opposite one over a jump
abbrev pub branch_words : Form → Condition → ℕ → ℕ → ℕ → ℕ → List Instruction
branch_words Short c x y a to = instruction (branch_op c) 0 x y (offset a to) ∷ []
branch_words Inverted c x y a to = instruction (branch_op (opposite c)) 0 x y (pos 8) ∷ near_jump 0 (a + 4) to
branch_words Far c x y a to = instruction (branch_op (opposite c)) 0 x y (pos 12) ∷ far_jump 0 (a + 4) to

abbrev pub return_word : Instruction
return_word = instruction Jalr 0 1 0 (pos 0)

-- the instructions of an item of function f that stands at an address
abbrev pub words : Starts → ℕ → ℕ → Item → List Instruction
words p f a (Single i) = i ∷ []
words p f a (Jump far block) = jump_words far 0 a (p f block)
words p f a (Call far function) = jump_words far 1 a (p function 0)
words p f a (Branch form c x y block) = branch_words form c x y a (p f block)
words p f a Return = return_word ∷ []
words p f a Exit = ecall ∷ []

abbrev pub jump_size : Bool → ℕ
jump_size false = 4
jump_size true = 8

abbrev pub form_size : Form → ℕ
form_size Short = 4
form_size Inverted = 8
form_size Far = 12

-- how many bytes an item takes
abbrev pub size : Item → ℕ
size (Single i) = 4
size (Jump far block) = jump_size far
size (Call far function) = jump_size far
size (Branch form c x y block) = form_size form
size Return = 4
size Exit = 4

abbrev pub total : List Item → ℕ
total [] = 0
total (x ∷ xs) = size x + total xs

-- the instructions of items in a row
abbrev pub all_words : Starts → ℕ → ℕ → List Item → List Instruction
all_words p f a [] = []
all_words p f a (x ∷ xs) = words p f a x ++ all_words p f (a + size x) xs

-- all of them keep the ranges of their fields
abbrev pub in_rows : List Instruction → Bool
in_rows [] = true
in_rows (i ∷ is) = in_row i && in_rows is
