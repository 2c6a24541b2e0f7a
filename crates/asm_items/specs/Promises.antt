-- What a block promises of where it goes.
use Rattle.std.specs.Prelude.{◌≡◌, ℕ, suc, Bool, true, false, List, [], ◌∷◌, Contains}
use Rattle.rv_core.specs.declared.row.Effect.{Effect}
use Rattle.rv_core.specs.declared.row.Effect.TheVariants.{SetUpper, AddUpper, Link, LinkRegister, BranchIf, Read, Write, WithImmediate, WithRegister, CallEnvironment}
use Rattle.rv_core.specs.Rows.{row_of}
use Rattle.rv_core.specs.Instructions.{Instruction}
use Rattle.asm_items.specs.declared.item.Item.{Item}
use Rattle.asm_items.specs.declared.item.Item.TheVariants.{Single, Jump, Call, Branch, Return, Exit}

-- whether instructions of this effect go on to the next one, and put no address of code into a register
abbrev pub goes_on : Effect → Bool
goes_on SetUpper = true
goes_on AddUpper = false
goes_on Link = false
goes_on LinkRegister = false
goes_on (BranchIf c) = false
goes_on (Read w signed) = true
goes_on (Write w) = true
goes_on (WithImmediate f) = true
goes_on (WithRegister f) = true
goes_on CallEnvironment = true

abbrev pub GoesOn : Instruction → Type 0
GoesOn i = goes_on (row_of i.op).effect ≡ true

-- the items of block b go to these blocks and call these functions alone; behind its last item a block falls into the next one
abbrev pub Keeps : List ℕ → List ℕ → ℕ → List Item → Type 0
Keeps follows calls b [] = Contains follows (suc b)
Keeps follows calls b (Single i ∷ xs) = GoesOn i × Keeps follows calls b xs
Keeps follows calls b (Jump far n ∷ xs) = Contains follows n × (xs ≡ [])
Keeps follows calls b (Call far g ∷ xs) = Contains calls g × Keeps follows calls b xs
Keeps follows calls b (Branch form c x y n ∷ xs) = Contains follows n × Keeps follows calls b xs
Keeps follows calls b (Return ∷ xs) = xs ≡ []
Keeps follows calls b (Exit ∷ xs) = xs ≡ []
