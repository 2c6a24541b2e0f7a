-- Programs of which one leaves out copies that the other makes, and what nothing needs: within a block the value of a register may stand in another one.
use Rattle.std.specs.Prelude.{◌≡◌, ◌≢◌, ◌⊎◌, ℕ, suc, ◌<◌, ◌≤◌, List, [], ◌∷◌, Option, Some, None}
use Rattle.std.specs.List.{AllZip}
use Rattle.low_ir.specs.Code.{Operand, Register, Constant, Base, Fixed, Through, Address, Set, Operate, Point, Load, Store, Put, Get, Instr, Do, Call, End, Block, Function, Note, Low}
use Rattle.low_ir.specs.Effects.{reads}
use Rattle.low_ir.specs.Formed.{LeadsOn, addresses, end_operands, written_by}
use Rattle.pass_copy_propagation_law.specs.Renaming.{renamed_end, renamed_instr}

-- where the value of each register of the first program stands in the second, if it stands anywhere
abbrev pub Standing : Type 0
Standing = ℕ → Option ℕ

-- by the number of a block, what stands at its beginning
abbrev pub Beginnings : Type 0
Beginnings = ℕ → Standing

abbrev pub Code : Type 0
Code = List (Instr ℕ Note)

-- nothing stands elsewhere, but some of it perhaps nowhere any more
abbrev pub Fewer : Standing → Standing → Type 0
Fewer at now = (v w : ℕ) → now v ≡ Some w → at v ≡ Some w

-- once the first program wrote the register d, and the second the register e with the same value
abbrev pub Moves : ℕ → ℕ → Standing → Standing → Type 0
Moves d e at now = (v w : ℕ) → now v ≡ Some w → ((v ≡ d) × (w ≡ e)) ⊎ ((v ≢ d) × (w ≢ e) × (at v ≡ Some w))

-- once each wrote what it writes, if anything; the second has so many registers
abbrev pub Becomes : ℕ → Option ℕ → ℕ → Standing → Standing → Type 0
Becomes size None e at now = Fewer at now
Becomes size (Some d) e at now = (e < size) × Moves d e at now

-- where an operand stands that is a register
abbrev pub Stands : Standing → Operand ℕ → ℕ → Type 0
Stands at (Register r) w = at r ≡ Some w
Stands at (Constant c) w = ⊥

-- once the first program alone wrote an operand to the register d
abbrev pub Copied : ℕ → Operand ℕ → Standing → Standing → Type 0
Copied d x at now = (v w : ℕ) → now v ≡ Some w → ((v ≡ d) × Stands at x w) ⊎ ((v ≢ d) × (at v ≡ Some w))

-- once the first program alone wrote to the register d what nothing needs
abbrev pub Forgets : ℕ → Standing → Standing → Type 0
Forgets d at now = (v w : ℕ) → now v ≡ Some w → (v ≢ d) × (at v ≡ Some w)

-- an instruction changes nothing but this register
abbrev pub WritesOnly : Instr ℕ Note → ℕ → Type 0
WritesOnly (Do (Set d x)) e = d ≡ e
WritesOnly (Do (Operate operator d x y)) e = d ≡ e
WritesOnly (Do (Point d a)) e = d ≡ e
WritesOnly (Do (Load kind d a)) e = d ≡ e
WritesOnly (Do (Store kind a x)) e = ⊥
WritesOnly (Do (Put x)) e = ⊥
WritesOnly (Do (Get d)) e = ⊥
WritesOnly (Call d f args note) e = ⊥

-- the names of operands are where they stand
abbrev pub Finds : Standing → (ℕ → ℕ) → List (Operand ℕ) → Type 0
Finds at name [] = Unit {0}
Finds at name (Register r ∷ xs) = (at r ≡ Some (name r)) × Finds at name xs
Finds at name (Constant w ∷ xs) = Finds at name xs

abbrev pub operands : Instr ℕ Note → List (Operand ℕ)
operands (Do i) = reads i
operands (Call d f args note) = args

-- pointers keep their names
abbrev pub KeepsBase : (ℕ → ℕ) → Base ℕ → Type 0
KeepsBase name (Fixed o) = Unit {0}
KeepsBase name (Through r claim) = name r ≡ r

abbrev pub KeepsBases : (ℕ → ℕ) → List (Address ℕ) → Type 0
KeepsBases name [] = Unit {0}
KeepsBases name (a ∷ as') = KeepsBase name a.base × KeepsBases name as'

-- the second program has the instruction, with the registers in which the values stand
pub record Carries (size : ℕ) (rest : Standing → Code → Type 0) (i : Instr ℕ Note) (at : Standing) (code : Code) : Type 0 where
  pub name : ℕ → ℕ
  pub into : ℕ
  pub now : Standing
  pub behind : Code
  pub is : code ≡ renamed_instr name into i ∷ behind
  pub finds : Finds at name (operands i)
  pub bases : KeepsBases name (addresses i)
  pub becomes : Becomes size (written_by i) into at now
  pub goes_on : rest now behind

-- the instruction is a copy, and the second program does without it
pub record LeavesOut (rest : Standing → Code → Type 0) (i : Instr ℕ Note) (at : Standing) (code : Code) : Type 0 where
  pub into : ℕ
  pub value : Operand ℕ
  pub is : i ≡ Do (Set into value)
  pub now : Standing
  pub copied : Copied into value at now
  pub goes_on : rest now code

-- the instruction does nothing that is needed, and the second program does without it
pub record Omits (rest : Standing → Code → Type 0) (i : Instr ℕ Note) (at : Standing) (code : Code) : Type 0 where
  pub into : ℕ
  pub only : WritesOnly i into
  pub now : Standing
  pub forgets : Forgets into at now
  pub goes_on : rest now code

-- a block ends in the same way, and at its end stands what each block counts on to which it leads
pub record Ends (out : Beginnings) (end new : End ℕ) (at : Standing) (code : Code) : Type 0 where
  pub done : code ≡ []
  pub name : ℕ → ℕ
  pub is : new ≡ renamed_end name end
  pub finds : Finds at name (end_operands end)
  pub stands : (n : ℕ) → LeadsOn end n → Fewer at (out n)

-- the rest of a block, in the first program and in the second
abbrev pub Follows : ℕ → Beginnings → End ℕ → End ℕ → Code → Standing → Code → Type 0
Follows size out end new [] at code = Ends out end new at code
Follows size out end new (i ∷ is) at code = Carries size (Follows size out end new is) i at code ⊎ (LeavesOut (Follows size out end new is) i at code ⊎ Omits (Follows size out end new is) i at code)

-- the block of this number
pub record BlockCopied (size : ℕ) (out : Beginnings) (n : ℕ) (b c : Block ℕ Note) : Type 0 where
  pub mark : c.mark ≡ b.mark
  pub code : Follows size out b.end c.end b.code (out n) c.code

-- blocks, of which the first one has this number
abbrev pub BlocksCopied : ℕ → Beginnings → ℕ → List (Block ℕ Note) → List (Block ℕ Note) → Type 0
BlocksCopied size out n [] [] = Unit {0}
BlocksCopied size out n [] (c ∷ cs) = ⊥
BlocksCopied size out n (b ∷ bs) [] = ⊥
BlocksCopied size out n (b ∷ bs) (c ∷ cs) = BlockCopied size out n b c × BlocksCopied size out (suc n) bs cs

-- so many registers a function may have in any case
abbrev pub free_registers : ℕ
free_registers = 256

-- as many registers, or more of them, but no more than are free
pub record Grows (size grown : ℕ) : Type 0 where
  pub least : size ≤ grown
  pub most : (grown ≤ size) ⊎ (grown ≤ free_registers)

-- at the beginning of a block registers stand in their own places, those that it doesn't count on perhaps nowhere
pub record FunctionCopied (fn gn : Function ℕ Note) : Type 0 where
  pub out : Beginnings
  pub own : (n v w : ℕ) → out n v ≡ Some w → w ≡ v
  pub parameters : gn.parameters ≡ fn.parameters
  pub size : Grows fn.size gn.size
  pub loops : gn.loops ≡ fn.loops
  pub blocks : BlocksCopied gn.size out 0 fn.blocks gn.blocks

pub record IsCopied (p q : Low) : Type 0 where
  pub functions : AllZip FunctionCopied p.functions q.functions
  pub claims : q.claims ≡ p.claims
  pub objects : q.objects ≡ p.objects
  pub main : q.main ≡ p.main
  pub marks : q.marks ≡ p.marks

-- a program as it is, or without some of its copies
abbrev pub MayBeCopied : Low → Low → Type 0
MayBeCopied p q = (q ≡ p) ⊎ IsCopied p q
