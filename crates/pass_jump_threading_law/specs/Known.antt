-- Words that registers are known to hold.
use Rattle.std.specs.Prelude.{◌≡◌, ◌≢◌, ◌⊎◌, ℕ, ◌%◌, ◌^◌, Bool, true, false, not, if◌then◌else◌, List, [], ◌∷◌, Option, Some, None}
use Rattle.rv_core.specs.declared.row.Condition.{Condition}
use Rattle.rv_core.specs.declared.row.Condition.TheVariants.{AtLeast, AtLeastUnsigned, Equal, Less, LessUnsigned, NotEqual}
use Rattle.rv_core.specs.Arithmetic.{holds}
use Rattle.low_ir.specs.Code.{Operand, Register, Constant, Set, Instr, Do, End, Jump, Branch, Return, Note}
use Rattle.low_ir.specs.Formed.{written_by}

abbrev pub Known : Type 0
Known = ℕ → Option ℕ

abbrev pub Code : Type 0
Code = List (Instr ℕ Note)

-- the word of an operand
abbrev pub word_of : Known → Operand ℕ → Option ℕ
word_of known (Register r) = known r
word_of known (Constant w) = Some (w % 2 ^ 32)

-- nothing else is known, but some of it perhaps not any more
abbrev pub Fewer : Known → Known → Type 0
Fewer known now = (r w : ℕ) → now r ≡ Some w → known r ≡ Some w

-- the word that an instruction writes
abbrev pub word_written : Known → Instr ℕ Note → Option ℕ
word_written known (Do (Set d x)) = word_of known x
word_written known i = None

-- once an instruction was executed
abbrev pub Becomes : Known → Instr ℕ Note → Known → Type 0
Becomes known i now = (r w : ℕ) → now r ≡ Some w → ((written_by i ≡ Some r) × (word_written known i ≡ Some w)) ⊎ ((written_by i ≢ Some r) × (known r ≡ Some w))

-- once the rest of a block was executed
abbrev pub Knows : Known → Code → Known → Type 0
Knows known [] out = Fewer known out
Knows known (i ∷ is) out = (now : Known) × Becomes known i now × Knows now is out

-- the block to which an end goes, where what is known decides it
abbrev pub decided : Condition → ℕ → ℕ → Option ℕ → Option ℕ → Option ℕ
decided c taken other (Some m) (Some n) = Some (if holds c m n then taken else other)
decided c taken other o1 o2 = None

abbrev pub goal : Known → End ℕ → Option ℕ
goal known (Jump b) = Some b
goal known (Branch c x y taken other) = decided c taken other (word_of known x) (word_of known y)
goal known (Return x) = None

-- a branch that is taken, or one that isn't, tells that its operands are equal
abbrev pub tells : Condition → Bool → Bool
tells Equal taken = taken
tells NotEqual taken = not taken
tells Less taken = false
tells AtLeast taken = false
tells LessUnsigned taken = false
tells AtLeastUnsigned taken = false

abbrev pub Equals : Known → Operand ℕ → Operand ℕ → ℕ → ℕ → Type 0
Equals known (Register d) y r w = (r ≡ d) × (word_of known y ≡ Some w)
Equals known (Constant c) y r w = ⊥

-- what is known on the way that a branch goes
abbrev pub Tells : Known → Condition → Operand ℕ → Operand ℕ → Bool → Known → Type 0
Tells known c x y taken now = (r w : ℕ) → now r ≡ Some w → (known r ≡ Some w) ⊎ ((tells c taken ≡ true) × Equals known x y r w)
