-- What is known as a block goes on: which registers hold what loads of elements and operations would give.
use Rattle.std.specs.Prelude.{◌≡◌, ◌≢◌, ◌⊎◌, ℕ, true, false, List, [], ◌∷◌, Option, Some, None, slice_get, slice_index_or}
use Rattle.rv_core.specs.declared.row.Alu.{Alu}
use Rattle.low_ir.specs.declared.object.Kind.{Kind}
use Rattle.low_ir.specs.declared.object.Kind.TheVariants.{Word}
use Rattle.low_ir.specs.Kinds.{same_kind}
use Rattle.low_ir.specs.Code.{Operand, Register, Constant, Base, Fixed, Through, Address, Plain, Operate, Store, Load, Instr, Do, Call, Note}
use Rattle.low_ir.specs.Effects.{address_reads, dest, is_member}

-- what gives a value: a load of this kind from this address, or an operation
pub data Source : Type 0 where
  Loads : (kind : Kind) (address : Address ℕ) → Source
  Computes : (operator : Alu) (left right : Operand ℕ) → Source

-- that a register holds what it would give
pub record Fact : Type 0 where
  pub source : Source
  pub register : ℕ

-- the instruction that gives it to the register d
abbrev pub giving : ℕ → Source → Plain ℕ
giving d (Loads kind a) = Load kind d a
giving d (Computes operator x y) = Operate operator d x y

-- what that reads
abbrev pub source_reads : Source → List (Operand ℕ)
source_reads (Loads kind a) = address_reads a
source_reads (Computes operator x y) = x ∷ y ∷ []

-- the facts that are known, each at some place
abbrev pub Known : Type 0
Known = List (Option Fact)

abbrev pub Knows : Known → Fact → Type 0
Knows known f = (n : ℕ) × (slice_get known n ≡ Some (Some f))

-- no operand is this register
abbrev pub Spares : ℕ → List (Operand ℕ) → Type 0
Spares d [] = Unit {0}
Spares d (Register r ∷ xs) = (r ≢ d) × Spares d xs
Spares d (Constant w ∷ xs) = Spares d xs

-- a write, if there is one, isn't to a register that a fact names
abbrev pub SparesFact : Option ℕ → Fact → Type 0
SparesFact None f = Unit {0}
SparesFact (Some d) f = Spares d (Register f.register ∷ source_reads f.source)

-- an access with this base may touch this array
abbrev pub Touches : List (List ℕ) → Base ℕ → ℕ → Type 0
Touches claims (Fixed o) x = o ≡ x
Touches claims (Through r claim) x = is_member (slice_index_or claims claim []) x ≡ true

-- accesses of different kinds, or with no array that both may touch
abbrev pub AreApart : List (List ℕ) → Kind → Base ℕ → Kind → Base ℕ → Type 0
AreApart claims kind a other b = (same_kind kind other ≡ false) ⊎ ((o : ℕ) → Touches claims a o → Touches claims b o → ⊥)

-- an access of this kind with this base is of another element
abbrev pub IsOther : List (List ℕ) → Kind → Base ℕ → Source → Type 0
IsOther claims kind base (Loads other a) = AreApart claims other a.base kind base
IsOther claims kind base (Computes operator x y) = Unit {0}

-- what an instruction stores is no part of the element of a fact
abbrev pub SparesElement : List (List ℕ) → Plain ℕ → Fact → Type 0
SparesElement claims (Store kind a x) f = IsOther claims kind a.base f.source
SparesElement claims i f = Unit {0}

-- a fact is as true behind an instruction as before it; behind a call nothing is known
abbrev pub Keeps : List (List ℕ) → Instr ℕ Note → Fact → Type 0
Keeps claims (Do i) f = SparesFact (dest i) f × SparesElement claims i f
Keeps claims (Call d g args note) f = ⊥

-- a fact is true behind an instruction: what was loaded or computed stands in a register, and what was stored as a word stands there still
abbrev pub Teaches : Instr ℕ Note → Fact → Type 0
Teaches (Do (Load kind d a)) f = (f ≡ record { source = Loads kind a; register = d }) × Spares d (address_reads a)
Teaches (Do (Operate operator d x y)) f = (f ≡ record { source = Computes operator x y; register = d }) × Spares d (x ∷ y ∷ [])
Teaches (Do (Store kind a (Register r))) f = (kind ≡ Word) × (f ≡ record { source = Loads kind a; register = r })
Teaches i f = ⊥

-- what is known behind an instruction was known before it, or is new
abbrev pub Learns : List (List ℕ) → Known → Instr ℕ Note → Known → Type 0
Learns claims known i now = (f : Fact) → Knows now f → (Knows known f × Keeps claims i f) ⊎ Teaches i f

abbrev pub KnowsNothing : Known → Type 0
KnowsNothing known = (f : Fact) → Knows known f → ⊥
