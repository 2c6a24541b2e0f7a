-- What new instructions may be, and what they do where facts are true.
use Rattle.std.specs.Prelude.{◌≡◌, ℕ, ◌+◌, ◌<◌, Bool, true, List, Option, Some, All}
use Rattle.low_ir.specs.declared.run.Value.{Value}
use Rattle.low_ir.specs.Code.{Address, Base, Fixed, Through, Operand, Plain, Do, Instr, Note}
use Rattle.low_ir.specs.Effects.{World, dest}
use Rattle.low_ir.specs.Formed.{RegistersWithin, addresses, written_by}
use Rattle.low_ir.specs.Runs.{Bank, operand_value, virtual}
use Rattle.pass_strength_reduction_law.specs.Knowing.{DoesTheSame, done_by}
use Rattle.pass_dataflow_facts.specs.declared.facts.Fact.{Fact}
use Rattle.pass_dataflow_facts.specs.Facts.{all_true}
use Rattle.pass_dataflow_facts.specs.Forms.{Same}
use Rattle.pass_dataflow_transfer.specs.Learning.{Adds, Begins, BeginsAt, Sure}
use Rattle.pass_strength_reduction.specs.Scenes.{ListsAlone, is_spare}

-- a new access may begin at an array that is there, or with a claim that lists one array alone
pub record HasOne (claims : List (List ℕ)) (claim : ℕ) : Type 0 where
  pub object : ℕ
  pub is : ListsAlone claims claim object

abbrev pub CanBegin : ℕ → List (List ℕ) → Base ℕ → Type 0
CanBegin objects claims (Fixed o) = o < objects
CanBegin objects claims (Through r claim) = HasOne claims claim

pub record IsPlacedWell (registers objects : ℕ) (claims : List (List ℕ)) (i : Instr ℕ Note) : Type 0 where
  pub within : RegistersWithin registers i
  pub begins : All (λ (a : Address ℕ). CanBegin objects claims a.base) (addresses i)

-- another address leads to the same byte of the same array
pub record LeadsTo (claims : List (List ℕ)) (b : Address ℕ) (s : Bank) (o n : ℕ) : Type 0 where
  pub bytes : ℕ
  pub more : ℕ
  pub begins : Begins claims b.base s o bytes
  pub adds : Adds b.offset s more
  pub same : Same (bytes + more + b.displacement) n

-- wherever one address leads, another one leads with these claims
abbrev pub Serves : List (List ℕ) → Address ℕ → Address ℕ → Bank → Type 0
Serves claims a b s = (o n k : ℕ) → BeginsAt a.base s o n → Adds a.offset s k → LeadsTo claims b s o (n + k + a.displacement)

-- an instruction may stand for another one where facts are true, with these claims
pub record Stands (claims : List (List ℕ)) (facts : List Fact) (i j : Instr ℕ Note) : Type 0 where
  pub old : Plain ℕ
  pub new : Plain ℕ
  pub is : i ≡ Do old
  pub becomes : j ≡ Do new
  pub into : dest new ≡ dest old
  pub same : (size : ℕ) (others : List (List ℕ)) → DoesTheSame size (all_true facts) others old claims new

-- an instruction surely gives a value, and does nothing else
pub record GivesValue (claims : List (List ℕ)) (i : Plain ℕ) (s : Bank) (u : World) : Type 0 where
  pub value : Value
  pub is : done_by claims i s u ≡ Some (record { world = u; value = value })

pub record IsSure (claims : List (List ℕ)) (facts : List Fact) (i : Instr ℕ Note) : Type 0 where
  pub plain : Plain ℕ
  pub is : i ≡ Do plain
  pub gives : (u : World) → Sure facts (λ s. GivesValue claims plain s u)

-- an operand holds something
pub record HoldsValue (x : Operand ℕ) (s : Bank) : Type 0 where
  pub value : Value
  pub is : operand_value virtual s x ≡ Some value

-- something is added
pub record IsAdded (offset : Option ℕ) (s : Bank) : Type 0 where
  pub more : ℕ
  pub adds : Adds offset s more

-- an address begins somewhere
pub record HasBeginning (claims : List (List ℕ)) (b : Base ℕ) (s : Bank) : Type 0 where
  pub object : ℕ
  pub bytes : ℕ
  pub begins : Begins claims b s object bytes

-- wherever facts are true, two addresses are so many bytes behind the first of their arrays
abbrev pub LeadAlike : List Fact → Address ℕ → Address ℕ → Type 0
LeadAlike facts a b = Sure facts (λ s. (o p n m k l : ℕ) → BeginsAt a.base s o n → Adds a.offset s k → BeginsAt b.base s p m → Adds b.offset s l → Same (m + l + b.displacement) (n + k + a.displacement))

-- an instruction writes a spare register
pub record WritesSpare (spare : List Bool) (i : Instr ℕ Note) : Type 0 where
  pub register : ℕ
  pub is : written_by i ≡ Some register
  pub spared : is_spare spare register ≡ true
