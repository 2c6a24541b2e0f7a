-- How facts change with the registers, and what follows from them.
use Rattle.std.specs.Prelude.{◌≡◌, ℕ, ◌+◌, ◌^◌, ◌<◌, true, List, [], length, Option, Some, None, slice_index_or, slice_set}
use Rattle.rv_core.specs.declared.row.Alu.{Alu}
use Rattle.rv_core.specs.Arithmetic.{alu_value}
use Rattle.low_ir.specs.declared.run.Value.{Value}
use Rattle.low_ir.specs.declared.run.Value.TheVariants.{Word, Pointer}
use Rattle.low_ir.specs.Code.{Address, Base, Fixed, Operand, Plain, Through}
use Rattle.low_ir.specs.Effects.{is_member}
use Rattle.low_ir.specs.Runs.{Bank, operand_value, virtual}
use Rattle.pass_strength_reduction_law.specs.Knowing.{CallTeaches, Teaches}
use Rattle.pass_dataflow_facts.specs.declared.facts.Fact.{Fact}
use Rattle.pass_dataflow_facts.specs.declared.facts.Origin.{Origin}
use Rattle.pass_dataflow_facts.specs.declared.forms.Form.{Form}
use Rattle.pass_dataflow_facts.specs.Facts.{all_true, is_from, is_true, number, number_in}
use Rattle.pass_dataflow_facts.specs.Forms.{Same, form_value}

-- wherever facts are true
abbrev pub Sure : List Fact → (Bank → Type 0) → Type 0
Sure fs P = (s : Bank) → all_true fs s ≡ true → P s

-- a number is what a form says
abbrev pub Measures : Bank → ℕ → Form → Type 0
Measures s n f = Same n (form_value (number_in s) f)

abbrev pub MayMeasure : Bank → ℕ → Option Form → Type 0
MayMeasure s n None = Unit {0}
MayMeasure s n (Some f) = Measures s n f

-- what an operand holds is of this origin
abbrev pub Comes : Operand ℕ → Origin → Bank → Type 0
Comes x o s = (v : Value) → operand_value virtual s x ≡ Some v → is_from o (Some v) ≡ true

-- and its number is what a form says
abbrev pub Counts : Operand ℕ → Form → Bank → Type 0
Counts x f s = (v : Value) → operand_value virtual s x ≡ Some v → Measures s (number (Some v)) f

-- an address begins so many bytes behind the first of an array
abbrev pub BeginsAt : Base ℕ → Bank → ℕ → ℕ → Type 0
BeginsAt (Fixed object) s o n = (object ≡ o) × (n ≡ 0)
BeginsAt (Through r claim) s o n = slice_index_or s r None ≡ Some (Pointer o n)

abbrev pub MayTouch : List (List ℕ) → Base ℕ → ℕ → Type 0
MayTouch claims (Fixed object) o = Unit {0}
MayTouch claims (Through r claim) o = is_member (slice_index_or claims claim []) o ≡ true

-- it holds a word
pub record HoldsWord (x : Operand ℕ) (s : Bank) : Type 0 where
  pub word : ℕ
  pub is : operand_value virtual s x ≡ Some (Word word)

-- a word below 2^32, if it holds one
abbrev pub HoldsSmall : Operand ℕ → Bank → Type 0
HoldsSmall x s = (n : ℕ) → operand_value virtual s x ≡ Some (Word n) → n < 2 ^ 32

-- what an operator gives is what a form says, if what it is given is what other forms say
abbrev pub Gives : Alu → Form → Form → Operand ℕ → Form → Type 0
Gives op a b y f = (s : Bank) (m n : ℕ) → Measures s m a → Measures s n b → operand_value virtual s y ≡ Some (Word n) → Measures s (alu_value op m n) f

-- the same where an operation finds such words in a store
abbrev pub GivesHere : Alu → Operand ℕ → Operand ℕ → Form → Bank → Type 0
GivesHere op x y f s = (m n : ℕ) → operand_value virtual s x ≡ Some (Word m) → operand_value virtual s y ≡ Some (Word n) → Measures s (alu_value op m n) f

-- what an operator gives is of this origin
abbrev pub GivesFrom : Alu → Origin → Type 0
GivesFrom op origin = (m n : ℕ) → is_from origin (Some (Word (alu_value op m n))) ≡ true

-- once a register was written, whatever the value, one fact is true if another one was before
abbrev pub Survives : ℕ → Fact → Fact → Type 0
Survives d f g = (s : Bank) (v : Value) → is_true s f ≡ true → is_true (slice_set s d (Some v)) g ≡ true

-- a value is so much more than what a register holds, and of each origin that this has
pub record Grows (s : Bank) (d by : ℕ) (v : Value) : Type 0 where
  pub there : d < length s
  pub more : Same (number (Some v)) (number_in s d + by)
  pub origin : (o : Origin) → is_from o (slice_index_or s d None) ≡ true → is_from o (Some v) ≡ true

abbrev pub Steps : ℕ → ℕ → Fact → Fact → Type 0
Steps d by f g = (s : Bank) (v : Value) → Grows s d by v → is_true s f ≡ true → is_true (slice_set s d (Some v)) g ≡ true

-- an operation gives a word that is so much more than the one in a register
pub record GivesMore (s : Bank) (d by n : ℕ) : Type 0 where
  pub was : ℕ
  pub is : slice_index_or s d None ≡ Some (Word was)
  pub more : Same n (was + by)
  pub small : n < 2 ^ 32

abbrev pub StepsBy : Alu → ℕ → Operand ℕ → Operand ℕ → ℕ → Bank → Type 0
StepsBy op d x y by s = (m n : ℕ) → operand_value virtual s x ≡ Some (Word m) → operand_value virtual s y ≡ Some (Word n) → GivesMore s d by (alu_value op m n)

-- an operand is always of this number
abbrev pub IsAlways : Operand ℕ → ℕ → Bank → Type 0
IsAlways x c s = (v : Value) → operand_value virtual s x ≡ Some v → Same (number (Some v)) c

-- a value is of an origin, and its number what a form says, if there is one
pub record IsValue (s : Bank) (v : Value) (origin : Origin) (form : Option Form) : Type 0 where
  pub from : is_from origin (Some v) ≡ true
  pub measures : MayMeasure s (number (Some v)) form

-- what facts say of a register once such a value was written
abbrev pub Writes : ℕ → Origin → Option Form → Fact → Type 0
Writes d origin form g = (s : Bank) (v : Value) → d < length s → IsValue s v origin form → is_true (slice_set s d (Some v)) g ≡ true

-- the same of all facts, in a store of so many registers
abbrev pub LearnsValue : ℕ → ℕ → Origin → Option Form → List Fact → List Fact → Type 0
LearnsValue size d origin form old new = (s : Bank) (v : Value) → length s ≡ size → IsValue s v origin form → all_true old s ≡ true → all_true new (slice_set s d (Some v)) ≡ true

abbrev pub LearnsStep : ℕ → ℕ → List Fact → List Fact → Type 0
LearnsStep d by old new = (s : Bank) (v : Value) → Grows s d by v → all_true old s ≡ true → all_true new (slice_set s d (Some v)) ≡ true

-- some word was written
abbrev pub LearnsWord : ℕ → ℕ → List Fact → List Fact → Type 0
LearnsWord size d old new = (s : Bank) (w : ℕ) → length s ≡ size → all_true old s ≡ true → all_true new (slice_set s d (Some (Word w))) ≡ true

abbrev pub CallPasses : ℕ → Option ℕ → List Fact → List Fact → Type 0
CallPasses size d old new = CallTeaches size d (all_true old) (all_true new)

-- where an address begins: so many bytes behind the first of an array, with which that may be accessed
pub record Begins (claims : List (List ℕ)) (b : Base ℕ) (s : Bank) (o n : ℕ) : Type 0 where
  pub is : BeginsAt b s o n
  pub may : MayTouch claims b o

-- what is added to that
abbrev pub Adds : Option ℕ → Bank → ℕ → Type 0
Adds None s n = n ≡ 0
Adds (Some r) s n = slice_index_or s r None ≡ Some (Word n)

-- where an address begins is of an origin
abbrev pub BaseIsFrom : Base ℕ → Origin → Bank → Type 0
BaseIsFrom b origin s = (o n k : ℕ) → BeginsAt b s o n → is_from origin (Some (Pointer o k)) ≡ true

-- a form says how far an address leads
abbrev pub Leads : Address ℕ → Form → Bank → Type 0
Leads a f s = (o n k : ℕ) → BeginsAt a.base s o n → Adds a.offset s k → Measures s (n + k + a.displacement) f

pub record IsBehind (a : Address ℕ) (r : ℕ) : Type 0 where
  pub claim : ℕ
  pub base : a.base ≡ Through r claim
  pub offset : a.offset ≡ None

-- whatever claims there are, an instruction teaches facts
abbrev pub Passes : ℕ → Plain ℕ → List Fact → List Fact → Type 0
Passes size i old new = (claims : List (List ℕ)) → Teaches size claims i (all_true old) (all_true new)
