-- How a state of the high form stands in one of the low form.
use Rattle.std.specs.Prelude.{◌≡◌, ℕ, ◌*◌, ◌<◌, ◌≤◌, ◌^◌, ◌==◌, Bool, true, not, List, [], ◌∷◌, length, map, Option, Some, None, slice_get, slice_index_or, nat_lt, if◌then◌else◌}
use Rattle.rv_core.specs.Arithmetic.{holds}
use Rattle.high_ir.specs.Meaning as high
use Rattle.low_ir.specs.Code.{Operand, Register, Constant as Literal}
use Rattle.low_ir.specs.declared.run.Value.{Value}
use Rattle.low_ir.specs.declared.run.Value.TheVariants.{Word, Pointer}
use Rattle.low_ir.specs.Effects.{Contents, World, is_member}
use Rattle.low_ir.specs.Runs.{Bank}
use Rattle.lower_definition.specs.Objects.{kind_of, scale_of, storage_of}
use Rattle.lower_definition.specs.Operators.{Code}
use Rattle.lower_definition.specs.Values.{Scope, Share, Tested, first_free, pointer, shared, bytes}
use Rattle.lower_values.specs.Computing.{computed, Has}

abbrev pub contents_of : high.Contents → Contents
contents_of c = record { kind = kind_of c.kind; storage = storage_of c.storage; elements = c.elements }

-- what was written are words
abbrev pub AreWords : List (Option ℕ) → Type 0
AreWords xs = (i v : ℕ) → slice_index_or xs i None ≡ Some v → v < 2 ^ 32

-- an array whose bytes have addresses, and whose elements are words
pub record IsSound (c : high.Contents) : Type 0 where
  pub size : 2 ^ scale_of c.kind * length c.elements ≤ 2 ^ 32
  pub words : AreWords c.elements

-- the world of a high run in that of a low run
pub record MeetsWorld (scope : Scope) (w : high.World) (u : World) : Type 0 where
  pub objects : u.objects ≡ map contents_of w.objects
  pub count : length w.objects ≡ scope.objects
  pub sound : (o : ℕ) (c : high.Contents) → slice_get w.objects o ≡ Some c → IsSound c
  pub input : u.input ≡ w.input
  pub input_words : (i b : ℕ) → slice_get w.input i ≡ Some b → b < 2 ^ 32
  pub output : u.output ≡ w.output

-- the value of an array that is passed; no good run accesses one that isn't there
abbrev pub array_value : (objects : ℕ) → ℕ → Value
array_value objects o = if nat_lt o objects then Pointer o 0 else Word 0

-- an array is one of a claim that an array parameter has
pub record IsClaimed (scope : Scope) (claims : List (List ℕ)) (j o : ℕ) : Type 0 where
  pub claim : ℕ
  pub named : slice_get scope.claims j ≡ Some (Some claim)
  pub member : is_member (slice_index_or claims claim []) o ≡ true

-- a register for an array that was passed, which is of the parameter's claim where it is there
pub record PointsTo (scope : Scope) (claims : List (List ℕ)) (s : Bank) (j o : ℕ) : Type 0 where
  pub held : slice_index_or s (pointer scope j) None ≡ Some (array_value scope.objects o)
  pub claimed : o < scope.objects → IsClaimed scope claims j o

-- a frame of a high run in a bank
pub record MeetsFrame (scope : Scope) (claims : List (List ℕ)) (passed : List ℕ) (vars : high.Variables) (s : Bank) : Type 0 where
  pub variables : (x v : ℕ) → slice_index_or vars x None ≡ Some v → slice_index_or s x None ≡ Some (Word v)
  pub words : AreWords vars
  pub count : length vars ≡ scope.variables
  pub arrays : length passed ≡ length scope.claims
  pub pointers : (j o : ℕ) → slice_get passed j ≡ Some o → PointsTo scope claims s j o

-- the variables of the shares and their registers are below t, and the registers hold what they say
pub record HasShares (shares : List Share) (s : Bank) (t : ℕ) : Type 0 where
  pub variable : (x k r : ℕ) → shared shares x k ≡ Some r → x < t
  pub below : (x k r : ℕ) → shared shares x k ≡ Some r → r < t
  pub held : (x k r v : ℕ) → shared shares x k ≡ Some r → slice_index_or s x None ≡ Some (Word v) → slice_index_or s r None ≡ Some (Word (bytes k v))

-- where the registers from t on are free
pub record Stands (scope : Scope) (claims : List (List ℕ)) (passed : List ℕ) (vars : high.Variables) (shares : List Share) (s : Bank) (t : ℕ) : Type 0 where
  pub frame : MeetsFrame scope claims passed vars s
  pub sharing : HasShares shares s t
  pub free : first_free scope ≤ t

-- a register of an operand is below t
abbrev pub IsBelow : ℕ → Operand ℕ → Type 0
IsBelow t (Register r) = r < t
IsBelow t (Literal w) = Unit {0}

-- code behind which an operand has a word, and the registers below t are what they were
pub record Finds (claims : List (List ℕ)) (u : World) (code : Code) (s : Bank) (t : ℕ) (x : Operand ℕ) (v : ℕ) : Type 0 where
  pub store : Bank
  pub does : computed claims u code s ≡ Some store
  pub size : length store ≡ length s
  pub value : Has store x v
  pub others : (q : ℕ) → q < t → slice_index_or store q None ≡ slice_index_or s q None

-- whether a word isn't 0
abbrev pub is_true : ℕ → Bool
is_true v = not (v == 0)

-- code behind which a branch is taken exactly where a word isn't 0
pub record Decides (claims : List (List ℕ)) (u : World) (b : Tested) (s : Bank) (t v : ℕ) : Type 0 where
  pub store : Bank
  pub does : computed claims u b.code s ≡ Some store
  pub size : length store ≡ length s
  pub others : (q : ℕ) → q < t → slice_index_or store q None ≡ slice_index_or s q None
  pub left : ℕ
  pub right : ℕ
  pub small_left : left < 2 ^ 32
  pub small_right : right < 2 ^ 32
  pub has_left : Has store b.left left
  pub has_right : Has store b.right right
  pub decides : holds b.condition left right ≡ is_true v

-- the values that a call passes
abbrev pub array_values : (objects : ℕ) → List ℕ → List Value
array_values objects ns = map (array_value objects) ns

abbrev pub passed_values : (objects : ℕ) → List ℕ → List ℕ → List Value
passed_values objects [] ns = array_values objects ns
passed_values objects (v ∷ vs) ns = Word v ∷ passed_values objects vs ns
