-- Which scalars may be in registers.
use Rattle.std.specs.Prelude.{◌≡◌, ◌⊎◌, ℕ, ◌==◌, Bool, true, false, if◌then◌else◌, List, [], ◌∷◌, Option, None, Some, All, slice_get}
use Rattle.low_ir.specs.declared.object.Kind.{Kind}
use Rattle.low_ir.specs.declared.object.Storage.TheVariants.{Global}
use Rattle.low_ir.specs.Code.{Base, Fixed, Through, Address, Plain, Load, Store, Instr, Do, Call, Block, Function, Low, Note, Object}
use Rattle.pass_common_subexpressions_law.specs.Facts.{Touches}
use Rattle.pass_register_promotion_law.specs.Promoting.{Resident, residents_at}

-- by function and object: whether the function, or one that it calls, may touch the object
abbrev pub Table : Type 0
Table = ℕ → ℕ → Bool

-- what an access with this base may touch is told
abbrev pub IsTold : List (List ℕ) → (ℕ → Bool) → Base ℕ → Type 0
IsTold claims row base = (o : ℕ) → Touches claims base o → row o ≡ true

abbrev pub PlainTold : List (List ℕ) → (ℕ → Bool) → Plain ℕ → Type 0
PlainTold claims row (Load kind d a) = IsTold claims row a.base
PlainTold claims row (Store kind a x) = IsTold claims row a.base
PlainTold claims row i = Unit {0}

abbrev pub InstrTold : List (List ℕ) → Table → ℕ → Instr ℕ Note → Type 0
InstrTold claims table f (Do i) = PlainTold claims (table f) i
InstrTold claims table f (Call d g args note) = (o : ℕ) → table g o ≡ true → table f o ≡ true

-- an object has a register
abbrev pub is_resident : List Resident → ℕ → Bool
is_resident [] o = false
is_resident (h ∷ hs) o = if h.object == o then true else is_resident hs o

-- it has one, and isn't stored back
abbrev pub is_only_read : List Resident → ℕ → Bool
is_only_read [] o = false
is_only_read (h ∷ hs) o = if h.object == o then (if h.written then false else true) else is_only_read hs o

-- of what kind it is then
abbrev pub kind_in : List Resident → ℕ → Option Kind
kind_in [] o = None
kind_in (h ∷ hs) o = if h.object == o then Some h.kind else kind_in hs o

-- an access of a whole scalar
pub record IsWhole (hs : List Resident) (o : ℕ) (kind : Kind) (a : Address ℕ) : Type 0 where
  pub kind_is : kind_in hs o ≡ Some kind
  pub offset : a.offset ≡ None
  pub displacement : a.displacement ≡ 0

-- what an access touches has no register, or it is of a whole scalar
abbrev pub BaseSuits : List (List ℕ) → List Resident → Kind → Address ℕ → Base ℕ → Type 0
BaseSuits claims hs kind a (Fixed o) = (is_resident hs o ≡ false) ⊎ IsWhole hs o kind a
BaseSuits claims hs kind a (Through r claim) = (o : ℕ) → Touches claims (Through r claim) o → is_resident hs o ≡ false

-- what is stored to is stored back
abbrev pub StoreSuits : List Resident → Base ℕ → Type 0
StoreSuits hs (Fixed o) = is_only_read hs o ≡ false
StoreSuits hs (Through r claim) = Unit {0}

abbrev pub PlainSuits : List (List ℕ) → List Resident → Plain ℕ → Type 0
PlainSuits claims hs (Load kind d a) = BaseSuits claims hs kind a a.base
PlainSuits claims hs (Store kind a x) = BaseSuits claims hs kind a a.base × StoreSuits hs a.base
PlainSuits claims hs i = Unit {0}

-- a function that is called touches nothing that has a register here
abbrev pub InstrSuits : List (List ℕ) → Table → List Resident → Instr ℕ Note → Type 0
InstrSuits claims table hs (Do i) = PlainSuits claims hs i
InstrSuits claims table hs (Call d g args note) = (o : ℕ) → is_resident hs o ≡ true → table g o ≡ false

-- a global that is no array, of this kind
pub record IsScalar (objects : List Object) (o : ℕ) (kind : Kind) : Type 0 where
  pub object : Object
  pub there : slice_get objects o ≡ Some object
  pub alike : object.kind ≡ kind
  pub storage : object.storage ≡ Global
  pub size : object.size ≡ 1

abbrev pub AreScalars : List Object → List Resident → Type 0
AreScalars objects [] = Unit {0}
AreScalars objects (h ∷ hs) = IsScalar objects h.object h.kind × AreScalars objects hs

-- each has one register
abbrev pub AreDistinct : List Resident → Type 0
AreDistinct [] = Unit {0}
AreDistinct (h ∷ hs) = (is_resident hs h.object ≡ false) × AreDistinct hs

abbrev pub IsKept : List (List ℕ) → Table → ℕ → List Resident → Instr ℕ Note → Type 0
IsKept claims table f hs i = InstrTold claims table f i × InstrSuits claims table hs i

abbrev pub BlockKept : List (List ℕ) → Table → ℕ → List Resident → Block ℕ Note → Type 0
BlockKept claims table f hs b = All (IsKept claims table f hs) b.code

-- scalars that may be in registers in function f
pub record MayReside (q : Low) (table : Table) (f : ℕ) (fn : Function ℕ Note) (hs : List Resident) : Type 0 where
  pub scalars : AreScalars q.objects hs
  pub distinct : AreDistinct hs
  pub told : (o : ℕ) → is_resident hs o ≡ true → table f o ≡ true
  pub blocks : All (BlockKept q.claims table f hs) fn.blocks

abbrev pub AllMayReside : Low → Table → List (List Resident) → Type 0
AllMayReside q table hss = (f : ℕ) (fn : Function ℕ Note) → slice_get q.functions f ≡ Some fn → MayReside q table f fn (residents_at hss f)
