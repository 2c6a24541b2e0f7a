-- What a program in the low form keeps to.
use Rattle.std.specs.Prelude.{◌≡◌, ◌≢◌, ◌⊎◌, ℕ, ◌==◌, ◌&&◌, ◌<◌, ◌≤◌, Bool, true, List, [], ◌∷◌, length, Option, Some, None, All, AllPairs, slice_get, option_to_list}
use Rattle.std.specs.List.{list_any}
use Rattle.low_ir.specs.Code.{Operand, Register, Constant, Base, Fixed, Through, Address, Point, Load, Store, Instr, Do, Call, End, Jump, Branch, Return, Block, Loop, Function, Program}
use Rattle.low_ir.specs.Effects.{reads, dest}
use Rattle.low_ir.specs.Runs.{block_in}
use Rattle.low_ir.specs.Turns.{mark_in}

-- the registers among operands
abbrev pub registers_in : {R : Type 0} → List (Operand R) → List R
registers_in [] = []
registers_in (Register r ∷ xs) = r ∷ registers_in xs
registers_in (Constant w ∷ xs) = registers_in xs

abbrev pub read_by : {R K : Type 0} → Instr R K → List R
read_by (Do i) = registers_in (reads i)
read_by (Call d f args note) = registers_in args

abbrev pub written_by : {R K : Type 0} → Instr R K → Option R
written_by (Do i) = dest i
written_by (Call d f args note) = d

abbrev pub end_operands : {R : Type 0} → End R → List (Operand R)
end_operands (Jump b) = []
end_operands (Branch c x y taken other) = x ∷ y ∷ []
end_operands (Return x) = x ∷ []

abbrev pub end_reads : {R : Type 0} → End R → List R
end_reads end = registers_in (end_operands end)

-- b is one of the blocks to which an end leads
abbrev pub LeadsOn : {R : Type 0} → End R → ℕ → Type 0
LeadsOn (Jump n) b = n ≡ b
LeadsOn (Branch c x y taken other) b = (taken ≡ b) ⊎ (other ≡ b)
LeadsOn (Return x) b = ⊥

-- the objects and claims that an address names
abbrev pub base_objects : {R : Type 0} → Base R → List ℕ
base_objects (Fixed o) = o ∷ []
base_objects (Through r claim) = []

abbrev pub base_claims : {R : Type 0} → Base R → List ℕ
base_claims (Fixed o) = []
base_claims (Through r claim) = claim ∷ []

abbrev pub addresses : {R K : Type 0} → Instr R K → List (Address R)
addresses (Do (Point d a)) = a ∷ []
addresses (Do (Load kind d a)) = a ∷ []
addresses (Do (Store kind a x)) = a ∷ []
addresses i = []

abbrev pub callee : {R K : Type 0} → Instr R K → Option ℕ
callee (Do i) = None
callee (Call d f args note) = Some f

-- the registers of a block are registers of the function
abbrev pub RegistersWithin : {K : Type 0} → ℕ → Instr ℕ K → Type 0
RegistersWithin size i = All (λ r. r < size) (read_by i) × All (λ r. r < size) (option_to_list (written_by i))

abbrev pub UsesRegisters : {K : Type 0} → ℕ → Block ℕ K → Type 0
UsesRegisters size b = All (RegistersWithin size) b.code × All (λ r. r < size) (end_reads b.end)

-- an address names objects and claims that are there
abbrev pub IsThere : {R K : Type 0} → Program R K → Address R → Type 0
IsThere p a = All (λ o. o < length p.objects) (base_objects a.base) × All (λ c. c < length p.claims) (base_claims a.base)

abbrev pub NamesThere : {R K : Type 0} → Program R K → Instr R K → Type 0
NamesThere p i = All (IsThere p) (addresses i)

abbrev pub BlockNamesThere : {R K : Type 0} → Program R K → Block R K → Type 0
BlockNamesThere p b = All (NamesThere p) b.code

-- a call goes to a lower number
abbrev pub CallsBelow : {R K : Type 0} → ℕ → Instr R K → Type 0
CallsBelow f i = All (λ g. g < f) (option_to_list (callee i))

abbrev pub BlockCallsBelow : {R K : Type 0} → ℕ → Block R K → Type 0
BlockCallsBelow f b = All (CallsBelow f) b.code

abbrev pub HasMarkBelow : {R K : Type 0} → ℕ → Block R K → Type 0
HasMarkBelow n b = All (λ m. m < n) (option_to_list b.mark)

-- one block leads to another
abbrev pub LeadsTo_as : {R K : Type 0} → Option (Block R K) → ℕ → Type 0
LeadsTo_as None n = ⊥
LeadsTo_as (Some b) n = LeadsOn b.end n

abbrev pub LeadsTo : {R K : Type 0} → Function R K → ℕ → ℕ → Type 0
LeadsTo fn b n = LeadsTo_as (slice_get fn.blocks b) n

abbrev pub IsIn : Loop → ℕ → Type 0
IsIn l b = (l.header ≤ b) × (b ≤ l.latch)

-- a loop whose header lies in another one lies in it whole
abbrev pub HoldsWhole : Loop → Loop → Type 0
HoldsWhole k l = IsIn k l.header → (k.header < l.header) × (l.latch < k.latch)

abbrev pub AreNested : Loop → Loop → Type 0
AreNested k l = HoldsWhole k l × HoldsWhole l k

-- a block that does nothing but go to another
abbrev pub only_jump : {R K : Type 0} → ℕ → Block R K
only_jump b = record { mark = None; code = []; end = Jump b }

-- a loop begins with its header and ends with its latch, which alone jumps back; what comes into it comes to its header
pub record IsLoop {R K : Type 0} (fn : Function R K) (l : Loop) : Type 0 where
  pub header : 0 < l.header
  pub latch : l.header < l.latch
  pub back : slice_get fn.blocks l.latch ≡ Some (only_jump l.header)
  pub entered : (b n : ℕ) → LeadsTo fn b n → IsIn l n → (b < l.header) ⊎ (l.latch < b) → n ≡ l.header

-- block b is the latch of a loop with this header
abbrev pub is_back : List Loop → ℕ → ℕ → Bool
is_back ls b n = list_any (λ l. (l.latch == b) && (l.header == n)) ls

-- the mark of a function's first block
abbrev pub opening : {R K : Type 0} → Function R K → Option ℕ
opening fn = mark_in (slice_get fn.blocks 0)

abbrev pub mark_of : {R K : Type 0} → Program R K → ℕ → ℕ → Option ℕ
mark_of p f b = mark_in (block_in (slice_get p.functions f) b)

-- function f of a program
pub record IsFunction {K : Type 0} (p : Program ℕ K) (f : ℕ) (fn : Function ℕ K) : Type 0 where
  -- the opening mark stands nowhere else
  pub opens : opening fn ≢ None
  pub alone : (m g b : ℕ) → opening fn ≡ Some m → mark_of p g b ≡ Some m → (g ≡ f) × (b ≡ 0)
  pub marks : All (HasMarkBelow p.marks) fn.blocks
  pub parameters : All (λ r. r < fn.size) fn.parameters
  pub registers : All (UsesRegisters fn.size) fn.blocks
  pub names : All (BlockNamesThere p) fn.blocks
  pub calls : All (BlockCallsBelow f) fn.blocks
  pub stays : (b n : ℕ) → LeadsTo fn b n → n < length fn.blocks
  -- a jump goes to a later block, or from a latch to its header
  pub forward : (b n : ℕ) → LeadsTo fn b n → n ≤ b → is_back fn.loops b n ≡ true
  pub loops : All (IsLoop fn) fn.loops
  pub nested : AllPairs AreNested fn.loops

-- a claim names objects that are there, at least one
abbrev pub IsClaim : {R K : Type 0} → Program R K → List ℕ → Type 0
IsClaim p claim = (0 < length claim) × All (λ o. o < length p.objects) claim

pub record IsLow {K : Type 0} (p : Program ℕ K) : Type 0 where
  pub main : p.main < length p.functions
  pub functions : (f : ℕ) (fn : Function ℕ K) → slice_get p.functions f ≡ Some fn → IsFunction p f fn
  pub claims : All (IsClaim p) p.claims
