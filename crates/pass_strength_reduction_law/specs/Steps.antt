-- Programs of which one reaches elements through pointers that step, where the other one finds their addresses by indexes.
use Rattle.std.specs.Prelude.{◌≡◌, ◌⊎◌, ℕ, suc, ◌<◌, ◌≤◌, ◌^◌, Bool, true, false, List, [], ◌∷◌, ◌++◌, length, map, Option, Some, None, All, Contains, option_to_list, slice_get}
use Rattle.wcc_base.specs.Budgets.{spare_room}
use Rattle.low_ir.specs.Code.{Base, Fixed, Through, Address, Plain, Instr, Do, Call, End, Block, Loop, Function, Note, Low}
use Rattle.low_ir.specs.declared.run.Value.{Value}
use Rattle.low_ir.specs.Effects.{dest}
use Rattle.low_ir.specs.Formed.{LeadsOn, NamesThere, RegistersWithin, addresses, end_reads, read_by, written_by}
use Rattle.low_ir.specs.Room.{room, weight}
use Rattle.low_ir.specs.Runs.{Bank, values, virtual, write_all}
use Rattle.pass_strength_reduction_law.specs.Knowing.{AlwaysGives, DoesTheSame, InstrTeaches, Keeps, Knowing, Teaches}

abbrev pub Code : Type 0
Code = List (Instr ℕ Note)

-- by the number of a function, with which arguments it may be called
abbrev pub Entries : Type 0
Entries = ℕ → List Value → Bool

-- where this is known, a call passes what its function may be called with
abbrev pub Passes : ℕ → Entries → Instr ℕ Note → Knowing → Type 0
Passes size entry (Do i) at = Unit {0}
Passes size entry (Call d f args note) at = (s : Bank) (xs : List Value) → Keeps size at s → values virtual s args ≡ Some xs → entry f xs ≡ true

-- by the number of a block, what is known as it begins
abbrev pub Beginnings : Type 0
Beginnings = ℕ → Knowing

-- registers that a function doesn't name are spare
abbrev pub IsNamed : (ℕ → Bool) → ℕ → Type 0
IsNamed spare r = spare r ≡ false

abbrev pub NamesNoSpare : (ℕ → Bool) → Instr ℕ Note → Type 0
NamesNoSpare spare i = All (IsNamed spare) (read_by i) × All (IsNamed spare) (option_to_list (written_by i))

abbrev pub BlockNamesNoSpare : (ℕ → Bool) → Block ℕ Note → Type 0
BlockNamesNoSpare spare b = All (NamesNoSpare spare) b.code × All (IsNamed spare) (end_reads b.end)

-- a claim with which a function accesses an array
pub record IsUsed (fn : Function ℕ Note) (claim : ℕ) : Type 0 where
  pub block : Block ℕ Note
  pub instr : Instr ℕ Note
  pub address : Address ℕ
  pub register : ℕ
  pub there : Contains fn.blocks block
  pub within : Contains block.code instr
  pub named : Contains (addresses instr) address
  pub is : address.base ≡ Through register claim

-- a claim that lists one array alone
pub record IsOfOne (claims : List (List ℕ)) (claim : ℕ) : Type 0 where
  pub object : ℕ
  pub is : slice_get claims claim ≡ Some (object ∷ [])

-- a new access has the claim of an old one, or that of one array
abbrev pub MayBegin : List (List ℕ) → Function ℕ Note → Base ℕ → Type 0
MayBegin claims fn (Fixed o) = Unit {0}
MayBegin claims fn (Through r claim) = IsUsed fn claim ⊎ IsOfOne claims claim

-- a block has no code
abbrev pub IsIdle : Option (Block ℕ Note) → Type 0
IsIdle None = Unit {0}
IsIdle (Some b) = b.code ≡ []

module _ (p q : Low) where
  -- what new instructions of a function may name
  pub record IsPlaced (fn : Function ℕ Note) (i : Plain ℕ) : Type 0 where
    pub registers : RegistersWithin {K = Note} fn.size (Do i)
    pub names : NamesThere {R = ℕ} {K = Note} q (Do i)
    pub begins : All (λ (a : Address ℕ). MayBegin q.claims fn a.base) (addresses {R = ℕ} {K = Note} (Do i))

  module _ (entry : Entries) (spare : ℕ → Bool) (out : Beginnings) (fn : Function ℕ Note) where
    -- both programs have the instruction
    pub record Carries (rest : Knowing → Code → Type 0) (j : Instr ℕ Note) (at : Knowing) (code : Code) : Type 0 where
      pub now : Knowing
      pub behind : Code
      pub is : code ≡ j ∷ behind
      pub teaches : InstrTeaches fn.size p.claims j at now
      pub passes : Passes fn.size entry j at
      pub goes_on : rest now behind

    -- the second program has another one, which does the same
    pub record Replaces (rest : Knowing → Code → Type 0) (j : Instr ℕ Note) (at : Knowing) (code : Code) : Type 0 where
      pub old : Plain ℕ
      pub new : Plain ℕ
      pub now : Knowing
      pub behind : Code
      pub is : code ≡ Do old ∷ behind
      pub becomes : j ≡ Do new
      pub into : dest new ≡ dest old
      pub placed : IsPlaced fn new
      pub same : DoesTheSame fn.size at p.claims old q.claims new
      pub teaches : Teaches fn.size p.claims old at now
      pub goes_on : rest now behind

    -- the second program has one more, which writes a spare register
    pub record Inserts (rest : Knowing → Code → Type 0) (j : Instr ℕ Note) (at : Knowing) (code : Code) : Type 0 where
      pub new : Plain ℕ
      pub register : ℕ
      pub now : Knowing
      pub becomes : j ≡ Do new
      pub into : dest new ≡ Some register
      pub spared : spare register ≡ true
      pub placed : IsPlaced fn new
      pub gives : AlwaysGives fn.size q.claims new register at now
      pub goes_on : rest now code

    -- a block ends in the same way, and what each block counts on to which it leads is known then
    pub record Ends (end new : End ℕ) (at : Knowing) (code : Code) : Type 0 where
      pub done : code ≡ []
      pub is : new ≡ end
      pub known : (n : ℕ) (s : Bank) → LeadsOn end n → Keeps fn.size at s → out n s ≡ true

    -- the rest of a block in the second program, and in the first
    abbrev pub Follows : End ℕ → End ℕ → Code → Knowing → Code → Type 0
    Follows end new [] at code = Ends end new at code
    Follows end new (j ∷ js) at code = Carries (Follows end new js) j at code ⊎ (Replaces (Follows end new js) j at code ⊎ Inserts (Follows end new js) j at code)

    -- the block of this number
    pub record BlockStepped (n : ℕ) (b c : Block ℕ Note) : Type 0 where
      pub mark : c.mark ≡ b.mark
      pub code : Follows b.end c.end c.code (out n) b.code

    -- blocks, of which the first one has this number
    abbrev pub BlocksStepped : ℕ → List (Block ℕ Note) → List (Block ℕ Note) → Type 0
    BlocksStepped n [] [] = Unit {0}
    BlocksStepped n [] (c ∷ cs) = ⊥
    BlocksStepped n (b ∷ bs) [] = ⊥
    BlocksStepped n (b ∷ bs) (c ∷ cs) = BlockStepped n b c × BlocksStepped (suc n) bs cs

  -- as a function begins, what is known of its arguments is known
  pub record FunctionStepped (entry : Entries) (f : ℕ) (fn gn : Function ℕ Note) : Type 0 where
    pub spare : ℕ → Bool
    pub out : Beginnings
    pub unnamed : All (BlockNamesNoSpare spare) fn.blocks
    pub first : (xs : List Value) (s : Bank) → entry f xs ≡ true → write_all virtual (Some (virtual.empty fn.size)) fn.parameters xs ≡ Some s → out 0 s ≡ true
    pub parameters : gn.parameters ≡ fn.parameters
    pub size : gn.size ≡ fn.size
    pub loops : gn.loops ≡ fn.loops
    -- a latch does nothing still but jump back
    pub latches : All (λ (l : Loop). IsIdle (slice_get gn.blocks l.latch)) fn.loops
    pub blocks : BlocksStepped entry spare out fn 0 fn.blocks gn.blocks

  -- functions, of which the first one has this number
  abbrev pub FunctionsStepped : Entries → ℕ → List (Function ℕ Note) → List (Function ℕ Note) → Type 0
  FunctionsStepped entry n [] [] = Unit {0}
  FunctionsStepped entry n [] (g ∷ gs) = ⊥
  FunctionsStepped entry n (f ∷ fs) [] = ⊥
  FunctionsStepped entry n (f ∷ fs) (g ∷ gs) = FunctionStepped entry n f g × FunctionsStepped entry (suc n) fs gs

-- whatever a program is made of, it may execute so many instructions
abbrev pub spare_weight : ℕ
spare_weight = 2 ^ 48

-- some arrays have claims of their own
abbrev pub claims_of : List ℕ → List (List ℕ)
claims_of os = map (λ o. o ∷ []) os

pub record IsStepped (p q : Low) : Type 0 where
  pub entry : Entries
  pub functions : FunctionsStepped p q entry 0 p.functions q.functions
  pub first : entry p.main [] ≡ true
  pub alone : List ℕ
  pub there : All (λ o. o < length p.objects) alone
  pub claims : q.claims ≡ p.claims ++ claims_of alone
  pub objects : q.objects ≡ p.objects
  pub main : q.main ≡ p.main
  pub marks : q.marks ≡ p.marks
  pub room : room q ≤ spare_room
  pub weight : weight q ≤ spare_weight

-- a program as it is, or with pointers that step
abbrev pub MayBeStepped : Low → Low → Type 0
MayBeStepped p q = (q ≡ p) ⊎ IsStepped p q
