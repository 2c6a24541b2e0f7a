-- A run of the machine at a place of laid code.
use Rattle.std.specs.Prelude.{◌≡◌, ℕ, ◌%◌, ◌^◌, ◌<◌, ◌≤◌, true, false, List, [], ◌∷◌, ◌++◌, length, Option, Some, None, All, Contains}
use Rattle.rv_core.specs.Regions.{region_of}
use Rattle.rv_core.specs.Machine.{State, Running}
use Rattle.rv_core.specs.Runs.{Visit, Setup, mrun}
use Rattle.code_flow_system.specs.KeptRuns.{names_region}
use Rattle.low_ir.specs.declared.run.Began.{Began}
use Rattle.claims_definition.specs.Lines.{Access, line_of}
use Rattle.simulation_relation.specs.Noted.{Noted}
use Rattle.simulation_relation.specs.Layouts.{Layout, HasCode}

-- which blocks began at the addresses that were visited, the latest of which stands first
abbrev pub seen : Layout → List Visit → List Began
seen l [] = []
seen l (v ∷ vs) = seen l vs ++ l.begins v.at

-- which block begins with items that are still to be run
abbrev pub owed : Layout → ℕ → List Noted → List Began
owed l a [] = []
owed l a (x ∷ xs) = l.begins a

-- something is touched at an address of code, in a region that an access there may touch
pub record IsAccess (l : Layout) (a at : ℕ) : Type 0 where
  pub function : ℕ
  pub there : function ≤ length l.program.functions
  pub access : Access
  pub listed : Contains (l.accesses function) access
  pub here : access.at ≡ a
  pub names : names_region (line_of access) (region_of at) ≡ true

abbrev pub IsTouched : Layout → ℕ → Option ℕ → Type 0
IsTouched l a None = Unit {0}
IsTouched l a (Some at) = IsAccess l a at

-- what a visit touches, if anything
abbrev pub Touches : Layout → Visit → Type 0
Touches l v = IsTouched l v.at v.access

-- the function and the end of the block that is run, the blocks that began, and where calls are to return
pub record Course : Type 0 where
  pub function : ℕ
  pub stop : ℕ
  pub trace : List Began
  pub returns : List ℕ

-- from an address of code on, items stand up to the end of the block, and no block begins
pub record Rest (l : Layout) (f stop a : ℕ) (xs : List Noted) : Type 0 where
  pub aligned : a % 4 ≡ 0
  pub room : a ≤ 2 ^ 30
  pub code : HasCode l f stop a xs
  pub quiet : (b : ℕ) → a ≤ b → b < stop → l.begins b ≡ []

module _ (l : Layout) (s : Setup) where
  -- the state after n steps
  abbrev pub state : ℕ → State
  state n = (mrun s n).state

  -- the machine runs, and is to run these items
  pub record At (k : Course) (n : ℕ) (xs : List Noted) : Type 0 where
    pub running : (state n).ending ≡ Running
    pub count : length (state n).registers ≡ 32
    pub code : HasCode l k.function k.stop (state n).pc xs
    pub quiet : (b : ℕ) → (state n).pc < b → b < k.stop → l.begins b ≡ []
    pub events : seen l (mrun s n).visits ++ owed l (state n).pc xs ≡ k.trace
    pub returns : (mrun s n).places ≡ k.returns
    pub straight : (mrun s n).astray ≡ false
    pub inside : All (λ v. l.code.exit v.at ≡ false) (mrun s n).visits
    pub touches : All (Touches l) (mrun s n).visits
