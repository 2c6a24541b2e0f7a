-- A function in two programs, and how the code of a block is made of the old.
use Rattle.std.specs.Prelude.{◌≡◌, ℕ, Bool, true, false, List, [], ◌∷◌, ◌++◌, length, map, Option, Some, None, slice_get, slice_index_or, Vec}
use Rattle.std.specs.Global.{Global}
use Rattle.low_ir.specs.Code.{Function, Note, Low, Instr, End}
use Rattle.low_ir.specs.View.{claim_of}
use Rattle.pass_strength_reduction_law.specs.Knowing.{Knowing}
use Rattle.pass_strength_reduction_law.specs.Steps.{Beginnings, Code, Entries, Follows, claims_of}
use Rattle.pass_dataflow_facts.specs.declared.facts.Fact.{Fact}
use Rattle.pass_dataflow_facts.specs.declared.proposals.Change.{Change}
use Rattle.pass_dataflow_facts.specs.Facts.{all_true}

-- a function may be called with whatever arguments
abbrev pub anything : Entries
anything f xs = true

-- whether a register is spare, by a table
abbrev pub is_spare : List Bool → ℕ → Bool
is_spare spare r = slice_index_or spare r false

-- what is known as blocks begin, by a table
abbrev pub facts_of : Option Change → List Fact
facts_of None = []
facts_of (Some c) = c.facts.items

abbrev pub facts_at : List Change → ℕ → List Fact
facts_at changes n = facts_of (slice_get changes n)

abbrev pub beginnings : List Change → Beginnings
beginnings changes n = all_true (facts_at changes n)

-- a function in two programs
pub record Scene : Type 0 where
  pub old : Low
  pub new : Low
  pub fn : Function ℕ Note
  pub spare : List Bool
  pub changes : List Change

-- the claims and the arrays of the programs are these, and the function has so many registers, of which some are spare
pub record Fits (claims : List (Vec ℕ Global)) (alone : List ℕ) (objects registers : ℕ) (spare : List Bool) (sc : Scene) : Type 0 where
  pub before : sc.old.claims ≡ map claim_of claims
  pub after : sc.new.claims ≡ map claim_of claims ++ claims_of alone
  pub there : length sc.new.objects ≡ objects
  pub size : sc.fn.size ≡ registers
  pub is : sc.spare ≡ spare

-- the rest of a block, in the new program and in the old
abbrev pub Goes : Scene → End ℕ → Code → Knowing → Code → Type 0
Goes sc end js at code = Follows sc.old sc.new anything (is_spare sc.spare) (beginnings sc.changes) sc.fn end end js at code

-- an instruction stands for one of the old program
abbrev pub Takes : Scene → Instr ℕ Note → Instr ℕ Note → Knowing → Knowing → Type 0
Takes sc j i at now = (end : End ℕ) (js behind : Code) → Goes sc end js now behind → Goes sc end (j ∷ js) at (i ∷ behind)

-- or comes besides
abbrev pub Adds : Scene → Instr ℕ Note → Knowing → Knowing → Type 0
Adds sc j at now = (end : End ℕ) (js code : Code) → Goes sc end js now code → Goes sc end (j ∷ js) at code

-- an instruction before the rest of the old code, which takes one of it or none
abbrev pub IsStep : Scene → Bool → Instr ℕ Note → Code → Knowing → Knowing → Type 0
IsStep sc false j code at now = Adds sc j at now
IsStep sc true j [] at now = ⊥
IsStep sc true j (i ∷ code) at now = Takes sc j i at now

-- what is left of the old code behind it
abbrev pub left_of : {X : Type 0} → Bool → List X → List X
left_of false xs = xs
left_of true [] = []
left_of true (x ∷ xs) = xs

-- the code of a block so far: with what follows for its rest it follows for all of it
abbrev pub SoFar : Scene → Knowing → Code → Knowing → Code → Code → Type 0
SoFar sc begun whole known rest made = (end : End ℕ) (js : Code) → Goes sc end js known rest → Goes sc end (made ++ js) begun whole

-- a claim lists one object alone
abbrev pub ListsAlone : List (List ℕ) → ℕ → ℕ → Type 0
ListsAlone claims claim o = slice_get claims claim ≡ Some (o ∷ [])
