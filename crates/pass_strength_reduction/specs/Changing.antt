-- Blocks and functions that were changed.
use Rattle.std.specs.Prelude.{◌≡◌, ℕ, List, ◌++◌, drop, length, map, Vec}
use Rattle.std.specs.Global.{Global}
use Rattle.std.specs.List.{AllZip}
use Rattle.low_ir.specs.Code.{Block, Function, Low, Note}
use Rattle.low_ir.specs.View.{claim_of}
use Rattle.pass_strength_reduction_law.specs.Steps.{BlocksStepped, FunctionStepped, claims_of}
use Rattle.pass_dataflow_facts.specs.declared.facts.Fact.{Fact}
use Rattle.pass_dataflow_facts.specs.Facts.{all_true}
use Rattle.pass_strength_reduction.specs.Scenes.{Goes, Scene, anything, beginnings, is_spare}

-- a block, where these facts are known as it begins
pub record BlockChanged (sc : Scene) (facts : List Fact) (b c : Block ℕ Note) : Type 0 where
  pub mark : c.mark ≡ b.mark
  pub end : c.end ≡ b.end
  pub code : Goes sc b.end c.code (all_true facts) b.code

-- blocks, of which the first one has this number
abbrev pub BlocksChanged : Scene → ℕ → List (Block ℕ Note) → List (Block ℕ Note) → Type 0
BlocksChanged sc n bs cs = BlocksStepped sc.old sc.new anything (is_spare sc.spare) (beginnings sc.changes) sc.fn n bs cs

-- the claims and the arrays of two programs
pub record Surrounds (claims : List (Vec ℕ Global)) (alone : List ℕ) (objects : ℕ) (p q : Low) : Type 0 where
  pub before : p.claims ≡ map claim_of claims
  pub after : q.claims ≡ map claim_of claims ++ claims_of alone
  pub there : length q.objects ≡ objects

-- whichever number it has, in whichever programs of these claims
abbrev pub IsChanged : List (Vec ℕ Global) → List ℕ → ℕ → Function ℕ Note → Function ℕ Note → Type 0
IsChanged claims alone objects fn gn = (p q : Low) → Surrounds claims alone objects p q → (f : ℕ) → FunctionStepped p q anything f fn gn

-- blocks so far: with what is made of the rest, all are made
abbrev pub BlocksSoFar : Scene → List (Block ℕ Note) → ℕ → List (Block ℕ Note) → Type 0
BlocksSoFar sc bs n made = (cs : List (Block ℕ Note)) → BlocksChanged sc n (drop n bs) cs → BlocksChanged sc 0 bs (made ++ cs)

-- functions beside each other so far: with what stands beside the rest all of it does
abbrev pub FunctionsSoFar : List (Vec ℕ Global) → List ℕ → ℕ → List (Function ℕ Note) → List (Function ℕ Note) → List (Function ℕ Note) → Type 0
FunctionsSoFar claims alone objects whole rest made = (gs : List (Function ℕ Note)) → AllZip (IsChanged claims alone objects) rest gs → AllZip (IsChanged claims alone objects) whole (made ++ gs)
