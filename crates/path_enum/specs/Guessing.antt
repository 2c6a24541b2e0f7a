-- What the second search has so far, and what guessed multipliers lead to.
use Rattle.std.specs.Prelude.{◌≡◌, ℕ, ◌≤◌, List, All}
use Rattle.rv_core.specs.Table.{Table}
use Rattle.code_flow_system.specs.declared.cert.Mark.TheVariants as marks
use Rattle.code_flow_system.specs.declared.shapes.LoopShape.{LoopShape}
use Rattle.code_flow_system.specs.declared.shapes.Span.{Span}
use Rattle.code_flow_system.specs.Systems.{System}
use Rattle.path_fact_columns.specs.Adding.{AreAsked}
use Rattle.path_enum.specs.declared.guessing.Guesses.{Guesses}
use Rattle.path_enum.specs.declared.guessing.Walked.{Walked}
use Rattle.path_enum.specs.declared.guessing.Walked.TheVariants.{Empty, Greatest, Goes, Stays}
use Rattle.path_enum.specs.Steps.{IsAccepted, IsBound, IsNoLess}

-- all were asked, and no certificate of these is less than the one that is kept
pub record AreGuesses (t : Table) (s : System) (ls : List LoopShape) (ps : List Span) (g : Guesses) : Type 0 where
  pub asked : All (AreAsked t s ls ps) g.asked.items
  pub least : IsBound t s g.least
  pub none_less : All (IsNoLess t s ls ps g.least) g.asked.items

-- the bound that is kept isn't more than so many cycles
abbrev pub IsWalked : Table → System → List LoopShape → List Span → ℕ → Walked → Type 0
IsWalked t s ls ps n (Empty c) = IsAccepted t s c × (c.mark ≡ marks.Empty)
IsWalked t s ls ps n (Greatest c) = IsAccepted t s c × (c.mark ≡ marks.Greatest)
IsWalked t s ls ps n (Goes g) = AreGuesses t s ls ps g × (g.least.cycles ≤ n)
IsWalked t s ls ps n (Stays g) = AreGuesses t s ls ps g × (g.least.cycles ≤ n)
