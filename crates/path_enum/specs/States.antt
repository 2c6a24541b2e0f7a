-- What a round makes of a search.
use Rattle.std.specs.Prelude.{◌≡◌, ◌≢◌, ℕ, ◌<◌, List, [], ◌∷◌, ◌++◌, length, All}
use Rattle.rv_core.specs.Table.{Table}
use Rattle.code_flow_system.specs.declared.shapes.LoopShape.{LoopShape}
use Rattle.code_flow_system.specs.declared.shapes.Span.{Span}
use Rattle.code_flow_system.specs.Systems.{System}
use Rattle.code_flow_answer.specs.declared.bounded.Kind.TheVariants.{Spent}
use Rattle.path_enum.specs.declared.asking.Answered.{Answered}
use Rattle.path_enum.specs.declared.searching.State.{State}
use Rattle.path_enum.specs.declared.searching.Turn.{Turn}
use Rattle.path_enum.specs.declared.searching.Turn.TheVariants.{Ends, Goes}
use Rattle.path_enum.specs.Marks.{found, least_of}
use Rattle.path_enum.specs.Steps.{IsNoLess, IsState}
use Rattle.path_enum.specs.Least.{IsEnded}

abbrev pub IsGoing : Table → System → List LoopShape → List Span → State → Type 0
IsGoing t s ls ps g = IsState t s ls ps g.columns.items g.asked.items g.least g.made × All (IsNoLess t s ls ps g.least) g.tried.items

-- with one more column, and the lesser bound
pub record IsGrown (g : State) (a : Answered) (count : ℕ) (h : State) : Type 0 where
  pub columns : h.columns.items ≡ g.columns.items ++ a.column ∷ []
  pub asked : h.asked.items ≡ g.asked.items ++ a.multipliers ∷ []
  pub least : h.least ≡ least_of g.least a.cert
  pub made : h.made ≡ count
  pub tried : h.tried.items ≡ g.tried.items

-- there are 200 columns already, or there is one more
abbrev pub IsWithAnother : State → Answered → ℕ → Turn → Type 0
IsWithAnother g a count (Ends b) = (length g.columns.items ≡ 200) × (b ≡ found (least_of g.least a.cert) (Spent (length g.columns.items) count) g.columns.items)
IsWithAnother g a count (Goes h) = (length g.columns.items ≢ 200) × IsGrown g a count h

-- the search has found an answer, or it goes on with more columns
abbrev pub IsTurn : Table → System → List LoopShape → List Span → State → Turn → Type 0
IsTurn t s ls ps g (Ends b) = IsEnded t s ls ps b
IsTurn t s ls ps g (Goes h) = IsGoing t s ls ps h × (length g.columns.items < length h.columns.items)
