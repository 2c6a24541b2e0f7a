-- The least bound: where it is a bound alone, no certificate is less that was made at the multipliers of a column, or at others that were tried.
use Rattle.std.specs.Prelude.{List, All}
use Rattle.rv_core.specs.Table.{Table}
use Rattle.code_flow_system.specs.declared.cert.Cert.{Cert}
use Rattle.code_flow_system.specs.declared.shapes.LoopShape.{LoopShape}
use Rattle.code_flow_system.specs.declared.shapes.Span.{Span}
use Rattle.code_flow_system.specs.Systems.{System}
use Rattle.code_flow_answer.specs.declared.bounded.Bounded.{Bounded}
use Rattle.code_flow_answer.specs.declared.bounded.Column.{Column}
use Rattle.code_flow_answer.specs.declared.bounded.Kind.{Kind}
use Rattle.code_flow_answer.specs.declared.bounded.Kind.TheVariants.{Greatest, Empty, Wide, Spent}
use Rattle.simplex_rounds.specs.declared.pricing.Multipliers.{Multipliers}
use Rattle.path_fact_columns.specs.OptimumLaws.{AreAnswers}
use Rattle.path_fact_kinds.specs.Kinds.{IsFound}
use Rattle.path_enum.specs.Steps.{IsNoLess}

-- the columns are the answers at the first multipliers
pub record IsLeastOf (t : Table) (s : System) (ls : List LoopShape) (ps : List Span) (cs : List Column) (c : Cert) : Type 0 where
  pub asked : List Multipliers
  pub tried : List Multipliers
  pub answers : AreAnswers t s ls ps asked cs
  pub none_asked : All (IsNoLess t s ls ps c) asked
  pub none_tried : All (IsNoLess t s ls ps c) tried

abbrev pub HasLeast : Table → System → List LoopShape → List Span → List Column → Cert → Kind → Type 0
HasLeast t s ls ps cs c Greatest = Unit {0}
HasLeast t s ls ps cs c Empty = Unit {0}
HasLeast t s ls ps cs c (Wide pivot) = IsLeastOf t s ls ps cs c
HasLeast t s ls ps cs c (Spent columns pivots) = IsLeastOf t s ls ps cs c

abbrev pub IsLeast : Table → System → List LoopShape → List Span → Bounded → Type 0
IsLeast t s ls ps b = HasLeast t s ls ps b.columns b.cert b.kind

abbrev pub IsEnded : Table → System → List LoopShape → List Span → Bounded → Type 0
IsEnded t s ls ps b = IsFound t s b × IsLeast t s ls ps b
