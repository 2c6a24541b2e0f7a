-- What a search has so far, and what a round leads to.
use Rattle.std.specs.Prelude.{◌≡◌, ℕ, ◌+◌, ◌-◌, ◌<◌, ◌≤◌, ◌^◌, pos, ◌*ℤ◌, ◌≤ℤ◌, List, [], length, true, Some, IfSome, All}
use Rattle.rv_core.specs.Table.{Table}
use Rattle.code_flow_system.specs.declared.cert.Cert.{Cert}
use Rattle.code_flow_system.specs.declared.cert.Mark.TheVariants as marks
use Rattle.code_flow_system.specs.declared.shapes.LoopShape.{LoopShape}
use Rattle.code_flow_system.specs.declared.shapes.Span.{Span}
use Rattle.code_flow_system.specs.Systems.{System}
use Rattle.code_flow_system.specs.Certificates.{Accepts, IsInForm, potential}
use Rattle.code_flow_answer.specs.declared.bounded.Column.{Column}
use Rattle.simplex_rounds.specs.declared.pricing.Multipliers.{Multipliers}
use Rattle.simplex_tables.specs.declared.running.Ending.{Ending}
use Rattle.simplex_tables.specs.declared.running.Ending.TheVariants.{Second, First, TooWide, NoPivots, Unbounded}
use Rattle.simplex_tables.specs.Runs.{most_pivots}
use Rattle.simplex_tables.specs.declared.table.Table.{Table as Rows}
use Rattle.simplex_tables.specs.Rows.{entry}
use Rattle.simplex_tables.specs.Choices.{right}
use Rattle.simplex_rounds.specs.Multiplied.{second_multipliers, are_narrow}
use Rattle.simplex_rounds.specs.Rounds.{IsColumnOf}
use Rattle.simplex_laws.specs.RoundLaws.{IsOptimum, column_at}
use Rattle.simplex_rounds.specs.Multiplied.{objective_place}
use Rattle.path_fact_kinds.specs.Columns.{IsBest, ops_of}
use Rattle.path_fact_columns.specs.Answers.{flow_at, worth_at}
use Rattle.path_fact_kinds.specs.Columns.{column_of}
use Rattle.path_fact_columns.specs.Answers.{certificate_at}
use Rattle.path_fact_columns.specs.Adding.{AreAsked}
use Rattle.path_fact_columns.specs.OptimumLaws.{AreAnswers}
use Rattle.path_enum.specs.declared.asking.Asked.{Asked}
use Rattle.path_enum.specs.declared.asking.Asked.TheVariants.{NoFlow, Found}
use Rattle.path_enum.specs.declared.asking.Answered.{Answered}
use Rattle.path_enum.specs.declared.stepping.Step.{Step}
use Rattle.path_enum.specs.declared.stepping.Step.TheVariants.{Wide, Spent, Empty, Greatest, Goes}
use Rattle.path_fact_kinds.specs.Searched.{made_before, Follows, AreSearched}
use Rattle.path_fact_kinds.specs.Causes.{EndsWide}
use Rattle.path_fact_kinds.specs.Kinds.{IsBoundAlone}

pub record IsAccepted (t : Table) (s : System) (c : Cert) : Type 0 where
  pub form : IsInForm s.claims c
  pub accepts : Accepts t s c

-- a bound that isn't marked, of which the entry's potential isn't negative
pub record IsBound (t : Table) (s : System) (c : Cert) : Type 0 where
  pub accepted : IsAccepted t s c
  pub mark : c.mark ≡ marks.Neither
  pub entry : pos 0 ≤ℤ potential c s.entry

-- the answer at multipliers, with a flow
pub record IsAnswered (t : Table) (s : System) (ls : List LoopShape) (ps : List Span) (y : Multipliers) (a : Answered) : Type 0 where
  pub multipliers : a.multipliers ≡ y
  pub cert : a.cert ≡ certificate_at t s ls ps y.scale y.facts
  pub worth : a.worth ≡ worth_at t s ls ps y.scale y.facts
  pub positive : pos 0 ≤ℤ a.worth
  pub column : a.column ≡ column_of t s (flow_at t s ls ps y.scale y.facts)
  pub best : IsBest t s y.scale y.facts a.column
  pub each : IsColumnOf (length s.claims.facts) a.column
  pub bound : IfSome a.cert (IsBound t s)

abbrev pub IsAsked : Table → System → List LoopShape → List Span → Multipliers → Asked → Type 0
IsAsked t s ls ps y (NoFlow c) = IsAccepted t s c × (c.mark ≡ marks.Empty)
IsAsked t s ls ps y (Found a) = IsAnswered t s ls ps y a

-- there are columns, of which the first one has the greatest value, and few of them
pub record AreFirst (t : Table) (s : System) (cs : List Column) : Type 0 where
  pub some : 0 < length cs
  pub few : length cs ≤ 200
  pub best : IsBest t s 1 [] (column_at cs 0)
  pub each : All (IsColumnOf (length s.claims.facts)) cs

-- the answer at a round's multipliers doesn't improve on it
pub record IsStill (t : Table) (s : System) (ls : List LoopShape) (ps : List Span) (ys : List Multipliers) (cs : List Column) (b : Rows) (a : Answered) : Type 0 where
  pub answered : IsAnswered t s ls ps (second_multipliers (length cs) (ops_of s.claims.facts) b) a
  pub answers : AreAnswers t s ls ps ys cs
  pub optimum : IsOptimum cs (ops_of s.claims.facts) b
  pub narrow : are_narrow (length s.claims.loops + 1) (second_multipliers (length cs) (ops_of s.claims.facts) b) ≡ true
  pub still : (a.worth *ℤ entry b.two (objective_place (length cs) (ops_of s.claims.facts) 1)) ≤ℤ (right b.two *ℤ pos (second_multipliers (length cs) (ops_of s.claims.facts) b).scale)

-- the certificate at multipliers, if there is one, isn't less
abbrev pub IsNoLess : Table → System → List LoopShape → List Span → Cert → Multipliers → Type 0
IsNoLess t s ls ps c y = IfSome (certificate_at t s ls ps y.scale y.facts) (λ d. c.cycles ≤ d.cycles)

-- the answer without restrictions, with a bound that is no more
pub record IsBegun (t : Table) (s : System) (ls : List LoopShape) (ps : List Span) (a : Answered) : Type 0 where
  pub best : IsBest t s 1 [] a.column
  pub asked : AreAsked t s ls ps a.multipliers
  pub column : a.column ≡ column_of t s (flow_at t s ls ps a.multipliers.scale a.multipliers.facts)
  pub each : IsColumnOf (length s.claims.facts) a.column
  pub bound : (c : Cert) × (a.cert ≡ Some c) × IsBound t s c × (pos c.cycles ≤ℤ a.column.value) × IsNoLess t s ls ps c a.multipliers

-- an answer that becomes the next column after a round
pub record IsNext (t : Table) (s : System) (ls : List LoopShape) (ps : List Span) (cs : List Column) (e : Ending) (a : Answered) : Type 0 where
  pub follows : Follows t s (length cs) e a.column
  pub asked : AreAsked t s ls ps a.multipliers
  pub column : a.column ≡ column_of t s (flow_at t s ls ps a.multipliers.scale a.multipliers.facts)
  pub each : IsColumnOf (length s.claims.facts) a.column
  pub bound : IfSome a.cert (IsBound t s)
  pub cert : a.cert ≡ certificate_at t s ls ps a.multipliers.scale a.multipliers.facts

-- what a round over columns leads to, by its end
abbrev pub IsStep : Table → System → List LoopShape → List Span → List Column → Ending → Step → Type 0
IsStep t s ls ps cs e (Wide o) = EndsWide s cs e × IfSome o (IsBound t s)
IsStep t s ls ps cs e Spent = e ≡ NoPivots
IsStep t s ls ps cs e (Empty c) = IsAccepted t s c × (c.mark ≡ marks.Empty)
IsStep t s ls ps cs e (Greatest c) = IsAccepted t s c × (c.mark ≡ marks.Greatest)
IsStep t s ls ps cs e (Goes a) = IsNext t s ls ps cs e a

-- a last table has few rows
abbrev pub HasFewRows : Ending → Type 0
HasFewRows (Second b) = length b.rows ≤ 2 ^ 10
HasFewRows (First b) = Unit {0}
HasFewRows TooWide = Unit {0}
HasFewRows NoPivots = Unit {0}
HasFewRows Unbounded = Unit {0}

-- the columns are searched, they are those of the multipliers, so many pivots were made before the round over all of them, and a bound is kept that is no more than the first column's value
pub record IsState (t : Table) (s : System) (ls : List LoopShape) (ps : List Span) (cs : List Column) (ys : List Multipliers) (least : Cert) (made : ℕ) : Type 0 where
  pub searched : AreSearched t s cs
  pub few : length cs ≤ 200
  pub each : All (IsColumnOf (length s.claims.facts)) cs
  pub answers : AreAnswers t s ls ps ys cs
  pub pivots : made ≡ made_before (ops_of s.claims.facts) cs (length cs - 1)
  pub most : made ≤ most_pivots
  pub accepted : IsAccepted t s least
  pub alone : IsBoundAlone s cs least
  pub none_less : All (IsNoLess t s ls ps least) ys
