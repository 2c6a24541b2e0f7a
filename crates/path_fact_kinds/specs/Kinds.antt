-- What a search answers beside its certificate.
use Rattle.std.specs.Prelude.{◌≡◌, ◌≢◌, ◌≤◌, pos, ◌≤ℤ◌, List, [], length, All}
use Rattle.rv_core.specs.Table.{Table}
use Rattle.code_flow_system.specs.declared.cert.Cert.{Cert}
use Rattle.code_flow_system.specs.declared.cert.Mark.TheVariants as marks
use Rattle.code_flow_system.specs.Systems.{System}
use Rattle.code_flow_system.specs.Certificates.{Accepts, IsInForm, potential}
use Rattle.code_flow_answer.specs.declared.bounded.Bounded.{Bounded}
use Rattle.code_flow_answer.specs.declared.bounded.Column.{Column}
use Rattle.code_flow_answer.specs.declared.bounded.Kind.{Kind}
use Rattle.code_flow_answer.specs.declared.bounded.Kind.TheVariants.{Greatest, Empty, Wide, Spent}
use Rattle.simplex_rounds.specs.Rounds.{IsColumnOf}
use Rattle.simplex_laws.specs.RoundLaws.{column_at}
use Rattle.path_fact_kinds.specs.Searched.{AreSearched}
use Rattle.path_fact_kinds.specs.Causes.{IsWide, IsSpent}

-- a bound alone: no mark, no negative potential of the entry, and no more than the value of the first column
pub record IsBoundAlone (s : System) (cs : List Column) (c : Cert) : Type 0 where
  pub mark : c.mark ≡ marks.Neither
  pub entry : pos 0 ≤ℤ potential c s.entry
  pub cycles : pos c.cycles ≤ℤ (column_at cs 0).value

-- the certificate says the same as the kind, or there is a cause
abbrev pub HasKind : Table → System → List Column → Cert → Kind → Type 0
HasKind t s cs c Greatest = c.mark ≡ marks.Greatest
HasKind t s cs c Empty = c.mark ≡ marks.Empty
HasKind t s cs c (Wide pivot) = IsBoundAlone s cs c × IsWide t s cs pivot
HasKind t s cs c (Spent columns pivots) = IsBoundAlone s cs c × IsSpent t s cs columns pivots

-- at most 200 columns, none without facts, and those that there are were searched
pub record HasColumns (t : Table) (s : System) (cs : List Column) : Type 0 where
  pub few : length cs ≤ 200
  pub none : s.claims.facts ≡ [] → cs ≡ []
  pub searched : cs ≢ [] → AreSearched t s cs
  pub each : All (IsColumnOf (length s.claims.facts)) cs

pub record IsFound (t : Table) (s : System) (b : Bounded) : Type 0 where
  pub form : IsInForm s.claims b.cert
  pub accepted : Accepts t s b.cert
  pub kind : HasKind t s b.columns b.cert b.kind
  pub columns : HasColumns t s b.columns
