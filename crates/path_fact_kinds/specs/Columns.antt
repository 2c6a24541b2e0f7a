-- Columns: flows of a system without its facts, by their values and by what each fact makes of them (Dantzig and Wolfe 1960).
use Rattle.std.specs.Prelude.{◌≡◌, ℕ, ℤ, pos, ◌+ℤ◌, ◌-ℤ◌, ◌*ℤ◌, ◌≤ℤ◌, List, [], ◌∷◌}
use Rattle.wcc_base.specs.declared.compare.Compare.{Compare}
use Rattle.rv_core.specs.Table.{Table}
use Rattle.code_flow_system.specs.declared.claims.FactClaim.{FactClaim}
use Rattle.code_flow_system.specs.Systems.{System}
use Rattle.code_flow_system.specs.Counts.{Amounts, count}
use Rattle.code_flow_system.specs.Flows.{IsFlow, value}
use Rattle.code_flow_answer.specs.declared.bounded.Column.{Column}
use Rattle.path_flows.specs.Free.{free}
use Rattle.path_fact_kinds.specs.MixLaws.{total_of}

abbrev pub ops_of : List FactClaim → List Compare
ops_of [] = []
ops_of (f ∷ fs) = f.op ∷ ops_of fs

abbrev pub totals_of : List FactClaim → (ℕ → ℤ) → List ℤ
totals_of [] n = []
totals_of (f ∷ fs) n = total_of f n ∷ totals_of fs n

abbrev pub column_of : Table → System → Amounts → Column
column_of t s x = record { value = value t s x; totals = totals_of s.claims.facts (count x s.moves) }

-- multipliers and totals
abbrev pub multiplied : List ℤ → List ℤ → ℤ
multiplied [] ts = pos 0
multiplied (y ∷ ys) [] = pos 0
multiplied (y ∷ ys) (t ∷ ts) = (y *ℤ t) +ℤ multiplied ys ts

-- a value over a scale, less multiplied totals
abbrev pub weighed : ℕ → List ℤ → Column → ℤ
weighed scale ys c = (pos scale *ℤ c.value) -ℤ multiplied ys c.totals

-- the column is that of a flow of one unit
pub record IsColumn (t : Table) (s : System) (c : Column) : Type 0 where
  pub amounts : Amounts
  pub flow : IsFlow (free s) 1 amounts
  pub is : c ≡ column_of t s amounts

-- a best answer: no flow without the facts has more
pub record IsBest (t : Table) (s : System) (scale : ℕ) (ys : List ℤ) (c : Column) : Type 0 where
  pub column : IsColumn t s c
  pub best : (unit : ℕ) (x : Amounts) → IsFlow (free s) unit x → weighed scale ys (column_of t s x) ≤ℤ (pos unit *ℤ weighed scale ys c)
