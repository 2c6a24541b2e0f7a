-- A round over columns.
use Rattle.std.specs.Prelude.{◌≡◌, ℕ, ◌-◌, ◌<◌, ◌^◌, unsigned_abs, List, length, All}
use Rattle.wcc_base.specs.declared.compare.Compare.{Compare}
use Rattle.code_flow_answer.specs.declared.bounded.Column.{Column}
use Rattle.simplex_tables.specs.declared.running.Ended.{Ended}
use Rattle.simplex_tables.specs.Runs.{pivots, most_pivots}
use Rattle.simplex_rounds.specs.Starts.{sides_from, started, variables}

-- a round over some columns, after so many pivots of the rounds before
abbrev pub round_over : List Compare → ℕ → List Column → Ended
round_over os made cs = pivots (most_pivots - made) (variables cs (sides_from 0 os)) made (started cs (sides_from 0 os))

-- a column whose numbers can be negated, with a total for each fact
pub record IsColumnOf (n : ℕ) (c : Column) : Type 0 where
  pub totals : length c.totals ≡ n
  pub value : unsigned_abs c.value < 2 ^ 120
  pub small : All (λ z. unsigned_abs z < 2 ^ 120) c.totals
