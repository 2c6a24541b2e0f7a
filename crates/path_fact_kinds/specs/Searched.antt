-- Columns that are searched: each is a best answer, and improves on the round over those before it (Dantzig and Wolfe 1960; Bland 1977).
use Rattle.std.specs.Prelude.{ℕ, zero, suc, ◌+◌, ◌-◌, ◌<◌, ℤ, neg_ℤ, ◌-ℤ◌, ◌*ℤ◌, ◌<ℤ◌, List, [], length, take}
use Rattle.rv_core.specs.Table.{Table}
use Rattle.wcc_base.specs.declared.compare.Compare.{Compare}
use Rattle.code_flow_system.specs.Systems.{System}
use Rattle.code_flow_answer.specs.declared.bounded.Column.{Column}
use Rattle.simplex_tables.specs.declared.running.Ending.{Ending}
use Rattle.simplex_tables.specs.declared.running.Ending.TheVariants.{Second, First, TooWide, NoPivots, Unbounded}
use Rattle.simplex_tables.specs.declared.running.Ended.{Ended}
use Rattle.simplex_rounds.specs.Rounds.{round_over}
use Rattle.simplex_tables.specs.Choices.{right}
use Rattle.simplex_tables.specs.Rows.{entry}
use Rattle.simplex_tables.specs.declared.table.Table.{Table as Rows}
use Rattle.simplex_rounds.specs.Multiplied.{duals, objective_place, scaled, tail_of, second_multipliers}
use Rattle.simplex_laws.specs.RoundLaws.{column_at}
use Rattle.path_fact_kinds.specs.Columns.{IsBest, multiplied, ops_of}

-- how many pivots are made before the round of that number, the first one being that over one column
abbrev pub made_before : List Compare → List Column → ℕ → ℕ
made_before os cs zero = 0
made_before os cs (suc r) = (round_over os (made_before os cs r) (take (r + 1) cs)).made

abbrev pub round_at : List Compare → List Column → ℕ → Ended
round_at os cs r = round_over os (made_before os cs r) (take (r + 1) cs)

-- the round over all of the columns
abbrev pub last_round : List Compare → List Column → Ended
last_round os cs = round_at os cs (length cs - 1)

-- a column improves on a round by the round's own reduced cost

abbrev pub ImprovesSecond : ℕ → List Compare → Rows → Column → Type 0
ImprovesSecond k os b c = right b.two <ℤ ((entry b.two (objective_place k os 1) *ℤ c.value) -ℤ multiplied (duals (k + 1) os b.two) c.totals)

abbrev pub ImprovesFirst : ℕ → List Compare → Rows → Column → Type 0
ImprovesFirst k os b c = right b.one <ℤ neg_ℤ (multiplied (duals (k + 1) os b.one) c.totals)

-- the column is best at the multipliers of the end of a round over k columns, and improves on the round
abbrev pub Follows : Table → System → ℕ → Ending → Column → Type 0
Follows t s k (Second b) c = IsBest t s (second_multipliers k (ops_of s.claims.facts) b).scale (second_multipliers k (ops_of s.claims.facts) b).facts c × ImprovesSecond k (ops_of s.claims.facts) b c
Follows t s k (First b) c = IsBest t s 0 (tail_of (scaled k (ops_of s.claims.facts) 0 b.one)) c × ImprovesFirst k (ops_of s.claims.facts) b c
Follows t s k TooWide c = ⊥
Follows t s k NoPivots c = ⊥
Follows t s k Unbounded c = ⊥

-- the first column has the greatest value, and each later one follows the round over those before it
pub record AreSearched (t : Table) (s : System) (cs : List Column) : Type 0 where
  pub some : 0 < length cs
  pub first : IsBest t s 1 [] (column_at cs 0)
  pub later : (r : ℕ) → r + 1 < length cs → Follows t s (r + 1) (round_at (ops_of s.claims.facts) cs r).ending (column_at cs (r + 1))
