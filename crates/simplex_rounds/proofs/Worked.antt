-- Rounds that are worked by hand: one column that keeps no fact, one more so that both together do, and an equation.
use Rattle.std.proofs.Common.{◌≡◌, ℤ, pos, neg_ℤ, refl, [], ◌∷◌}
use Rattle.wcc_base.specs.declared.compare.Compare.TheVariants.{AtMost, Equal}
use Rattle.code_flow_answer.specs.declared.bounded.Column.{Column}
use Rattle.simplex_tables.specs.declared.table.Table.{Table}
use Rattle.simplex_tables.specs.declared.running.Ending.TheVariants.{Second, First}
use Rattle.simplex_tables.specs.Runs.{ended}
use Rattle.simplex_rounds.specs.Rounds.{round_over}

abbrev column : ℤ → ℤ → Column
column v t = record { value = v; totals = t ∷ [] }

-- value 7 and total 2

abbrev one_end : Table
one_end = record {
  owns = 1 ∷ 0 ∷ [];
  rows = (pos 0 ∷ pos 2 ∷ pos 1 ∷ pos 0 ∷ pos 0 ∷ pos 0 ∷ []) ∷ (pos 2 ∷ pos 0 ∷ neg_ℤ (pos 1) ∷ pos 0 ∷ pos 0 ∷ pos 2 ∷ []) ∷ [];
  one = pos 0 ∷ pos 0 ∷ pos 1 ∷ pos 2 ∷ pos 0 ∷ neg_ℤ (pos 2) ∷ [];
  two = pos 0 ∷ pos 0 ∷ pos 7 ∷ pos 0 ∷ pos 2 ∷ pos 0 ∷ [];
}

one_column : round_over (AtMost ∷ []) 0 (column (pos 7) (pos 2) ∷ []) ≡ ended 1 (First one_end)
one_column = refl

-- and value 3 and total -1: a third of the first and two of the second

abbrev both_end : Table
both_end = record {
  owns = 1 ∷ 2 ∷ [];
  rows = (pos 1 ∷ pos 3 ∷ pos 0 ∷ pos 1 ∷ pos 0 ∷ pos 0 ∷ pos 1 ∷ []) ∷ (pos 2 ∷ pos 0 ∷ pos 3 ∷ neg_ℤ (pos 1) ∷ pos 0 ∷ pos 0 ∷ pos 2 ∷ []) ∷ [];
  one = pos 0 ∷ pos 0 ∷ neg_ℤ (pos 3) ∷ pos 1 ∷ pos 2 ∷ pos 0 ∷ neg_ℤ (pos 2) ∷ [];
  two = pos 13 ∷ pos 0 ∷ pos 0 ∷ pos 4 ∷ pos 0 ∷ pos 3 ∷ pos 13 ∷ [];
}

both_columns : round_over (AtMost ∷ []) 1 (column (pos 7) (pos 2) ∷ column (pos 3) (neg_ℤ (pos 1)) ∷ []) ≡ ended 3 (Second both_end)
both_columns = refl

-- of an equation, which has two sides: value 10 and total 3, value 4 and total -2

abbrev equal_end : Table
equal_end = record {
  owns = 1 ∷ 4 ∷ 2 ∷ [];
  rows = (pos 2 ∷ pos 5 ∷ pos 0 ∷ pos 1 ∷ pos 0 ∷ pos 0 ∷ pos 0 ∷ pos 2 ∷ [])
      ∷ (pos 0 ∷ pos 0 ∷ pos 0 ∷ pos 1 ∷ pos 1 ∷ pos 0 ∷ pos 0 ∷ pos 0 ∷ [])
      ∷ (pos 3 ∷ pos 0 ∷ pos 5 ∷ neg_ℤ (pos 1) ∷ pos 0 ∷ pos 0 ∷ pos 0 ∷ pos 3 ∷ []) ∷ [];
  one = pos 0 ∷ pos 0 ∷ neg_ℤ (pos 5) ∷ pos 1 ∷ pos 0 ∷ pos 3 ∷ pos 0 ∷ neg_ℤ (pos 3) ∷ [];
  two = pos 32 ∷ pos 0 ∷ pos 0 ∷ pos 6 ∷ pos 0 ∷ pos 0 ∷ pos 5 ∷ pos 32 ∷ [];
}

equation : round_over (Equal ∷ []) 0 (column (pos 10) (pos 3) ∷ column (pos 4) (neg_ℤ (pos 2)) ∷ []) ≡ ended 2 (Second equal_end)
equation = refl
