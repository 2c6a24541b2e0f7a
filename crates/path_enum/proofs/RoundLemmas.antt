-- How many rows the last table of a round has, and how many pivots were made where none is left.
use Rattle.std.proofs.Common.{◌≡◌, ℕ, zero, suc, ◌+◌, ◌-◌, ◌*◌, ◌≤◌, ◌^◌, arith, refl, sym, ap, subst, List, [], ◌∷◌, length, Bool, true, false, cond, Option, Some, None, length-append}
use Rattle.wcc_base.specs.declared.compare.Compare.{Compare}
use Rattle.wcc_base.specs.declared.compare.Compare.TheVariants.{AtMost, AtLeast, Equal}
use Rattle.code_flow_answer.specs.declared.bounded.Column.{Column}
use Rattle.simplex_tables.specs.declared.table.Table.{Table}
use Rattle.simplex_tables.specs.declared.choosing.Choice.{Choice}
use Rattle.simplex_tables.specs.declared.running.Ending.TheVariants.{Second, First, NoPivots}
use Rattle.simplex_tables.specs.Choices.{in_first, entering, leaving}
use Rattle.simplex_tables.specs.Pivots.{pivoted}
use Rattle.simplex_tables.specs.Runs.{ends, by_table, by_row, by_variable, last_of, after, pivots}
use Rattle.simplex_rounds.specs.declared.starting.Side.{Side}
use Rattle.simplex_rounds.specs.Starts.{sides_from, side_rows, whole_row, started, variables}
use Rattle.simplex_rounds.specs.Rounds.{round_over}
use Rattle.simplex_rounds.specs.Multiplied.{side_count}
use Rattle.simplex_rounds.proofs.SideLemmas.{sides-long}
use Rattle.simplex_laws.specs.Tables.{row_at}
use Rattle.simplex_laws.proofs.PivotLemmas.{rows_long, turned_by}
use Rattle.path_enum.specs.Steps.{HasFewRows}

module _ (k : ℕ) where
  -- ---- rows

  ends_few : (b : Table) → length b.rows ≤ 2 ^ 10 → HasFewRows (ends b)
  ends_few b few = by_phase (in_first b)
    where
      by_phase : (p : Bool) → HasFewRows (cond p (First b) (Second b))
      by_phase true = tt
      by_phase false = few

  rows_few : (left made : ℕ) (b : Table) → length b.rows ≤ 2 ^ 10 → HasFewRows (pivots left k made b).ending
  rows_few zero made b few = by_last (entering k b)
    where
      by_last : (o : Option ℕ) → HasFewRows (last_of b o)
      by_last None = ends_few b few
      by_last (Some t) = tt
  rows_few (suc left) made b few = by_entering (entering k b) (λ c h. rows_few left (made + 1) c h)
    where
      by_entering : (o : Option ℕ) → ((c : Table) → length c.rows ≤ 2 ^ 10 → HasFewRows (pivots left k (made + 1) c).ending) → HasFewRows (after (λ c. pivots left k (made + 1) c) made (by_variable b o)).ending
      by_entering None go = ends_few b few
      by_entering (Some t) go = by_leaving (leaving t b)
        where
          by_leaving : (o : Option Choice) → HasFewRows (after (λ c. pivots left k (made + 1) c) made (by_row t b o)).ending
          by_leaving None = tt
          by_leaving (Some d) = by_pivot (pivoted t d.row b) refl
            where
              by_pivot : (o : Option Table) → pivoted t d.row b ≡ o → HasFewRows (after (λ c. pivots left k (made + 1) c) made (by_table o)).ending
              by_pivot None e = tt
              by_pivot (Some c) e = go c (let r = turned_by t d.row b c e in let l = rows_long t d.row (row_at b d.row) 0 b.rows c.rows r.rows in subst (λ n. n ≤ 2 ^ 10) (sym l) few)

  -- ---- pivots

  ends_some : (b : Table) → ends b ≡ NoPivots → ⊥
  ends_some b e = by_phase (in_first b) e
    where
      by_phase : (p : Bool) → cond p (First b) (Second b) ≡ NoPivots → ⊥
      by_phase true e = cc
      by_phase false e = cc

  more_made : (made left n : ℕ) → n ≡ (made + 1) + left → n ≡ made + suc left
  more_made made left n e = omega (arith, e)

  all_made : (left made : ℕ) (b : Table) → (pivots left k made b).ending ≡ NoPivots → (pivots left k made b).made ≡ made + left
  all_made zero made b e = omega arith
  all_made (suc left) made b e = by_entering (entering k b) (λ c h. all_made left (made + 1) c h) e
    where
      by_entering : (o : Option ℕ) → ((c : Table) → (pivots left k (made + 1) c).ending ≡ NoPivots → (pivots left k (made + 1) c).made ≡ (made + 1) + left) → (after (λ c. pivots left k (made + 1) c) made (by_variable b o)).ending ≡ NoPivots → (after (λ c. pivots left k (made + 1) c) made (by_variable b o)).made ≡ made + suc left
      by_entering None go e = absurd (ends_some b e)
      by_entering (Some t) go e = by_leaving (leaving t b) e
        where
          by_leaving : (o : Option Choice) → (after (λ c. pivots left k (made + 1) c) made (by_row t b o)).ending ≡ NoPivots → (after (λ c. pivots left k (made + 1) c) made (by_row t b o)).made ≡ made + suc left
          by_leaving None e = cc
          by_leaving (Some d) e = by_pivot (pivoted t d.row b) e
            where
              by_pivot : (o : Option Table) → (after (λ c. pivots left k (made + 1) c) made (by_table o)).ending ≡ NoPivots → (after (λ c. pivots left k (made + 1) c) made (by_table o)).made ≡ made + suc left
              by_pivot None e = cc
              by_pivot (Some c) e = more_made made left (pivots left k (made + 1) c).made (go c e)

-- ---- rounds

rows-long : (cs : List Column) (ss : List Side) (i : ℕ) (more : List Side) → length (side_rows cs ss i more) ≡ length more
rows-long cs ss i [] = refl
rows-long cs ss i (s ∷ more) = ap suc (rows-long cs ss (i + 1) more)

count_most : (os : List Compare) → side_count os ≤ 2 * length os
count_most [] = omega arith
count_most (AtMost ∷ os) = let r = count_most os in omega (arith, r)
count_most (AtLeast ∷ os) = let r = count_most os in omega (arith, r)
count_most (Equal ∷ os) = let r = count_most os in omega (arith, r)

started_few : (cs : List Column) (os : List Compare) → length os ≤ 32 → length (started cs (sides_from 0 os)).rows ≤ 2 ^ 10
started_few cs os few =
    let a = length-append (side_rows cs (sides_from 0 os) 0 (sides_from 0 os)) (whole_row (length cs) (length (sides_from 0 os)) ∷ []) in
    let r = rows-long cs (sides_from 0 os) 0 (sides_from 0 os) in
    let l = sides-long 0 os in
    let m = count_most os in omega (arith, a, r, l, m, few)

-- few facts make few rows
pub round_few : (os : List Compare) (made : ℕ) (cs : List Column) → length os ≤ 32 → HasFewRows (round_over os made cs).ending
round_few os made cs few = rows_few (variables cs (sides_from 0 os)) (10000 - made) made (started cs (sides_from 0 os)) (started_few cs os few)

-- where no pivot is left, all were made
pub round_made : (os : List Compare) (made : ℕ) (cs : List Column) → made ≤ 10000 → (round_over os made cs).ending ≡ NoPivots → (round_over os made cs).made ≡ 10000
round_made os made cs le e = let m = all_made (variables cs (sides_from 0 os)) (10000 - made) made (started cs (sides_from 0 os)) e in omega (arith, m, le)
