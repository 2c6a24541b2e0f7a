-- No column of a round improves on its end: each is a solution of the first rows by itself, with slacks and the artificial objective.
use Rattle.std.proofs.Common.{◌≡◌, ℕ, suc, ◌+◌, ◌<◌, ℤ, pos, neg_ℤ, ◌+ℤ◌, ◌-ℤ◌, ◌*ℤ◌, ◌≤ℤ◌, arith, refl, sym, ap, ◌∙◌, subst, List, [], ◌∷◌, length, inl, inr, true}
use Rattle.std.specs.Prelude.{slice_index_or}
use lib.IntN.{*ℤ_comm}
use Rattle.std.proofs.lemmas.Int.{ints}
use Rattle.frac128.specs.Terms.{Terms, coefficient, applied}
use Rattle.frac128.proofs.SignedLemmas.{neg-mul, sub-mul}
use Rattle.wcc_base.specs.declared.compare.Compare.{Compare}
use Rattle.wcc_base.specs.declared.compare.Compare.TheVariants.{AtMost, AtLeast, Equal}
use Rattle.code_flow_answer.specs.declared.bounded.Column.{Column}
use Rattle.simplex_tables.specs.Rows.{Row, entry, dot}
use Rattle.simplex_rounds.specs.declared.starting.Side.{Side}
use Rattle.simplex_tables.specs.declared.table.Table.{Table}
use Rattle.simplex_rounds.specs.Starts.{sides_from, sided, side_row, whole_row, first_row, own_slacks, started, variables}
use Rattle.simplex_tables.specs.Choices.{in_first, right}
use Rattle.simplex_tables.specs.Shapes.{NoneNegative}
use Rattle.simplex_rounds.specs.Multiplied.{duals}
use Rattle.simplex_laws.specs.Tables.{row_at, Solves, IsTable}
use Rattle.simplex_laws.specs.RoundLaws.{weighed, column_at}
use Rattle.simplex_laws.proofs.TableLemmas.{right_is}
use Rattle.simplex_laws.proofs.BasisLemmas.{dot_at, number_at, basis_from, sum_none, sum_single}
use Rattle.simplex_laws.proofs.StartLemmas.{no_side, own_slacks-long, own_slacks_at, side_at, whole_at, side_column, side_own, side_other, side_right, even_column, even_slack, even_right, each_row}

neg_first : (t e : ℤ) → (neg_ℤ t *ℤ e) ≡ neg_ℤ (e *ℤ t)
neg_first t e = neg-mul t e ∙ ap neg_ℤ (*ℤ_comm t e)

neg_twice : (t e : ℤ) → (neg_ℤ (neg_ℤ t) *ℤ e) ≡ neg_ℤ (neg_ℤ e *ℤ t)
neg_twice t e = let a = neg-mul (neg_ℤ t) e in let b = neg-mul t e in let c = neg-mul e t in let d = *ℤ_comm t e in omega (arith, ints)

-- the slacks of a column by itself, at a row's numbers, are its totals at the row's dual values
sides_sum : (r : Row) (c : Column) (f : ℕ → ℤ) (m i n : ℕ) (os : List Compare) (ts : Row) → length ts ≡ length os → ((j : ℕ) → entry c.totals (n + j) ≡ entry ts j) →
    ((j : ℕ) → j < length (sides_from n os) → f (m + j) ≡ neg_ℤ (sided (slice_index_or (sides_from n os) j no_side) c)) →
    applied (basis_from f m (own_slacks i (sides_from n os))) (entry r) ≡ neg_ℤ (weighed (duals i os r) ts)
sides_sum r c f m i n [] ts long same h = refl
sides_sum r c f m i n (o ∷ os) [] long same h = absurd (omega (arith, long))
sides_sum r c f m i n (AtMost ∷ os) (t ∷ ts) long same h =
    let rest = sides_sum r c f (m + 1) (i + 1) (n + 1) os ts (omega (arith, long)) (λ j. ap (entry c.totals) {x = (n + 1) + j} {y = n + suc j} (omega arith) ∙ same (suc j)) (λ j lt. ap f {x = (m + 1) + j} {y = m + suc j} (omega arith) ∙ h (suc j) (omega (arith, lt))) in
    let a : entry c.totals n ≡ t = ap (entry c.totals) {x = n} {y = n + 0} (omega arith) ∙ same 0 in
    let b : f m ≡ neg_ℤ (entry c.totals n) = ap f {x = m} {y = m + 0} (omega arith) ∙ h 0 (omega arith) in
    let d : f m *ℤ entry r i ≡ neg_ℤ (entry r i *ℤ t) = ap (λ (z : ℤ). z *ℤ entry r i) (b ∙ ap neg_ℤ a) ∙ neg_first t (entry r i) in omega (arith, ints)
sides_sum r c f m i n (AtLeast ∷ os) (t ∷ ts) long same h =
    let rest = sides_sum r c f (m + 1) (i + 1) (n + 1) os ts (omega (arith, long)) (λ j. ap (entry c.totals) {x = (n + 1) + j} {y = n + suc j} (omega arith) ∙ same (suc j)) (λ j lt. ap f {x = (m + 1) + j} {y = m + suc j} (omega arith) ∙ h (suc j) (omega (arith, lt))) in
    let a : entry c.totals n ≡ t = ap (entry c.totals) {x = n} {y = n + 0} (omega arith) ∙ same 0 in
    let b : f m ≡ neg_ℤ (neg_ℤ (entry c.totals n)) = ap f {x = m} {y = m + 0} (omega arith) ∙ h 0 (omega arith) in
    let d : f m *ℤ entry r i ≡ neg_ℤ (neg_ℤ (entry r i) *ℤ t) = ap (λ (z : ℤ). z *ℤ entry r i) (b ∙ ap (λ (z : ℤ). neg_ℤ (neg_ℤ z)) a) ∙ neg_twice t (entry r i) in omega (arith, ints)
sides_sum r c f m i n (Equal ∷ os) (t ∷ ts) long same h =
    let rest = sides_sum r c f ((m + 1) + 1) ((i + 1) + 1) (n + 1) os ts (omega (arith, long)) (λ j. ap (entry c.totals) {x = (n + 1) + j} {y = n + suc j} (omega arith) ∙ same (suc j)) (λ j lt. ap f {x = ((m + 1) + 1) + j} {y = m + suc (suc j)} (omega arith) ∙ h (suc (suc j)) (omega (arith, lt))) in
    let q = ap (λ k. weighed (duals k os r) ts) {x = (i + 1) + 1} {y = i + 2} (omega arith) in
    let a : entry c.totals n ≡ t = ap (entry c.totals) {x = n} {y = n + 0} (omega arith) ∙ same 0 in
    let b : f m ≡ neg_ℤ (entry c.totals n) = ap f {x = m} {y = m + 0} (omega arith) ∙ h 0 (omega arith) in
    let b2 : f (m + 1) ≡ neg_ℤ (neg_ℤ (entry c.totals n)) = h 1 (omega arith) in
    let d : f m *ℤ entry r i ≡ neg_ℤ (entry r i *ℤ t) = ap (λ (z : ℤ). z *ℤ entry r i) (b ∙ ap neg_ℤ a) ∙ neg_first t (entry r i) in
    let d2 : f (m + 1) *ℤ entry r (i + 1) ≡ neg_ℤ (neg_ℤ (entry r (i + 1)) *ℤ t) = ap (λ (z : ℤ). z *ℤ entry r (i + 1)) (b2 ∙ ap (λ (z : ℤ). neg_ℤ (neg_ℤ z)) a) ∙ neg_twice t (entry r (i + 1)) in
    let g = sub-mul (entry r i) (entry r (i + 1)) t in
    let k = neg-mul (entry r (i + 1)) t in omega (arith, ints)

module _ (cs : List Column) (os : List Compare) (i : ℕ) (inside : i < length cs) where
  abbrev ss : List Side
  ss = sides_from 0 os

  abbrev w : ℕ
  w = variables cs (sides_from 0 os)

  abbrev slack : ℕ → ℤ
  slack j = neg_ℤ (sided (slice_index_or (sides_from 0 os) j no_side) (column_at cs i))

  -- the column's weight is 1, the slacks make up for its totals, and the right side stands for -1
  abbrev alone : Terms
  alone = (suc i, pos 1) ∷ (variables cs (sides_from 0 os) + 2, neg_ℤ (pos 1)) ∷ basis_from slack 0 (own_slacks (length cs + 1) (sides_from 0 os))

  dot_alone : (r : Row) → dot r (coefficient alone) ≡ (entry r (suc i) -ℤ entry r (variables cs (sides_from 0 os) + 2)) +ℤ applied (basis_from slack 0 (own_slacks (length cs + 1) (sides_from 0 os))) (entry r)
  dot_alone r = dot_at r alone ∙ first (entry r (suc i)) (entry r (variables cs (sides_from 0 os) + 2)) (applied (basis_from slack 0 (own_slacks (length cs + 1) (sides_from 0 os))) (entry r))
    where
      first : (a b s : ℤ) → ((pos 1 *ℤ a) +ℤ ((neg_ℤ (pos 1) *ℤ b) +ℤ s)) ≡ ((a -ℤ b) +ℤ s)
      first a b s = omega (arith, ints)

  slacks_none : (r : Row) → ((u : ℕ) → u < length ss → entry r ((length cs + 1) + u) ≡ pos 0) → applied (basis_from slack 0 (own_slacks (length cs + 1) (sides_from 0 os))) (entry r) ≡ pos 0
  slacks_none r h = sum_none slack (entry r) 0 (own_slacks (length cs + 1) ss) (λ j lt. let k : j < length ss = (let e = own_slacks-long (length cs + 1) ss in omega (arith, lt, e)) in ap (entry r) (own_slacks_at (length cs + 1) ss j k) ∙ h j k)

  solves : Solves (coefficient alone) (started cs ss)
  solves a h = elim (each_row cs ss a h) [
    | inl lt ↦ subst (λ r. dot r (coefficient alone) ≡ pos 0) (sym (side_at cs ss a lt)) (side a lt)
    | inr e ↦ subst (λ k. dot (row_at (started cs ss) k) (coefficient alone) ≡ pos 0) (sym e) (subst (λ r. dot r (coefficient alone) ≡ pos 0) (sym (whole_at cs ss)) whole)
  ]
    where
      whole : dot (whole_row (length cs) (length ss)) (coefficient alone) ≡ pos 0
      whole =
          let d = dot_alone (whole_row (length cs) (length ss)) in
          let x = even_column cs ss (pos 1) (pos 1) (pos 0) (pos 0) (pos 1) i inside in
          let y = even_right cs ss (pos 1) (pos 1) (pos 0) (pos 0) (pos 1) in
          let z = slacks_none (whole_row (length cs) (length ss)) (λ u hu. even_slack cs ss (pos 1) (pos 1) (pos 0) (pos 0) (pos 1) u hu) in omega (arith, ints)

      side : (a : ℕ) → a < length ss → dot (side_row cs ss a (slice_index_or ss a no_side)) (coefficient alone) ≡ pos 0
      side a lt =
          let r = side_row cs ss a (slice_index_or ss a no_side) in
          let d = dot_alone (side_row cs ss a (slice_index_or ss a no_side)) in
          let x = side_column cs ss a lt i inside in
          let y = side_right cs ss a lt in
          let l = own_slacks-long (length cs + 1) ss in
          let one = sum_single slack (entry (side_row cs ss a (slice_index_or ss a no_side))) 0 (own_slacks (length cs + 1) ss) a (omega (arith, lt, l))
          (λ j hj ne. ap (entry (side_row cs ss a (slice_index_or ss a no_side))) (own_slacks_at (length cs + 1) ss j (omega (arith, hj, l))) ∙ side_other cs ss a lt j (omega (arith, hj, l)) ne) in
          let own = ap (entry (side_row cs ss a (slice_index_or ss a no_side))) (own_slacks_at (length cs + 1) ss a lt) ∙ side_own cs ss a lt in
          let p : slack (0 + a) *ℤ entry (side_row cs ss a (slice_index_or ss a no_side)) (number_at (own_slacks (length cs + 1) ss) a) ≡ slack (0 + a) *ℤ pos 1 = ap (λ (z : ℤ). slack (0 + a) *ℤ z) own in
          let q : slack (0 + a) *ℤ pos 1 ≡ slack a = times_one (0 + a) a (omega arith) in omega (arith, ints)
        where
          times_one : (u a : ℕ) → u ≡ a → slack u *ℤ pos 1 ≡ slack a
          times_one u a e = ap (λ k. slack k *ℤ pos 1) e ∙ one (slack a)
            where
              one : (z : ℤ) → z *ℤ pos 1 ≡ z
              one z = omega (arith, ints)

  first_none : dot (first_row (length cs) (length ss)) (coefficient alone) ≡ pos 0
  first_none =
      let d = dot_alone (first_row (length cs) (length ss)) in
      let x = even_column cs ss (pos 0) (neg_ℤ (pos 1)) (pos 1) (pos 0) (neg_ℤ (pos 1)) i inside in
      let y = even_right cs ss (pos 0) (neg_ℤ (pos 1)) (pos 1) (pos 0) (neg_ℤ (pos 1)) in
      let z = slacks_none (first_row (length cs) (length ss)) (λ u hu. even_slack cs ss (pos 0) (neg_ℤ (pos 1)) (pos 1) (pos 0) (neg_ℤ (pos 1)) u hu) in omega (arith, ints)

  module _ (b : Table) (is : IsTable (variables cs ss) (started cs ss) b) (first : in_first b ≡ true) (none : NoneNegative (variables cs ss) b.one) (long : length (column_at cs i).totals ≡ length os) where
    at_last : neg_ℤ (weighed (duals (length cs + 1) os b.one) (column_at cs i).totals) ≤ℤ right b.one
    at_last =
        let z = (is.first first).forth (coefficient alone) solves first_none in
        let d = dot_alone b.one in
        let s = sides_sum b.one (column_at cs i) slack 0 (length cs + 1) 0 os (column_at cs i).totals long (λ j. ap (entry (column_at cs i).totals) {x = 0 + j} {y = j} (omega arith)) (λ j lt. ap slack {x = 0 + j} {y = j} (omega arith)) in
        let p = none (suc i) (omega arith) (omega (arith, inside)) in
        let r = right_is (variables cs ss) b.one is.shape.one in omega (arith, ints)

pub none_improves : (cs : List Column) (os : List Compare) (b : Table) → IsTable (variables cs (sides_from 0 os)) (started cs (sides_from 0 os)) b → in_first b ≡ true → NoneNegative (variables cs (sides_from 0 os)) b.one → (i : ℕ) → i < length cs → length (column_at cs i).totals ≡ length os → neg_ℤ (weighed (duals (length cs + 1) os b.one) (column_at cs i).totals) ≤ℤ right b.one
none_improves cs os b is first none i lt long = at_last cs os i lt b is first none long
