-- A round ends with an optimum, or shows that no weights keep the facts.
use Rattle.std.proofs.Common.{◌≡◌, ◌≢◌, ℕ, zero, suc, ◌+◌, ◌-◌, ◌*◌, ◌≤◌, ◌<◌, ℤ, pos, neg_ℤ, ◌+ℤ◌, ◌*ℤ◌, ◌≤ℤ◌, ◌<ℤ◌, arith, refl, sym, ap, ◌∙◌, subst, List, [], ◌∷◌, length, take, drop, All, inl, inr, ◌⊎◌, Bool, true, false, cond, Option, Some, None, unsigned_abs}
use Rattle.std.specs.Prelude.{slice_index_or, replicate}
use Rattle.std.specs.Int.RustNames.{int_lt}
use lib.IntN.{*ℤ_comm}
use Rattle.std.proofs.Math.IntN.{zero-*ℤ}
use Rattle.std.proofs.Math.Nat.{mul_comm, mul_assoc}
use Rattle.std.proofs.lemmas.Int.{ints, by_lt_z}
use Rattle.std.proofs.lemmas.Bool.Decides.{nat_tests, eqb_tells}
use Rattle.std.proofs.lemmas.List.Elements.{All-head, All-tail}
use Rattle.frac128.specs.Terms.{applied}
use Rattle.frac128.proofs.SignedLemmas.{mul-le, mul_at_least, mul_positive, mul-neg, mul_assoc as mul_assoc_z, le_of_mul-le}
use Rattle.wcc_base.specs.declared.compare.Compare.{Compare}
use Rattle.code_flow_answer.specs.declared.bounded.Column.{Column}
use Rattle.simplex_tables.specs.Rows.{Row, entry, dot}
use Rattle.simplex_rounds.specs.declared.starting.Side.{Side}
use Rattle.simplex_tables.specs.declared.table.Table.{Table}
use Rattle.simplex_tables.specs.declared.choosing.Choice.{Choice}
use Rattle.simplex_rounds.specs.declared.weighing.Weight.{Weight}
use Rattle.simplex_tables.specs.declared.running.Ending.TheVariants.{Second, First}
use Rattle.simplex_rounds.specs.Starts.{sides_from, sided, started, variables, side_totals, side_row, whole_row, first_row, second_row}
use Rattle.simplex_tables.specs.Choices.{in_first, objective, first_negative, entering, right, leaving}
use Rattle.simplex_tables.specs.Shapes.{NoneNegative, HasEnded}
use Rattle.simplex_tables.specs.Pivots.{pivoted}
use Rattle.simplex_tables.specs.Runs.{ends, by_table, by_row, by_variable, next, last_of, after, pivots}
use Rattle.simplex_rounds.specs.Rounds.{IsColumnOf}
use Rattle.simplex_rounds.specs.Multiplied.{objective_place}
use Rattle.simplex_rounds.specs.Weighted.{weights_of, numerator}
use Rattle.simplex_tables.proofs.ShapeLemmas.{has_ended}
use Rattle.simplex_rounds.proofs.SideLemmas.{variables_are}
use Rattle.simplex_laws.specs.Tables.{row_at, Solves, HasFirst, IsTable}
use Rattle.simplex_laws.specs.RoundLaws.{no_column, column_at, over, IsCommon, IsOptimum, IsInfeasible, EndsWell, RoundsEndWell}
use Rattle.simplex_laws.proofs.PivotLemmas.{some_same}
use Rattle.simplex_laws.proofs.QuotientLemmas.{none_left}
use Rattle.simplex_laws.proofs.TableLemmas.{all_at, all_from, among_at, among_of, right_is, kept_next}
use Rattle.simplex_laws.proofs.ListedLemmas.{none_improves}
use Rattle.simplex_laws.proofs.BasisLemmas.{number_at, basis_from, sum_single, sum_split}
use Rattle.simplex_laws.proofs.StartLemmas.{no_side, start_table, parts, part_one, part_two, many-long, many_at, totals-long, totals_at, count, side_at, whole_at, side_column, side_own, side_other, side_two, side_right, even_column, even_slack, even_one, even_two, even_right, value_column, value_slack, value_two, value_right}
use Rattle.simplex_laws.proofs.EndLemmas.{size_of, cancel, Place, IsArtificial, IsColumn, IsSlack, place_of, Fits, row_in, transfer, weights_fit, signs_of, SideKept, facts_kept}
use Rattle.simplex_laws.proofs.SolutionLemmas.{common, own_number, factor, factor_is, factor_positive, solution, at_row, solves, solves_one, never_unbounded}

swap : (x y z : ℤ) → (x *ℤ y) *ℤ z ≡ (x *ℤ z) *ℤ y
swap x y z = mul_assoc_z x y z ∙ (ap (λ (w : ℤ). x *ℤ w) (*ℤ_comm y z) ∙ sym (mul_assoc_z x z y))

product : (a b : ℕ) → pos a *ℤ pos b ≡ pos (a * b)
product a b = omega (arith, ints)

times_zero : (z : ℤ) → z *ℤ pos 0 ≡ pos 0
times_zero z = *ℤ_comm z (pos 0) ∙ zero-*ℤ z

one_times : (z : ℤ) → z *ℤ pos 1 ≡ z
one_times z = omega (arith, ints)

both_positive : (a b : ℕ) → 0 < a → 0 < b → 0 < a * b
both_positive a b x y = let k = mul_positive (pos a) (pos b) (omega (arith, ints, x)) (omega (arith, ints, y)) in let p = product a b in omega (arith, ints)

-- weights see a function at their columns alone
on_columns : (k m : ℕ) (f g : ℕ → ℤ) (ws : List Weight) → All (λ w. (w.column < k) × (0 < w.bottom)) ws → ((i : ℕ) → i < k → f i ≡ g i) → applied (over m ws) f ≡ applied (over m ws) g
on_columns k m f g [] h same = refl
on_columns k m f g (w ∷ ws) h same =
    let a = All-head (λ (w : Weight). (w.column < k) × (0 < w.bottom)) w ws h in
    let r = on_columns k m f g ws (All-tail (λ (w : Weight). (w.column < k) × (0 < w.bottom)) w ws h) same in
    let e = ap (λ (z : ℤ). pos (numerator m w) *ℤ z) (same w.column a.0) in omega (arith, ints)

-- a sum of lesser products is less
sum_least : (f : ℕ → ℤ) (g h : ℕ → ℤ) (n : ℕ) (os : List ℕ) → ((j : ℕ) → j < length os → (f (n + j) *ℤ g (number_at os j)) ≤ℤ (f (n + j) *ℤ h (number_at os j))) → applied (basis_from f n os) g ≤ℤ applied (basis_from f n os) h
sum_least f g h n [] k = omega (arith, ints)
sum_least f g h n (o ∷ os) k =
    let r = sum_least f g h (n + 1) os (λ j lt. subst (λ (m : ℕ). (f m *ℤ g (number_at os j)) ≤ℤ (f m *ℤ h (number_at os j))) {x = n + suc j} {y = (n + 1) + j} (omega arith) (k (suc j) (omega (arith, lt)))) in
    let e = subst (λ (m : ℕ). (f m *ℤ g o) ≤ℤ (f m *ℤ h o)) {x = n + 0} {y = n} (omega arith) (k 0 (omega arith)) in omega (arith, ints)

module _ (cs : List Column) (ss : List Side) (b : Table) (is : IsTable (variables cs ss) (started cs ss) b) where
  owns_in : length b.owns ≡ length b.rows
  owns_in = is.shape.owns

  place : (j : ℕ) → j < length b.owns → Place (length cs) (length ss) (number_at b.owns j)
  place j lt = place_of (length cs) (length ss) (number_at b.owns j) (is.small j (omega (arith, lt, owns_in)))

  row_right : (j : ℕ) → j < length b.rows → right (row_at b j) ≡ entry (row_at b j) (variables cs ss + 2)
  row_right j h = right_is (variables cs ss) (row_at b j) (all_at (λ r. length r ≡ variables cs ss + 3) b.rows [] is.shape.rows j h)

  two_right : right b.two ≡ entry b.two (variables cs ss + 2)
  two_right = right_is (variables cs ss) b.two is.shape.two

  abbrev all : ℕ
  all = (common (variables cs ss) (started cs ss) b is).all

  all_positive : 0 < (common (variables cs ss) (started cs ss) b is).all
  all_positive = (common (variables cs ss) (started cs ss) b is).positive

  -- ---- the second phase

  module _ (ended : in_first b ≡ false) (m : ℕ) (shared : IsCommon m (weights_of (length cs) b.owns b.rows)) where
    abbrev d : ℕ
    d = unsigned_abs (entry b.two (variables cs ss + 1))

    d_is : (entry b.two (variables cs ss + 1) ≡ pos (unsigned_abs (entry b.two (variables cs ss + 1)))) × (0 < unsigned_abs (entry b.two (variables cs ss + 1)))
    d_is = size_of (entry b.two (variables cs ss + 1)) is.two_positive

    abbrev x : ℕ
    x = m * unsigned_abs (entry b.two (variables cs ss + 1))

    abbrev q : ℕ
    q = (common (variables cs ss) (started cs ss) b is).all * unsigned_abs (entry b.two (variables cs ss + 1))

    abbrev z : ℤ
    z = pos ((common (variables cs ss) (started cs ss) b is).all * m) *ℤ entry b.two (variables cs ss + 2)

    abbrev v : ℕ → ℤ
    v = solution (variables cs ss) (started cs ss) b is x (variables cs ss + 1) z

    abbrev f : ℕ → ℤ
    f = factor (variables cs ss) (started cs ss) b is x

    -- all the same products
    same_product : (a m d : ℕ) → (a * d) * m ≡ a * (m * d)
    same_product a m d = mul_assoc a d m ∙ ap (λ i. a * i) (mul_comm d m)

    in_rows : Solves v b
    in_rows = solves (variables cs ss) (started cs ss) b is x (variables cs ss + 1) z is.rows_two

    in_two : dot b.two v ≡ pos 0
    in_two = solves_one (variables cs ss) (started cs ss) b is x (variables cs ss + 1) z b.two is.two_own
        (let e = ap (λ (y : ℤ). z *ℤ y) d_is.0 in
        let s = swap (pos (all * m)) (entry b.two (variables cs ss + 2)) (pos d) in
        let p = product (all * m) d in
        let r = ap pos (mul_assoc all m d) in
        let k = ap (λ (y : ℤ). y *ℤ entry b.two (variables cs ss + 2)) (p ∙ r) in
        e ∙ (s ∙ k))

    in_start : Solves v (started cs ss)
    in_start = is.back v in_rows

    fits : (j : ℕ) → j < length b.rows → Fits q m (f (0 + j)) (number_at b.owns j) (row_in b.rows j)
    fits j h = subst (λ i. Fits q m (f i) (number_at b.owns j) (row_in b.rows j)) {x = j} {y = 0 + j} (omega arith) (record {
      own = is.own j h;
      side = subst (λ (y : ℤ). pos 0 ≤ℤ y) (sym (row_right j h)) (is.right j h);
      is = (let a = factor_is (variables cs ss) (started cs ss) b is x j h in
          let e = row_right j h in
          let p = product q m in
          let r : pos (q * m) ≡ pos (all * x) = ap pos (same_product all m d) in
          let c = mul_assoc_z (pos q) (pos m) (right (row_at b j)) in
          let k = ap (λ (y : ℤ). y *ℤ right (row_at b j)) (p ∙ r) in
          let k2 = ap (λ (y : ℤ). pos (all * x) *ℤ y) e in omega (arith, ints));
    })

    moved : (g : ℕ → ℤ) → ((j : ℕ) → j < length b.owns → (number_at b.owns j ≡ 0) ⊎ (length cs < number_at b.owns j) → g (number_at b.owns j) ≡ pos 0) → applied (basis_from f 0 b.owns) g ≡ pos q *ℤ applied (over m (weights_of (length cs) b.owns b.rows)) (λ i. g (suc i))
    moved g zeros = transfer (length cs) q m g f 0 b.owns b.rows owns_in fits zeros shared.divides

    q_positive : 0 < q
    q_positive = both_positive all d all_positive d_is.1

    -- no own variable is the artificial one
    none_first : (j : ℕ) → j < length b.owns → number_at b.owns j ≡ 0 → ⊥
    none_first j lt e = differ (in_first b) ended (among_of 0 b.owns j lt e)
      where
        differ : (t : Bool) → t ≡ false → t ≡ true → ⊥
        differ true e f = cc
        differ false e f = cc

    -- behind the columns there are slacks alone
    behind : (j : ℕ) → j < length b.owns → length cs < number_at b.owns j → (u : ℕ) × (u < length ss) × (number_at b.owns j ≡ (length cs + 1) + u)
    behind j lt far = elim (place j lt) [
      | IsArtificial e ↦ absurd (omega (arith, far, e))
      | IsColumn u lu e ↦ absurd (omega (arith, far, e, lu))
      | IsSlack u lu e ↦ (u, lu, e)
    ]

    fit : All (λ w. (w.column < length cs) × (0 < w.bottom)) (weights_of (length cs) b.owns b.rows)
    fit = weights_fit (length cs) q m (λ i. pos 0) b.owns b.rows

    whole : applied (over m (weights_of (length cs) b.owns b.rows)) (λ i. pos 1) ≡ pos m
    whole =
        let a = at_row (variables cs ss) (started cs ss) b is x (variables cs ss + 1) z (whole_row (length cs) (length ss)) in
        let s = subst (λ r. dot r v ≡ pos 0) (whole_at cs ss) (in_start (length ss) (let n = count cs ss in omega (arith, n))) in
        let e1 = ap (λ (y : ℤ). z *ℤ y) (even_two cs ss (pos 1) (pos 1) (pos 0) (pos 0) (pos 1)) in
        let e2 = ap (λ (y : ℤ). pos (all * x) *ℤ y) (even_right cs ss (pos 1) (pos 1) (pos 0) (pos 0) (pos 1)) in
        let e3 = times_zero z in let e4 = one_times (pos (all * x)) in
        let t = moved (entry (whole_row (length cs) (length ss))) (λ j lt o. elim o [
          | inl e ↦ absurd (none_first j lt e)
          | inr far ↦ let k = behind j lt far in ap (entry (whole_row (length cs) (length ss))) k.2 ∙ even_slack cs ss (pos 1) (pos 1) (pos 0) (pos 0) (pos 1) k.0 k.1
        ]) in
        let c = on_columns (length cs) m (λ i. entry (whole_row (length cs) (length ss)) (suc i)) (λ i. pos 1) (weights_of (length cs) b.owns b.rows) fit (λ i lt. even_column cs ss (pos 1) (pos 1) (pos 0) (pos 0) (pos 1) i lt) in
        let c2 = ap (λ (y : ℤ). pos q *ℤ y) c in
        let p = product q m in let r : pos (q * m) ≡ pos (all * x) = ap pos (same_product all m d) in
        cancel q (applied (over m (weights_of (length cs) b.owns b.rows)) (λ i. pos 1)) (pos m) q_positive (omega (arith, ints))

    value : (entry b.two (variables cs ss + 1) *ℤ applied (over m (weights_of (length cs) b.owns b.rows)) (λ i. (column_at cs i).value)) ≡ (pos m *ℤ right b.two)
    value =
        let ws = weights_of (length cs) b.owns b.rows in
        let a = at_row (variables cs ss) (started cs ss) b is x (variables cs ss + 1) z (second_row cs (length ss)) in
        let s = is.two_back v in_rows in_two in
        let e1 = ap (λ (y : ℤ). z *ℤ y) (value_two cs ss) in
        let e2 = ap (λ (y : ℤ). pos (all * x) *ℤ y) (value_right cs ss) in
        let e3 = one_times z in let e4 = times_zero (pos (all * x)) in
        let t = moved (entry (second_row cs (length ss))) (λ j lt o. elim o [
          | inl e ↦ ap (entry (second_row cs (length ss))) e
          | inr far ↦ let k = behind j lt far in ap (entry (second_row cs (length ss))) k.2 ∙ value_slack cs ss k.0 k.1
        ]) in
        let c = on_columns (length cs) m (λ i. entry (second_row cs (length ss)) (suc i)) (λ i. neg_ℤ (column_at cs i).value) ws fit (λ i lt. value_column cs ss i lt) in
        let n = negated ws in
        let c2 = ap (λ (y : ℤ). pos q *ℤ y) (c ∙ n) in
        let n2 = mul-neg (pos q) (applied (over m ws) (λ i. (column_at cs i).value)) in
        let p = product all d in
        let k1 = mul_assoc_z (pos all) (pos d) (applied (over m ws) (λ i. (column_at cs i).value)) in
        let k2 = ap (λ (y : ℤ). y *ℤ applied (over m ws) (λ i. (column_at cs i).value)) p in
        let p2 = product all m in
        let k3 = mul_assoc_z (pos all) (pos m) (entry b.two (variables cs ss + 2)) in
        let k4 = ap (λ (y : ℤ). y *ℤ entry b.two (variables cs ss + 2)) p2 in
        let g = cancel all (pos d *ℤ applied (over m ws) (λ i. (column_at cs i).value)) (pos m *ℤ entry b.two (variables cs ss + 2)) all_positive (omega (arith, ints)) in
        let h1 = ap (λ (y : ℤ). y *ℤ applied (over m ws) (λ i. (column_at cs i).value)) d_is.0 in
        let h2 = ap (λ (y : ℤ). pos m *ℤ y) two_right in
        omega (arith, ints)
      where
        negated : (ws : List Weight) → applied (over m ws) (λ i. neg_ℤ (column_at cs i).value) ≡ neg_ℤ (applied (over m ws) (λ i. (column_at cs i).value))
        negated [] = refl
        negated (w ∷ ws) = let r = negated ws in let e = mul-neg (pos (numerator m w)) (column_at cs w.column).value in omega (arith, ints)

    -- a side's totals, without its slack
    abbrev flat : Side → Row
    flat s = parts (pos 0) (pos 0) (pos 0) (pos 0) (side_totals s cs) (replicate (length ss) (pos 0)) (length cs) (length ss) (totals-long s cs) (many-long (length ss) (pos 0))

    flat_column : (s : Side) (u : ℕ) → u < length cs → entry (flat s) (suc u) ≡ sided s (column_at cs u)
    flat_column s u lt = part_one (pos 0) (pos 0) (pos 0) (pos 0) (side_totals s cs) (replicate (length ss) (pos 0)) (length cs) (length ss) (totals-long s cs) (many-long (length ss) (pos 0)) u lt ∙ totals_at s cs u lt

    flat_slack : (s : Side) (u : ℕ) → u < length ss → entry (flat s) ((length cs + 1) + u) ≡ pos 0
    flat_slack s u lt = part_two (pos 0) (pos 0) (pos 0) (pos 0) (side_totals s cs) (replicate (length ss) (pos 0)) (length cs) (length ss) (totals-long s cs) (many-long (length ss) (pos 0)) u lt ∙ many_at (length ss) (pos 0) u lt

    side_kept : (i : ℕ) → i < length ss → SideKept cs (over m (weights_of (length cs) b.owns b.rows)) (slice_index_or ss i no_side)
    side_kept i h =
        let ws = weights_of (length cs) b.owns b.rows in
        let s = slice_index_or ss i no_side in
        let a = at_row (variables cs ss) (started cs ss) b is x (variables cs ss + 1) z (side_row cs ss i (slice_index_or ss i no_side)) in
        let k = subst (λ r. dot r v ≡ pos 0) (side_at cs ss i h) (in_start i (let n = count cs ss in omega (arith, n, h))) in
        let e1 = ap (λ (y : ℤ). z *ℤ y) (side_two cs ss i h) in
        let e2 = ap (λ (y : ℤ). pos (all * x) *ℤ y) (side_right cs ss i h) in
        let e3 = times_zero z in let e4 = times_zero (pos (all * x)) in
        let l = sum_least f (entry (flat (slice_index_or ss i no_side))) (entry (side_row cs ss i (slice_index_or ss i no_side))) 0 b.owns lesser in
        let t = moved (entry (flat (slice_index_or ss i no_side))) (λ j lt o. elim o [
          | inl e ↦ ap (entry (flat (slice_index_or ss i no_side))) e
          | inr far ↦ let r = behind j lt far in ap (entry (flat (slice_index_or ss i no_side))) r.2 ∙ flat_slack (slice_index_or ss i no_side) r.0 r.1
        ]) in
        let c = on_columns (length cs) m (λ u. entry (flat (slice_index_or ss i no_side)) (suc u)) (λ u. sided (slice_index_or ss i no_side) (column_at cs u)) (weights_of (length cs) b.owns b.rows) fit (λ u lt. flat_column (slice_index_or ss i no_side) u lt) in
        let c2 = ap (λ (y : ℤ). pos q *ℤ y) c in
        let g1 = *ℤ_comm (pos q) (applied (over m (weights_of (length cs) b.owns b.rows)) (λ u. sided (slice_index_or ss i no_side) (column_at cs u))) in
        let g2 = zero-*ℤ (pos q) in
        let qp = q_positive in
        le_of_mul-le (applied (over m (weights_of (length cs) b.owns b.rows)) (λ u. sided (slice_index_or ss i no_side) (column_at cs u))) (pos 0) (pos q) (omega (arith, ints, qp)) (omega (arith, ints))
      where
        lesser : (j : ℕ) → j < length b.owns → (f (0 + j) *ℤ entry (flat (slice_index_or ss i no_side)) (number_at b.owns j)) ≤ℤ (f (0 + j) *ℤ entry (side_row cs ss i (slice_index_or ss i no_side)) (number_at b.owns j))
        lesser j lt = subst (λ n. (f n *ℤ entry (flat (slice_index_or ss i no_side)) (number_at b.owns j)) ≤ℤ (f n *ℤ entry (side_row cs ss i (slice_index_or ss i no_side)) (number_at b.owns j))) {x = j} {y = 0 + j} (omega arith) (elim (place j lt) [
          | IsArtificial e ↦ absurd (none_first j lt e)
          | IsColumn u lu e ↦
              let n1 = ap (entry (flat (slice_index_or ss i no_side))) e ∙ flat_column (slice_index_or ss i no_side) u lu in
              let n2 = ap (entry (side_row cs ss i (slice_index_or ss i no_side))) e ∙ side_column cs ss i h u lu in
              let k = ap (λ (y : ℤ). f j *ℤ y) (n1 ∙ sym n2) in omega (arith, ints)
          | IsSlack u lu e ↦
              let n1 = ap (entry (flat (slice_index_or ss i no_side))) e ∙ flat_slack (slice_index_or ss i no_side) u lu in
              let k = ap (λ (y : ℤ). f j *ℤ y) n1 in
              let y = times_zero (f j) in
              let p = mul_at_least (f j) (entry (side_row cs ss i (slice_index_or ss i no_side)) (number_at b.owns j)) (factor_positive (variables cs ss) (started cs ss) b is x j (omega (arith, lt, owns_in))) (slack_number u lu e) in omega (arith, ints)
        ])
          where
            slack_number : (u : ℕ) → u < length ss → number_at b.owns j ≡ (length cs + 1) + u → pos 0 ≤ℤ entry (side_row cs ss i (slice_index_or ss i no_side)) (number_at b.owns j)
            slack_number u lu e = subst (λ o. pos 0 ≤ℤ entry (side_row cs ss i (slice_index_or ss i no_side)) o) (sym e) (elim (eqb_tells u i) [
              | inl k ↦ let n = side_own cs ss i h in subst (λ y. pos 0 ≤ℤ entry (side_row cs ss i (slice_index_or ss i no_side)) ((length cs + 1) + y)) (sym k.1) (omega (arith, ints))
              | inr k ↦ let n = side_other cs ss i h u lu k.1 in omega (arith, ints)
            ])

    all_kept : All (SideKept cs (over m (weights_of (length cs) b.owns b.rows))) ss
    all_kept = all_from (SideKept cs (over m (weights_of (length cs) b.owns b.rows))) ss no_side side_kept

  -- ---- the first phase

  module _ (first : in_first b ≡ true) where
    old : HasFirst (variables cs ss) (started cs ss) b
    old = is.first first

    one_size : (entry b.one (variables cs ss) ≡ pos (unsigned_abs (entry b.one (variables cs ss)))) × (0 < unsigned_abs (entry b.one (variables cs ss)))
    one_size = size_of (entry b.one (variables cs ss)) old.positive

    abbrev x1 : ℕ
    x1 = unsigned_abs (entry b.one (variables cs ss))

    abbrev z1 : ℤ
    z1 = pos (common (variables cs ss) (started cs ss) b is).all *ℤ entry b.one (variables cs ss + 2)

    abbrev v1 : ℕ → ℤ
    v1 = solution (variables cs ss) (started cs ss) b is x1 (variables cs ss) z1

    abbrev f1 : ℕ → ℤ
    f1 = factor (variables cs ss) (started cs ss) b is x1

    rows_solve : Solves v1 b
    rows_solve = solves (variables cs ss) (started cs ss) b is x1 (variables cs ss) z1 old.rows

    one_solves : dot b.one v1 ≡ pos 0
    one_solves = solves_one (variables cs ss) (started cs ss) b is x1 (variables cs ss) z1 b.one old.own
        (let e = ap (λ (y : ℤ). z1 *ℤ y) one_size.0 in
        let s = swap (pos all) (entry b.one (variables cs ss + 2)) (pos x1) in
        let p = product all x1 in
        let k = ap (λ (y : ℤ). y *ℤ entry b.one (variables cs ss + 2)) p in
        e ∙ (s ∙ k))

    -- the row of the artificial variable
    art : (i : ℕ) × (i < length b.owns) × (number_at b.owns i ≡ 0)
    art = among_at 0 b.owns first

    art_sum : applied (basis_from f1 0 b.owns) (λ o. entry (first_row (length cs) (length ss)) o +ℤ entry (whole_row (length cs) (length ss)) o) ≡ f1 (0 + art.0)
    art_sum =
        let s = sum_single f1 (λ o. entry (first_row (length cs) (length ss)) o +ℤ entry (whole_row (length cs) (length ss)) o) 0 b.owns art.0 art.1 others in
        let e : (entry (first_row (length cs) (length ss)) (number_at b.owns art.0) +ℤ entry (whole_row (length cs) (length ss)) (number_at b.owns art.0)) ≡ pos 1 = ap (λ o. entry (first_row (length cs) (length ss)) o +ℤ entry (whole_row (length cs) (length ss)) o) art.2 in
        let k = ap (λ (y : ℤ). f1 (0 + art.0) *ℤ y) e in
        let t = one_times (f1 (0 + art.0)) in omega (arith, ints)
      where
        others : (j : ℕ) → j < length b.owns → j ≢ art.0 → (entry (first_row (length cs) (length ss)) (number_at b.owns j) +ℤ entry (whole_row (length cs) (length ss)) (number_at b.owns j)) ≡ pos 0
        others j lt d = elim (place j lt) [
          | IsArtificial e ↦
              let a = is.own j (omega (arith, lt, owns_in)) in
              let o = is.others j art.0 (omega (arith, lt, owns_in)) (let h = art.1 in omega (arith, h, owns_in)) d in
              let s = ap (entry (row_at b j)) (e ∙ sym art.2) in absurd (omega (arith, ints))
          | IsColumn u lu e ↦
              let n1 = ap (entry (first_row (length cs) (length ss))) e ∙ even_column cs ss (pos 0) (neg_ℤ (pos 1)) (pos 1) (pos 0) (neg_ℤ (pos 1)) u lu in
              let n2 = ap (entry (whole_row (length cs) (length ss))) e ∙ even_column cs ss (pos 1) (pos 1) (pos 0) (pos 0) (pos 1) u lu in omega (arith, ints)
          | IsSlack u lu e ↦
              let n1 = ap (entry (first_row (length cs) (length ss))) e ∙ even_slack cs ss (pos 0) (neg_ℤ (pos 1)) (pos 1) (pos 0) (neg_ℤ (pos 1)) u lu in
              let n2 = ap (entry (whole_row (length cs) (length ss))) e ∙ even_slack cs ss (pos 1) (pos 1) (pos 0) (pos 0) (pos 1) u lu in omega (arith, ints)
        ]

    art_positive : pos 1 ≤ℤ f1 (0 + art.0)
    art_positive =
        let h : art.0 < length b.rows = (let a = art.1 in omega (arith, a, owns_in)) in
        let a = old.artificial art.0 h art.2 in
        let c = (common (variables cs ss) (started cs ss) b is).is art.0 h in
        let o = over_positive ((common (variables cs ss) (started cs ss) b is).over art.0) (own_number (variables cs ss) (started cs ss) b is art.0) (subst (λ n. 0 < n) (sym c) all_positive) in
        let p = both_positive ((common (variables cs ss) (started cs ss) b is).over art.0) x1 o one_size.1 in
        let k = mul_positive (pos ((common (variables cs ss) (started cs ss) b is).over art.0 * x1)) (entry (row_at b art.0) (variables cs ss + 2)) (omega (arith, ints, p)) (omega (arith, ints)) in
        subst (λ i. pos 1 ≤ℤ f1 i) {x = art.0} {y = 0 + art.0} (omega arith) (omega (arith, ints))
      where
        over_positive : (a b : ℕ) → 0 < a * b → 0 < a
        over_positive zero b h = absurd (omega (arith, h))
        over_positive (suc a) b h = omega arith

    pub negative : right b.one ≤ℤ neg_ℤ (pos 1)
    negative =
        let st = is.back v1 rows_solve in
        let a1 = at_row (variables cs ss) (started cs ss) b is x1 (variables cs ss) z1 (whole_row (length cs) (length ss)) in
        let s1 = subst (λ r. dot r v1 ≡ pos 0) (whole_at cs ss) (st (length ss) (let n = count cs ss in omega (arith, n))) in
        let e1 = ap (λ (y : ℤ). z1 *ℤ y) (even_one cs ss (pos 1) (pos 1) (pos 0) (pos 0) (pos 1)) in
        let e2 = ap (λ (y : ℤ). pos (all * x1) *ℤ y) (even_right cs ss (pos 1) (pos 1) (pos 0) (pos 0) (pos 1)) in
        let a2 = at_row (variables cs ss) (started cs ss) b is x1 (variables cs ss) z1 (first_row (length cs) (length ss)) in
        let s2 = old.back v1 rows_solve one_solves in
        let e3 = ap (λ (y : ℤ). z1 *ℤ y) (even_one cs ss (pos 0) (neg_ℤ (pos 1)) (pos 1) (pos 0) (neg_ℤ (pos 1))) in
        let e4 = ap (λ (y : ℤ). pos (all * x1) *ℤ y) (even_right cs ss (pos 0) (neg_ℤ (pos 1)) (pos 1) (pos 0) (neg_ℤ (pos 1))) in
        let t1 = times_zero z1 in let t2 = one_times z1 in let t3 = one_times (pos (all * x1)) in
        let t4 = mul-neg (pos (all * x1)) (pos 1) in
        let sp = sum_split f1 (entry (first_row (length cs) (length ss))) (entry (whole_row (length cs) (length ss))) 0 b.owns in
        let ar = art_sum in let ap1 = art_positive in
        let below : z1 ≤ℤ neg_ℤ (pos 1) = omega (arith, ints) in
        let r = right_is (variables cs ss) b.one is.shape.one in
        subst (λ (y : ℤ). y ≤ℤ neg_ℤ (pos 1)) (sym r) (by_lt_z (entry b.one (variables cs ss + 2)) (pos 0) (λ lt. omega (arith, ints)) (λ le. absurd (let k = mul-le all (pos 0) (entry b.one (variables cs ss + 2)) le in let y = times_zero (pos all) in omega (arith, ints))))

-- ---- rounds

found_negative : (n : ℕ) (r : Row) (t : ℕ) → first_negative n r ≡ Some t → (u : ℕ) × (u < length r) × (t ≡ n + u) × (entry r u <ℤ pos 0)
found_negative n [] t e = cc
found_negative n (a ∷ as') t e = by_test (int_lt a (pos 0)) refl e (λ k. found_negative (n + 1) as' t k)
  where
    by_test : (z : Bool) → int_lt a (pos 0) ≡ z → cond z (Some n) (first_negative (n + 1) as') ≡ Some t → (first_negative (n + 1) as' ≡ Some t → (u : ℕ) × (u < length as') × (t ≡ (n + 1) + u) × (entry as' u <ℤ pos 0)) →
        (u : ℕ) × (u < length (a ∷ as')) × (t ≡ n + u) × (entry (a ∷ as') u <ℤ pos 0)
    by_test true h e next = (0, omega arith, (let q : n ≡ t = some_same e in omega (arith, q)), grind (arith, ints, nat_tests))
    by_test false h e next = let r = next e in (suc r.0, (let lt = r.1 in omega (arith, lt)), (let q = r.2 in omega (arith, q)), r.3)

take-least : (k : ℕ) (r : Row) → length (take k r) ≤ k
take-least zero r = omega arith
take-least (suc k) [] = omega arith
take-least (suc k) (a ∷ as') = let e = take-least k as' in omega (arith, e)

-- what goes in isn't the artificial variable
enters : (k : ℕ) (b : Table) (t : ℕ) → entering k b ≡ Some t → (0 < t) × (t < k)
enters k b t e =
    let r = found_negative 1 (take (k - 1) (drop 1 (objective b))) t e in
    let r1 = r.1 in let r2 = r.2 in let l = take-least (k - 1) (drop 1 (objective b)) in (omega (arith, r2), omega (arith, r1, r2, l))

module _ (cs : List Column) (os : List Compare) where
  abbrev ss : List Side
  ss = sides_from 0 os

  optimum : (b : Table) → IsTable (variables cs ss) (started cs ss) b → in_first b ≡ false → NoneNegative (variables cs ss) b.two → IsOptimum cs os b
  optimum b is ended none = record {
    scale = subst (λ n. pos 1 ≤ℤ entry b.two (n + 1)) (variables_are cs os) is.two_positive;
    signs = signs_of (length cs + 1) os b.two (λ u from lt. none u (omega (arith, from)) (let e = variables_are cs os in omega (arith, e, lt)));
    weights = weights_fit (length cs) 0 0 (λ i. pos 0) b.owns b.rows;
    weighing = λ m shared. record {
      whole = whole cs ss b is ended m shared;
      facts = facts_kept cs (over m (weights_of (length cs) b.owns b.rows)) 0 os (all_kept cs ss b is ended m shared);
      value = subst (λ n. (entry b.two (n + 1) *ℤ applied (over m (weights_of (length cs) b.owns b.rows)) (λ i. (column_at cs i).value)) ≡ (pos m *ℤ right b.two)) (variables_are cs os) (value cs ss b is ended m shared);
    };
  }

  infeasible : All (IsColumnOf (length os)) cs → (b : Table) → IsTable (variables cs ss) (started cs ss) b → in_first b ≡ true → NoneNegative (variables cs ss) b.one → IsInfeasible cs os b
  infeasible columns b is first none = record {
    scale = subst (λ n. pos 1 ≤ℤ entry b.one n) {x = variables cs ss} {y = objective_place (length cs) os 0} (let e = variables_are cs os in omega (arith, e)) (is.first first).positive;
    signs = signs_of (length cs + 1) os b.one (λ u from lt. none u (omega (arith, from)) (let e = variables_are cs os in omega (arith, e, lt)));
    negative = negative cs ss b is first;
    listed = λ i lt. none_improves cs os b is first none i lt (all_at (IsColumnOf (length os)) cs no_column columns i lt).totals;
  }

  ended_well : All (IsColumnOf (length os)) cs → (b : Table) → IsTable (variables cs ss) (started cs ss) b → entering (variables cs ss) b ≡ None → EndsWell cs os (ends b)
  ended_well columns b is e = by_phase (in_first b) refl (has_ended (variables cs ss) (variables cs ss + 3) b is.shape e)
    where
      by_phase : (p : Bool) → in_first b ≡ p → HasEnded (variables cs ss) (variables cs ss + 3) (cond p (First b) (Second b)) → EndsWell cs os (cond p (First b) (Second b))
      by_phase true p h = infeasible columns b is p h.2
      by_phase false p h = optimum b is p h.2

  pivots_end_well : All (IsColumnOf (length os)) cs → (left made : ℕ) (b : Table) → IsTable (variables cs ss) (started cs ss) b → EndsWell cs os (pivots left (variables cs ss) made b).ending
  pivots_end_well columns zero made b is = last_well (entering (variables cs ss) b) refl
    where
      last_well : (o : Option ℕ) → entering (variables cs ss) b ≡ o → EndsWell cs os (last_of b o)
      last_well None e = ended_well columns b is e
      last_well (Some t) e = tt
  pivots_end_well columns (suc left) made b is = by_variable_of (entering (variables cs ss) b) refl (λ c h. pivots_end_well columns left (made + 1) c h)
    where
      by_variable_of : (o : Option ℕ) → entering (variables cs ss) b ≡ o → ((c : Table) → IsTable (variables cs ss) (started cs ss) c → EndsWell cs os (pivots left (variables cs ss) (made + 1) c).ending) →
          EndsWell cs os (after (λ c. pivots left (variables cs ss) (made + 1) c) made (by_variable b o)).ending
      by_variable_of None e go = ended_well columns b is e
      by_variable_of (Some t) e go = by_choice (leaving t b) refl
        where
          into : (0 < t) × (t < variables cs ss)
          into = enters (variables cs ss) b t e

          by_choice : (o : Option Choice) → leaving t b ≡ o → EndsWell cs os (after (λ c. pivots left (variables cs ss) (made + 1) c) made (by_row t b o)).ending
          by_choice None l = absurd (never_unbounded cs ss b is t into.0 into.1 (none_left t 0 None b.owns b.rows is.shape.owns l).1)
          by_choice (Some d) l = by_pivot (pivoted t d.row b) refl
            where
              by_pivot : (o : Option Table) → pivoted t d.row b ≡ o → EndsWell cs os (after (λ c. pivots left (variables cs ss) (made + 1) c) made (by_table o)).ending
              by_pivot None p = tt
              by_pivot (Some c) p = go c (kept_next (variables cs ss) (started cs ss) b c t d is into.1 into.0 l p)

pub all_end_well : RoundsEndWell
all_end_well cs os made some columns = pivots_end_well cs os columns (10000 - made) made (started cs (sides_from 0 os)) (start_table cs (sides_from 0 os))
