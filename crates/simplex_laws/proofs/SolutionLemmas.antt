-- The solutions that the last table gives, in the first one.
use Rattle.std.proofs.Common.{◌≡◌, ◌≢◌, ℕ, ◌+◌, ◌*◌, ◌<◌, ℤ, pos, neg_ℤ, ◌+ℤ◌, ◌-ℤ◌, ◌*ℤ◌, ◌≤ℤ◌, arith, sym, ap, ◌∙◌, subst, List, [], ◌∷◌, ◌++◌, length, inl, inr, ◌⊎◌, true, false, unsigned_abs}
use Rattle.std.specs.Prelude.{◌==◌, slice_index_or}
use Rattle.std.proofs.lemmas.Bool.Decides.{eqb_tells}
use lib.IntN.{*ℤ_comm}
use Rattle.std.proofs.Math.IntN.{zero-*ℤ}
use Rattle.std.proofs.Math.Nat.{mul_comm, mul_assoc}
use Rattle.std.proofs.lemmas.Int.{ints}
use Rattle.frac128.specs.Terms.{Terms, coefficient, applied}
use Rattle.frac128.proofs.SignedLemmas.{mul_at_least, mul-neg, neg-mul, mul_assoc as mul_assoc_z}
use Rattle.frac128.proofs.TermsLemmas.{applied-append}
use Rattle.code_flow_answer.specs.declared.bounded.Column.{Column}
use Rattle.simplex_tables.specs.Rows.{Row, entry, dot}
use Rattle.simplex_rounds.specs.declared.starting.Side.{Side}
use Rattle.simplex_tables.specs.declared.table.Table.{Table}
use Rattle.simplex_rounds.specs.Starts.{started, variables, side_row, whole_row}
use Rattle.simplex_laws.specs.Tables.{row_at, own_at, Solves, IsTable}
use Rattle.simplex_laws.proofs.BasisLemmas.{dot_at, number_at, basis_from, sum_none, sum_single, sum_positive, part_of_sum, Common, common_of}
use Rattle.simplex_laws.proofs.StartLemmas.{no_side, count, side_at, whole_at, side_own, side_other, even_column, even_slack}
use Rattle.simplex_laws.proofs.EndLemmas.{size_of, Place, IsArtificial, IsColumn, IsSlack, place_of}

swap : (x y z : ℤ) → (x *ℤ y) *ℤ z ≡ (x *ℤ z) *ℤ y
swap x y z = mul_assoc_z x y z ∙ (ap (λ (w : ℤ). x *ℤ w) (*ℤ_comm y z) ∙ sym (mul_assoc_z x z y))

product : (a b : ℕ) → pos a *ℤ pos b ≡ pos (a * b)
product a b = omega (arith, ints)

times_zero : (z : ℤ) → z *ℤ pos 0 ≡ pos 0
times_zero z = *ℤ_comm z (pos 0) ∙ zero-*ℤ z

one_times : (z : ℤ) → z *ℤ pos 1 ≡ z
one_times z = omega (arith, ints)

module _ (w : ℕ) (start b : Table) (is : IsTable w start b) where
  owns_long : length b.owns ≡ length b.rows
  owns_long = is.shape.owns

  -- a row's own number, as a whole one
  abbrev pub own_number : ℕ → ℕ
  own_number j = unsigned_abs (entry (row_at b j) (own_at b j))

  pub own_is : (j : ℕ) → j < length b.rows → entry (row_at b j) (own_at b j) ≡ pos (own_number j)
  own_is j h = (size_of (entry (row_at b j) (own_at b j)) (is.own j h)).0

  pub common : Common (length b.rows) (λ j. unsigned_abs (entry (row_at b j) (own_at b j)))
  common = common_of (length b.rows) (λ j. unsigned_abs (entry (row_at b j) (own_at b j))) (λ j h. (size_of (entry (row_at b j) (own_at b j)) (is.own j h)).1)

  -- a row at numbers at own variables and some more
  pub row_dot : (f : ℕ → ℤ) (more : Terms) (r : Row) → dot r (coefficient (basis_from f 0 b.owns ++ more)) ≡ applied (basis_from f 0 b.owns) (entry r) +ℤ applied more (entry r)
  row_dot f more r = dot_at r (basis_from f 0 b.owns ++ more) ∙ applied-append (basis_from f 0 b.owns) more (entry r)

  -- in a row of the table its own variable stands alone
  pub own_alone : (f : ℕ → ℤ) (i : ℕ) → i < length b.rows → applied (basis_from f 0 b.owns) (entry (row_at b i)) ≡ f i *ℤ entry (row_at b i) (own_at b i)
  own_alone f i h = sum_single f (entry (row_at b i)) 0 b.owns i (omega (arith, h, owns_long)) (λ j lt d. is.others i j h (omega (arith, lt, owns_long)) (λ e. d (sym e))) ∙ ap (λ j. f j *ℤ entry (row_at b i) (own_at b i)) {x = 0 + i} {y = i} (omega arith)

  -- ---- the weights: what stands on the right, over the own number, times a factor

  abbrev pub factor : ℕ → ℕ → ℤ
  factor x j = pos (common.over j * x) *ℤ entry (row_at b j) (w + 2)

  pub factor_is : (x j : ℕ) → j < length b.rows → (factor x j *ℤ entry (row_at b j) (own_at b j)) ≡ (pos (common.all * x) *ℤ entry (row_at b j) (w + 2))
  factor_is x j h =
      let e = own_is j h in
      let a = ap (λ (z : ℤ). factor x j *ℤ z) e in
      let s = swap (pos (common.over j * x)) (entry (row_at b j) (w + 2)) (pos (own_number j)) in
      let p = product (common.over j * x) (own_number j) in
      let q : (common.over j * x) * own_number j ≡ common.all * x = mul_assoc (common.over j) x (own_number j) ∙ (ap (λ i. common.over j * i) (mul_comm x (own_number j)) ∙ (sym (mul_assoc (common.over j) (own_number j) x) ∙ ap (λ i. i * x) (common.is j h))) in
      a ∙ (s ∙ ap (λ (z : ℤ). z *ℤ entry (row_at b j) (w + 2)) (p ∙ ap pos q))

  pub factor_positive : (x j : ℕ) → j < length b.rows → pos 0 ≤ℤ factor x j
  factor_positive x j h = mul_at_least (pos (common.over j * x)) (entry (row_at b j) (w + 2)) (omega (arith, ints)) (is.right j h)

  module _ (x : ℕ) (u : ℕ) (z : ℤ) where
    -- what is at the objective's own place, and the right side
    abbrev pub tail : Terms
    tail = (u, z) ∷ (w + 2, neg_ℤ (pos (common.all * x))) ∷ []

    abbrev pub solution : ℕ → ℤ
    solution = coefficient (basis_from (factor x) 0 b.owns ++ tail)

    pub at_row : (r : Row) → dot r solution ≡ applied (basis_from (factor x) 0 b.owns) (entry r) +ℤ ((z *ℤ entry r u) -ℤ (pos (common.all * x) *ℤ entry r (w + 2)))
    at_row r =
        let d = row_dot (factor x) tail r in
        let n = neg-mul (pos (common.all * x)) (entry r (w + 2)) in omega (arith, ints)

    pub solves : ((i : ℕ) → i < length b.rows → entry (row_at b i) u ≡ pos 0) → Solves solution b
    solves none i h =
        let d = at_row (row_at b i) in
        let a = own_alone (factor x) i h in
        let f = factor_is x i h in
        let y = ap (λ (q : ℤ). z *ℤ q) (none i h) in
        let t = times_zero z in omega (arith, ints)

    pub solves_one : (r : Row) → ((j : ℕ) → j < length b.rows → entry r (own_at b j) ≡ pos 0) → (z *ℤ entry r u) ≡ (pos (common.all * x) *ℤ entry r (w + 2)) → dot r solution ≡ pos 0
    solves_one r none e =
        let d = at_row r in
        let a = sum_none (factor x) (entry r) 0 b.owns (λ j lt. none j (omega (arith, lt, owns_long))) in omega (arith, ints)

-- ---- the first rows at a solution

module _ (cs : List Column) (ss : List Side) (b : Table) (is : IsTable (variables cs ss) (started cs ss) b) where
  abbrev w : ℕ
  w = variables cs ss

  owns_in : length b.owns ≡ length b.rows
  owns_in = is.shape.owns

  place : (j : ℕ) → j < length b.owns → Place (length cs) (length ss) (number_at b.owns j)
  place j lt = place_of (length cs) (length ss) (number_at b.owns j) (is.small j (omega (arith, lt, owns_in)))

  -- the number of the last row is 1 at what isn't a slack
  whole_number : (o : ℕ) → Place (length cs) (length ss) o → (entry (whole_row (length cs) (length ss)) o ≡ pos 0) ⊎ (entry (whole_row (length cs) (length ss)) o ≡ pos 1)
  whole_number o (IsArtificial e) = inr (ap (entry (whole_row (length cs) (length ss))) e)
  whole_number o (IsColumn u lt e) = inr (ap (entry (whole_row (length cs) (length ss))) e ∙ even_column cs ss (pos 1) (pos 1) (pos 0) (pos 0) (pos 1) u lt)
  whole_number o (IsSlack u lt e) = inl (ap (entry (whole_row (length cs) (length ss))) e ∙ even_slack cs ss (pos 1) (pos 1) (pos 0) (pos 0) (pos 1) u lt)

  whole_positive : (f : ℕ → ℤ) → ((j : ℕ) → j < length b.rows → pos 0 ≤ℤ f j) → (j : ℕ) → j < length b.owns → pos 0 ≤ℤ (f (0 + j) *ℤ entry (whole_row (length cs) (length ss)) (number_at b.owns j))
  whole_positive f h j lt = subst (λ i. pos 0 ≤ℤ (f i *ℤ entry (whole_row (length cs) (length ss)) (number_at b.owns j))) {x = j} {y = 0 + j} (omega arith) (mul_at_least (f j) (entry (whole_row (length cs) (length ss)) (number_at b.owns j)) (h j (omega (arith, lt, owns_in)))
      (elim (whole_number (number_at b.owns j) (place j lt)) [ inl e ↦ (let k = e in omega (arith, ints)) | inr e ↦ (let k = e in omega (arith, ints)) ]))

  -- ---- there is always a row to leave

  pub never_unbounded : (t : ℕ) → 0 < t → t < variables cs ss → ((i : ℕ) → i < length b.rows → entry (row_at b i) t ≤ℤ pos 0) → ⊥
  never_unbounded t first below none = by_place (is.back (coefficient (basis_from f 0 b.owns ++ (t, pos all) ∷ [])) moves)
    where
      c : Common (length b.rows) (λ j. unsigned_abs (entry (row_at b j) (own_at b j)))
      c = common (variables cs ss) (started cs ss) b is

      all : ℕ
      all = (common (variables cs ss) (started cs ss) b is).all

      f : ℕ → ℤ
      f j = pos ((common (variables cs ss) (started cs ss) b is).over j) *ℤ neg_ℤ (entry (row_at b j) t)

      f_positive : (j : ℕ) → j < length b.rows → pos 0 ≤ℤ f j
      f_positive j h = mul_at_least (pos (c.over j)) (neg_ℤ (entry (row_at b j) t)) (omega (arith, ints)) (let n = none j h in omega (arith, ints))

      one_more : (r : Row) → applied ((t, pos all) ∷ []) (entry r) ≡ pos all *ℤ entry r t
      one_more r = omega (arith, ints)

      moves : Solves (coefficient (basis_from f 0 b.owns ++ (t, pos all) ∷ [])) b
      moves i h =
          let d = row_dot (variables cs ss) (started cs ss) b is f ((t, pos all) ∷ []) (row_at b i) in
          let o = one_more (row_at b i) in
          let a = own_alone (variables cs ss) (started cs ss) b is f i h in
          let e = own_is (variables cs ss) (started cs ss) b is i h in
          let e2 = ap (λ (z : ℤ). f i *ℤ z) e in
          let s = swap (pos (c.over i)) (neg_ℤ (entry (row_at b i) t)) (pos (own_number (variables cs ss) (started cs ss) b is i)) in
          let p = product (c.over i) (own_number (variables cs ss) (started cs ss) b is i) in
          let q = ap pos (c.is i h) in
          let k = ap (λ (z : ℤ). z *ℤ neg_ℤ (entry (row_at b i) t)) (p ∙ q) in
          let n = mul-neg (pos all) (entry (row_at b i) t) in omega (arith, ints)

      whole_sum : Solves (coefficient (basis_from f 0 b.owns ++ (t, pos all) ∷ [])) (started cs ss) → (applied (basis_from f 0 b.owns) (entry (whole_row (length cs) (length ss))) +ℤ (pos all *ℤ entry (whole_row (length cs) (length ss)) t)) ≡ pos 0
      whole_sum h =
          let d = row_dot (variables cs ss) (started cs ss) b is f ((t, pos all) ∷ []) (whole_row (length cs) (length ss)) in
          let o = one_more (whole_row (length cs) (length ss)) in
          let k = subst (λ r. dot r (coefficient (basis_from f 0 b.owns ++ (t, pos all) ∷ [])) ≡ pos 0) (whole_at cs ss) (h (length ss) (let n = count cs ss in omega (arith, n))) in omega (arith, ints)

      all_positive : pos 1 ≤ℤ pos all
      all_positive = let p = c.positive in omega (arith, ints, p)

      by_place : Solves (coefficient (basis_from f 0 b.owns ++ (t, pos all) ∷ [])) (started cs ss) → ⊥
      by_place h = elim (place_of (length cs) (length ss) t below) [
        | IsArtificial e ↦ absurd (omega (arith, e, first))
        | IsColumn u lt e ↦
            let k = whole_sum h in
            let s = sum_positive f (entry (whole_row (length cs) (length ss))) 0 b.owns (whole_positive f f_positive) in
            let n : entry (whole_row (length cs) (length ss)) t ≡ pos 1 = ap (entry (whole_row (length cs) (length ss))) e ∙ even_column cs ss (pos 1) (pos 1) (pos 0) (pos 0) (pos 1) u lt in
            let m = ap (λ (z : ℤ). pos all *ℤ z) n in
            let y = one_times (pos all) in
            let a = all_positive in absurd (omega (arith, ints))
        | IsSlack u lt e ↦ by_slack u lt e h
      ]
        where
          by_slack : (u : ℕ) → u < length ss → t ≡ (length cs + 1) + u → Solves (coefficient (basis_from f 0 b.owns ++ (t, pos all) ∷ [])) (started cs ss) → ⊥
          by_slack u lt e h =
              let d = row_dot (variables cs ss) (started cs ss) b is f ((t, pos all) ∷ []) (side_row cs ss u (slice_index_or ss u no_side)) in
              let o = one_more (side_row cs ss u (slice_index_or ss u no_side)) in
              let k = subst (λ r. dot r (coefficient (basis_from f 0 b.owns ++ (t, pos all) ∷ [])) ≡ pos 0) (side_at cs ss u lt) (h u (let n = count cs ss in omega (arith, n, lt))) in
              let n : entry (side_row cs ss u (slice_index_or ss u no_side)) t ≡ pos 1 = ap (entry (side_row cs ss u (slice_index_or ss u no_side))) e ∙ side_own cs ss u lt in
              let m = ap (λ (z : ℤ). pos all *ℤ z) n in
              let y = one_times (pos all) in
              let a = all_positive in
              let s = sum_positive f (entry (side_row cs ss u (slice_index_or ss u no_side))) 0 b.owns side_positive in absurd (omega (arith, ints))
            where
              whole_zero : applied (basis_from f 0 b.owns) (entry (whole_row (length cs) (length ss))) ≡ pos 0
              whole_zero =
                  let k = whole_sum h in
                  let n : entry (whole_row (length cs) (length ss)) t ≡ pos 0 = ap (entry (whole_row (length cs) (length ss))) e ∙ even_slack cs ss (pos 1) (pos 1) (pos 0) (pos 0) (pos 1) u lt in
                  let m = ap (λ (z : ℤ). pos all *ℤ z) n in
                  let y = times_zero (pos all) in omega (arith, ints)

              column_zero : (j : ℕ) → j < length b.owns → entry (whole_row (length cs) (length ss)) (number_at b.owns j) ≡ pos 1 → f j ≡ pos 0
              column_zero j lt n =
                  let p = part_of_sum f (entry (whole_row (length cs) (length ss))) 0 b.owns (whole_positive f f_positive) j lt in
                  let q = f_positive j (omega (arith, lt, owns_in)) in
                  let i : f (0 + j) ≡ f j = ap f (omega arith) in
                  let m : f (0 + j) *ℤ entry (whole_row (length cs) (length ss)) (number_at b.owns j) ≡ f (0 + j) *ℤ pos 1 = ap (λ (z : ℤ). f (0 + j) *ℤ z) n in
                  let y = one_times (f (0 + j)) in
                  let z = whole_zero in omega (arith, ints)

              side_positive : (j : ℕ) → j < length b.owns → pos 0 ≤ℤ (f (0 + j) *ℤ entry (side_row cs ss u (slice_index_or ss u no_side)) (number_at b.owns j))
              side_positive j lt' = subst (λ i. pos 0 ≤ℤ (f i *ℤ entry (side_row cs ss u (slice_index_or ss u no_side)) (number_at b.owns j))) {x = j} {y = 0 + j} (omega arith) (elim (place j lt') [
                | IsArtificial q ↦
                    let n : entry (side_row cs ss u (slice_index_or ss u no_side)) (number_at b.owns j) ≡ pos 0 = ap (entry (side_row cs ss u (slice_index_or ss u no_side))) q in
                    let m = ap (λ (z : ℤ). f j *ℤ z) n in let y = times_zero (f j) in omega (arith, ints)
                | IsColumn v lv q ↦
                    let n = ap (entry (whole_row (length cs) (length ss))) q ∙ even_column cs ss (pos 1) (pos 1) (pos 0) (pos 0) (pos 1) v lv in
                    let z = column_zero j lt' n in
                    let m = ap (λ (x : ℤ). x *ℤ entry (side_row cs ss u (slice_index_or ss u no_side)) (number_at b.owns j)) z in
                    let y = zero-*ℤ (entry (side_row cs ss u (slice_index_or ss u no_side)) (number_at b.owns j)) in omega (arith, ints)
                | IsSlack v lv q ↦ mul_at_least (f j) (entry (side_row cs ss u (slice_index_or ss u no_side)) (number_at b.owns j)) (f_positive j (omega (arith, lt', owns_in))) (slack_number v lv q)
              ])
                where
                  slack_number : (v : ℕ) → v < length ss → number_at b.owns j ≡ (length cs + 1) + v → pos 0 ≤ℤ entry (side_row cs ss u (slice_index_or ss u no_side)) (number_at b.owns j)
                  slack_number v lv q = subst (λ o. pos 0 ≤ℤ entry (side_row cs ss u (slice_index_or ss u no_side)) o) (sym q) (by_same (eqb_tells v u))
                    where
                      by_same : (((v == u) ≡ true) × (v ≡ u)) ⊎ (((v == u) ≡ false) × (v ≢ u)) → pos 0 ≤ℤ entry (side_row cs ss u (slice_index_or ss u no_side)) ((length cs + 1) + v)
                      by_same (inl k) = let n = side_own cs ss u lt in subst (λ i. pos 0 ≤ℤ entry (side_row cs ss u (slice_index_or ss u no_side)) ((length cs + 1) + i)) (sym k.1) (omega (arith, ints))
                      by_same (inr k) = let n = side_other cs ss u lt v lv k.1 in omega (arith, ints)
