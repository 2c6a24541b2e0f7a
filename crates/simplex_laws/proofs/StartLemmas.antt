-- The numbers of the first table.
use Rattle.std.proofs.Common.{◌≡◌, ◌≢◌, ℕ, zero, suc, ◌+◌, ◌<◌, ℤ, pos, neg_ℤ, ◌≤ℤ◌, arith, refl, sym, ap, ◌∙◌, subst, List, [], ◌∷◌, ◌++◌, length, inl, inr, ◌⊎◌, false, length-append}
use Rattle.std.specs.Prelude.{slice_index_or, replicate}
use Rattle.std.proofs.lemmas.Int.{ints}
use Rattle.std.proofs.lemmas.Bool.Decides.{eqb_tells}
use Rattle.std.proofs.lemmas.List.{length-replicate}
use Rattle.code_flow_answer.specs.declared.bounded.Column.{Column}
use Rattle.simplex_tables.specs.Rows.{Row, entry}
use Rattle.simplex_rounds.specs.declared.starting.Side.{Side}
use Rattle.simplex_rounds.specs.Starts.{sided, side_totals, slacks, side_row, side_rows, whole_row, first_row, values_of, second_row, own_slacks, started, variables}
use Rattle.simplex_laws.specs.Tables.{row_at, own_at, HasFirst, IsTable}
use Rattle.simplex_laws.specs.RoundLaws.{column_at}
use Rattle.simplex_laws.proofs.TableLemmas.{all_from}

-- ---- numbers of lists that are put together

pub entry_left : (xs ys : Row) (u : ℕ) → u < length xs → entry (xs ++ ys) u ≡ entry xs u
entry_left [] ys u h = absurd (omega (arith, h))
entry_left (x ∷ xs) ys zero h = refl
entry_left (x ∷ xs) ys (suc u) h = entry_left xs ys u (omega (arith, h))

pub entry_right : (xs ys : Row) (u : ℕ) → entry (xs ++ ys) (length xs + u) ≡ entry ys u
entry_right [] ys u = ap (entry ys) (omega arith)
entry_right (x ∷ xs) ys u = ap (entry (x ∷ (xs ++ ys))) {x = suc (length xs) + u} {y = suc (length xs + u)} (omega arith) ∙ entry_right xs ys u

pub many-long : (n : ℕ) (z : ℤ) → length (replicate n z) ≡ n
many-long n z = length-replicate n z

pub many_at : (n : ℕ) (z : ℤ) (u : ℕ) → u < n → entry (replicate n z) u ≡ z
many_at zero z u h = absurd (omega (arith, h))
many_at (suc n) z zero h = refl
many_at (suc n) z (suc u) h = many_at n z u (omega (arith, h))

pub totals-long : (s : Side) (cs : List Column) → length (side_totals s cs) ≡ length cs
totals-long s [] = refl
totals-long s (c ∷ cs) = ap suc (totals-long s cs)

pub totals_at : (s : Side) (cs : List Column) (u : ℕ) → u < length cs → entry (side_totals s cs) u ≡ sided s (column_at cs u)
totals_at s [] u h = absurd (omega (arith, h))
totals_at s (c ∷ cs) zero h = refl
totals_at s (c ∷ cs) (suc u) h = totals_at s cs u (omega (arith, h))

values-long : (cs : List Column) → length (values_of cs) ≡ length cs
values-long [] = refl
values-long (c ∷ cs) = ap suc (values-long cs)

values_at : (cs : List Column) (u : ℕ) → u < length cs → entry (values_of cs) u ≡ neg_ℤ (column_at cs u).value
values_at [] u h = absurd (omega (arith, h))
values_at (c ∷ cs) zero h = refl
values_at (c ∷ cs) (suc u) h = values_at cs u (omega (arith, h))

slacks-long : (i k : ℕ) (ss : List Side) → length (slacks i k ss) ≡ length ss
slacks-long i k [] = refl
slacks-long i k (s ∷ ss) = ap suc (slacks-long i (k + 1) ss)

slack_own : (i k : ℕ) (ss : List Side) (j : ℕ) → j < length ss → k + j ≡ i → entry (slacks i k ss) j ≡ pos 1
slack_own i k [] j h e = absurd (omega (arith, h))
slack_own i k (s ∷ ss) zero h e = elim (eqb_tells k i) [ inl q ↦ rw q.0 refl | inr q ↦ absurd (q.1 (omega (arith, e))) ]
slack_own i k (s ∷ ss) (suc j) h e = slack_own i (k + 1) ss j (omega (arith, h)) (omega (arith, e))

slack_other : (i k : ℕ) (ss : List Side) (j : ℕ) → k + j ≢ i → entry (slacks i k ss) j ≡ pos 0
slack_other i k [] j d = refl
slack_other i k (s ∷ ss) zero d = elim (eqb_tells k i) [ inl q ↦ absurd (d (let e = q.1 in omega (arith, e))) | inr q ↦ rw q.0 refl ]
slack_other i k (s ∷ ss) (suc j) d = slack_other i (k + 1) ss j (λ e. d (omega (arith, e)))

-- ---- a row of three parts behind its first number: so many, so many, and three

module _ (a x y z : ℤ) (xs ys : Row) (k n : ℕ) (long_x : length xs ≡ k) (long_y : length ys ≡ n) where
  abbrev pub parts : Row
  parts = a ∷ (xs ++ (ys ++ (x ∷ y ∷ z ∷ [])))

  pub parts-long : length parts ≡ ((k + 1) + n) + 3
  parts-long = let e = length-append xs (ys ++ (x ∷ y ∷ z ∷ [])) in let f = length-append ys (x ∷ y ∷ z ∷ []) in omega (arith, e, f, long_x, long_y)

  pub part_one : (u : ℕ) → u < k → entry parts (suc u) ≡ entry xs u
  part_one u h = entry_left xs (ys ++ (x ∷ y ∷ z ∷ [])) u (omega (arith, h, long_x))

  behind : (u : ℕ) → entry parts ((k + 1) + u) ≡ entry (ys ++ (x ∷ y ∷ z ∷ [])) u
  behind u = ap (entry parts) {x = (k + 1) + u} {y = suc (length xs + u)} (omega (arith, long_x)) ∙ entry_right xs (ys ++ (x ∷ y ∷ z ∷ [])) u

  pub part_two : (u : ℕ) → u < n → entry parts ((k + 1) + u) ≡ entry ys u
  part_two u h = behind u ∙ entry_left ys (x ∷ y ∷ z ∷ []) u (omega (arith, h, long_y))

  ends : (u : ℕ) → entry parts (((k + 1) + n) + u) ≡ entry (x ∷ y ∷ z ∷ []) u
  ends u = ap (entry parts) {x = ((k + 1) + n) + u} {y = (k + 1) + (length ys + u)} (omega (arith, long_y)) ∙ (behind (length ys + u) ∙ entry_right ys (x ∷ y ∷ z ∷ []) u)

  pub part_first : entry parts ((k + 1) + n) ≡ x
  part_first = ap (entry parts) {x = (k + 1) + n} {y = ((k + 1) + n) + 0} (omega arith) ∙ ends 0

  pub part_second : entry parts (((k + 1) + n) + 1) ≡ y
  part_second = ends 1

  pub part_right : entry parts (((k + 1) + n) + 2) ≡ z
  part_right = ends 2

-- ---- the rows and their own variables

abbrev pub no_side : Side
no_side = record { fact = 0; negated = false }

side_rows-long : (cs : List Column) (ss : List Side) (i : ℕ) (more : List Side) → length (side_rows cs ss i more) ≡ length more
side_rows-long cs ss i [] = refl
side_rows-long cs ss i (s ∷ more) = ap suc (side_rows-long cs ss (i + 1) more)

side_rows_at : (cs : List Column) (ss : List Side) (i : ℕ) (more : List Side) (j : ℕ) → j < length more → slice_index_or (side_rows cs ss i more) j [] ≡ side_row cs ss (i + j) (slice_index_or more j no_side)
side_rows_at cs ss i [] j h = absurd (omega (arith, h))
side_rows_at cs ss i (s ∷ more) zero h = ap (λ m. side_row cs ss m s) (omega arith)
side_rows_at cs ss i (s ∷ more) (suc j) h = side_rows_at cs ss (i + 1) more j (omega (arith, h)) ∙ ap (λ m. side_row cs ss m (slice_index_or more j no_side)) (omega arith)

pub own_slacks-long : (n : ℕ) (ss : List Side) → length (own_slacks n ss) ≡ length ss
own_slacks-long n [] = refl
own_slacks-long n (s ∷ ss) = ap suc (own_slacks-long (n + 1) ss)

pub own_slacks_at : (n : ℕ) (ss : List Side) (j : ℕ) → j < length ss → slice_index_or (own_slacks n ss) j 0 ≡ n + j
own_slacks_at n [] j h = absurd (omega (arith, h))
own_slacks_at n (s ∷ ss) zero h = omega arith
own_slacks_at n (s ∷ ss) (suc j) h = own_slacks_at (n + 1) ss j (omega (arith, h)) ∙ omega arith

index_left : {X : Type 0} (xs ys : List X) (i : ℕ) (d : X) → i < length xs → slice_index_or (xs ++ ys) i d ≡ slice_index_or xs i d
index_left [] ys i d h = absurd (omega (arith, h))
index_left (x ∷ xs) ys zero d h = refl
index_left (x ∷ xs) ys (suc i) d h = index_left xs ys i d (omega (arith, h))

index_last : {X : Type 0} (xs : List X) (x d : X) (i : ℕ) → i ≡ length xs → slice_index_or (xs ++ x ∷ []) i d ≡ x
index_last [] x d zero e = refl
index_last [] x d (suc i) e = absurd (omega (arith, e))
index_last (y ∷ xs) x d zero e = absurd (omega (arith, e))
index_last (y ∷ xs) x d (suc i) e = index_last xs x d i (omega (arith, e))

module _ (cs : List Column) (ss : List Side) where
  pub count : length (started cs ss).rows ≡ length ss + 1
  count = let e = length-append (side_rows cs ss 0 ss) (whole_row (length cs) (length ss) ∷ []) in let f = side_rows-long cs ss 0 ss in omega (arith, e, f)

  pub side_at : (j : ℕ) → j < length ss → row_at (started cs ss) j ≡ side_row cs ss j (slice_index_or ss j no_side)
  side_at j h = index_left (side_rows cs ss 0 ss) (whole_row (length cs) (length ss) ∷ []) j [] (let f = side_rows-long cs ss 0 ss in omega (arith, f, h)) ∙ (side_rows_at cs ss 0 ss j h ∙ ap (λ m. side_row cs ss m (slice_index_or ss j no_side)) (omega arith))

  pub whole_at : row_at (started cs ss) (length ss) ≡ whole_row (length cs) (length ss)
  whole_at = index_last (side_rows cs ss 0 ss) (whole_row (length cs) (length ss)) [] (length ss) (let f = side_rows-long cs ss 0 ss in omega (arith, f))

  pub own_side : (j : ℕ) → j < length ss → own_at (started cs ss) j ≡ (length cs + 1) + j
  own_side j h = index_left (own_slacks (length cs + 1) ss) (0 ∷ []) j 0 (let f = own_slacks-long (length cs + 1) ss in omega (arith, f, h)) ∙ own_slacks_at (length cs + 1) ss j h

  pub own_whole : own_at (started cs ss) (length ss) ≡ 0
  own_whole = index_last (own_slacks (length cs + 1) ss) 0 0 (length ss) (let f = own_slacks-long (length cs + 1) ss in omega (arith, f))

  -- the numbers of each row
  module _ (j : ℕ) (h : j < length ss) where
    abbrev s : Side
    s = slice_index_or ss j no_side

    pub side-long : length (side_row cs ss j (slice_index_or ss j no_side)) ≡ variables cs ss + 3
    side-long = parts-long (pos 0) (pos 0) (pos 0) (pos 0) (side_totals s cs) (slacks j 0 ss) (length cs) (length ss) (totals-long s cs) (slacks-long j 0 ss)

    pub side_column : (u : ℕ) → u < length cs → entry (side_row cs ss j (slice_index_or ss j no_side)) (suc u) ≡ sided (slice_index_or ss j no_side) (column_at cs u)
    side_column u lt = part_one (pos 0) (pos 0) (pos 0) (pos 0) (side_totals s cs) (slacks j 0 ss) (length cs) (length ss) (totals-long s cs) (slacks-long j 0 ss) u lt ∙ totals_at s cs u lt

    side_slack : (u : ℕ) → u < length ss → entry (side_row cs ss j (slice_index_or ss j no_side)) ((length cs + 1) + u) ≡ entry (slacks j 0 ss) u
    side_slack u lt = part_two (pos 0) (pos 0) (pos 0) (pos 0) (side_totals s cs) (slacks j 0 ss) (length cs) (length ss) (totals-long s cs) (slacks-long j 0 ss) u lt

    pub side_own : entry (side_row cs ss j (slice_index_or ss j no_side)) ((length cs + 1) + j) ≡ pos 1
    side_own = side_slack j h ∙ slack_own j 0 ss j h (omega arith)

    pub side_other : (u : ℕ) → u < length ss → u ≢ j → entry (side_row cs ss j (slice_index_or ss j no_side)) ((length cs + 1) + u) ≡ pos 0
    side_other u lt d = side_slack u lt ∙ slack_other j 0 ss u (λ e. d (omega (arith, e)))

    pub side_one : entry (side_row cs ss j (slice_index_or ss j no_side)) (variables cs ss) ≡ pos 0
    side_one = part_first (pos 0) (pos 0) (pos 0) (pos 0) (side_totals s cs) (slacks j 0 ss) (length cs) (length ss) (totals-long s cs) (slacks-long j 0 ss)

    pub side_two : entry (side_row cs ss j (slice_index_or ss j no_side)) (variables cs ss + 1) ≡ pos 0
    side_two = part_second (pos 0) (pos 0) (pos 0) (pos 0) (side_totals s cs) (slacks j 0 ss) (length cs) (length ss) (totals-long s cs) (slacks-long j 0 ss)

    pub side_right : entry (side_row cs ss j (slice_index_or ss j no_side)) (variables cs ss + 2) ≡ pos 0
    side_right = part_right (pos 0) (pos 0) (pos 0) (pos 0) (side_totals s cs) (slacks j 0 ss) (length cs) (length ss) (totals-long s cs) (slacks-long j 0 ss)

  -- a row with one number at all columns and another at all slacks
  module _ (a c x y z : ℤ) where
    abbrev pub even : Row
    even = a ∷ (replicate (length cs) c ++ (replicate (length ss) (pos 0) ++ (x ∷ y ∷ z ∷ [])))

    pub even-long : length even ≡ variables cs ss + 3
    even-long = parts-long a x y z (replicate (length cs) c) (replicate (length ss) (pos 0)) (length cs) (length ss) (many-long (length cs) c) (many-long (length ss) (pos 0))

    pub even_column : (u : ℕ) → u < length cs → entry even (suc u) ≡ c
    even_column u lt = part_one a x y z (replicate (length cs) c) (replicate (length ss) (pos 0)) (length cs) (length ss) (many-long (length cs) c) (many-long (length ss) (pos 0)) u lt ∙ many_at (length cs) c u lt

    pub even_slack : (u : ℕ) → u < length ss → entry even ((length cs + 1) + u) ≡ pos 0
    even_slack u lt = part_two a x y z (replicate (length cs) c) (replicate (length ss) (pos 0)) (length cs) (length ss) (many-long (length cs) c) (many-long (length ss) (pos 0)) u lt ∙ many_at (length ss) (pos 0) u lt

    pub even_one : entry even (variables cs ss) ≡ x
    even_one = part_first a x y z (replicate (length cs) c) (replicate (length ss) (pos 0)) (length cs) (length ss) (many-long (length cs) c) (many-long (length ss) (pos 0))

    pub even_two : entry even (variables cs ss + 1) ≡ y
    even_two = part_second a x y z (replicate (length cs) c) (replicate (length ss) (pos 0)) (length cs) (length ss) (many-long (length cs) c) (many-long (length ss) (pos 0))

    pub even_right : entry even (variables cs ss + 2) ≡ z
    even_right = part_right a x y z (replicate (length cs) c) (replicate (length ss) (pos 0)) (length cs) (length ss) (many-long (length cs) c) (many-long (length ss) (pos 0))

  -- the second objective's row
  pub value-long : length (second_row cs (length ss)) ≡ variables cs ss + 3
  value-long = parts-long (pos 0) (pos 0) (pos 1) (pos 0) (values_of cs) (replicate (length ss) (pos 0)) (length cs) (length ss) (values-long cs) (many-long (length ss) (pos 0))

  pub value_column : (u : ℕ) → u < length cs → entry (second_row cs (length ss)) (suc u) ≡ neg_ℤ (column_at cs u).value
  value_column u lt = part_one (pos 0) (pos 0) (pos 1) (pos 0) (values_of cs) (replicate (length ss) (pos 0)) (length cs) (length ss) (values-long cs) (many-long (length ss) (pos 0)) u lt ∙ values_at cs u lt

  pub value_slack : (u : ℕ) → u < length ss → entry (second_row cs (length ss)) ((length cs + 1) + u) ≡ pos 0
  value_slack u lt = part_two (pos 0) (pos 0) (pos 1) (pos 0) (values_of cs) (replicate (length ss) (pos 0)) (length cs) (length ss) (values-long cs) (many-long (length ss) (pos 0)) u lt ∙ many_at (length ss) (pos 0) u lt

  pub value_two : entry (second_row cs (length ss)) (variables cs ss + 1) ≡ pos 1
  value_two = part_second (pos 0) (pos 0) (pos 1) (pos 0) (values_of cs) (replicate (length ss) (pos 0)) (length cs) (length ss) (values-long cs) (many-long (length ss) (pos 0))

  pub value_right : entry (second_row cs (length ss)) (variables cs ss + 2) ≡ pos 0
  value_right = part_right (pos 0) (pos 0) (pos 1) (pos 0) (values_of cs) (replicate (length ss) (pos 0)) (length cs) (length ss) (values-long cs) (many-long (length ss) (pos 0))

  -- ---- the first table is one

  -- a row is that of a side, or the last one
  pub each_row : (i : ℕ) → i < length (started cs ss).rows → (i < length ss) ⊎ (i ≡ length ss)
  each_row i h = elim (eqb_tells i (length ss)) [ inl e ↦ inr e.1 | inr e ↦ inl (strict i (length ss) (omega (arith, h, count)) e.1) ]
    where
      strict : (i n : ℕ) → i < n + 1 → i ≢ n → i < n
      strict zero zero lt d = absurd (d refl)
      strict zero (suc n) lt d = omega arith
      strict (suc i) zero lt d = absurd (omega (arith, lt))
      strict (suc i) (suc n) lt d = let r = strict i n (omega (arith, lt)) (λ q. d (ap suc q)) in omega (arith, r)

  -- what holds of all rows
  by_rows : (P : ℕ → ℕ → Row → Type 0) → ((j : ℕ) → j < length ss → P j ((length cs + 1) + j) (side_row cs ss j (slice_index_or ss j no_side))) → P (length ss) 0 (whole_row (length cs) (length ss)) → (i : ℕ) → i < length (started cs ss).rows → P i (own_at (started cs ss) i) (row_at (started cs ss) i)
  by_rows P side whole i h = elim (each_row i h) [
    | inl lt ↦ subst (λ o. P i o (row_at (started cs ss) i)) (sym (own_side i lt)) (subst (λ r. P i ((length cs + 1) + i) r) (sym (side_at i lt)) (side i lt))
    | inr e ↦ subst (λ m. P m (own_at (started cs ss) m) (row_at (started cs ss) m)) (sym e) (subst (λ o. P (length ss) o (row_at (started cs ss) (length ss))) (sym own_whole) (subst (λ r. P (length ss) 0 r) (sym whole_at) whole))
  ]

  wide : (i : ℕ) → i < length (started cs ss).rows → length (row_at (started cs ss) i) ≡ variables cs ss + 3
  wide = by_rows (λ i o r. length r ≡ variables cs ss + 3) (λ j h. side-long j h) (even-long (pos 1) (pos 1) (pos 0) (pos 0) (pos 1))

  small : (i : ℕ) → i < length (started cs ss).rows → own_at (started cs ss) i < variables cs ss
  small = by_rows (λ i o r. o < variables cs ss) (λ j h. omega (arith, h)) (omega arith)

  own : (i : ℕ) → i < length (started cs ss).rows → pos 1 ≤ℤ entry (row_at (started cs ss) i) (own_at (started cs ss) i)
  own = by_rows (λ i o r. pos 1 ≤ℤ entry r o) (λ j h. let e = side_own j h in omega (arith, ints)) (omega (arith, ints))

  others : (i j : ℕ) → i < length (started cs ss).rows → j < length (started cs ss).rows → i ≢ j → entry (row_at (started cs ss) i) (own_at (started cs ss) j) ≡ pos 0
  others i j hi hj = by_rows (λ i o r. i ≢ j → entry r (own_at (started cs ss) j) ≡ pos 0) (λ a ha. side_case a ha) whole_case i hi
    where
      side_case : (a : ℕ) → a < length ss → a ≢ j → entry (side_row cs ss a (slice_index_or ss a no_side)) (own_at (started cs ss) j) ≡ pos 0
      side_case a ha = by_rows (λ j o r. a ≢ j → entry (side_row cs ss a (slice_index_or ss a no_side)) o ≡ pos 0) (λ u hu d. side_other a ha u hu (λ e. d (sym e))) (λ d. refl) j hj

      whole_case : length ss ≢ j → entry (whole_row (length cs) (length ss)) (own_at (started cs ss) j) ≡ pos 0
      whole_case = by_rows (λ j o r. length ss ≢ j → entry (whole_row (length cs) (length ss)) o ≡ pos 0) (λ u hu d. even_slack (pos 1) (pos 1) (pos 0) (pos 0) (pos 1) u hu) (λ d. absurd (d refl)) j hj

  two_own : (j : ℕ) → j < length (started cs ss).rows → entry (second_row cs (length ss)) (own_at (started cs ss) j) ≡ pos 0
  two_own = by_rows (λ j o r. entry (second_row cs (length ss)) o ≡ pos 0) (λ j h. value_slack j h) refl

  first : HasFirst (variables cs ss) (started cs ss) (started cs ss)
  first = record {
    own = by_rows (λ j o r. entry (first_row (length cs) (length ss)) o ≡ pos 0) (λ j h. even_slack (pos 0) (neg_ℤ (pos 1)) (pos 1) (pos 0) (neg_ℤ (pos 1)) j h) refl;
    positive = (let e = even_one (pos 0) (neg_ℤ (pos 1)) (pos 1) (pos 0) (neg_ℤ (pos 1)) in omega (arith, ints));
    rows = by_rows (λ i o r. entry r (variables cs ss) ≡ pos 0) (λ j h. side_one j h) (even_one (pos 1) (pos 1) (pos 0) (pos 0) (pos 1));
    back = λ v h e. e;
    forth = λ v h e. e;
    artificial = by_rows (λ i o r. o ≡ 0 → pos 1 ≤ℤ entry r (variables cs ss + 2)) (λ j h z. absurd (omega (arith, z))) (λ z. let e = even_right (pos 1) (pos 1) (pos 0) (pos 0) (pos 1) in omega (arith, ints));
  }

  pub start_table : IsTable (variables cs ss) (started cs ss) (started cs ss)
  start_table = record {
    shape = record {
      some = omega arith;
      rows = all_from (λ r. length r ≡ variables cs ss + 3) (started cs ss).rows [] wide;
      owns = (let e = length-append (own_slacks (length cs + 1) ss) (0 ∷ []) in let f = own_slacks-long (length cs + 1) ss in omega (arith, e, f, count));
      one = even-long (pos 0) (neg_ℤ (pos 1)) (pos 1) (pos 0) (neg_ℤ (pos 1));
      two = value-long;
    };
    small = small;
    own = own;
    others = others;
    two_own = two_own;
    two_positive = (let e = value_two in omega (arith, ints));
    rows_two = by_rows (λ i o r. entry r (variables cs ss + 1) ≡ pos 0) (λ j h. side_two j h) (even_two (pos 1) (pos 1) (pos 0) (pos 0) (pos 1));
    right = by_rows (λ i o r. pos 0 ≤ℤ entry r (variables cs ss + 2)) (λ j h. let e = side_right j h in omega (arith, ints)) (let e = even_right (pos 1) (pos 1) (pos 0) (pos 0) (pos 1) in omega (arith, ints));
    back = λ v h. h;
    forth = λ v h. h;
    two_back = λ v h e. e;
    first = λ f. first;
  }
