-- A pivot keeps what each table of a round keeps.
use Rattle.std.proofs.Common.{◌≡◌, ◌≢◌, ℕ, zero, suc, ◌+◌, ◌-◌, ◌≤◌, ◌<◌, ℤ, pos, ◌*ℤ◌, ◌≤ℤ◌, ◌<ℤ◌, arith, refl, sym, ap, ◌∙◌, subst, List, [], ◌∷◌, length, All, inl, inr, ◌⊎◌, Bool, true, false, Some, None}
use Rattle.std.specs.Prelude.{◌==◌, ◌||◌, slice_index_or}
use lib.IntN.{negsuc, *ℤ_comm}
use Rattle.std.proofs.lemmas.Int.{ints, by_lt_z}
use Rattle.std.proofs.lemmas.Bool.Decides.{eqb_tells}
use Rattle.std.proofs.lemmas.List.Elements.{All-head, All-tail, All-cons, All-nil}
use Rattle.std.proofs.Math.ListN.{length-set}
use Rattle.frac128.proofs.SignedLemmas.{mul-le, mul_at_most}
use Rattle.simplex_tables.specs.Rows.{Row, entry, dot, combined, divisor, turned}
use Rattle.simplex_tables.proofs.RowLemmas.{turned_solves, turned_back, turned_entry, turned_right, turned_out, turned_divides, turned_zero, turned_positive, turned-long}
use Rattle.simplex_tables.specs.declared.table.Table.{Table}
use Rattle.simplex_tables.specs.declared.choosing.Choice.{Choice}
use Rattle.simplex_tables.specs.Choices.{is_among, in_first, right, leaving}
use Rattle.simplex_tables.specs.Pivots.{pivoted}
use Rattle.simplex_laws.specs.Tables.{row_at, own_at, Solves, HasFirst, IsTable}
use Rattle.simplex_laws.proofs.PivotLemmas.{rows_long, rows_at, Turned, turned_by, own_here, own_else}
use Rattle.simplex_laws.proofs.QuotientLemmas.{Before, choice, least_of}

-- lists by their places

pub all_at : {X : Type 0} (P : X → Type 0) (xs : List X) (d : X) → All P xs → (i : ℕ) → i < length xs → P (slice_index_or xs i d)
all_at P [] d h i lt = absurd (omega (arith, lt))
all_at P (x ∷ xs) d h zero lt = All-head P x xs h
all_at P (x ∷ xs) d h (suc i) lt = all_at P xs d (All-tail P x xs h) i (omega (arith, lt))

pub all_from : {X : Type 0} (P : X → Type 0) (xs : List X) (d : X) → ((i : ℕ) → i < length xs → P (slice_index_or xs i d)) → All P xs
all_from P [] d h = All-nil P
all_from P (x ∷ xs) d h = All-cons P x xs (h 0 (omega arith)) (all_from P xs d (λ i lt. h (suc i) (omega (arith, lt))))

pub among_at : (a : ℕ) (os : List ℕ) → is_among a os ≡ true → (i : ℕ) × (i < length os) × (slice_index_or os i 0 ≡ a)
among_at a [] h = cc
among_at a (o ∷ os) h = elim (eqb_tells o a) [
  | inl e ↦ (0, omega arith, e.1)
  | inr e ↦ later (among_at a os (rest (o == a) e.0 h))
]
  where
    rest : (t : Bool) → t ≡ false → t || is_among a os ≡ true → is_among a os ≡ true
    rest true e h = cc
    rest false e h = h

    later : ((i : ℕ) × (i < length os) × (slice_index_or os i 0 ≡ a)) → (i : ℕ) × (i < length (o ∷ os)) × (slice_index_or (o ∷ os) i 0 ≡ a)
    later r = (suc r.0, (let lt = r.1 in omega (arith, lt)), r.2)

pub among_of : (a : ℕ) (os : List ℕ) (i : ℕ) → i < length os → slice_index_or os i 0 ≡ a → is_among a os ≡ true
among_of a [] i lt e = absurd (omega (arith, lt))
among_of a (o ∷ os) zero lt e = by_test (eqb_tells o a)
  where
    by_test : (((o == a) ≡ true) × (o ≡ a)) ⊎ (((o == a) ≡ false) × (o ≢ a)) → (o == a) || is_among a os ≡ true
    by_test (inl k) = rw k.0 refl
    by_test (inr k) = absurd (k.1 e)
among_of a (o ∷ os) (suc i) lt e = either (o == a) (among_of a os i (omega (arith, lt)) e)
  where
    either : (t : Bool) → is_among a os ≡ true → t || is_among a os ≡ true
    either true h = refl
    either false h = h

positive_part : (z : ℤ) → pos 1 ≤ℤ z → (p : ℕ) × (0 < p) × (z ≡ pos p)
positive_part (pos p) h = (p, omega (arith, ints), refl)
positive_part (negsuc p) h = absurd (omega (arith, ints))

decide : (a b : ℕ) → (a ≡ b) ⊎ (a ≢ b)
decide a b = elim (eqb_tells a b) [ inl e ↦ inl e.1 | inr e ↦ inr e.1 ]

-- ---- one pivot

module _ (w : ℕ) (start b c : Table) (is : IsTable w start b) (t s p : ℕ) (below : t < w) (after : 0 < t) (inside : s < length b.rows) (lt : 0 < p) (number : entry (row_at b s) t ≡ pos p)
    (least : (i : ℕ) → i < length b.rows → i ≢ s → (entry (row_at b i) t *ℤ entry (row_at b s) (w + 2)) ≤ℤ (pos p *ℤ entry (row_at b i) (w + 2)))
    (strict : (i : ℕ) → i < length b.rows → i ≢ s → own_at b i ≡ 0 → pos 1 ≤ℤ entry (row_at b i) (w + 2) → (entry (row_at b i) t *ℤ entry (row_at b s) (w + 2)) <ℤ (pos p *ℤ entry (row_at b i) (w + 2)))
    (turn : Turned t s b c) where
  count : length c.rows ≡ length b.rows
  count = rows_long t s (row_at b s) 0 b.rows c.rows turn.rows

  wide : (i : ℕ) → i < length b.rows → length (row_at b i) ≡ w + 3
  wide i h = all_at (λ r. length r ≡ w + 3) b.rows [] is.shape.rows i h

  same_wide : (i : ℕ) → i < length b.rows → length (row_at b i) ≡ length (row_at b s)
  same_wide i h = wide i h ∙ sym (wide s inside)

  two_wide : length b.two ≡ length (row_at b s)
  two_wide = is.shape.two ∙ sym (wide s inside)

  own_in : s < length b.owns
  own_in = let e = is.shape.owns in omega (arith, e, inside)

  kept_row : row_at c s ≡ row_at b s
  kept_row = elim (rows_at t s (row_at b s) 0 b.rows c.rows turn.rows s inside) [ inl k ↦ k.1 | inr k ↦ absurd (k.0 (omega arith)) ]

  turned_row : (i : ℕ) → i < length b.rows → i ≢ s → row_at c i ≡ turned t (row_at b s) (row_at b i)
  turned_row i h d = elim (rows_at t s (row_at b s) 0 b.rows c.rows turn.rows i h) [ inl k ↦ absurd (d (let q = k.0 in omega (arith, q))) | inr k ↦ k.1 ]

  -- the row of another variable's own has a divisor
  divides_row : (i : ℕ) → i < length b.rows → i ≢ s → 0 < divisor (combined (entry (row_at b s) t) (entry (row_at b i) t) (row_at b i) (row_at b s))
  divides_row i h d = turned_divides t (own_at b i) p (row_at b s) (row_at b i) (same_wide i h) lt number (is.own i h) (is.others s i inside h (λ e. d (sym e)))

  divides_two : 0 < divisor (combined (entry (row_at b s) t) (entry b.two t) b.two (row_at b s))
  divides_two = turned_divides t (w + 1) p (row_at b s) b.two two_wide lt number is.two_positive (is.rows_two s inside)

  -- what solves the new rows solves the old ones
  rows_back : (v : ℕ → ℤ) → Solves v c → Solves v b
  rows_back v h i k = elim (decide i s) [
    | inl e ↦ subst (λ j. dot (row_at b j) v ≡ pos 0) (sym e) base
    | inr d ↦ turned_back t p (row_at b s) (row_at b i) v (same_wide i k) lt number base (subst (λ r. dot r v ≡ pos 0) (turned_row i k d) (h i (omega (arith, count, k))))
  ]
    where
      base : dot (row_at b s) v ≡ pos 0
      base = subst (λ r. dot r v ≡ pos 0) kept_row (h s (omega (arith, count, inside)))

  -- and the other way
  rows_forth : (v : ℕ → ℤ) → Solves v b → Solves v c
  rows_forth v h i k = elim (decide i s) [
    | inl e ↦ subst (λ j. dot (row_at c j) v ≡ pos 0) (sym e) (subst (λ r. dot r v ≡ pos 0) (sym kept_row) (h s inside))
    | inr d ↦ subst (λ r. dot r v ≡ pos 0) (sym (turned_row i here d)) (turned_solves t (row_at b s) (row_at b i) v (same_wide i here) (divides_row i here d) (h s inside) (h i here))
  ]
    where
      here : i < length b.rows
      here = omega (arith, count, k)

  base_of : (v : ℕ → ℤ) → Solves v c → dot (row_at b s) v ≡ pos 0
  base_of v h = subst (λ r. dot r v ≡ pos 0) kept_row (h s (omega (arith, count, inside)))

  two_backs : (v : ℕ → ℤ) → Solves v c → dot c.two v ≡ pos 0 → dot b.two v ≡ pos 0
  two_backs v h e = turned_back t p (row_at b s) b.two v two_wide lt number (base_of v h) (subst (λ r. dot r v ≡ pos 0) turn.two e)

  new_own : (i : ℕ) → i < length b.rows → pos 1 ≤ℤ entry (row_at c i) (own_at c i)
  new_own i h = elim (decide i s) [
    | inl e ↦ subst (λ j. pos 1 ≤ℤ entry (row_at c j) (own_at c j)) (sym e) (rw (kept_row, own_here t s b c turn own_in) (omega (arith, ints)))
    | inr d ↦ rw (turned_row i h d, own_else t s b c turn i d) (turned_positive t (own_at b i) p (row_at b s) (row_at b i) (same_wide i h) lt number (is.own i h) (is.others s i inside h (λ e. d (sym e))))
  ]

  new_others : (i j : ℕ) → i < length b.rows → j < length b.rows → i ≢ j → entry (row_at c i) (own_at c j) ≡ pos 0
  new_others i j hi hj d = elim (decide j s) [
    | inl e ↦ subst (λ k. entry (row_at c i) (own_at c k) ≡ pos 0) (sym e) (here (λ q. d (q ∙ sym e)))
    | inr k ↦ rw (own_else t s b c turn j k) (elim (decide i s) [
      | inl e ↦ subst (λ m. entry (row_at c m) (own_at b j) ≡ pos 0) (sym e) (rw kept_row (is.others s j inside hj (λ q. k (sym q))))
      | inr m ↦ rw (turned_row i hi m) (turned_zero t (own_at b j) (row_at b s) (row_at b i) (same_wide i hi) (divides_row i hi m) (is.others i j hi hj d) (is.others s j inside hj (λ q. k (sym q))))
    ])
  ]
    where
      here : i ≢ s → entry (row_at c i) (own_at c s) ≡ pos 0
      here m = rw (own_here t s b c turn own_in, turned_row i hi m) (turned_out t (row_at b s) (row_at b i) (same_wide i hi) (divides_row i hi m))

  new_two_own : (j : ℕ) → j < length b.rows → entry c.two (own_at c j) ≡ pos 0
  new_two_own j h = elim (decide j s) [
    | inl e ↦ subst (λ k. entry c.two (own_at c k) ≡ pos 0) (sym e) (rw (own_here t s b c turn own_in, turn.two) (turned_out t (row_at b s) b.two two_wide divides_two))
    | inr d ↦ rw (own_else t s b c turn j d, turn.two) (turned_zero t (own_at b j) (row_at b s) b.two two_wide divides_two (is.two_own j h) (is.others s j inside h (λ e. d (sym e))))
  ]

  new_two_positive : pos 1 ≤ℤ entry c.two (w + 1)
  new_two_positive = rw turn.two (turned_positive t (w + 1) p (row_at b s) b.two two_wide lt number is.two_positive (is.rows_two s inside))

  new_rows_at : (u : ℕ) → ((i : ℕ) → i < length b.rows → entry (row_at b i) u ≡ pos 0) → (i : ℕ) → i < length b.rows → entry (row_at c i) u ≡ pos 0
  new_rows_at u none i h = elim (decide i s) [
    | inl e ↦ subst (λ j. entry (row_at c j) u ≡ pos 0) (sym e) (rw kept_row (none s inside))
    | inr d ↦ rw (turned_row i h d) (turned_zero t u (row_at b s) (row_at b i) (same_wide i h) (divides_row i h d) (none i h) (none s inside))
  ]

  new_right : (i : ℕ) → i < length b.rows → pos 0 ≤ℤ entry (row_at c i) (w + 2)
  new_right i h = elim (decide i s) [
    | inl e ↦ subst (λ j. pos 0 ≤ℤ entry (row_at c j) (w + 2)) (sym e) (rw kept_row (is.right s inside))
    | inr d ↦ rw (turned_row i h d) (turned_right t (w + 2) p (row_at b s) (row_at b i) (same_wide i h) (divides_row i h d) number (least i h d))
  ]

  new_small : (i : ℕ) → i < length b.rows → own_at c i < w
  new_small i h = elim (decide i s) [
    | inl e ↦ subst (λ j. own_at c j < w) (sym e) (let q = own_here t s b c turn own_in in omega (arith, q, below))
    | inr d ↦ let q = own_else t s b c turn i d in let k = is.small i h in omega (arith, q, k)
  ]

  new_wide : (i : ℕ) → i < length b.rows → length (row_at c i) ≡ w + 3
  new_wide i h = elim (decide i s) [
    | inl e ↦ subst (λ j. length (row_at c j) ≡ w + 3) (sym e) (ap length kept_row ∙ wide s inside)
    | inr d ↦ ap length (turned_row i h d) ∙ (turned-long t (row_at b s) (row_at b i) (same_wide i h) ∙ wide i h)
  ]

  new_owns : length c.owns ≡ length c.rows
  new_owns = ap length turn.owns ∙ (length-set b.owns s t ∙ (is.shape.owns ∙ sym count))

  -- ---- the first phase

  -- the artificial variable isn't taken in
  still_first : in_first c ≡ true → (i : ℕ) × (i < length b.rows) × (i ≢ s) × (own_at b i ≡ 0)
  still_first h =
      let k = among_at 0 c.owns h in
      let lt' : k.0 < length b.rows = (let x = k.1 in let y = new_owns in omega (arith, x, y, count)) in
      let d : k.0 ≢ s = (λ e. let q = own_here t s b c turn own_in in let z : own_at c s ≡ 0 = subst (λ j. own_at c j ≡ 0) e k.2 in absurd (omega (arith, q, z, after))) in
      (k.0, lt', d, sym (own_else t s b c turn k.0 d) ∙ k.2)

  was_first : in_first c ≡ true → in_first b ≡ true
  was_first h = let k = still_first h in among_of 0 b.owns k.0 (let e = is.shape.owns in let x = k.1 in omega (arith, e, x)) k.3

  module _ (first : in_first c ≡ true) where
    old : HasFirst w start b
    old = is.first (was_first first)

    one_is : c.one ≡ turned t (row_at b s) b.one
    one_is = turn.one first

    one_wide : length b.one ≡ length (row_at b s)
    one_wide = is.shape.one ∙ sym (wide s inside)

    divides_one : 0 < divisor (combined (entry (row_at b s) t) (entry b.one t) b.one (row_at b s))
    divides_one = turned_divides t w p (row_at b s) b.one one_wide lt number old.positive (old.rows s inside)

    artificial_new : (i : ℕ) → i < length b.rows → own_at c i ≡ 0 → pos 1 ≤ℤ entry (row_at c i) (w + 2)
    artificial_new i h z = elim (decide i s) [
      | inl e ↦ let q = own_here t s b c turn own_in in let y : own_at c s ≡ 0 = subst (λ j. own_at c j ≡ 0) e z in absurd (omega (arith, q, y, after))
      | inr d ↦
          let o : own_at b i ≡ 0 = sym (own_else t s b c turn i d) ∙ z in
          let a = old.artificial i h o in
          let k = turned_entry t (row_at b s) (row_at b i) (w + 2) (same_wide i h) in
          let m = strict i h d o a in
          let e1 = ap (λ (y : ℤ). y *ℤ entry (row_at b i) (w + 2)) number in
          rw (turned_row i h d) (one_more (divisor (combined (entry (row_at b s) t) (entry (row_at b i) t) (row_at b i) (row_at b s))) (entry (turned t (row_at b s) (row_at b i)) (w + 2)) (omega (arith, ints)))
    ]
      where
        one_more : (g : ℕ) (z : ℤ) → pos 1 ≤ℤ (pos g *ℤ z) → pos 1 ≤ℤ z
        one_more g (pos zero) k = let e : pos g *ℤ pos 0 ≡ pos 0 = omega (arith, ints) in absurd (omega (arith, ints))
        one_more g (pos (suc z)) k = omega (arith, ints)
        one_more g (negsuc z) k = let e = mul-le g (negsuc z) (pos 0) (omega (arith, ints)) in let f : pos g *ℤ pos 0 ≡ pos 0 = omega (arith, ints) in absurd (omega (arith, ints))

    new_first : HasFirst w start c
    new_first = record {
      own = λ j h. let hb : j < length b.rows = omega (arith, count, h) in elim (decide j s) [
        | inl e ↦ subst (λ k. entry c.one (own_at c k) ≡ pos 0) (sym e) (rw (own_here t s b c turn own_in, one_is) (turned_out t (row_at b s) b.one one_wide divides_one))
        | inr d ↦ rw (own_else t s b c turn j d, one_is) (turned_zero t (own_at b j) (row_at b s) b.one one_wide divides_one (old.own j hb) (is.others s j inside hb (λ e. d (sym e))))
      ];
      positive = rw one_is (turned_positive t w p (row_at b s) b.one one_wide lt number old.positive (old.rows s inside));
      rows = λ i h. new_rows_at w old.rows i (omega (arith, count, h));
      back = λ v h e. old.back v (rows_back v h) (turned_back t p (row_at b s) b.one v one_wide lt number (base_of v h) (subst (λ r. dot r v ≡ pos 0) one_is e));
      forth = λ v h e. subst (λ r. dot r v ≡ pos 0) (sym one_is) (turned_solves t (row_at b s) b.one v one_wide divides_one (is.forth v h s inside) (old.forth v h e));
      artificial = λ i h z. artificial_new i (omega (arith, count, h)) z;
    }

  one_long : length c.one ≡ w + 3 → IsTable w start c
  one_long long = record {
    shape = record {
      some = omega arith;
      rows = all_from (λ r. length r ≡ w + 3) c.rows [] (λ i h. new_wide i (omega (arith, count, h)));
      owns = new_owns;
      one = long;
      two = ap length turn.two ∙ (turned-long t (row_at b s) b.two two_wide ∙ is.shape.two);
    };
    small = λ i h. new_small i (omega (arith, count, h));
    own = λ i h. new_own i (omega (arith, count, h));
    others = λ i j hi hj d. new_others i j (omega (arith, count, hi)) (omega (arith, count, hj)) d;
    two_own = λ j h. new_two_own j (omega (arith, count, h));
    two_positive = new_two_positive;
    rows_two = λ i h. new_rows_at (w + 1) is.rows_two i (omega (arith, count, h));
    right = λ i h. new_right i (omega (arith, count, h));
    back = λ v h. is.back v (rows_back v h);
    forth = λ v h. rows_forth v (is.forth v h);
    two_back = λ v h e. is.two_back v (rows_back v h) (two_backs v h e);
    first = new_first;
  }

-- the right side of a row of that width
pub right_is : (w : ℕ) (r : Row) → length r ≡ w + 3 → right r ≡ entry r (w + 2)
right_is w r h = ap (entry r) (omega (arith, h))

-- a pivot by Bland's rule
table_next : (w : ℕ) (start b c : Table) (t : ℕ) (d : Choice) → IsTable w start b → t < w → 0 < t → leaving t b ≡ Some d → pivoted t d.row b ≡ Some c → length c.one ≡ w + 3 → IsTable w start c
table_next w start b c t d is below after left turns long =
    let l = least_of t 0 None b.owns b.rows d tt is.shape.owns left in
    elim l.source [
      | inl e ↦ cc
      | inr k ↦ by_source k.0 k.1 k.2 k.3 l.new
    ]
  where
    by_source : (s : ℕ) → s < length b.rows → d ≡ choice t (0 + s) (own_at b s) (row_at b s) → pos 0 <ℤ entry (row_at b s) t →
        ((i : ℕ) → i < length b.rows → pos 0 <ℤ entry (row_at b i) t → Before d (choice t (0 + i) (own_at b i) (row_at b i))) → IsTable w start c
    by_source s inside from positive new =
        let p = positive_part (entry (row_at b s) t) (omega (arith, ints)) in
        one_long w start b c is t s p.0 below after inside p.1 p.2 (least_at p.0 p.2) (strict_at p.0 p.2) (turned_by t s b c (subst (λ j. pivoted t j b ≡ Some c) row_is turns)) long
      where
        row_is : d.row ≡ s
        row_is = ap (λ (x : Choice). x.row) from ∙ omega arith

        right_at : (i : ℕ) → i < length b.rows → right (row_at b i) ≡ entry (row_at b i) (w + 2)
        right_at i h = right_is w (row_at b i) (all_at (λ r. length r ≡ w + 3) b.rows [] is.shape.rows i h)

        before : (i : ℕ) → i < length b.rows → pos 0 <ℤ entry (row_at b i) t → Before (choice t (0 + s) (own_at b s) (row_at b s)) (choice t (0 + i) (own_at b i) (row_at b i))
        before i h k = subst (λ x. Before x (choice t (0 + i) (own_at b i) (row_at b i))) from (new i h k)

        least_at : (p : ℕ) → entry (row_at b s) t ≡ pos p → (i : ℕ) → i < length b.rows → i ≢ s → (entry (row_at b i) t *ℤ entry (row_at b s) (w + 2)) ≤ℤ (pos p *ℤ entry (row_at b i) (w + 2))
        least_at p number i h d = by_lt_z (pos 0) (entry (row_at b i) t)
            (λ k.
            let f = (before i h k).least in
            let e1 = right_at s inside in let e2 = right_at i h in
            let f1 = ap (λ (z : ℤ). z *ℤ entry (row_at b i) t) e1 in
            let f2 = ap (λ (z : ℤ). z *ℤ entry (row_at b s) t) e2 in
            let g1 = *ℤ_comm (entry (row_at b s) (w + 2)) (entry (row_at b i) t) in
            let g2 = *ℤ_comm (entry (row_at b i) (w + 2)) (entry (row_at b s) t) in
            let g3 = ap (λ (z : ℤ). z *ℤ entry (row_at b i) (w + 2)) number in
            omega (arith, ints))
            (λ k.
            let r = is.right i h in let q = is.right s inside in
            let f1 = *ℤ_comm (entry (row_at b i) t) (entry (row_at b s) (w + 2)) in
            let f2 = mul_at_most (entry (row_at b s) (w + 2)) (entry (row_at b i) t) q k in
            let f3 = mul-le p (pos 0) (entry (row_at b i) (w + 2)) r in
            let f4 : pos p *ℤ pos 0 ≡ pos 0 = omega (arith, ints) in
            omega (arith, ints))

        strict_at : (p : ℕ) → entry (row_at b s) t ≡ pos p → (i : ℕ) → i < length b.rows → i ≢ s → own_at b i ≡ 0 → pos 1 ≤ℤ entry (row_at b i) (w + 2) → (entry (row_at b i) t *ℤ entry (row_at b s) (w + 2)) <ℤ (pos p *ℤ entry (row_at b i) (w + 2))
        strict_at p number i h d o a = by_lt_z (pos 0) (entry (row_at b i) t)
            (λ k.
            let f = (before i h k).strict (lesser o) in
            let e1 = right_at s inside in let e2 = right_at i h in
            let f1 = ap (λ (z : ℤ). z *ℤ entry (row_at b i) t) e1 in
            let f2 = ap (λ (z : ℤ). z *ℤ entry (row_at b s) t) e2 in
            let g1 = *ℤ_comm (entry (row_at b s) (w + 2)) (entry (row_at b i) t) in
            let g2 = *ℤ_comm (entry (row_at b i) (w + 2)) (entry (row_at b s) t) in
            let g3 = ap (λ (z : ℤ). z *ℤ entry (row_at b i) (w + 2)) number in
            omega (arith, ints))
            (λ k.
            let q = is.right s inside in
            let f1 = *ℤ_comm (entry (row_at b i) t) (entry (row_at b s) (w + 2)) in
            let f2 = mul_at_most (entry (row_at b s) (w + 2)) (entry (row_at b i) t) q k in
            let f3 = mul-le p (pos 1) (entry (row_at b i) (w + 2)) a in
            let f4 : pos p *ℤ pos 1 ≡ pos p = omega (arith, ints) in
            let f5 : pos 1 ≤ℤ pos p = subst (λ (z : ℤ). pos 1 ≤ℤ z) number (omega (arith, ints)) in
            omega (arith, ints))
          where
            -- another row's variable isn't the artificial one
            lesser : own_at b i ≡ 0 → own_at b i < own_at b s
            lesser o = elim (decide (own_at b s) 0) [
              | inl e ↦
                  let z : entry (row_at b s) (own_at b i) ≡ pos 0 = is.others s i inside h (λ q. d (sym q)) in
                  let y : entry (row_at b s) (own_at b s) ≡ pos 0 = subst (λ u. entry (row_at b s) u ≡ pos 0) (o ∙ sym e) z in
                  let x = is.own s inside in absurd (omega (arith, ints))
              | inr e ↦ let q = not_none (own_at b s) e in omega (arith, o, q)
            ]
              where
                not_none : (n : ℕ) → n ≢ 0 → 0 < n
                not_none zero f = absurd (f refl)
                not_none (suc n) f = omega arith

-- the row that is left is one of the table's
choice_inside : (w : ℕ) (start b : Table) (t : ℕ) (d : Choice) → IsTable w start b → leaving t b ≡ Some d → d.row < length b.rows
choice_inside w start b t d is left =
    let l = least_of t 0 None b.owns b.rows d tt is.shape.owns left in
    elim l.source [
      | inl e ↦ cc
      | inr k ↦ let e = ap (λ (x : Choice). x.row) k.2 in let lt = k.1 in omega (arith, e, lt)
    ]

-- the first objective's row is as long
first_wide : (w : ℕ) (start b c : Table) (t s : ℕ) → IsTable w start b → s < length b.rows → Turned t s b c → length c.one ≡ w + 3
first_wide w start b c t s is inside turn = by_phase (in_first c) refl
  where
    by_phase : (p : Bool) → in_first c ≡ p → length c.one ≡ w + 3
    by_phase true h = ap length (turn.one h) ∙ (turned-long t (row_at b s) b.one (is.shape.one ∙ sym (all_at (λ r. length r ≡ w + 3) b.rows [] is.shape.rows s inside)) ∙ is.shape.one)
    by_phase false h = ap length (turn.one_kept h) ∙ is.shape.one

pub kept_next : (w : ℕ) (start b c : Table) (t : ℕ) (d : Choice) → IsTable w start b → t < w → 0 < t → leaving t b ≡ Some d → pivoted t d.row b ≡ Some c → IsTable w start c
kept_next w start b c t d is below after left turns =
    table_next w start b c t d is below after left turns (first_wide w start b c t d.row is (choice_inside w start b t d is left) (turned_by t d.row b c turns))
