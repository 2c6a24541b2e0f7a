-- Which row Bland's rule leaves: the least quotient, and of equal ones the least variable.
use Rattle.std.proofs.Common.{◌≡◌, ℕ, zero, suc, ◌+◌, ◌≤◌, ◌<◌, ℤ, pos, ◌*ℤ◌, ◌≤ℤ◌, ◌<ℤ◌, arith, refl, sym, ap, ◌∙◌, subst, List, [], ◌∷◌, length, inl, inr, ◌⊎◌, Bool, true, false, cond, Option, Some, None, nat_lt}
use Rattle.std.specs.Prelude.{slice_index_or}
use Rattle.std.specs.Int.RustNames.{int_lt}
use Rattle.std.specs.Ordering.{int_cmp, MatchOrdering}
use Rattle.std.specs.declared.cmp.Ordering.{Ordering}
use Rattle.std.specs.declared.cmp.Ordering.TheVariants.{Less, Equal, Greater}
use Rattle.std.specs.Cmp.{int_ranks}
use lib.IntN.{*ℤ_comm}
use Rattle.std.proofs.lemmas.Int.{ints, by_lt_z}
use Rattle.std.proofs.lemmas.Bool.Decides.{nat_tests}
use Rattle.frac128.proofs.SignedLemmas.{mul_assoc, mul-lt, mul-le-mul_right, le_of_mul-le}
use Rattle.simplex_tables.specs.Rows.{Row, entry}
use Rattle.simplex_tables.specs.declared.choosing.Choice.{Choice}
use Rattle.simplex_tables.specs.Choices.{right, by_order, goes_first, better, considered, leaving_from}

swap : (x y z : ℤ) → (x *ℤ y) *ℤ z ≡ (x *ℤ z) *ℤ y
swap x y z = mul_assoc x y z ∙ (ap (λ (w : ℤ). x *ℤ w) (*ℤ_comm y z) ∙ sym (mul_assoc x z y))

lt_of_mul : (x y d : ℤ) → pos 0 <ℤ d → (x *ℤ d) <ℤ (y *ℤ d) → x <ℤ y
lt_of_mul x y d h k = by_lt_z x y (λ lt. lt) (λ le. absurd (let e = mul-le-mul_right y x d (omega (arith, ints)) le in omega (arith, ints)))

-- a/b is at most c/d, that at most e/f

le_trans : (a b c d e f : ℤ) → pos 0 <ℤ b → pos 0 <ℤ d → pos 0 <ℤ f → (a *ℤ d) ≤ℤ (c *ℤ b) → (c *ℤ f) ≤ℤ (e *ℤ d) → (a *ℤ f) ≤ℤ (e *ℤ b)
le_trans a b c d e f hb hd hf h k =
    let e1 = mul-le-mul_right (a *ℤ d) (c *ℤ b) f (omega (arith, ints)) h in
    let e2 = mul-le-mul_right (c *ℤ f) (e *ℤ d) b (omega (arith, ints)) k in
    let s1 = swap a d f in let s2 = swap c b f in let s3 = swap e d b in
    le_of_mul-le (a *ℤ f) (e *ℤ b) d hd (omega (arith, ints))

lt_le_trans : (a b c d e f : ℤ) → pos 0 <ℤ b → pos 0 <ℤ d → pos 0 <ℤ f → (a *ℤ d) <ℤ (c *ℤ b) → (c *ℤ f) ≤ℤ (e *ℤ d) → (a *ℤ f) <ℤ (e *ℤ b)
lt_le_trans a b c d e f hb hd hf h k =
    let e1 = mul-lt (a *ℤ d) (c *ℤ b) f hf h in
    let e2 = mul-le-mul_right (c *ℤ f) (e *ℤ d) b (omega (arith, ints)) k in
    let s1 = swap a d f in let s2 = swap c b f in let s3 = swap e d b in
    lt_of_mul (a *ℤ f) (e *ℤ b) d hd (omega (arith, ints))

le_lt_trans : (a b c d e f : ℤ) → pos 0 <ℤ b → pos 0 <ℤ d → pos 0 <ℤ f → (a *ℤ d) ≤ℤ (c *ℤ b) → (c *ℤ f) <ℤ (e *ℤ d) → (a *ℤ f) <ℤ (e *ℤ b)
le_lt_trans a b c d e f hb hd hf h k =
    let e1 = mul-le-mul_right (a *ℤ d) (c *ℤ b) f (omega (arith, ints)) h in
    let e2 = mul-lt (c *ℤ f) (e *ℤ d) b hb k in
    let s1 = swap a d f in let s2 = swap c b f in let s3 = swap e d b in
    lt_of_mul (a *ℤ f) (e *ℤ b) d hd (omega (arith, ints))

-- not behind another choice: no greater quotient, and a lesser one where its variable is greater
pub record Before (c a : Choice) : Type 0 where
  pub least : (c.top *ℤ a.bottom) ≤ℤ (a.top *ℤ c.bottom)
  pub strict : a.own < c.own → (c.top *ℤ a.bottom) <ℤ (a.top *ℤ c.bottom)

abbrev pub IsPositive : Choice → Type 0
IsPositive c = pos 0 <ℤ c.bottom

before_self : (c : Choice) → Before c c
before_self c = record { least = omega (arith, ints); strict = λ lt. absurd (omega (arith, lt)) }

before_trans : (c x y : Choice) → IsPositive c → IsPositive x → IsPositive y → Before c x → Before x y → Before c y
before_trans c x y hc hx hy h k = record {
  least = le_trans c.top c.bottom x.top x.bottom y.top y.bottom hc hx hy h.least k.least;
  strict = λ lt. by_own (nat_lt x.own c.own) refl lt;
}
  where
    by_own : (t : Bool) → nat_lt x.own c.own ≡ t → y.own < c.own → (c.top *ℤ y.bottom) <ℤ (y.top *ℤ c.bottom)
    by_own true e lt = lt_le_trans c.top c.bottom x.top x.bottom y.top y.bottom hc hx hy (h.strict (grind (arith, nat_tests))) k.least
    by_own false e lt = le_lt_trans c.top c.bottom x.top x.bottom y.top y.bottom hc hx hy h.least (k.strict (let g : c.own ≤ x.own = grind (arith, nat_tests) in omega (arith, g, lt)))

-- what goes first isn't behind, and what doesn't leaves the other one before it

first_before : (a b : Choice) → goes_first a b ≡ true → Before a b
first_before a b h = of (int_cmp (a.top *ℤ b.bottom) (b.top *ℤ a.bottom)) (int_ranks (a.top *ℤ b.bottom) (b.top *ℤ a.bottom)) h
  where
    of : (o : Ordering) → MatchOrdering o ((a.top *ℤ b.bottom) <ℤ (b.top *ℤ a.bottom)) ((a.top *ℤ b.bottom) ≡ (b.top *ℤ a.bottom)) ((b.top *ℤ a.bottom) <ℤ (a.top *ℤ b.bottom)) → by_order o a.own b.own ≡ true → Before a b
    of Less m h = record { least = omega (arith, ints); strict = λ lt. m }
    of Equal m h = record { least = omega (arith, ints); strict = λ lt. absurd (grind (arith, nat_tests)) }
    of Greater m h = cc

other_before : (a b : Choice) → goes_first a b ≡ false → Before b a
other_before a b h = of (int_cmp (a.top *ℤ b.bottom) (b.top *ℤ a.bottom)) (int_ranks (a.top *ℤ b.bottom) (b.top *ℤ a.bottom)) h
  where
    of : (o : Ordering) → MatchOrdering o ((a.top *ℤ b.bottom) <ℤ (b.top *ℤ a.bottom)) ((a.top *ℤ b.bottom) ≡ (b.top *ℤ a.bottom)) ((b.top *ℤ a.bottom) <ℤ (a.top *ℤ b.bottom)) → by_order o a.own b.own ≡ false → Before b a
    of Less m h = cc
    of Equal m h = record { least = omega (arith, ints); strict = λ lt. absurd (grind (arith, nat_tests)) }
    of Greater m h = record { least = omega (arith, ints); strict = λ lt. m }

-- ---- the choice of a row

abbrev pub choice : ℕ → ℕ → ℕ → Row → Choice
choice t n o r = record { row = n; own = o; top = right r; bottom = entry r t }

abbrev pub number_at : List ℕ → ℕ → ℕ
number_at os i = slice_index_or os i 0

abbrev pub row_in : List Row → ℕ → Row
row_in rs i = slice_index_or rs i []

abbrev AreOf : Option Choice → Type 0
AreOf None = Unit {0}
AreOf (Some d) = IsPositive d

-- the best so far isn't behind
abbrev NotBehind : Choice → Option Choice → Type 0
NotBehind c None = Unit {0}
NotBehind c (Some d) = Before c d

-- the choice is the best so far, or that of one of the rows
abbrev pub IsFrom : ℕ → ℕ → Option Choice → List ℕ → List Row → Choice → Type 0
IsFrom t n best os rs c = (best ≡ Some c) ⊎ ((i : ℕ) × (i < length rs) × (c ≡ choice t (n + i) (number_at os i) (row_in rs i)) × (pos 0 <ℤ entry (row_in rs i) t))

pub record IsLeast (t n : ℕ) (best : Option Choice) (os : List ℕ) (rs : List Row) (c : Choice) : Type 0 where
  pub positive : IsPositive c
  pub source : IsFrom t n best os rs c
  pub old : NotBehind c best
  pub new : (i : ℕ) → i < length rs → pos 0 <ℤ entry (row_in rs i) t → Before c (choice t (n + i) (number_at os i) (row_in rs i))

some_same : {u v : Choice} → Some u ≡ Some v → u ≡ v
some_same e = cc

pub least_of : (t n : ℕ) (best : Option Choice) (os : List ℕ) (rs : List Row) (c : Choice) → AreOf best → length os ≡ length rs → leaving_from t n best os rs ≡ Some c → IsLeast t n best os rs c
least_of t n best [] [] c are long e = record {
  positive = of_best best are e;
  source = inl e;
  old = best_is best e;
  new = λ i lt. absurd (omega (arith, lt));
}
  where
    of_best : (o : Option Choice) → AreOf o → o ≡ Some c → IsPositive c
    of_best None h e = cc
    of_best (Some d) h e = subst IsPositive (some_same e) h

    best_is : (o : Option Choice) → o ≡ Some c → NotBehind c o
    best_is None e = tt
    best_is (Some d) e = subst (λ x. Before c x) (sym (some_same e)) (before_self c)
least_of t n best [] (r ∷ rs) c are long e = absurd (omega (arith, long))
least_of t n best (o ∷ os) [] c are long e = absurd (omega (arith, long))
least_of t n best (o ∷ os) (r ∷ rs) c are long e = by_number (int_lt (pos 0) (entry r t)) refl e (λ b h k. least_of t (n + 1) b os rs c h (omega (arith, long)) k)
  where
    shift : (i : ℕ) → (n + 1) + i ≡ n + suc i
    shift i = omega arith

    here : choice t (n + 0) o r ≡ choice t n o r
    here = ap (λ j. choice t j o r) (omega arith)

    later : (i : ℕ) → choice t ((n + 1) + i) (number_at os i) (row_in rs i) ≡ choice t (n + suc i) (number_at os i) (row_in rs i)
    later i = ap (λ j. choice t j (number_at os i) (row_in rs i)) (shift i)

    source_later : (b : Option Choice) → IsFrom t (n + 1) b os rs c → (b ≡ Some c → IsFrom t n best (o ∷ os) (r ∷ rs) c) → IsFrom t n best (o ∷ os) (r ∷ rs) c
    source_later b s f = elim s [
      | inl k ↦ f k
      | inr k ↦ inr (suc k.0, (let lt = k.1 in omega (arith, lt)), k.2 ∙ later k.0, k.3)
    ]

    new_later : ((i : ℕ) → i < length rs → pos 0 <ℤ entry (row_in rs i) t → Before c (choice t ((n + 1) + i) (number_at os i) (row_in rs i))) → (pos 0 <ℤ entry r t → Before c (choice t n o r)) →
        (i : ℕ) → i < suc (length rs) → pos 0 <ℤ entry (row_in (r ∷ rs) i) t → Before c (choice t (n + i) (number_at (o ∷ os) i) (row_in (r ∷ rs) i))
    new_later h f zero lt p = subst (λ x. Before c x) (sym here) (f p)
    new_later h f (suc i) lt p = subst (λ x. Before c x) (later i) (h i (omega (arith, lt)) p)

    by_number : (z : Bool) → int_lt (pos 0) (entry r t) ≡ z → leaving_from t (n + 1) (cond z (better best (choice t n o r)) best) os rs ≡ Some c →
        ((b : Option Choice) → AreOf b → leaving_from t (n + 1) b os rs ≡ Some c → IsLeast t (n + 1) b os rs c) → IsLeast t n best (o ∷ os) (r ∷ rs) c
    by_number false z e next =
        let k = next best are e in record {
          positive = k.positive;
          source = source_later best k.source (λ q. inl q);
          old = k.old;
          new = new_later k.new (λ p. absurd (grind (arith, ints, nat_tests)));
        }
    by_number true z e next = by_best best are refl e
      where
        positive : pos 0 <ℤ entry r t
        positive = grind (arith, ints, nat_tests)

        here_from : choice t n o r ≡ c → IsFrom t n best (o ∷ os) (r ∷ rs) c
        here_from q = inr (0, omega arith, sym q ∙ sym here, positive)

        by_best : (b : Option Choice) → AreOf b → best ≡ b → leaving_from t (n + 1) (better b (choice t n o r)) os rs ≡ Some c → IsLeast t n best (o ∷ os) (r ∷ rs) c
        by_best None h is e =
            let k = next (Some (choice t n o r)) positive e in record {
              positive = k.positive;
              source = source_later (Some (choice t n o r)) k.source (λ q. here_from (some_same q));
              old = subst (λ x. NotBehind c x) (sym is) tt;
              new = new_later k.new (λ p. k.old);
            }
        by_best (Some d) h is e = by_first (goes_first (choice t n o r) d) refl e
          where
            by_first : (f : Bool) → goes_first (choice t n o r) d ≡ f → leaving_from t (n + 1) (cond f (Some (choice t n o r)) (Some d)) os rs ≡ Some c → IsLeast t n best (o ∷ os) (r ∷ rs) c
            by_first true f e =
                let k = next (Some (choice t n o r)) positive e in record {
                  positive = k.positive;
                  source = source_later (Some (choice t n o r)) k.source (λ q. here_from (some_same q));
                  old = subst (λ x. NotBehind c x) (sym is) (before_trans c (choice t n o r) d k.positive positive h k.old (first_before (choice t n o r) d f));
                  new = new_later k.new (λ p. k.old);
                }
            by_first false f e =
                let k = next (Some d) h e in record {
                  positive = k.positive;
                  source = source_later (Some d) k.source (λ q. inl (is ∙ q));
                  old = subst (λ x. NotBehind c x) (sym is) k.old;
                  new = new_later k.new (λ p. before_trans c d (choice t n o r) k.positive h positive k.old (other_before (choice t n o r) d f));
                }

-- where no row is left, no number of the column is positive
pub none_left : (t n : ℕ) (best : Option Choice) (os : List ℕ) (rs : List Row) → length os ≡ length rs → leaving_from t n best os rs ≡ None → (best ≡ None) × ((i : ℕ) → i < length rs → entry (row_in rs i) t ≤ℤ pos 0)
none_left t n best [] [] long e = (e, λ i lt. absurd (omega (arith, lt)))
none_left t n best [] (r ∷ rs) long e = absurd (omega (arith, long))
none_left t n best (o ∷ os) [] long e = absurd (omega (arith, long))
none_left t n best (o ∷ os) (r ∷ rs) long e = by_number (int_lt (pos 0) (entry r t)) refl (none_left t (n + 1) (considered t n o r best) os rs (omega (arith, long)) e)
  where
    by_number : (z : Bool) → int_lt (pos 0) (entry r t) ≡ z → (cond z (better best (choice t n o r)) best ≡ None) × ((i : ℕ) → i < length rs → entry (row_in rs i) t ≤ℤ pos 0) → (best ≡ None) × ((i : ℕ) → i < suc (length rs) → entry (row_in (r ∷ rs) i) t ≤ℤ pos 0)
    by_number true z k = absurd (never best k.0)
      where
        never : (b : Option Choice) → better b (choice t n o r) ≡ None → ⊥
        never None e = cc
        never (Some d) e = by_first (goes_first (choice t n o r) d) e
          where
            by_first : (f : Bool) → cond f (Some (choice t n o r)) (Some d) ≡ None → ⊥
            by_first true e = cc
            by_first false e = cc
    by_number false z k = (k.0, at)
      where
        at : (i : ℕ) → i < suc (length rs) → entry (row_in (r ∷ rs) i) t ≤ℤ pos 0
        at zero lt = grind (arith, ints, nat_tests)
        at (suc i) lt = k.1 i (omega (arith, lt))
