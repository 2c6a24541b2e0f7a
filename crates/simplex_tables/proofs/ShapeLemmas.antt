-- What ends pivots, and how far they have come.
use Rattle.std.proofs.Common.{◌≡◌, ℕ, zero, suc, ◌+◌, ◌-◌, ◌≤◌, ◌<◌, ℤ, pos, ◌≤ℤ◌, arith, refl, sym, ap, ◌∙◌, subst, [], ◌∷◌, take, drop, Bool, true, false, cond, Some, None}
use Rattle.std.specs.Int.RustNames.{int_lt}
use Rattle.std.proofs.lemmas.Int.{ints}
use Rattle.std.proofs.lemmas.Bool.Decides.{nat_tests}
use Rattle.simplex_tables.specs.Rows.{Row, entry}
use Rattle.simplex_tables.specs.declared.table.Table.{Table}
use Rattle.simplex_tables.specs.declared.running.Ending.{Ending}
use Rattle.simplex_tables.specs.declared.running.Ending.TheVariants.{Second, First, TooWide}
use Rattle.simplex_tables.specs.declared.running.Outcome.{Outcome}
use Rattle.simplex_tables.specs.declared.running.Outcome.TheVariants.{Turns, Wide, Ends}
use Rattle.simplex_tables.specs.declared.running.Ended.{Ended}
use Rattle.simplex_tables.specs.Choices.{in_first, first_negative, entering}
use Rattle.simplex_tables.specs.Shapes.{IsShaped, NoneNegative, HasEnded}
use Rattle.simplex_tables.specs.Runs.{ends, ended, after, next, last_of, pivots}

not_less : pos 0 ≤ℤ pos 0
not_less = omega (arith, ints)

-- where none is negative
pub first_none : (n : ℕ) (r : Row) → first_negative n r ≡ None → (u : ℕ) → pos 0 ≤ℤ entry r u
first_none n [] e u = not_less
first_none n (a ∷ as') e zero = by_test (int_lt a (pos 0)) refl e
  where
    by_test : (t : Bool) → int_lt a (pos 0) ≡ t → cond t (Some n) (first_negative (n + 1) as') ≡ None → pos 0 ≤ℤ a
    by_test true h e = cc
    by_test false h e = grind (arith, ints, nat_tests)
first_none n (a ∷ as') e (suc u) = first_none (n + 1) as' (by_test (int_lt a (pos 0)) e) u
  where
    by_test : (t : Bool) → cond t (Some n) (first_negative (n + 1) as') ≡ None → first_negative (n + 1) as' ≡ None
    by_test true e = cc
    by_test false e = e

take_entry : (k : ℕ) (r : Row) (u : ℕ) → u < k → entry (take k r) u ≡ entry r u
take_entry zero r u h = absurd (omega (arith, h))
take_entry (suc k) [] u h = refl
take_entry (suc k) (a ∷ as') zero h = refl
take_entry (suc k) (a ∷ as') (suc u) h = take_entry k as' u (omega (arith, h))

drop_entry : (r : Row) (u : ℕ) → entry (drop 1 r) u ≡ entry r (suc u)
drop_entry [] u = refl
drop_entry (a ∷ as') u = refl

none_behind : (k : ℕ) (r : Row) → first_negative 1 (take (k - 1) (drop 1 r)) ≡ None → NoneNegative k r
none_behind k r e zero from lt = absurd (omega (arith, from))
none_behind k r e (suc u) from lt = subst (λ (z : ℤ). pos 0 ≤ℤ z) (take_entry (k - 1) (drop 1 r) u (omega (arith, lt)) ∙ drop_entry r u) (first_none 1 (take (k - 1) (drop 1 r)) e u)

pub ended_first : (k n : ℕ) (b : Table) → IsShaped n b → entering k b ≡ None → in_first b ≡ true → HasEnded k n (First b)
ended_first k n b shape e h = (shape, h, none_behind k b.one (by_phase (in_first b) h e))
  where
    by_phase : (t : Bool) → t ≡ true → first_negative 1 (take (k - 1) (drop 1 (cond t b.one b.two))) ≡ None → first_negative 1 (take (k - 1) (drop 1 b.one)) ≡ None
    by_phase true p e = e
    by_phase false p e = cc

pub ended_second : (k n : ℕ) (b : Table) → IsShaped n b → entering k b ≡ None → in_first b ≡ false → HasEnded k n (Second b)
ended_second k n b shape e h = (shape, h, none_behind k b.two (by_phase (in_first b) h e))
  where
    by_phase : (t : Bool) → t ≡ false → first_negative 1 (take (k - 1) (drop 1 (cond t b.one b.two))) ≡ None → first_negative 1 (take (k - 1) (drop 1 b.two)) ≡ None
    by_phase true p e = cc
    by_phase false p e = e

pub has_ended : (k n : ℕ) (b : Table) → IsShaped n b → entering k b ≡ None → HasEnded k n (ends b)
has_ended k n b shape e = by_phase (in_first b) refl
  where
    by_phase : (t : Bool) → in_first b ≡ t → HasEnded k n (cond t (First b) (Second b))
    by_phase true p = ended_first k n b shape e p
    by_phase false p = ended_second k n b shape e p

-- ---- pivots that are made one after the other

less : (left i : ℕ) → i < left → left - i ≡ suc (left - (i + 1))
less left i lt = omega (arith, lt)

-- with a pivot left
one_left : (left i k made : ℕ) (b : Table) → i < left → pivots (left - i) k made b ≡ after (λ c. pivots (left - (i + 1)) k (made + 1) c) made (next k b)
one_left left i k made b lt = ap (λ n. pivots n k made b) (less left i lt)

module _ (left i k made : ℕ) (b : Table) (whole : Ended) (lt : i < left) (so_far : pivots (left - i) k (made + i) b ≡ whole) where
  step : (o : Outcome) → next k b ≡ o → after (λ c. pivots (left - (i + 1)) k ((made + i) + 1) c) (made + i) o ≡ whole
  step o e = sym (ap (after (λ c. pivots (left - (i + 1)) k ((made + i) + 1) c) (made + i)) e) ∙ (sym (one_left left i k (made + i) b lt) ∙ so_far)

  pub goes_on : (c : Table) → next k b ≡ Turns c → pivots (left - (i + 1)) k (made + (i + 1)) c ≡ whole
  goes_on c e = ap (λ n. pivots (left - (i + 1)) k n c) {x = made + (i + 1)} {y = (made + i) + 1} (omega arith) ∙ step (Turns c) e

  pub stops_wide : next k b ≡ Wide → ended ((made + i) + 1) TooWide ≡ whole
  stops_wide e = step Wide e

  pub stops_ended : (e : Ending) → next k b ≡ Ends e → ended (made + i) e ≡ whole
  stops_ended e h = step (Ends e) h

-- with none left
pub none_left : (left i k made : ℕ) (b : Table) (whole : Ended) → left ≤ i → pivots (left - i) k (made + i) b ≡ whole → ended (made + i) (last_of b (entering k b)) ≡ whole
none_left left i k made b whole le so_far = sym (ap (λ n. pivots n k (made + i) b) {x = left - i} {y = 0} (omega (arith, le))) ∙ so_far
