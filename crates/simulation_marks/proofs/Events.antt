-- A block that begins is one block with its mark, or none.
use Rattle.std.proofs.Common.{◌≡◌, ◌≢◌, ℕ, zero, suc, ◌+◌, ◌<◌, ◌≤◌, Bool, true, false, List, [], ◌∷◌, length, Option, Some, None, refl, sym, ap, ◌∙◌, subst, ⊎_elim, arith, if◌then◌else◌}
use Rattle.std.specs.Prelude.{◌==◌, ◌&&◌, cond, slice_get, sum_by}
use Rattle.std.specs.Option.{option_to_list}
use Rattle.std.proofs.lemmas.Bool.{cases_eq, cases_lt}
use Rattle.std.proofs.lemmas.Bool.Decides.{nat_tests}
use Rattle.std.proofs.lemmas.List.{get_or_past}
use Rattle.std.proofs.lemmas.List.Sums.{sum_by-append}
use Rattle.std.proofs.lemmas.Option.{slice_get-get_or, slice_get_past}
use Rattle.low_ir.specs.declared.run.Began.{Began}
use Rattle.low_ir.specs.Places.{Placed}
use Rattle.low_ir.specs.Room.{marks_once}
use Rattle.low_ir.specs.Runs.{block_in}
use Rattle.low_ir.specs.Turns.{is_at, mark_at, mark_count, mark_in, marks_passed}
use Rattle.register_places.specs.Totals.{once, began_count}
use Rattle.asm_program.specs.Functions.{PlacedBlock, PlacedFunction, function_in, no_function}
use Rattle.claims_definition.specs.Listed.{marked_from, marked_here}
use Rattle.simulation_marks.proofs.Sums.{summed, summed-add, summed-append, summed-same, summed-zero, upto, one_counts}

same_test : (a : ℕ) → (a == a) ≡ true
same_test a = grind (arith, nat_tests)

other_test : (a b : ℕ) → a ≢ b → (a == b) ≡ false
other_test a b h = grind (arith, nat_tests, h)

-- whether c is one of the blocks with the mark
module _ (mark c : ℕ) where
  abbrev among : List ℕ → ℕ
  among bs = summed (λ b. once (c == b)) bs

  here_same : (o : Option ℕ) → among (marked_here mark c o) ≡ marks_once o mark
  here_same None = refl
  here_same (Some m) = by_test (m == mark)
    where
      by_test : (t : Bool) → among (if t then c ∷ [] else []) ≡ (if t then 1 else 0)
      by_test true = ap (λ t. once t + 0) (same_test c)
      by_test false = refl

  here_other : (b : ℕ) (o : Option ℕ) → c ≢ b → among (marked_here mark b o) ≡ 0
  here_other b None h = refl
  here_other b (Some m) h = by_test (m == mark)
    where
      by_test : (t : Bool) → among (if t then b ∷ [] else []) ≡ 0
      by_test true = ap (λ t. once t + 0) (other_test c b h)
      by_test false = refl

  from_behind : (b : ℕ) (xs : List PlacedBlock) → c < b → among (marked_from mark b xs) ≡ 0
  from_behind b [] h = refl
  from_behind b (x ∷ xs) h =
      let here = here_other b x.mark (λ e. omega (arith, e, h)) in
      let rest = from_behind (suc b) xs (omega (arith, h)) in
      let both = summed-append (λ n. once (c == n)) (marked_here mark b x.mark) (marked_from mark (suc b) xs) in
      omega (arith, here, rest, both)

  from_here : (b : ℕ) (xs : List PlacedBlock) (k : ℕ) → c ≡ b + k → among (marked_from mark b xs) ≡ marks_once (mark_in (slice_get xs k)) mark
  from_here b [] k e = refl
  from_here b (x ∷ xs) zero e =
      let is : c ≡ b = omega (arith, e) in
      let here : among (marked_here mark b x.mark) ≡ marks_once x.mark mark = subst (λ n. among (marked_here mark n x.mark) ≡ marks_once x.mark mark) is (here_same x.mark) in
      let rest = from_behind (suc b) xs (omega (arith, is)) in
      let both = summed-append (λ n. once (c == n)) (marked_here mark b x.mark) (marked_from mark (suc b) xs) in
      omega (arith, here, rest, both)
  from_here b (x ∷ xs) (suc k) e =
      let here = here_other b x.mark (λ same. omega (arith, same, e)) in
      let rest = from_here (suc b) xs k (omega (arith, e)) in
      let both = summed-append (λ n. once (c == n)) (marked_here mark b x.mark) (marked_from mark (suc b) xs) in
      omega (arith, here, rest, both)

module _ (p : Placed) (mark : ℕ) where
  -- the blocks of a function that have the mark
  abbrev marked : ℕ → List ℕ
  marked f = marked_from mark 0 (function_in p f).blocks

  -- how often they begin
  abbrev pub passes : List Began → ℕ → ℕ
  passes es f = summed (λ b. began_count f b es) (marked f)

  -- with one event
  abbrev hits : Began → ℕ → ℕ
  hits e f = summed (λ b. once (is_at e f b)) (marked f)

  other_function : (e : Began) (f : ℕ) → f ≢ e.function → hits e f ≡ 0
  other_function e f h = summed-zero (λ b. once (is_at e f b)) (marked f) (λ b. ap (λ t. once (t && (e.block == b))) (other_test e.function f (λ same. h (sym same))))

  own_function : (e : Began) → hits e e.function ≡ marks_once (mark_in (slice_get (function_in p e.function).blocks e.block)) mark
  own_function e =
      summed-same (λ b. once (is_at e e.function b)) (λ b. once (e.block == b)) (marked e.function) (λ b. ap (λ t. once (t && (e.block == b))) (same_test e.function))
      ∙ from_here mark e.block 0 (function_in p e.function).blocks e.block (omega arith)

  -- an event of a block is one of the function's block, if there is one
  one_event : (e : Began) (n : ℕ) → length p.functions ≤ n → summed (hits e) (upto 0 n) ≡ marks_once (mark_at p e) mark
  one_event e n all =
      ⊎_elim
      (λ (low : e.function < length p.functions).
      one_counts (hits e) e.function (other_function e) 0 n (omega arith) (omega (arith, low, all))
      ∙ own_function e
      ∙ ap (λ o. marks_once (mark_in (block_in o e.block)) mark) (sym (slice_get-get_or p.functions e.function no_function low)))
      (λ (past : length p.functions ≤ e.function).
      let none : function_in p e.function ≡ no_function = get_or_past p.functions e.function no_function past in
      let own : hits e e.function ≡ 0 = ap (λ (fn : PlacedFunction). summed (λ b. once (is_at e e.function b)) (marked_from mark 0 fn.blocks)) none in
      summed-zero (hits e) (upto 0 n) (λ f. ⊎_elim (λ (same : f ≡ e.function). ap (hits e) same ∙ own) (λ (other : f ≢ e.function). other_function e f other) (cases_eq f e.function))
      ∙ sym (ap (λ o. marks_once (mark_in (block_in o e.block)) mark) (slice_get_past p.functions e.function past)))
      (cases_lt e.function (length p.functions))

  abbrev tells : ℕ → ℕ
  tells x = cond (x == mark) 1 0

  listed : (o : Option ℕ) → sum_by tells (option_to_list o) ≡ marks_once o mark
  listed None = refl
  listed (Some m) = by_test (m == mark)
    where
      by_test : (t : Bool) → 0 + cond t 1 0 ≡ (if t then 1 else 0)
      by_test true = refl
      by_test false = refl

  one_more : (e : Began) (es : List Began) → mark_count p (e ∷ es) mark ≡ marks_once (mark_at p e) mark + mark_count p es mark
  one_more e es = sum_by-append tells (option_to_list (mark_at p e)) (marks_passed p es) ∙ ap (λ n. n + mark_count p es mark) (listed (mark_at p e))

  -- all events together
  pub events_counted : (es : List Began) (n : ℕ) → length p.functions ≤ n → summed (passes es) (upto 0 n) ≡ mark_count p es mark
  events_counted [] n all = summed-zero (passes []) (upto 0 n) (λ f. summed-zero (λ b. began_count f b []) (marked f) (λ b. refl))
  events_counted (e ∷ es) n all =
      summed-same (passes (e ∷ es)) (λ f. hits e f + passes es f) (upto 0 n) (λ f. summed-add (λ b. once (is_at e f b)) (λ b. began_count f b es) (marked f))
      ∙ summed-add (hits e) (passes es) (upto 0 n)
      ∙ ap (λ k. k + summed (passes es) (upto 0 n)) (one_event e n all)
      ∙ ap (λ k. marks_once (mark_at p e) mark + k) (events_counted es n all)
      ∙ sym (one_more e es)
