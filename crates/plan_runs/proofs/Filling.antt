-- The loop that fills what a list leaves over: elements become 0 one after another.
use Rattle.std.proofs.Common.{◌≡◌, ℕ, zero, suc, ◌+◌, ◌-◌, ◌%◌, ◌<◌, ◌≤◌, true, false, List, [], ◌∷◌, ◌++◌, length, replicate, take, Option, Some, None, refl, sym, ap, ◌∙◌, subst, arith, add-one}
use Rattle.std.specs.Prelude.{nat_lt, slice_get, slice_index_or, slice_set, unwrap_or}
use Rattle.std.proofs.lemmas.Bool.{lt-ltb, le-ltb}
use Rattle.std.proofs.lemmas.List.{append-nil, append_assoc, get_or-set_same, get_or-set_other, length-set, set-get_or, set-set, take_all, take_more_set}
use Rattle.std.proofs.lemmas.Option.{get_or_from_slice_get, slice_get_within, unwrap_or-slice_get}
use Rattle.wcc_base.specs.Words.{truth_word}
use Rattle.meaning_semantics.specs.State as source
use Rattle.high_ir.specs.declared.expression.BinaryOperator.TheVariants as binary
use Rattle.high_ir.specs.Tree.{Constant, Variable, Binary, Statement, Set, Seq, If, Loop, Block, Leave, Then}
use Rattle.high_ir.specs.Meaning.{World, State, Outcome, Goes, Leaves, at_value, with_value, choose, then_do, out_of_block, again, if_met, turns, value_of, run, run_all}
use Rattle.high_ir.specs.Words.{binary_word}
use Rattle.high_code.specs.Code.{alone, nothing}
use Rattle.high_code.proofs.Joined.{run_all-alone}
use Rattle.plan_definition.specs.declared.home.Home.TheVariants.{Frame}
use Rattle.plan_definition.specs.Statements.{stored_at}
use Rattle.plan_runs.specs.Cells.{Cells, size, put_cell}
use Rattle.plan_runs.specs.Meets.{home}
use Rattle.plan_runs.specs.Claims.{Setting, IsSetting, MeetsIn, Reached, Went, HasValue}
use Rattle.plan_runs.proofs.Cells.{size-put}
use Rattle.plan_runs.proofs.Stores.{alike, put_variable, temporary_meets}
use Rattle.plan_runs.proofs.Holding.{run_Set, reached_then}

-- zeros from an element on
abbrev pub puts : Cells → (object index : ℕ) → (count : ℕ) → Cells
puts objects object index zero = objects
puts objects object index (suc count) = puts (put_cell objects object index 0) object (suc index) count

abbrev fill_row : List (Option ℕ) → (index count : ℕ) → List (Option ℕ)
fill_row row index zero = row
fill_row row index (suc count) = fill_row (slice_set row index (Some 0)) (suc index) count

puts_row : (count : ℕ) (objects : Cells) (o i : ℕ) → o < length objects → puts objects o i count ≡ slice_set objects o (fill_row (slice_index_or objects o []) i count)
puts_row zero objects o i lt = sym (set-get_or objects o [])
puts_row (suc count) objects o i lt =
    let row = slice_index_or objects o [] in
    let first = slice_set row i (Some 0) in
    puts_row count (slice_set objects o first) o (suc i) (subst (λ n. o < n) (sym (length-set objects o first)) lt)
    ∙ ap (λ r. slice_set (slice_set objects o first) o (fill_row r (suc i) count)) (get_or-set_same objects o first [] lt)
    ∙ set-set objects o first (fill_row first (suc i) count)

fill_is : (count : ℕ) (row : List (Option ℕ)) (i : ℕ) → i + count ≡ length row → fill_row row i count ≡ take i row ++ replicate count (Some 0)
fill_is zero row i e = sym (ap (λ r. r ++ []) (take_all i row (omega (arith, e))) ∙ append-nil row)
fill_is (suc count) row i e =
    let lt : i < length row = omega (arith, e) in
    let more : take (suc i) (slice_set row i (Some 0)) ≡ take i row ++ Some 0 ∷ [] = ap (λ n. take n (slice_set row i (Some 0))) (sym (add-one i)) ∙ take_more_set row i (Some 0) lt in
    fill_is count (slice_set row i (Some 0)) (suc i) (omega (arith, e) ∙ sym (length-set row i (Some 0)))
    ∙ ap (λ r. r ++ replicate count (Some 0)) more
    ∙ append_assoc (take i row) (Some 0 ∷ []) (replicate count (Some 0))

-- zeros from an element to the end are what the meaning writes
pub zeros_cases : (C : source.State → Type 0) (o from count : ℕ) (st : source.State) → from + count ≡ size st.objects o → C (source.with_objects st (puts st.objects o from count)) → C (source.zeros o from st)
zeros_cases C o from count st whole done = of (slice_get st.objects o) refl
  where
    none_left : (n : ℕ) → from + count ≡ n → n ≡ 0 → count ≡ 0
    none_left n e z = omega (arith, e, z)

    of : (row : Option (List (Option ℕ))) → slice_get st.objects o ≡ row → C (source.zeros_in row o from st)
    of None e =
        let empty : slice_index_or st.objects o [] ≡ [] = sym (unwrap_or-slice_get st.objects o []) ∙ ap (λ r. unwrap_or r []) e in
        subst (λ n. C (source.with_objects st (puts st.objects o from n))) (none_left (size st.objects o) whole (ap length empty)) done
    of (Some row) e =
        let is : slice_index_or st.objects o [] ≡ row = get_or_from_slice_get st.objects o row [] e in
        let size_is : from + count ≡ length row = whole ∙ ap length is in
        let left : length row - from ≡ count = omega (arith, size_is) in
        subst (λ objects. C (source.with_objects st objects))
        (puts_row count st.objects o from (slice_get_within st.objects o row e) ∙ ap (slice_set st.objects o) (ap (λ r. fill_row r from count) is ∙ fill_is count row from size_is ∙ ap (λ n. take from row ++ replicate n (Some 0)) (sym left)))
        done

less_one : (n : ℕ) → suc n - 1 ≡ n
less_one n = omega arith

module _ (s : Setting) (ok : IsSetting s) (o k total : ℕ) (le : s.function.variables ≤ k) (room : k < s.room) (small : total < 4294967296)
    (stores : (i : ℕ) (st : source.State) (h : State) → MeetsIn s st h → HasValue s (Variable k) i h → i < size st.objects o →
    Went s (alone (stored_at (home s.layout o) (Variable k) (Constant 0))) k st h (source.with_objects st (put_cell st.objects o i 0)) (λ h1. (world : World) × (h1 ≡ record { variables = h.variables; world = world; trace = h.trace }))) where
  abbrev store : Statement
  store = stored_at (home s.layout o) (Variable k) (Constant 0)

  abbrev next : Statement
  next = Set k (Binary binary.Add (Variable k) (Constant 1))

  abbrev test : Statement
  test = If (Binary binary.LessUnsigned (Variable k) (Constant total)) nothing (Leave 0)

  abbrev body : State → Outcome
  body h = run_all Some s.high_call s.passed (Then store (Then next (alone test))) h

  free : (p : ℕ) → home s.layout p ≡ Frame k → s.function.live p ≡ true → ⊥
  free p lives own = over le (ok.below p k lives own)
    where
      over : s.function.variables ≤ k → k < s.function.variables → ⊥
      over a b = omega (arith, a, b)

  next_is : (i : ℕ) (h : State) → i + 1 < 4294967296 → HasValue s (Variable k) i h → value_of s.passed h.variables h.world (Binary binary.Add (Variable k) (Constant 1)) ≡ Some (i + 1)
  unfolding binary_word
  next_is i h lt has = ap (λ o. at_value o (λ v. Some (binary_word binary.Add v 1))) has ∙ ap Some (no_wrap i lt)
    where
      no_wrap : (i : ℕ) → i + 1 < 4294967296 → (i + 1) % 4294967296 ≡ i + 1
      no_wrap i lt = omega (arith, lt)

  test_is : (i : ℕ) (h : State) → HasValue s (Variable k) i h → run Some s.high_call s.passed test h ≡ choose (truth_word (nat_lt i total)) (Goes h) (Leaves 0 h)
  unfolding binary_word
  test_is i h has = ap (λ o. with_value (at_value o (λ v. Some (binary_word binary.LessUnsigned v total))) (λ v. choose v (Goes h) (Leaves 0 h))) has

  -- one start: the element is 0, and the next one comes
  start_runs : (i : ℕ) (st : source.State) (h : State) → MeetsIn s st h → HasValue s (Variable k) i h → i < size st.objects o → i + 1 < 4294967296 →
      (h1 : State) × (body h ≡ choose (truth_word (nat_lt (i + 1) total)) (Goes h1) (Leaves 0 h1)) × Reached s k st h (source.with_objects st (put_cell st.objects o i 0)) h1 × HasValue s (Variable k) (i + 1) h1
  start_runs i st h m has lt small_next =
      let w = stores i st h m has lt in
      let h1 = w.behind in
      let same : slice_index_or h1.variables k None ≡ Some i = ap (λ g. slice_index_or g.variables k None) w.has.1 ∙ has in
      let here : k < length h1.variables = subst (λ n. k < n) (sym w.reached.meets.room_is) room in
      let h2 = put_variable h1 k (i + 1) in
      let v2 : HasValue s (Variable k) (i + 1) h2 = get_or-set_same h1.variables k (Some (i + 1)) None here in (
        h2,
        ap (λ o. then_do o (run_all Some s.high_call s.passed (Then next (alone test)))) (sym (run_all-alone Some s.high_call s.passed store h) ∙ w.runs)
            ∙ ap (λ o. then_do o (run_all Some s.high_call s.passed (alone test))) (run_Set s.high_call s.passed k (i + 1) (Binary binary.Add (Variable k) (Constant 1)) h1 (next_is i h1 small_next same) here)
            ∙ run_all-alone Some s.high_call s.passed test h2
            ∙ test_is (i + 1) h2 v2,
        record {
          meets = temporary_meets s.layout ok.placed s.function.live (alike s ok) s.passed s.room (source.with_objects st (put_cell st.objects o i 0)) h1 w.reached.meets k (i + 1) free;
          keeps = λ j from below. get_or-set_other h1.variables k j (Some (i + 1)) None (λ e. absurd (omega (arith, e, below))) ∙ w.reached.keeps j from below;
          untouched = w.reached.untouched;
        },
        v2,
      )

  -- the starts that are left
  fill_turns : (left i : ℕ) (st : source.State) (h : State) → MeetsIn s st h → HasValue s (Variable k) i h → i + suc left ≡ total → size st.objects o ≡ total →
      (h1 : State) × (turns (suc left) (suc left) body h ≡ Leaves 0 h1) × Reached s k st h (source.with_objects st (puts st.objects o i (suc left))) h1
  fill_turns zero i st h m has whole size_is =
      let one = start_runs i st h m has (omega (arith, whole, size_is)) (omega (arith, whole, small)) in
      let last : nat_lt (i + 1) total ≡ false = le-ltb (i + 1) total (omega (arith, whole)) in (
        one.0,
        ap (again (suc zero - 1) (turns zero (suc zero - 1) body)) (one.1 ∙ ap (λ b. choose (truth_word b) (Goes one.0) (Leaves 0 one.0)) last) ∙ ap (λ n. if_met n (Leaves 0 one.0)) (less_one zero),
        one.2,
      )
  fill_turns (suc left) i st h m has whole size_is =
      let small_next : i + 1 < 4294967296 = omega (arith, whole, small) in
      let inside : i < size st.objects o = omega (arith, whole, size_is) in
      let one = start_runs i st h m has inside small_next in
      let more : nat_lt (i + 1) total ≡ true = lt-ltb (i + 1) total (omega (arith, whole)) in
      let st1 = source.with_objects st (put_cell st.objects o i 0) in
      let next_index : HasValue s (Variable k) (suc i) one.0 = one.3 ∙ ap Some (add-one i) in
      let after = fill_turns left (suc i) st1 one.0 one.2.meets next_index (omega (arith, whole)) (size-put st.objects o i 0 o inside ∙ size_is) in (
        after.0,
        ap (again (suc (suc left) - 1) (turns (suc left) (suc (suc left) - 1) body)) (one.1 ∙ ap (λ b. choose (truth_word b) (Goes one.0) (Leaves 0 one.0)) more)
            ∙ ap (λ n. turns (suc left) n body one.0) (less_one (suc left))
            ∙ after.1,
        reached_then s ok k st h st1 one.0 (source.with_objects st (puts st.objects o i (suc (suc left)))) after.0 one.2 after.2,
      )

  -- the whole filling
  pub filled_went : (id from count : ℕ) (st : source.State) (h : State) → MeetsIn s st h → from + suc count ≡ total → size st.objects o ≡ total →
      Went s (Then (Set k (Constant from)) (alone (Block (Loop id (suc count) (suc count) (Seq (Then store (Then next (alone test)))))))) k st h (source.with_objects st (puts st.objects o from (suc count))) (λ h1. Unit {0})
  filled_went id from count st h m whole size_is =
      let here : k < length h.variables = subst (λ n. k < n) (sym m.room_is) room in
      let h1 = put_variable h k from in
      let m1 : MeetsIn s st h1 = temporary_meets s.layout ok.placed s.function.live (alike s ok) s.passed s.room st h m k from free in
      let v1 : HasValue s (Variable k) from h1 = get_or-set_same h.variables k (Some from) None here in
      let done = fill_turns count from st h1 m1 v1 whole size_is in
      record {
        behind = done.0;
        runs = ap (λ o. then_do o (run_all Some s.high_call s.passed (alone (Block (Loop id (suc count) (suc count) (Seq (Then store (Then next (alone test))))))))) (run_Set s.high_call s.passed k from (Constant from) h refl here)
            ∙ run_all-alone Some s.high_call s.passed (Block (Loop id (suc count) (suc count) (Seq (Then store (Then next (alone test)))))) h1
            ∙ ap out_of_block done.1;
        reached = record {
          meets = done.2.meets;
          keeps = λ j from_j below. done.2.keeps j from_j below ∙ get_or-set_other h.variables k j (Some from) None (λ e. absurd (omega (arith, e, below)));
          untouched = done.2.untouched;
        };
        has = tt;
      }
