-- A pass is lawful that makes a loose program which keeps the old one, and renumbers it.
use Rattle.std.proofs.Common.{◌≡◌, ℕ, zero, suc, ◌+◌, ◌<◌, ◌≤◌, ◌^◌, Bool, true, false, cond, nat_lt, List, [], ◌∷◌, ◌++◌, length, get_or, map, Option, Some, None, refl, sym, ap, ◌∙◌, subst, ⊎_elim, arith, All, append-nil, length-append}
use Rattle.std.specs.Prelude.{option_map, slice_get, slice_index_or, sum_by, Contains, ◌==◌}
use Rattle.std.specs.List.{flat_map, range_with_len}
use Rattle.std.proofs.lemmas.Bool.{cases_lt, cond-false, cond-true, eq-eqb, le-ltb, lt-ltb}
use Rattle.std.proofs.lemmas.Bool.Decides.{nat_tests}
use Rattle.std.proofs.lemmas.Simd.{map-map}
use Rattle.std.proofs.lemmas.List.{length-map, map-id}
use Rattle.std.proofs.lemmas.List.Concat.{flat_map-cons}
use Rattle.std.proofs.lemmas.List.Elements.{All-append, All-cons, All-head, All-map, All-nil, All-same, All-tail, Contains-append_right}
use Rattle.std.proofs.lemmas.List.Folds.{flat_map-map}
use Rattle.std.proofs.lemmas.List.FromFn.{get_or-map-range_with_len, get_or-range_with_len, length-range_with_len}
use Rattle.std.proofs.lemmas.List.Sums.{sum_by-cons}
use Rattle.std.proofs.lemmas.Option.{none-some, same_Some, slice_get-get_or, slice_get-map, slice_get_within}
use Rattle.wcc_base.specs.Budgets.{most_depth, most_locals, most_operations}
use Rattle.high_ir.specs.Formed.{IsHigh, LeavesWithin, RanksFall}
use Rattle.high_ir.specs.Meaning.{Given}
use Rattle.high_ir.specs.Runs.{calls, count_of, hrun, rank_or, run_of, start}
use Rattle.high_ir.specs.Size.{depth, frame_bytes, function_nodes, greatest, local_bytes, operations, program_nodes, program_operations}
use Rattle.high_ir.specs.Standing.{Bounded, callees_of, loops_in, loops_of, marks_in, marks_of}
use Rattle.high_ir.specs.Tree.{Function, Program}
use Rattle.high_ir.specs.Weight.{reach, weight}
use Rattle.high_ir.specs.Whole.{HasWords}
use Rattle.high_pass.specs.Carries.{AreBy, Carries, RunsAlike, StartsFewer, behaviour_of, bounds_of, shown}
use Rattle.high_pass.specs.Law.{IsLawful, signature_of}
use Rattle.high_pass.specs.Listing.{ListsThoseOf}
use Rattle.high_pass.proofs.Counting.{sum_by-flat_map, sum_by-pointwise}
use Rattle.high_renumber.specs.Keeping.{IsLoose, Keeps, ServesCall}
use Rattle.high_renumber.specs.Numbered.{copies_by, copies_in, function_numbered, functions_numbered, ids, loop_at, loop_origins, mark_at, mark_origins, numbered, once, places, renumbered}
use Rattle.high_renumber.proofs.Counting.{counted, one_if, one_place, past_places, places_hold, sum_by-zero}
use Rattle.high_renumber.proofs.Following.{FollowsCall, calls_follow}
use Rattle.high_renumber.proofs.NumberedLemmas.{callees-numbered, depth-numbered, leaves-numbered, loops-numbered, marks-numbered, nodes-numbered, operations-numbered, range_append, with_ids, with_ids_append, words-numbered}
use Rattle.high_renumber.proofs.Origins.{Marked, by_origin, marked_follows, numbered_calls, opening_origin, rank_or-numbered}
use Rattle.high_renumber.proofs.Reaching.{reach-renumbered, weight-renumbered}

-- signatures say the ranks
pub rank_or-signatures : (fs gs : List Function) (f n : ℕ) → map signature_of fs ≡ map signature_of gs → rank_or fs f n ≡ rank_or gs f n
rank_or-signatures [] [] f n same = refl
rank_or-signatures [] (g ∷ gs) f n same = cc
rank_or-signatures (h ∷ fs) [] f n same = cc
rank_or-signatures (h ∷ fs) (g ∷ gs) zero n same =
    let first : signature_of h ≡ signature_of g = cc in
    ap (λ s. s.rank) first
rank_or-signatures (h ∷ fs) (g ∷ gs) (suc f) n same =
    let rest : map signature_of fs ≡ map signature_of gs = cc in
    rank_or-signatures fs gs f n rest

signatures-numbered : (m n : ℕ) (fs : List Function) → map signature_of (functions_numbered m n fs) ≡ map signature_of fs
signatures-numbered m n [] = refl
signatures-numbered m n (f ∷ fs) = ap (λ l. signature_of f ∷ l) (signatures-numbered (m + length (marks_of f.body)) (n + length (loops_of f.body)) fs)

length-numbered : (m n : ℕ) (fs : List Function) → length (functions_numbered m n fs) ≡ length fs
length-numbered m n [] = refl
length-numbered m n (f ∷ fs) = ap suc (length-numbered (m + length (marks_of f.body)) (n + length (loops_of f.body)) fs)

-- runs
module _ (n k : ℕ) (os los : List ℕ) where
  -- an old run, the same of the loose program, and the renumbered one
  runs_alike : (o a p : Option Given) → ServesCall o a → FollowsCall (Marked os) a p → RunsAlike (copies_by n k os los) (shown (run_of o)) (run_of p)
  runs_alike None a p h f = tt
  runs_alike (Some g) a p h f =
      let c = subst (λ q. FollowsCall (Marked os) q p) h f in
      subst (λ q. RunsAlike (copies_by n k os los) (shown (run_of (Some g))) (run_of q)) (sym c.1) (record {
        value = refl;
        output = refl;
        counts = All-map (λ e. count_of e.old g.trace ≡ sum_by (λ j. count_of j c.0) e.new) (mark_at os) (range_with_len 0 n) (λ i d lt. counted os (get_or (range_with_len 0 n) i d) g.trace c.0 c.2);
        nevers = All-nil (λ v. count_of v.mark c.0 ≡ 0);
      })

-- how often numbers stand in a row
flip : (j k : ℕ) → one_if j k ≡ one_if k j
flip j k = grind (arith, nat_tests)

before_row : (y a n : ℕ) → y < a → sum_by (one_if y) (range_with_len a n) ≡ 0
before_row y a zero lt = refl
before_row y a (suc n) lt = omega (arith, sum_by-cons (one_if y) a (range_with_len (a + 1) n), one_less y a lt, before_row y (a + 1) n (omega (arith, lt)))
  where
    one_less : (y a : ℕ) → y < a → one_if y a ≡ 0
    one_less y a lt = grind (arith, nat_tests)

within_row : (y a n : ℕ) → a ≤ y → y < a + n → sum_by (one_if y) (range_with_len a n) ≡ 1
within_row y a zero le lt = absurd (omega (arith, le, lt))
within_row y a (suc n) le lt = ⊎_elim
    (λ (here : a < y). omega (arith, sum_by-cons (one_if y) a (range_with_len (a + 1) n), one_more y a here, within_row y (a + 1) n (omega (arith, here)) (omega (arith, lt))))
    (λ (past : y ≤ a). let same : a ≡ y = omega (arith, le, past) in omega (arith, sum_by-cons (one_if y) a (range_with_len (a + 1) n), ap (one_if y) same, one_self y, before_row y (a + 1) n (omega (arith, past))))
    (cases_lt a y)
  where
    one_more : (y a : ℕ) → a < y → one_if y a ≡ 0
    one_more y a lt = grind (arith, nat_tests)

    one_self : (y : ℕ) → one_if y y ≡ 1
    one_self y = grind (arith, nat_tests)

-- the places of all numbers below n have each place once
module _ (n : ℕ) (os : List ℕ) (below : All (λ o. o < n) os) where
  place_counts : (j : ℕ) → sum_by (λ x. sum_by (one_if j) (places 0 os x)) (range_with_len 0 n) ≡ cond (nat_lt j (length os)) 1 0
  place_counts j = ⊎_elim
      (λ (lt : j < length os).
      let y = get_or os j 0 in
      let at = slice_get-get_or os j 0 lt in
      let z : j ≡ 0 + j = omega arith in
      sum_by-pointwise (λ x. sum_by (one_if j) (places 0 os x)) (one_if y) (range_with_len 0 n) (λ i d w. one_place 0 j j os (get_or (range_with_len 0 n) i d) y z at)
      ∙ within_row y 0 n (omega arith) (omega (arith, below j 0 lt))
      ∙ sym (cond-true (nat_lt j (length os)) 1 0 (lt-ltb j (length os) lt)))
      (λ (past : length os ≤ j).
      sum_by-pointwise (λ x. sum_by (one_if j) (places 0 os x)) (λ x. 0) (range_with_len 0 n) (λ i d w. past_places 0 j os (get_or (range_with_len 0 n) i d) (omega (arith, past)))
      ∙ sum_by-zero (λ x. 0) (range_with_len 0 n) (λ x. refl)
      ∙ sym (cond-false (nat_lt j (length os)) 1 0 (le-ltb j (length os) past)))
      (cases_lt j (length os))

  -- counted as lists of marks are
  pub each_place : (j : ℕ) → count_of j (flat_map (λ x. places 0 os x) (range_with_len 0 n)) ≡ cond (nat_lt j (length os)) 1 0
  each_place j =
      sum_by-flat_map (λ x. cond (x == j) 1 0) (λ x. places 0 os x) (range_with_len 0 n)
      ∙ sum_by-pointwise (λ x. sum_by (λ y. cond (y == j) 1 0) (places 0 os x)) (λ x. sum_by (one_if j) (places 0 os x)) (range_with_len 0 n)
      (λ i d w. sum_by-pointwise (λ y. cond (y == j) 1 0) (one_if j) (places 0 os (get_or (range_with_len 0 n) i d)) (λ a e v. flip (get_or (places 0 os (get_or (range_with_len 0 n) i d)) a e) j))
      ∙ place_counts j

-- all functions
marks_in-numbered : (m n : ℕ) (fs : List Function) → marks_in (functions_numbered m n fs) ≡ range_with_len m (length (marks_in fs))
marks_in-numbered m n [] = refl
marks_in-numbered m n (f ∷ fs) =
    let a = length (marks_of f.body) in
    flat_map-cons (λ (g : Function). marks_of g.body) (function_numbered m n f) (functions_numbered (m + a) (n + length (loops_of f.body)) fs)
    ∙ ap (λ l. l ++ marks_in (functions_numbered (m + a) (n + length (loops_of f.body)) fs)) (marks-numbered m n f.body)
    ∙ ap (λ l. range_with_len m a ++ l) (marks_in-numbered (m + a) (n + length (loops_of f.body)) fs)
    ∙ sym (range_append m a (length (marks_in fs)))
    ∙ ap (range_with_len m) (sym (length-append (marks_of f.body) (marks_in fs)) ∙ ap length (sym (flat_map-cons (λ (g : Function). marks_of g.body) f fs)))

loops_in-numbered : (m n : ℕ) (fs : List Function) → loops_in (functions_numbered m n fs) ≡ with_ids n (loops_in fs)
loops_in-numbered m n [] = refl
loops_in-numbered m n (f ∷ fs) =
    let b = length (loops_of f.body) in
    flat_map-cons (λ (g : Function). loops_of g.body) (function_numbered m n f) (functions_numbered (m + length (marks_of f.body)) (n + b) fs)
    ∙ ap (λ l. l ++ loops_in (functions_numbered (m + length (marks_of f.body)) (n + b) fs)) (loops-numbered m n f.body)
    ∙ ap (λ l. with_ids n (loops_of f.body) ++ l) (loops_in-numbered (m + length (marks_of f.body)) (n + b) fs)
    ∙ sym (with_ids_append n (loops_of f.body) (loops_in fs))
    ∙ ap (with_ids n) (sym (flat_map-cons (λ (g : Function). loops_of g.body) f fs))

ids-with_ids : (n : ℕ) (ls : List Bounded) → ids (with_ids n ls) ≡ range_with_len n (length ls)
ids-with_ids n [] = refl
ids-with_ids n (l ∷ ls) = ap (λ x. n ∷ x) (ids-with_ids (n + 1) ls)

-- the bounds of a loop by its place
bounds-with_ids : (n : ℕ) (ls : List Bounded) (i : ℕ) (b : Bounded) → slice_get ls i ≡ Some b → bounds_of (with_ids n ls) (n + i) ≡ Some b.bounds
bounds-with_ids n [] i b e = absurd (none-some b e)
bounds-with_ids n (l ∷ ls) zero b e =
    cond-true (n == n + 0) (Some l.bounds) (bounds_of (with_ids (n + 1) ls) (n + 0)) (same n) ∙ ap (λ x. Some x.bounds) (same_Some l b e)
  where
    same : (n : ℕ) → (n == n + 0) ≡ true
    same n = grind (arith, nat_tests)
bounds-with_ids n (l ∷ ls) (suc i) b e =
    let z : n + 1 + i ≡ n + suc i = omega arith in
    cond-false (n == n + suc i) (Some l.bounds) (bounds_of (with_ids (n + 1) ls) (n + suc i)) (other n i) ∙ ap (bounds_of (with_ids (n + 1) ls)) (sym z) ∙ bounds-with_ids (n + 1) ls i b e
  where
    other : (n i : ℕ) → (n == n + suc i) ≡ false
    other n i = grind (arith, nat_tests)

-- sizes and forms of all functions
sum_by-numbered : (F : Function → ℕ) → ((m n : ℕ) (f : Function) → F (function_numbered m n f) ≡ F f) → (m n : ℕ) (fs : List Function) → sum_by F (functions_numbered m n fs) ≡ sum_by F fs
sum_by-numbered F same m n [] = refl
sum_by-numbered F same m n (f ∷ fs) =
    omega (
      arith,
      sum_by-cons F (function_numbered m n f) (functions_numbered (m + length (marks_of f.body)) (n + length (loops_of f.body)) fs),
      sum_by-cons F f fs,
      same m n f,
      sum_by-numbered F same (m + length (marks_of f.body)) (n + length (loops_of f.body)) fs,
    )

greatest-numbered : (m n : ℕ) (fs : List Function) → greatest (λ f. depth f.body) (functions_numbered m n fs) ≡ greatest (λ f. depth f.body) fs
greatest-numbered m n [] = refl
greatest-numbered m n (f ∷ fs) = omega (arith, depth-numbered m n f.body, greatest-numbered (m + length (marks_of f.body)) (n + length (loops_of f.body)) fs)

each-numbered : (P Q : Function → Type 0) → ((m n : ℕ) (f : Function) → P f → Q (function_numbered m n f)) → (m n : ℕ) (fs : List Function) → All P fs → All Q (functions_numbered m n fs)
each-numbered P Q kept m n [] all = All-nil Q
each-numbered P Q kept m n (f ∷ fs) all =
    All-cons Q (function_numbered m n f) (functions_numbered (m + length (marks_of f.body)) (n + length (loops_of f.body)) fs)
    (kept m n f (All-head P f fs all)) (each-numbered P Q kept (m + length (marks_of f.body)) (n + length (loops_of f.body)) fs (All-tail P f fs all))

nodes_in-numbered : (p : Program) → program_nodes (renumbered p) ≡ program_nodes p
nodes_in-numbered p = sum_by-numbered function_nodes (λ m n f. ap (λ k. k + 1) (nodes-numbered m n f.body)) (length p.functions) 0 p.functions

pub operations_in-numbered : (p : Program) → program_operations (renumbered p) ≡ program_operations p
operations_in-numbered p = sum_by-numbered (λ f. operations f.body + 1) (λ m n f. ap (λ k. k + 1) (operations-numbered m n f.body)) (length p.functions) 0 p.functions

pub bytes_in-numbered : (p : Program) → local_bytes (renumbered p) ≡ local_bytes p
bytes_in-numbered p = omega (arith, sum_by-numbered frame_bytes (λ m n f. refl) (length p.functions) 0 p.functions)

-- the renumbered program keeps to its form
pub renumbered_is_high : (p : Program) → IsLoose p → IsHigh (renumbered p)
renumbered_is_high p loose =
    let k = length p.functions in
    let fs = p.functions in
    let made = functions_numbered k 0 fs in
    record {
      main = subst (λ n. p.main < n) (sym (length-numbered k 0 fs)) loose.main;
      openings = omega (arith, length-numbered k 0 fs, length-append (range_with_len 0 k) (marks_in fs), length-range_with_len 0 k);
      others = All-same (λ m. length made ≤ m) (marks_in made) (range_with_len k (length (marks_in fs))) (marks_in-numbered k 0 fs) (λ i d lt. row_least made (length-numbered k 0 fs) (length (marks_in fs)) i d lt);
      marks = All-same (λ m. m < length (mark_origins fs)) (marks_in made) (range_with_len k (length (marks_in fs))) (marks_in-numbered k 0 fs) (λ i d lt. row_most i d lt);
      loops = ap ids (loops_in-numbered k 0 fs) ∙ ids-with_ids 0 (loops_in fs) ∙ ap (range_with_len 0) (sym (length-map (loops_in fs) (λ l. l.id)));
      leaves = each-numbered LeavesWithin LeavesWithin (λ m n f is. leaves-numbered m n f.body ∙ is) k 0 fs loose.leaves;
      ranks = each-numbered (RanksFall fs) (RanksFall made) (λ m n f falls.
          All-same (λ g. rank_or made g f.rank < f.rank) (callees_of (numbered m n f.body)) (callees_of f.body) (callees-numbered m n f.body)
          (λ i d lt. subst (λ r. r < f.rank) (sym (rank_or-numbered k 0 fs (get_or (callees_of f.body) i d) f.rank)) (falls i d lt))) k 0 fs loose.ranks;
      depth = subst (λ n. n ≤ most_depth) (sym (greatest-numbered k 0 fs)) loose.depth;
      nodes = subst (λ n. n < 2 ^ 26) (sym (nodes_in-numbered p)) loose.nodes;
    }
  where
    row_least : (made : List Function) → length made ≡ length p.functions → (n i d : ℕ) → i < length (range_with_len (length p.functions) n) → length made ≤ get_or (range_with_len (length p.functions) n) i d
    row_least made same n i d lt =
        let within : i < n = subst (λ m. i < m) (length-range_with_len (length p.functions) n) lt in
        omega (arith, same, get_or-range_with_len (length p.functions) n i d within)

    row_most : (i d : ℕ) → i < length (range_with_len (length p.functions) (length (marks_in p.functions))) → get_or (range_with_len (length p.functions) (length (marks_in p.functions))) i d < length (mark_origins p.functions)
    row_most i d lt =
        let within : i < length (marks_in p.functions) = subst (λ m. i < m) (length-range_with_len (length p.functions) (length (marks_in p.functions))) lt in
        omega (arith, within, get_or-range_with_len (length p.functions) (length (marks_in p.functions)) i d within, length-append (range_with_len 0 (length p.functions)) (marks_in p.functions), length-range_with_len 0 (length p.functions))

-- marks of the old program
pub origins_below : (p : Program) → IsLoose p → All (λ o. o < p.marks) (mark_origins p.functions)
origins_below p loose = All-append (λ o. o < p.marks) (range_with_len 0 (length p.functions)) (marks_in p.functions)
    (λ i d lt.
    let within : i < length p.functions = subst (λ m. i < m) (length-range_with_len 0 (length p.functions)) lt in
    omega (arith, within, loose.functions, get_or-range_with_len 0 (length p.functions) i d within))
    loose.marks

-- an element of a list of places
placed : (P : ℕ → Type 0) (os : List ℕ) (x : ℕ) → ((k : ℕ) → slice_get os k ≡ Some x → P k) → All P (places 0 os x)
placed P os x h = places_hold P 0 os x (λ k e. let z : k ≡ 0 + k = omega arith in subst P z (h k e))

no_truth : false ≡ true → ⊥
no_truth e = cc e

-- a number stands among the places of its origin
contains_place : (i k : ℕ) (os : List ℕ) (x : ℕ) → slice_get os k ≡ Some x → Contains (places i os x) (i + k)
contains_place i k [] x e = absurd (none-some x e)
contains_place i zero (o ∷ os) x e = here (o == x) (eq-eqb o x (same_Some o x e))
  where
    here : (b : Bool) → b ≡ true → Contains (cond b (i ∷ places (i + 1) os x) (places (i + 1) os x)) (i + zero)
    here true is = let z : i ≡ i + zero = omega arith in (0, omega arith, z)
    here false is = absurd (no_truth is)
contains_place i (suc k) (o ∷ os) x e =
    let z : i + 1 + k ≡ i + suc k = omega arith in
    behind (o == x) (subst (Contains (places (i + 1) os x)) z (contains_place (i + 1) k os x e))
  where
    behind : (b : Bool) → Contains (places (i + 1) os x) (i + suc k) → Contains (cond b (i ∷ places (i + 1) os x) (places (i + 1) os x)) (i + suc k)
    behind true c = Contains-append_right (i ∷ []) (places (i + 1) os x) (i + suc k) c
    behind false c = c

-- an entry by its number
pub entry-range : {A : Type 0} (F : ℕ → A) (n k : ℕ) (d : A) → k < n → slice_index_or (map F (range_with_len 0 n)) k d ≡ F k
entry-range F n k d lt = let z : 0 + k ≡ k = omega arith in get_or-map-range_with_len F 0 n k k d lt z

flat_map_same : (F G : ℕ → List ℕ) (xs : List ℕ) → ((x : ℕ) → F x ≡ G x) → flat_map F xs ≡ flat_map G xs
flat_map_same F G [] same = refl
flat_map_same F G (x ∷ xs) same = flat_map-cons F x xs ∙ ap (λ l. l ++ flat_map F xs) (same x) ∙ ap (λ l. G x ++ l) (flat_map_same F G xs same) ∙ sym (flat_map-cons G x xs)

module _ (old new : Program) (high : IsHigh old) (keeps : Keeps old new) where
  abbrev gs : List Function
  gs = new.functions

  same_length : length gs ≡ length old.functions
  same_length = sym (length-map gs signature_of) ∙ ap length keeps.functions ∙ length-map old.functions signature_of

  runs : (input : List ℕ) → RunsAlike (copies_in new) (shown (hrun old input)) (hrun (renumbered new) input)
  runs input =
      let deep = suc (rank_or old.functions old.main 0) in
      let w = start old.objects input in
      let made = functions_numbered (length gs) 0 gs in
      let origins = mark_origins gs in
      let first = (keeps.serves Some deep).by old.main [] [] w [] in
      let second = subst (ServesCall (calls Some old.functions deep old.main [] [] w [])) (sym (numbered_calls gs deep old.main [] [] w [])) first in
      let third = (calls_follow (Marked origins) (by_origin origins) Some (λ k. marked_follows origins k (slice_get origins k) refl) made deep).by old.main [] [] w [] [] refl in
      let rank : rank_or made new.main 0 ≡ rank_or old.functions old.main 0 = rank_or-numbered (length gs) 0 gs new.main 0 ∙ rank_or-signatures gs old.functions new.main 0 keeps.functions ∙ ap (λ m. rank_or old.functions m 0) keeps.main in
      let ends : run_of (calls Some made deep old.main [] [] w []) ≡ hrun (renumbered new) input =
      ap (λ r. run_of (calls Some made (suc r) old.main [] [] w [])) (sym rank)
      ∙ ap (λ m. run_of (calls Some made (suc (rank_or made new.main 0)) m [] [] w [])) (sym keeps.main)
      ∙ ap (λ o. run_of (calls Some made (suc (rank_or made new.main 0)) new.main [] [] (start o input) [])) (sym keeps.objects) in
      subst (RunsAlike (copies_in new) (shown (hrun old input))) ends
      (runs_alike new.marks new.loops origins (loop_origins gs) (calls Some old.functions deep old.main [] [] w []) (calls (by_origin origins) made deep old.main [] [] w []) (calls Some made deep old.main [] [] w []) second third)

  lists : ListsThoseOf (renumbered new) (copies_in new)
  lists = record {
    marks = λ j.
        ap (λ l. count_of j l) (append-nil (flat_map (λ e. e.new) (map (mark_at (mark_origins gs)) (range_with_len 0 new.marks))) ∙ flat_map-map (λ e. e.new) (mark_at (mark_origins gs)) (range_with_len 0 new.marks))
        ∙ each_place new.marks (mark_origins gs) (origins_below new keeps.loose) j;
    loops = λ j.
        ap (λ l. count_of j l) (flat_map-map (λ e. map (λ l. l.id) e.new) (loop_at (loop_origins gs)) (range_with_len 0 new.loops) ∙ flat_map_same (λ x. map (λ l. l.id) (map once (places 0 (loop_origins gs) x))) (λ x. places 0 (loop_origins gs) x) (range_with_len 0 new.loops) (λ x. map-map (λ l. l.id) once (places 0 (loop_origins gs) x) ∙ map-id (places 0 (loop_origins gs) x)))
        ∙ each_place new.loops (loop_origins gs) keeps.loose.loops j;
  }

  -- a copy of a loop has the bounds of the loop
  loop_bounds : (k : ℕ) → All (λ i. AreBy (bounds_of (loops_in old.functions) k) 1 (bounds_of (loops_in (renumbered new).functions) i)) (places 0 (loop_origins gs) k)
  loop_bounds k = placed (λ i. AreBy (bounds_of (loops_in old.functions) k) 1 (bounds_of (loops_in (renumbered new).functions) i)) (loop_origins gs) k (λ i e.
      let within : i < length (loops_in gs) = subst (λ n. i < n) (length-map (loops_in gs) (λ l. l.id)) (slice_get_within (loop_origins gs) i k e) in
      let b : Bounded = get_or (loops_in gs) i (record { id = 0; bounds = record { least = 0; most = 0 } }) in
      let at = slice_get-get_or (loops_in gs) i (record { id = 0; bounds = record { least = 0; most = 0 } }) within in
      let id : b.id ≡ k = same_Some b.id k (sym (slice_get-map (λ l. l.id) (loops_in gs) i ∙ ap (option_map (λ l. l.id)) at) ∙ e) in
      let z : 0 + i ≡ i = omega arith in
      let made = ap (λ ls. bounds_of ls i) (loops_in-numbered (length gs) 0 gs) ∙ ap (bounds_of (with_ids 0 (loops_in gs))) (sym z) ∙ bounds-with_ids 0 (loops_in gs) i b at in
      let own = ap (bounds_of (loops_in old.functions)) (sym id) ∙ keeps.bounds i (record { id = 0; bounds = record { least = 0; most = 0 } }) within in
      subst (λ o. AreBy o 1 (bounds_of (loops_in (renumbered new).functions) i)) (sym own) made)

  carries : Carries (behaviour_of old) (renumbered new) (copies_in new)
  carries = record {
    runs = runs;
    marks = map-map (λ e. e.old) (mark_at (mark_origins gs)) (range_with_len 0 new.marks) ∙ map-id (range_with_len 0 new.marks) ∙ ap (range_with_len 0) keeps.marks;
    loops = map-map (λ e. e.old) (loop_at (loop_origins gs)) (range_with_len 0 new.loops) ∙ map-id (range_with_len 0 new.loops) ∙ ap (range_with_len 0) keeps.loops ∙ sym high.loops;
    lists = lists;
    bounds = All-map (λ e. All (λ l. (1 ≤ l.factor) × AreBy (bounds_of (loops_in old.functions) e.old) l.factor (bounds_of (loops_in (renumbered new).functions) l.id)) e.new) (loop_at (loop_origins gs)) (range_with_len 0 new.loops)
        (λ i d lt. All-map (λ l. (1 ≤ l.factor) × AreBy (bounds_of (loops_in old.functions) (get_or (range_with_len 0 new.loops) i d)) l.factor (bounds_of (loops_in (renumbered new).functions) l.id)) once (places 0 (loop_origins gs) (get_or (range_with_len 0 new.loops) i d))
        (λ j e w. (omega arith, loop_bounds (get_or (range_with_len 0 new.loops) i d) j e w)));
    functions = length-numbered (length gs) 0 gs ∙ same_length;
    openings = λ f lt.
        let there : f < length gs = subst (λ n. f < n) (sym same_length) lt in
        let z : 0 + f ≡ f = omega arith in
        subst (λ e. Contains e.new f) (sym (entry-range (mark_at (mark_origins gs)) new.marks f (record { old = f; new = [] }) (omega (arith, there, keeps.loose.functions))))
        (subst (Contains (places 0 (mark_origins gs) f)) z (contains_place 0 f (mark_origins gs) f (opening_origin gs f there)));
    nevers = All-nil (λ v. StartsFewer (bounds_of (loops_in old.functions) v.old) v.factor);
  }

  pub kept_is_lawful : IsLawful old (renumbered new) (copies_in new)
  kept_is_lawful = record {
    carries = carries;
    factors = record {
      loops = All-map (λ e. All (λ l. l.factor ≤ 64) e.new) (loop_at (loop_origins gs)) (range_with_len 0 new.loops) (λ i d lt. All-map (λ l. l.factor ≤ 64) once (places 0 (loop_origins gs) (get_or (range_with_len 0 new.loops) i d)) (λ j e w. omega arith));
      nevers = All-nil (λ v. v.factor ≤ 64);
    };
    budgets = λ within.
        let kept = keeps.budgets within in
        record {
          operations = subst (λ n. n ≤ most_operations) (sym (operations_in-numbered new)) kept.operations;
          depth = subst (λ n. n ≤ most_depth) (sym (greatest-numbered (length gs) 0 gs)) kept.depth;
          locals = subst (λ n. n ≤ most_locals) (sym (bytes_in-numbered new)) kept.locals;
        };
    weight = subst (λ n. n ≤ weight old) (sym (weight-renumbered new)) keeps.weight;
    reach = All-map (λ e. sum_by (reach (renumbered new)) e.new ≤ reach old e.old) (mark_at (mark_origins gs)) (range_with_len 0 new.marks) (λ i d lt.
        subst (λ n. n ≤ reach old (get_or (range_with_len 0 new.marks) i d)) (sym (reach-renumbered new (get_or (range_with_len 0 new.marks) i d))) (keeps.reach (get_or (range_with_len 0 new.marks) i d)));
    whole = λ whole.
        let kept = keeps.whole whole in
        record {
          words = each-numbered (λ (f : Function). HasWords f.body) (λ (f : Function). HasWords f.body) (λ m n f h. words-numbered m n f.body h) (length gs) 0 gs kept.words;
          objects = kept.objects;
        };
    functions = signatures-numbered (length gs) 0 gs ∙ keeps.functions;
    objects = keeps.objects;
    main = keeps.main;
  }
