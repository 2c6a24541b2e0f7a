-- The program with its innermost loops by a factor keeps the law of passes.
use Rattle.std.proofs.Common.{◌≡◌, ℕ, zero, suc, ◌+◌, ◌-◌, ◌*◌, ◌<◌, ◌≤◌, ◌^◌, ◌⊎◌, inl, inr, ⊎_elim, cond, List, [], ◌∷◌, length, map, get_or, Some, refl, sym, ap, ◌∙◌, subst, arith, All}
use Rattle.std.specs.Prelude.{◌==◌, sum_by, slice_get, slice_index_or, Contains}
use Rattle.std.specs.List.{range_with_len}
use Rattle.std.proofs.lemmas.Bool.{cases_eq, cases_lt}
use Rattle.std.proofs.lemmas.List.{length-map}
use Rattle.std.proofs.lemmas.List.Elements.{All-cons, All-head, All-map, All-nil, All-tail, All-weaker, Contains-get_or}
use Rattle.std.proofs.lemmas.List.FromFn.{get_or-map-range_with_len, get_or-range_with_len, length-range_with_len}
use Rattle.std.proofs.lemmas.List.Sums.{sum_by-cons}
use Rattle.wcc_base.specs.Budgets.{most_depth, most_locals, most_operations}
use Rattle.high_ir.specs.Formed.{IsHigh}
use Rattle.high_ir.specs.Meaning.{Labels}
use Rattle.high_ir.specs.Runs.{count_of, rank_or}
use Rattle.high_ir.specs.Size.{frame_bytes, function_nodes, local_bytes, local_object_bytes, program_nodes, program_operations}
use Rattle.high_ir.specs.Splitting.{by_factor}
use Rattle.high_ir.specs.Standing.{Bounded, Bounds, callees_of, loops_in, marks_in, marks_of}
use Rattle.high_ir.specs.Tree.{Function, Object, Program}
use Rattle.high_ir.specs.Weight.{reach, reaches, weight, weights}
use Rattle.high_parts.proofs.Numbers.{number_of, range_has_each}
use Rattle.high_pass.specs.Carries.{AreBy, Carries, StartsFewer, behaviour_of, bounds_of}
use Rattle.high_pass.specs.Law.{FactorsWithin, IsLawful, ReachWithin, WithinBudgets}
use Rattle.high_pass.specs.Listing.{Listing, LoopEntry, mark_copies}
use Rattle.high_pass.proofs.Counting.{sum_by-pointwise}
use Rattle.high_pass.proofs.Elements.{All-flat_map, All-flat_map_back}
use Rattle.high_unrolled.specs.Serving.{FunctionStands}
use Rattle.high_unrolled.specs.Standing.{ProgramStands, hits}
use Rattle.high_unrolled.proofs.ServingCounting.{hit, hit-turned}
use Rattle.high_unrolled.proofs.ServingRunning.{runs_alike}
use Rattle.high_unrolled.specs.declared.made.Made.{Made}
use Rattle.high_unrolled.specs.declared.made.Made.TheVariants.{CopyOf, Behind}
use Rattle.high_unrolled.specs.Factor.{depth_by, growth}
use Rattle.high_unrolled.specs.Programs.{begun, copies_of, function_spread, functions_spread, listing, nevers_from, program_busy, program_spread, unrolled}
use Rattle.high_unrolled.specs.Promise.{PassesBudget, Unrolls}
use Rattle.high_unrolled.specs.Unrolling.{Became, Place, after}
use Rattle.high_unrolled.proofs.Alone.{numbered_range}
use Rattle.high_unrolled.proofs.Functions.{FunctionsModest, body_marks, calls_fall, function_busy, function_work, functions_looping, functions_marks, functions_modest, functions_reach, functions_stand, functions_unchanged, functions_weigh, length_same, rank_of, ranks_same, signatures_same}
use Rattle.high_unrolled.proofs.Labels.{IsNamed, IsOld, each_listed, grouped, is_group, label-old, label_of, numbered_labels, numbered_names}
use Rattle.high_unrolled.proofs.Looping.{CopyFits, EntryFits, Looping, MadeFits, bounded}
use Rattle.high_unrolled.proofs.Marking.{numbered_each}
use Rattle.high_unrolled.proofs.Modest.{IsTight}
use Rattle.high_unrolled.proofs.Numbered.{numbered_weaker}
use Rattle.high_unrolled.proofs.Reaching.{CountsLess}
use Rattle.high_unrolled.proofs.Rising.{bounds_there}
use Rattle.high_unrolled.proofs.Runs.{made_label}
use Rattle.high_unrolled.proofs.Sizes.{busy_most, nodes_few}
use Rattle.high_unrolled.proofs.Wordy.{functions_words}

all_nodes_few : (fs : List Function) → sum_by function_nodes fs ≤ 3 * sum_by function_work fs
all_nodes_few [] = omega arith
all_nodes_few (f ∷ fs) =
    let a = sum_by-cons function_nodes f fs in let b = sum_by-cons function_work f fs in let c = nodes_few f.body in let d = all_nodes_few fs in
    omega (arith, a, b, c, d)

all_busy_most : (fs : List Function) → sum_by function_busy fs ≤ sum_by function_work fs
all_busy_most [] = omega arith
all_busy_most (f ∷ fs) =
    let a = sum_by-cons function_busy f fs in let b = sum_by-cons function_work f fs in let c = busy_most f.body in let d = all_busy_most fs in
    omega (arith, a, b, c, d)

olds_same : (n : ℕ) (made : List Made) (xs : List ℕ) → map (λ e. e.old) (map (copies_of n made) xs) ≡ xs
olds_same n made [] = refl
olds_same n made (x ∷ xs) = ap (λ l. x ∷ l) (olds_same n made xs)

-- never marks are those of loops that make fewer starts
nevers_few : (ls : List Bounded) (loops k n : ℕ) (m : ℕ) (made : List Made) → map number_of ls ≡ range_with_len 0 loops → All (MadeFits k n ls) made → All (λ v. StartsFewer (bounds_of ls v.old) v.factor) (nevers_from k m made)
nevers_few ls loops k n m [] numbers all = All-nil (λ v. StartsFewer (bounds_of ls v.old) v.factor)
nevers_few ls loops k n m (CopyOf y ∷ xs) numbers all = nevers_few ls loops k n (m + 1) xs numbers (All-tail (MadeFits k n ls) (CopyOf y) xs all)
nevers_few ls loops k n m (Behind l ∷ xs) numbers all =
    let h = All-head (MadeFits k n ls) (Behind l) xs all in
    All-cons (λ v. StartsFewer (bounds_of ls v.old) v.factor) (record { mark = m; old = l; factor = k }) (nevers_from k (m + 1) xs)
    (subst (λ o. StartsFewer o k) (sym (bounds_there ls loops (bounded l h.0) numbers h.1)) h.2)
    (nevers_few ls loops k n (m + 1) xs numbers (All-tail (MadeFits k n ls) (Behind l) xs all))

nevers_by : (k m : ℕ) (made : List Made) → k ≤ 64 → All (λ v. v.factor ≤ 64) (nevers_from k m made)
nevers_by k m [] le = All-nil (λ v. v.factor ≤ 64)
nevers_by k m (CopyOf y ∷ xs) le = nevers_by k (m + 1) xs le
nevers_by k m (Behind l ∷ xs) le = All-cons (λ v. v.factor ≤ 64) (record { mark = m; old = l; factor = k }) (nevers_from k (m + 1) xs) le (nevers_by k (m + 1) xs le)

placed_old : (k n : ℕ) (ls : List Bounded) (x : Made) → MadeFits k n ls x → IsOld n x
placed_old k n ls (CopyOf y) h = h
placed_old k n ls (Behind l) h = tt

frames_same : (k : ℕ) (z : Place) (fs : List Function) → sum_by frame_bytes (functions_spread k z fs).code ≡ sum_by frame_bytes fs
frames_same k z [] = refl
frames_same k z (f ∷ fs) =
    let x = function_spread k z f in
    let y = functions_spread k (after z x) fs in
    sum_by-cons frame_bytes x.code y.code ∙ ap (λ n. frame_bytes f + n) (frames_same k (after z x) fs) ∙ sym (sum_by-cons frame_bytes f fs)

module _ (k : ℕ) (p : Program) (high : IsHigh p) where
  abbrev r : Became (List Function)
  r = program_spread k p

  abbrev q : Program
  q = unrolled k p

  abbrev m : Labels
  m = label_of p.marks (program_spread k p).made

  below : All (λ f. All (λ y. y < p.marks) (marks_of f.body)) p.functions
  below = All-flat_map_back (λ y. y < p.marks) body_marks p.functions high.marks

  own : All (λ f. All (λ y. m y ≡ Some y) (marks_of f.body)) p.functions
  own = All-weaker (λ f. All (λ y. y < p.marks) (marks_of f.body)) (λ f. All (λ y. m y ≡ Some y) (marks_of f.body))
      (λ f all. All-weaker (λ y. y < p.marks) (λ y. m y ≡ Some y) (λ y lt. label-old p.marks (program_spread k p).made y lt) (marks_of f.body) all) p.functions below

  loops_are : Looping k p.marks 0 (loops_in p.functions) (loops_in r.code) r.loops r.entries r.made
  loops_are = functions_looping k p.marks (begun p) p.functions below

  sizes_are : FunctionsModest k (begun p) p.functions r
  sizes_are = functions_modest k (begun p) p.functions high.depth

  ranks_are : map rank_of q.functions ≡ map rank_of p.functions
  ranks_are = ranks_same k (begun p) p.functions

  stands : ProgramStands m p q
  stands = record {
    functions = λ f.
        let e : 0 + f ≡ f = omega arith in
        subst (λ i. FunctionStands m i (slice_get p.functions f) (slice_get q.functions f)) e
        (functions_stand k m 0 (begun p) p.functions (λ g lt. let z : 0 + g ≡ g = omega arith in subst (λ j. m j ≡ Some j) (sym z) (label-old p.marks r.made g (omega (arith, lt, high.openings)))) own (numbered_labels p.marks r.made) f);
    main = refl;
    rank = ap (λ rs. slice_index_or rs p.main 0) ranks_are;
    objects = refl;
  }

  -- the bounds of copies
  entry_bounds : (e : LoopEntry) → EntryFits k (loops_in p.functions) (loops_in q.functions) e → All (λ l. (1 ≤ l.factor) × AreBy (bounds_of (loops_in p.functions) e.old) l.factor (bounds_of (loops_in q.functions) l.id)) e.new
  entry_bounds e h = All-weaker (CopyFits k (loops_in p.functions) (loops_in q.functions) e.old) (λ l. (1 ≤ l.factor) × AreBy (bounds_of (loops_in p.functions) e.old) l.factor (bounds_of (loops_in q.functions) l.id))
      (λ l c.
      let b : Bounds = c.2.0 in
      let before = bounds_there (loops_in p.functions) p.loops (bounded e.old b) high.loops c.2.1 in
      let behind = bounds_there (loops_in q.functions) r.loops (bounded l.id (by_factor b l.factor)) loops_are.numbers c.2.2 in
      (c.0, subst (λ o. AreBy o l.factor (bounds_of (loops_in q.functions) l.id)) (sym before) behind))
      e.new h

  opening : (f : ℕ) → f < length p.functions → Contains (mark_copies (map (copies_of p.marks r.made) (range_with_len 0 p.marks)) f) f
  opening f lt =
      subst (λ e. Contains e.new f) (sym (get_or-map-range_with_len (copies_of p.marks r.made) 0 p.marks f f (record { old = f; new = [] }) (omega (arith, lt, high.openings)) (omega arith)))
      (Contains-get_or (copies_of p.marks r.made f).new 0 f (omega arith))

  pub carries : Carries (behaviour_of p) q (listing k p)
  carries = record {
    runs = runs_alike m (listing k p) p q stands (grouped p.marks r.made k (listing k p) refl refl);
    marks = olds_same p.marks r.made (range_with_len 0 p.marks);
    loops = loops_are.entered;
    lists = record {
      marks = each_listed k p.marks r.made (listing k p) (All-weaker (MadeFits k p.marks (loops_in p.functions)) (IsOld p.marks) (placed_old k p.marks (loops_in p.functions)) r.made loops_are.placed) refl refl;
      loops = λ j. ap (count_of j) loops_are.copied ∙ range_has_each r.loops j;
    };
    bounds = All-weaker (EntryFits k (loops_in p.functions) (loops_in q.functions)) (λ e. All (λ l. (1 ≤ l.factor) × AreBy (bounds_of (loops_in p.functions) e.old) l.factor (bounds_of (loops_in q.functions) l.id)) e.new) entry_bounds r.entries loops_are.fitting;
    functions = length_same k (begun p) p.functions;
    openings = opening;
    nevers = nevers_few (loops_in p.functions) p.loops k p.marks p.marks r.made high.loops loops_are.placed;
  }

  factors : 1 ≤ k → k ≤ 64 → FactorsWithin 64 (listing k p)
  factors one le = record {
    loops = All-weaker (EntryFits k (loops_in p.functions) (loops_in q.functions)) (λ e. All (λ l. l.factor ≤ 64) e.new)
        (λ e h. All-weaker (CopyFits k (loops_in p.functions) (loops_in q.functions) e.old) (λ l. l.factor ≤ 64) (λ l c. let f = c.1 in omega (arith, f, one, le)) e.new h) r.entries loops_are.fitting;
    nevers = nevers_by k p.marks r.made le;
  }

  -- what each function weighs
  weighs : (fuel f : ℕ) → weights q.functions fuel f ≤ weights p.functions fuel f
  weighs zero f = omega arith
  weighs (suc fuel) f = functions_weigh k (begun p) p.functions high.depth (weights p.functions fuel) (weights q.functions fuel) (weighs fuel) f

  weight_less : weight q ≤ weight p
  weight_less = subst (λ j. weights q.functions (suc j) p.main ≤ weights p.functions (suc (rank_or p.functions p.main 0)) p.main) (sym (ap (λ rs. slice_index_or rs p.main 0) ranks_are)) (weighs (suc (rank_or p.functions p.main 0)) p.main)

  -- how often the copies of a mark are reached together
  module _ (mark : ℕ) (old : mark < p.marks) where
    abbrev ks : List ℕ
    ks = (copies_of p.marks (program_spread k p).made mark).new

    counted : (y : ℕ) → sum_by (λ j. cond (y == j) 1 0) ks ≡ hits (m y) mark
    counted y = sum_by-pointwise (λ j. hit y j) (λ j. hit j y) ks (λ i d lt. hit-turned y (get_or ks i d)) ∙ is_group p.marks r.made mark old y

    counts_once : (y : ℕ) → y < p.marks → sum_by (λ j. cond (y == j) 1 0) ks ≤ cond (y == mark) 1 0
    counts_once y lt = let a = counted y in let b : hits (m y) mark ≡ cond (y == mark) 1 0 = ap (λ o. hits o mark) (label-old p.marks r.made y lt) in omega (arith, a, b)

    counts_less : (x : Made) (j : ℕ) → m j ≡ made_label x → CountsLess (λ y. sum_by (λ i. cond (y == i) 1 0) ks) (λ y. cond (y == mark) 1 0) x j
    counts_less (CopyOf y) j e = let a = counted j in let b : hits (m j) mark ≡ cond (y == mark) 1 0 = ap (λ o. hits o mark) e in omega (arith, a, b)
    counts_less (Behind l) j e = let a = counted j in let b : hits (m j) mark ≡ 0 = ap (λ o. hits o mark) e in omega (arith, a, b)

    none_reached : (xs : List ℕ) → sum_by (λ j. 0) xs ≡ 0
    none_reached [] = refl
    none_reached (x ∷ xs) = let a = sum_by-cons {X = ℕ} (λ y. 0) x xs in let b = none_reached xs in omega (arith, a, b)

    reached_less : (fuel f : ℕ) → sum_by (λ j. reaches q.functions j fuel f) ks ≤ reaches p.functions mark fuel f
    reached_less zero f = let e = none_reached ks in omega (arith, e)
    reached_less (suc fuel) f =
        functions_reach k mark ks (begun p) p.functions (reaches p.functions mark fuel) (λ j. reaches q.functions j fuel) (reached_less fuel)
        (All-weaker (λ h. All (λ y. y < p.marks) (marks_of h.body)) (λ h. All (λ y. sum_by (λ j. cond (y == j) 1 0) ks ≤ cond (y == mark) 1 0) (marks_of h.body))
        (λ h all. All-weaker (λ y. y < p.marks) (λ y. sum_by (λ j. cond (y == j) 1 0) ks ≤ cond (y == mark) 1 0) counts_once (marks_of h.body) all) p.functions below)
        (numbered_weaker (IsNamed m) (CountsLess (λ y. sum_by (λ i. cond (y == i) 1 0) ks) (λ y. cond (y == mark) 1 0)) counts_less p.marks r.made (numbered_names p.marks r.made))
        f f (λ lt. counts_once f (omega (arith, lt, high.openings)))

    reach_less : sum_by (reach q) ks ≤ reach p mark
    reach_less =
        subst (λ j. sum_by (λ i. reaches q.functions i (suc j) p.main) ks ≤ reaches p.functions mark (suc (rank_or p.functions p.main 0)) p.main) (sym (ap (λ rs. slice_index_or rs p.main 0) ranks_are))
        (reached_less (suc (rank_or p.functions p.main 0)) p.main)

  reach_within : ReachWithin (reach p) q (listing k p)
  reach_within = All-map (λ e. sum_by (reach q) e.new ≤ reach p e.old) (copies_of p.marks r.made) (range_with_len 0 p.marks)
      (λ i d lt. reach_less (get_or (range_with_len 0 p.marks) i d) (within i d lt))
    where
      within : (i d : ℕ) → i < length (range_with_len 0 p.marks) → get_or (range_with_len 0 p.marks) i d < p.marks
      within i d lt =
          let here : i < p.marks = subst (λ j. i < j) (length-range_with_len 0 p.marks) lt in
          omega (arith, here, get_or-range_with_len 0 p.marks i d here)

  -- the budget of operations
  works : 2 ≤ k → program_operations q + r.room ≡ program_busy p + (most_operations - program_busy p)
  works two = sizes_are.work two

  operations_within : 2 ≤ k → program_operations p ≤ most_operations → program_operations q ≤ most_operations
  operations_within two le = let a = works two in let b = all_busy_most p.functions in omega (arith, a, b, le)

  bytes_same : local_bytes q ≡ local_bytes p
  bytes_same = ap (λ b. b + sum_by (λ o. local_object_bytes o.storage o) p.objects) (frames_same k (begun p) p.functions)

  budgets_twice : 2 ≤ k → WithinBudgets p → WithinBudgets q
  budgets_twice two h = record {
    operations = operations_within two h.operations;
    depth = sizes_are.deep;
    locals = subst (λ b. b ≤ most_locals) (sym bytes_same) h.locals;
  }

  nodes_below : 2 ≤ k → program_nodes q < 2 ^ 26
  nodes_below two = ⊎_elim
      (λ (room : program_busy p < most_operations).
      let a = works two in
      let b = all_nodes_few q.functions in
      let c : program_operations q ≤ most_operations = omega (arith, a, room) in
      omega (arith, b, c))
      (λ (none : most_operations ≤ program_busy p).
      let a = sizes_are.size in
      let b = high.nodes in
      let c : most_operations - program_busy p ≡ 0 = omega (arith, none) in
      omega (arith, a, b, c))
      (cases_lt (program_busy p) most_operations)

  marks_below : (Q : ℕ → Type 0) → All Q (marks_in p.functions) → ((y : ℕ) → p.marks ≤ y → y < p.marks + length r.made → Q y) → All Q (marks_in q.functions)
  marks_below Q all new = All-flat_map Q body_marks q.functions
      (functions_marks k Q (begun p) p.functions (All-flat_map_back Q body_marks p.functions all) (numbered_each Q p.marks r.made new))

  high_twice : 2 ≤ k → IsHigh q
  high_twice two = record {
    main = subst (λ l. p.main < l) (sym (length_same k (begun p) p.functions)) high.main;
    openings = let a = length_same k (begun p) p.functions in let b = high.openings in omega (arith, a, b);
    others = subst (λ l. All (λ y. l ≤ y) (marks_in q.functions)) (sym (length_same k (begun p) p.functions))
        (marks_below (λ y. length p.functions ≤ y) high.others (λ y le lt. let b = high.openings in omega (arith, b, le)));
    marks = marks_below (λ y. y < p.marks + length r.made)
        (All-weaker (λ y. y < p.marks) (λ y. y < p.marks + length r.made) (λ y lt. omega (arith, lt)) (marks_in p.functions) high.marks) (λ y le lt. lt);
    loops = loops_are.numbers;
    leaves = sizes_are.leaving high.leaves;
    ranks = subst (λ rs. All (λ f. All (λ g. slice_index_or rs g f.rank < f.rank) (callees_of f.body)) q.functions) (sym ranks_are)
        (calls_fall k (λ g rank. rank_or p.functions g rank) (begun p) p.functions high.depth high.ranks);
    depth = sizes_are.deep;
    nodes = nodes_below two;
  }

  -- an innermost loop that is left
  pub left_tight : 2 ≤ k → All (PassesBudget k q) r.left
  left_tight two = All-weaker (IsTight k r.room) (PassesBudget k q)
      (λ l h. ⊎_elim
      (λ (want : r.room < growth k l.rolled). let a = works two in inl (omega (arith, a, want)))
      (λ (deep : most_depth < l.level + depth_by k l.rolled). inr deep)
      h)
      r.left (sizes_are.tight two)

abbrev pub of_parts : List Function → List Object → (main marks loops : ℕ) → Program
of_parts functions objects main marks loops = record { functions = functions; objects = objects; main = main; marks = marks; loops = loops }

-- a factor of 1
pub unrolled_alone : (p : Program) → IsHigh p → unrolled 1 p ≡ p
unrolled_alone p high =
    let h = functions_unchanged (begun p) p.functions (numbered_range 0 p.loops (loops_in p.functions) high.loops) in
    let marks : p.marks + length (program_spread 1 p).made ≡ p.marks = ap (λ l. p.marks + length l) h.1 ∙ none p.marks in
    let loops : (program_spread 1 p).loops ≡ p.loops = h.2 ∙ sym (length-map (loops_in p.functions) number_of) ∙ ap length high.loops ∙ length-range_with_len 0 p.loops in
    ap (λ fs. of_parts fs p.objects p.main (p.marks + length (program_spread 1 p).made) (program_spread 1 p).loops) h.0
    ∙ ap (λ n. of_parts p.functions p.objects p.main n (program_spread 1 p).loops) marks
    ∙ ap (λ l. of_parts p.functions p.objects p.main p.marks l) loops
  where
    none : (n : ℕ) → n + 0 ≡ n
    none n = omega arith

-- a program of these parts
pub made_program : (k : ℕ) (p : Program) (fs : List Function) (os : List Object) (marks loops : ℕ) → fs ≡ (program_spread k p).code → os ≡ p.objects → marks ≡ (unrolled k p).marks → loops ≡ 0 + (unrolled k p).loops →
    of_parts fs os p.main marks loops ≡ unrolled k p
made_program k p fs os marks loops functions objects as_marked as_many =
    let q : Program = unrolled k p in
    ap (λ x. of_parts x os p.main marks loops) functions
    ∙ ap (λ x. of_parts q.functions x p.main marks loops) objects
    ∙ ap (λ x. of_parts q.functions p.objects p.main x loops) as_marked
    ∙ ap (λ x. of_parts q.functions p.objects p.main q.marks x) (as_many ∙ none q.loops)
  where
    none : (n : ℕ) → 0 + n ≡ n
    none n = omega arith

module _ (k : ℕ) (p : Program) (high : IsHigh p) (one : 1 ≤ k) where
  alone : k ≡ 1 → unrolled k p ≡ p
  alone e = ap (λ j. unrolled j p) e ∙ unrolled_alone p high

  one_or_more : (k ≡ 1) ⊎ (2 ≤ k)
  one_or_more = ⊎_elim (λ (e : k ≡ 1). inl e) (λ (other : k ≡ 1 → ⊥). inr (more other)) (cases_eq k 1)
    where
      more : (k ≡ 1 → ⊥) → 2 ≤ k
      more other = ⊎_elim (λ (lt : k < 2). absurd (other (omega (arith, lt, one)))) (λ (le : 2 ≤ k). le) (cases_lt k 2)

  pub unrolled_is_high : IsHigh (unrolled k p)
  unrolled_is_high = ⊎_elim (λ (e : k ≡ 1). subst IsHigh (sym (alone e)) high) (λ (two : 2 ≤ k). high_twice k p high two) one_or_more

  budgets : WithinBudgets p → WithinBudgets (unrolled k p)
  budgets h = ⊎_elim (λ (e : k ≡ 1). subst WithinBudgets (sym (alone e)) h) (λ (two : 2 ≤ k). budgets_twice k p high two h) one_or_more

  pub lawful : k ≤ 64 → IsLawful p (unrolled k p) (listing k p)
  lawful le = record {
    carries = carries k p high;
    factors = factors k p high one le;
    budgets = budgets;
    weight = weight_less k p high;
    reach = reach_within k p high;
    whole = λ whole. record { words = functions_words k (begun p) p.functions whole.words; objects = whole.objects };
    functions = signatures_same k (begun p) p.functions;
    objects = refl;
    main = refl;
  }

  pub unrolls : Unrolls k p (unrolled k p) (listing k p)
  unrolls = record { program = refl; copies = refl; alone = alone; left = left_tight k p high }

  -- a program and copies that are these
  pub made_lawful : (q : Program) (c : Listing) → k ≤ 64 → q ≡ unrolled k p → c ≡ listing k p → IsLawful p q c
  made_lawful q c le program copies = subst (λ x. IsLawful p x c) (sym program) (subst (IsLawful p (unrolled k p)) (sym copies) (lawful le))

  pub made_unrolls : (q : Program) (c : Listing) → q ≡ unrolled k p → c ≡ listing k p → Unrolls k p q c
  made_unrolls q c program copies = subst (λ x. Unrolls k p x c) (sym program) (subst (Unrolls k p (unrolled k p)) (sym copies) unrolls)
