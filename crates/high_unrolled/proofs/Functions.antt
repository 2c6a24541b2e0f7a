-- What functions become, one after another.
use Rattle.std.proofs.Common.{◌≡◌, ℕ, zero, suc, ◌+◌, ◌*◌, ◌<◌, ◌≤◌, List, [], ◌∷◌, ◌++◌, length, map, Some, refl, sym, ap, ◌∙◌, subst, arith, length-append, All, cond}
use Rattle.std.specs.Prelude.{◌==◌, sum_by, slice_get}
use Rattle.std.proofs.lemmas.List.Concat.{flat_map-cons}
use Rattle.std.proofs.lemmas.List.Elements.{All-append, All-cons, All-head, All-nil, All-tail, All-weaker}
use Rattle.std.proofs.lemmas.List.Sums.{sum_by-cons}
use Rattle.wcc_base.specs.Budgets.{most_depth}
use Rattle.high_ir.specs.Formed.{LeavesWithin}
use Rattle.high_ir.specs.Meaning.{Labels}
use Rattle.high_ir.specs.Size.{depth, function_nodes, greatest, operations}
use Rattle.high_ir.specs.Standing.{Bounded, blocks_needed, callees_of, loops_in, loops_of, marks_of}
use Rattle.high_ir.specs.Tree.{Function}
use Rattle.high_ir.specs.Weight.{body_reach, body_weight, reach_of}
use Rattle.high_pass.specs.Law.{signature_of}
use Rattle.high_unrolled.specs.Serving.{FunctionStands}
use Rattle.high_unrolled.specs.Programs.{busy, function_spread, functions_spread, with_body}
use Rattle.high_unrolled.specs.Unrolling.{Place, Became, after}
use Rattle.high_unrolled.proofs.Alone.{AreNumbered, numbered_loops_back, numbered_loops_front, one_leaves}
use Rattle.high_unrolled.proofs.Looping.{Looping, loops_become, looping_both, looping_none}
use Rattle.high_unrolled.proofs.Marking.{OfNumber, spread_marks}
use Rattle.high_unrolled.proofs.Modest.{IsTight, modest_of, tighter}
use Rattle.high_unrolled.proofs.Numbered.{Numbered, numbered_back, numbered_front}
use Rattle.high_unrolled.proofs.Reaching.{CountsLess, calls_reach, marks_reach, one_reached, spread_less, sum_reached}
use Rattle.high_unrolled.proofs.Runs.{IsLabelled, function_stands}

abbrev pub body_loops : Function → List Bounded
body_loops f = loops_of f.body

abbrev pub body_marks : Function → List ℕ
body_marks f = marks_of f.body

abbrev pub function_work : Function → ℕ
function_work f = operations f.body + 1

abbrev pub function_busy : Function → ℕ
function_busy f = busy f.body + 1

abbrev pub function_depth : Function → ℕ
function_depth f = depth f.body

abbrev pub rank_of : Function → ℕ
rank_of f = f.rank

module _ (k : ℕ) where
  -- loops
  pub functions_looping : (n : ℕ) (z : Place) (fs : List Function) → All (λ f. All (λ y. y < n) (marks_of f.body)) fs →
      Looping k n z.loops (loops_in fs) (loops_in (functions_spread k z fs).code) (functions_spread k z fs).loops (functions_spread k z fs).entries (functions_spread k z fs).made
  functions_looping n z [] below = looping_none k n z.loops
  functions_looping n z (f ∷ fs) below =
      let x = function_spread k z f in
      let y = functions_spread k (after z x) fs in
      let here = loops_become k n 0 z f.body (All-head (λ f. All (λ y. y < n) (marks_of f.body)) f fs below) in
      let rest = functions_looping n (after z x) fs (All-tail (λ f. All (λ y. y < n) (marks_of f.body)) f fs below) in
      subst (λ os. Looping k n z.loops os (loops_in (x.code ∷ y.code)) (x.loops + y.loops) (x.entries ++ y.entries) (x.made ++ y.made)) (sym (flat_map-cons body_loops f fs))
      (subst (λ ns. Looping k n z.loops (loops_of f.body ++ loops_in fs) ns (x.loops + y.loops) (x.entries ++ y.entries) (x.made ++ y.made)) (sym (flat_map-cons body_loops x.code y.code))
      (looping_both k n z.loops (loops_of f.body) (loops_in fs) (loops_of x.code.body) (loops_in y.code) x.loops y.loops x.entries y.entries x.made y.made here rest))

  -- sizes
  pub record FunctionsModest (z : Place) (fs : List Function) (r : Became (List Function)) : Type 0 where
    pub deep : greatest function_depth r.code ≤ most_depth
    pub size : sum_by function_nodes r.code + 3 * r.room ≤ sum_by function_nodes fs + 3 * z.room
    pub less : r.room ≤ z.room
    pub work : 2 ≤ k → sum_by function_work r.code + r.room ≡ sum_by function_busy fs + z.room
    pub leaving : All LeavesWithin fs → All LeavesWithin r.code
    pub tight : 2 ≤ k → All (IsTight k r.room) r.left

  pub functions_modest : (z : Place) (fs : List Function) → greatest function_depth fs ≤ most_depth → FunctionsModest z fs (functions_spread k z fs)
  functions_modest z [] fit = record {
    deep = fit;
    size = omega arith;
    less = omega arith;
    work = λ two. refl;
    leaving = λ all. all;
    tight = λ two. All-nil (IsTight k z.room);
  }
  functions_modest z (f ∷ fs) fit =
      let x = function_spread k z f in
      let y = functions_spread k (after z x) fs in
      let h = modest_of k 0 z f.body (omega (arith, fit)) in
      let i = functions_modest (after z x) fs (omega (arith, fit)) in
      record {
        deep = let a = h.deep in let b = i.deep in omega (arith, a, b);
        size =
            let a = h.size in
            let b = i.size in
            let c = sum_by-cons function_nodes x.code y.code in
            let d = sum_by-cons function_nodes f fs in
            omega (arith, a, b, c, d);
        less = let a = h.less in let b = i.less in omega (arith, a, b);
        work = λ two.
            let a = h.work two in
            let b = i.work two in
            let c = sum_by-cons function_work x.code y.code in
            let d = sum_by-cons function_busy f fs in
            omega (arith, a, b, c, d);
        leaving = λ all.
            let a = h.leaving in
            let b : blocks_needed f.body ≡ 0 = All-head LeavesWithin f fs all in
            All-cons LeavesWithin x.code y.code (omega (arith, a, b)) (i.leaving (All-tail LeavesWithin f fs all));
        tight = λ two. All-append (IsTight k y.room) x.left y.left (All-weaker (IsTight k x.room) (IsTight k y.room) (tighter k x.room y.room i.less) x.left (h.tight two)) (i.tight two);
      }

  -- what callers know of them
  pub signatures_same : (z : Place) (fs : List Function) → map signature_of (functions_spread k z fs).code ≡ map signature_of fs
  signatures_same z [] = refl
  signatures_same z (f ∷ fs) = ap (λ l. signature_of f ∷ l) (signatures_same (after z (function_spread k z f)) fs)

  pub ranks_same : (z : Place) (fs : List Function) → map rank_of (functions_spread k z fs).code ≡ map rank_of fs
  ranks_same z [] = refl
  ranks_same z (f ∷ fs) = ap (λ l. f.rank ∷ l) (ranks_same (after z (function_spread k z f)) fs)

  pub length_same : (z : Place) (fs : List Function) → length (functions_spread k z fs).code ≡ length fs
  length_same z [] = refl
  length_same z (f ∷ fs) = ap suc (length_same (after z (function_spread k z f)) fs)

  -- calls still go down, where `rank` is that of each function
  pub calls_fall : (rank : ℕ → ℕ → ℕ) (z : Place) (fs : List Function) → greatest function_depth fs ≤ most_depth → All (λ f. All (λ g. rank g f.rank < f.rank) (callees_of f.body)) fs → All (λ f. All (λ g. rank g f.rank < f.rank) (callees_of f.body)) (functions_spread k z fs).code
  calls_fall rank z [] fit all = All-nil (λ f. All (λ g. rank g f.rank < f.rank) (callees_of f.body))
  calls_fall rank z (f ∷ fs) fit all =
      let x = function_spread k z f in
      let y = functions_spread k (after z x) fs in
      All-cons (λ f. All (λ g. rank g f.rank < f.rank) (callees_of f.body)) x.code y.code
      ((modest_of k 0 z f.body (omega (arith, fit))).calling (λ g. rank g f.rank < f.rank) (All-head (λ f. All (λ g. rank g f.rank < f.rank) (callees_of f.body)) f fs all))
      (calls_fall rank (after z x) fs (omega (arith, fit)) (All-tail (λ f. All (λ g. rank g f.rank < f.rank) (callees_of f.body)) f fs all))

  -- marks
  pub functions_marks : (Q : ℕ → Type 0) (z : Place) (fs : List Function) → All (λ f. All Q (marks_of f.body)) fs → Numbered (OfNumber Q) z.marks (functions_spread k z fs).made → All (λ f. All Q (marks_of f.body)) (functions_spread k z fs).code
  functions_marks Q z [] own h = All-nil (λ f. All Q (marks_of f.body))
  functions_marks Q z (f ∷ fs) own h =
      let x = function_spread k z f in
      let y = functions_spread k (after z x) fs in
      All-cons (λ f. All Q (marks_of f.body)) x.code y.code
      (spread_marks Q k 0 z f.body (All-head (λ f. All Q (marks_of f.body)) f fs own) (numbered_front (OfNumber Q) z.marks x.made y.made h))
      (functions_marks Q (after z x) fs (All-tail (λ f. All Q (marks_of f.body)) f fs own) (numbered_back (OfNumber Q) z.marks x.made y.made h))

  -- runs
  pub functions_stand : (m : Labels) (first : ℕ) (z : Place) (fs : List Function) → ((f : ℕ) → f < length fs → m (first + f) ≡ Some (first + f)) → All (λ f. All (λ y. m y ≡ Some y) (marks_of f.body)) fs → Numbered (IsLabelled m) z.marks (functions_spread k z fs).made →
      (f : ℕ) → FunctionStands m (first + f) (slice_get fs f) (slice_get (functions_spread k z fs).code f)
  functions_stand m first z [] labels own h f = record { by = λ c d calls values arrays w t. tt }
  functions_stand m first z (g ∷ fs) labels own h zero =
      let x = function_spread k z g in
      let y = functions_spread k (after z x) fs in
      function_stands m k (first + 0) z g (labels 0 (omega arith)) (All-head (λ f. All (λ y. m y ≡ Some y) (marks_of f.body)) g fs own) (numbered_front (IsLabelled m) z.marks x.made y.made h)
  functions_stand m first z (g ∷ fs) labels own h (suc f) =
      let x = function_spread k z g in
      let y = functions_spread k (after z x) fs in
      let e : first + 1 + f ≡ first + suc f = omega arith in
      subst (λ i. FunctionStands m i (slice_get fs f) (slice_get y.code f)) e
      (functions_stand m (first + 1) (after z x) fs
      (λ i lt. let s : first + suc i ≡ first + 1 + i = omega arith in subst (λ j. m j ≡ Some j) s (labels (suc i) (omega (arith, lt))))
      (All-tail (λ f. All (λ y. m y ≡ Some y) (marks_of f.body)) g fs own) (numbered_back (IsLabelled m) z.marks x.made y.made h) f)

  -- weights
  pub functions_weigh : (z : Place) (fs : List Function) → greatest function_depth fs ≤ most_depth → (c d : ℕ → ℕ) → ((f : ℕ) → d f ≤ c f) → (f : ℕ) → body_weight (slice_get (functions_spread k z fs).code f) d ≤ body_weight (slice_get fs f) c
  functions_weigh z [] fit c d less f = omega arith
  functions_weigh z (g ∷ fs) fit c d less zero = let a = (modest_of k 0 z g.body (omega (arith, fit))).weighing c d less in omega (arith, a)
  functions_weigh z (g ∷ fs) fit c d less (suc f) = functions_weigh (after z (function_spread k z g)) fs (omega (arith, fit)) c d less f

  -- how often several marks are reached together, where one old mark is reached so often
  pub functions_reach : (mark : ℕ) (ks : List ℕ) (z : Place) (fs : List Function) → (old : ℕ → ℕ) (new : ℕ → ℕ → ℕ) → ((f : ℕ) → sum_by (λ j. new j f) ks ≤ old f) →
      All (λ f. All (λ y. sum_by (λ j. cond (y == j) 1 0) ks ≤ cond (y == mark) 1 0) (marks_of f.body)) fs → Numbered (CountsLess (λ y. sum_by (λ j. cond (y == j) 1 0) ks) (λ y. cond (y == mark) 1 0)) z.marks (functions_spread k z fs).made →
      (n f : ℕ) → (f < length fs → sum_by (λ j. cond (n == j) 1 0) ks ≤ cond (n == mark) 1 0) → sum_by (λ j. body_reach j n (slice_get (functions_spread k z fs).code f) (new j)) ks ≤ body_reach mark n (slice_get fs f) old
  functions_reach mark ks z [] old new less own h n f opening = let e = none_reached ks in omega (arith, e)
    where
      none_reached : (xs : List ℕ) → sum_by (λ j. 0) xs ≡ 0
      none_reached [] = refl
      none_reached (x ∷ xs) = let a = sum_by-cons {X = ℕ} (λ y. 0) x xs in let b = none_reached xs in omega (arith, a, b)
  functions_reach mark ks z (g ∷ fs) old new less own h n zero opening =
      let x = function_spread k z g in
      let y = functions_spread k (after z x) fs in
      let split = two_sums (λ j. cond (n == j) 1 0) (λ j. reach_of (new j) j x.code.body) ks in
      let a = sum_reached new ks x.code.body in
      let b = spread_less old (calls_reach new ks) less (λ m. cond (m == mark) 1 0) (marks_reach new ks) k 0 z g.body
      (All-head (λ f. All (λ y. sum_by (λ j. cond (y == j) 1 0) ks ≤ cond (y == mark) 1 0) (marks_of f.body)) g fs own)
      (numbered_front (CountsLess (λ y. sum_by (λ j. cond (y == j) 1 0) ks) (λ y. cond (y == mark) 1 0)) z.marks x.made y.made h) in
      let c = one_reached old mark g.body in
      let e = opening (omega arith) in
      omega (arith, split, a, b, c, e)
    where
      two_sums : (f g : ℕ → ℕ) (xs : List ℕ) → sum_by (λ j. f j + g j) xs ≡ sum_by f xs + sum_by g xs
      two_sums f g [] = refl
      two_sums f g (x ∷ xs) = let a = sum_by-cons (λ j. f j + g j) x xs in let b = sum_by-cons f x xs in let c = sum_by-cons g x xs in let d = two_sums f g xs in omega (arith, a, b, c, d)
  functions_reach mark ks z (g ∷ fs) old new less own h n (suc f) opening =
      let x = function_spread k z g in
      let y = functions_spread k (after z x) fs in
      functions_reach mark ks (after z x) fs old new less
      (All-tail (λ f. All (λ y. sum_by (λ j. cond (y == j) 1 0) ks ≤ cond (y == mark) 1 0) (marks_of f.body)) g fs own)
      (numbered_back (CountsLess (λ y. sum_by (λ j. cond (y == j) 1 0) ks) (λ y. cond (y == mark) 1 0)) z.marks x.made y.made h) n f (λ lt. opening (omega (arith, lt)))

-- a factor of 1
pub functions_unchanged : (z : Place) (fs : List Function) → AreNumbered z.loops (loops_in fs) → ((functions_spread 1 z fs).code ≡ fs) × ((functions_spread 1 z fs).made ≡ []) × ((functions_spread 1 z fs).loops ≡ length (loops_in fs))
functions_unchanged z [] h = (refl, refl, refl)
functions_unchanged z (f ∷ fs) h =
    let x = function_spread 1 z f in
    let y = functions_spread 1 (after z x) fs in
    let all = subst (AreNumbered z.loops) (flat_map-cons body_loops f fs) h in
    let i = one_leaves 0 z f.body (numbered_loops_front z.loops (loops_of f.body) (loops_in fs) all) in
    let j = functions_unchanged (after z x) fs (subst (λ n. AreNumbered (z.loops + n) (loops_in fs)) (sym i.as_many) (numbered_loops_back z.loops (loops_of f.body) (loops_in fs) all)) in (
      ap (λ b. with_body f b ∷ y.code) i.same_code ∙ ap (λ l. f ∷ l) j.0,
      ap (λ l. l ++ y.made) i.none_made ∙ j.1,
      ap (λ n. n + y.loops) i.as_many ∙ ap (λ n. length (loops_of f.body) + n) j.2 ∙ sym (ap length (flat_map-cons body_loops f fs) ∙ length-append (loops_of f.body) (loops_in fs)),
    )
