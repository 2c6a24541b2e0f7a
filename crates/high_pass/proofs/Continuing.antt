-- What the first copies say of a program, the copies of copies say of the next.
use Rattle.std.proofs.Common.{◌≡◌, ℕ, ◌*◌, ◌<◌, ◌≤◌, ◌==◌, cond, nat_lt, List, [], length, get_or, map, refl, sym, ◌∙◌, subst, arith, All}
use Rattle.std.specs.Prelude.{sum_by, Contains}
use Rattle.std.specs.List.{flat_map, range_with_len}
use Rattle.std.proofs.Math.Nat.{mul-le-mul_left}
use Rattle.std.proofs.lemmas.Bool.{cond-true, lt-ltb}
use Rattle.std.proofs.lemmas.Simd.{map-map}
use Rattle.std.proofs.lemmas.List.FromFn.{get_or-range_with_len, length-range_with_len}
use Rattle.std.proofs.lemmas.List.Elements.{All-append, All-map, All-nil, All-same}
use Rattle.std.proofs.lemmas.List.Sums.{sum_by-le-sum_by}
use Rattle.high_ir.specs.declared.copies.LoopCopy.{LoopCopy}
use Rattle.high_ir.specs.Formed.{IsHigh}
use Rattle.high_ir.specs.Runs.{hrun}
use Rattle.high_ir.specs.Standing.{loops_in}
use Rattle.high_ir.specs.Tree.{Program}
use Rattle.high_ir.specs.Weight.{reach}
use Rattle.high_pass.specs.Carries.{AreBy, Behaviour, Carries, StartsFewer, bounds_of}
use Rattle.high_pass.specs.Composing.{CanCompose, Continues, at_mark, composed, copies_by, loops_through, marks_through, nevers_through, no_origin, origin_among, taken_back, times}
use Rattle.high_pass.specs.Law.{FactorsWithin, IsLawful, ReachWithin}
use Rattle.high_pass.specs.Listing.{MarkEntry, LoopEntry, Listing, ListsThoseOf, listed_marks, listed_loops, mark_copies, loop_copies}
use Rattle.high_pass.proofs.Counting.{all_below, sum_by-flat_map}
use Rattle.high_pass.proofs.Counts.{runs_through}
use Rattle.high_pass.proofs.Elements.{All-append_back, All-append_front, All-flat_map, All-flat_map_back, All-map_back, Contains-flat_map, get_or-map_default}
use Rattle.high_pass.proofs.Entries.{entry_at, length_of_entries}
use Rattle.high_pass.proofs.Factors.{AreBy-AreBy, StartsFewer-AreBy}
use Rattle.high_pass.proofs.Lists.{sum_by-listed_loops, sum_by-listed_marks}
use Rattle.high_pass.proofs.Origins.{StartsFewer-there, finds_among, keeps_among}

product_above : (k j : ℕ) → 1 ≤ k → 1 ≤ j → 1 ≤ k * j
product_above k j one one' = let m : k * 1 ≤ k * j = mul-le-mul_left k one' in omega (arith, m, one)

pub product_within : (k j n m : ℕ) → k ≤ n → j ≤ m → k * j ≤ n * m
product_within k j n m a b =
    let x : k * j ≤ k * m = mul-le-mul_left k b in
    let y : m * k ≤ m * n = mul-le-mul_left m a in
    omega (arith, x, y)

-- the numbers of a program's loops
pub loops_below : (p : Program) → IsHigh p → All (λ x. x < p.loops) (map (λ l. l.id) (loops_in p.functions))
loops_below p high = All-same (λ x. x < p.loops) _ _ high.loops (λ k d lt.
    let within : k < p.loops = subst (λ n. k < n) (length-range_with_len 0 p.loops) lt in
    omega (arith, within, get_or-range_with_len 0 p.loops k d within))

-- what a list of all marks or all loops says entry by entry
pub each_mark : (P : ℕ → Type 0) (c : Listing) → All P (listed_marks c) → All (λ e. All P e.new) c.marks
each_mark P c all = All-flat_map_back P (λ e. e.new) c.marks (All-append_front P (flat_map (λ e. e.new) c.marks) (map (λ v. v.mark) c.nevers) all)

pub each_never : (P : ℕ → Type 0) (c : Listing) → All P (listed_marks c) → All (λ v. P v.mark) c.nevers
each_never P c all = All-map_back P (λ v. v.mark) c.nevers (All-append_back P (flat_map (λ e. e.new) c.marks) (map (λ v. v.mark) c.nevers) all)

pub each_loop : (P : ℕ → Type 0) (c : Listing) → All P (listed_loops c) → All (λ e. All (λ l. P l.id) e.new) c.loops
each_loop P c all k d lt = All-map_back P (λ l. l.id) (get_or c.loops k d).new (All-flat_map_back P (λ e. map (λ l. l.id) e.new) c.loops all k d lt)

-- what holds of each copy of a loop holds of the copies of copies, where it goes from one to the other
module _ (step : List LoopEntry) (R : ℕ → LoopCopy → Type 0) (S : LoopCopy → Type 0) (old n : ℕ) (entries : map (λ e. e.old) step ≡ range_with_len 0 n) (each : All (λ e. All (R e.old) e.new) step) where
  copies_at : (j : ℕ) → All (R j) (loop_copies step j)
  copies_at j = entry_at (λ k e. All (R k) e.new) (λ e. e.old) step n j (record { old = j; new = [] }) entries refl each (All-nil (R j))

  pub loops_each : (T : LoopCopy → Type 0) → ((l m : LoopCopy) → S l → R l.id m → T (times l.factor m)) → (ls : List LoopCopy) → All S ls → All T (flat_map (copies_by step) ls)
  loops_each T goes ls all = All-flat_map T (copies_by step) ls (λ k d lt.
      All-map T (times (get_or ls k d).factor) (loop_copies step (get_or ls k d).id)
      (λ i e within. goes (get_or ls k d) (get_or (loop_copies step (get_or ls k d).id) i e) (all k d lt) (copies_at (get_or ls k d).id i e within)))

module _ (old new : Program) (whole step : Listing) (high : IsHigh old) (lists : ListsThoseOf old whole) (law : IsLawful old new step) where
  below : All (λ k. k < old.marks) (listed_marks whole)
  below = all_below old.marks (listed_marks whole) lists.marks

  loop_entries : map (λ e. e.old) step.loops ≡ range_with_len 0 old.loops
  loop_entries = law.carries.loops ∙ high.loops

  marks_length : length step.marks ≡ old.marks
  marks_length = length_of_entries (λ e. e.old) step.marks old.marks law.carries.marks

  loops_length : length step.loops ≡ old.loops
  loops_length = length_of_entries (λ e. e.old) step.loops old.loops loop_entries

  nevers_there : All (λ v. v.old < old.loops) step.nevers
  nevers_there k d lt = StartsFewer-there (loops_in old.functions) old.loops (get_or step.nevers k d).factor (get_or step.nevers k d).old (loops_below old high) (law.carries.nevers k d lt)

  pub can_compose : FactorsWithin 67108863 whole → CanCompose old.loops whole step
  can_compose factors = record {
    marks = subst (λ n. All (λ k. k < n) (listed_marks whole)) (sym marks_length) below;
    loops_there = all_below old.loops (listed_loops whole) lists.loops;
    entries = loops_length;
    nevers = nevers_there;
    factors = factors;
    step_factors = law.factors;
  }

  reach_at : (j : ℕ) → sum_by (reach new) (mark_copies step.marks j) ≤ reach old j
  reach_at j = entry_at (λ k e. sum_by (reach new) e.new ≤ reach old k) (λ e. e.old) step.marks old.marks j (record { old = j; new = [] }) law.carries.marks refl law.reach (omega arith)

  reach_through : (bound : ℕ → ℕ) → ReachWithin bound old whole → ReachWithin bound new (composed whole step)
  reach_through bound within = All-map (λ e. sum_by (reach new) e.new ≤ bound e.old) (marks_through step.marks) whole.marks (λ k d lt.
      let ks = (get_or whole.marks k d).new in
      omega (arith, within k d lt, sum_by-flat_map (reach new) (mark_copies step.marks) ks, sum_by-le-sum_by (λ j. sum_by (reach new) (mark_copies step.marks j)) (reach old) ks reach_at))

  factors_through : (n : ℕ) → FactorsWithin n whole → FactorsWithin (n * 64) (composed whole step)
  factors_through n within = record {
    loops = All-map (λ e. All (λ l. l.factor ≤ n * 64) e.new) (loops_through step.loops) whole.loops (λ k d lt.
        loops_each step.loops (λ j m. m.factor ≤ 64) (λ l. l.factor ≤ n) 0 old.loops loop_entries law.factors.loops (λ l. l.factor ≤ n * 64) (λ l m a b. product_within l.factor m.factor n 64 a b) (get_or whole.loops k d).new (within.loops k d lt));
    nevers = All-append (λ v. v.factor ≤ n * 64) (flat_map (nevers_through step.marks) whole.nevers) (map (taken_back whole.loops) step.nevers)
        (All-flat_map (λ v. v.factor ≤ n * 64) (nevers_through step.marks) whole.nevers (λ k d lt.
        All-map (λ v. v.factor ≤ n * 64) (at_mark (get_or whole.nevers k d)) (mark_copies step.marks (get_or whole.nevers k d).mark) (λ i e lt'. wider (get_or whole.nevers k d).factor (within.nevers k d lt))))
        (All-map (λ v. v.factor ≤ n * 64) (taken_back whole.loops) step.nevers (λ k d lt.
        product_within (origin_among whole.loops (get_or step.nevers k d).old no_origin).factor (get_or step.nevers k d).factor n 64
        (keeps_among (λ i o. o.factor ≤ n) (get_or step.nevers k d).old whole.loops no_origin within.loops (omega arith)) (law.factors.nevers k d lt)));
  }
    where
      wider : (f : ℕ) → f ≤ n → f ≤ n * 64
      wider f le = omega (arith, le)

  module _ (first : Behaviour) (h : Carries first old whole) where
    lists_through : ListsThoseOf new (composed whole step)
    lists_through = record {
      marks = λ k. sum_by-listed_marks (λ x. cond (x == k) 1 0) whole step old.marks lists.marks marks_length ∙ law.carries.lists.marks k;
      loops = λ k. sum_by-listed_loops (λ x. cond (x == k) 1 0) whole step old.loops lists.loops loops_length ∙ law.carries.lists.loops k;
    }

    bounds_through : All (λ e. All (λ l. (1 ≤ l.factor) × AreBy (bounds_of first.loops e.old) l.factor (bounds_of (loops_in new.functions) l.id)) e.new) (map (loops_through step.loops) whole.loops)
    bounds_through = All-map (λ e. All (λ l. (1 ≤ l.factor) × AreBy (bounds_of first.loops e.old) l.factor (bounds_of (loops_in new.functions) l.id)) e.new) (loops_through step.loops) whole.loops (λ k d lt.
        let from = bounds_of first.loops (get_or whole.loops k d).old in
        loops_each step.loops
        (λ j m. (1 ≤ m.factor) × AreBy (bounds_of (loops_in old.functions) j) m.factor (bounds_of (loops_in new.functions) m.id))
        (λ l. (1 ≤ l.factor) × AreBy from l.factor (bounds_of (loops_in old.functions) l.id))
        0 old.loops loop_entries law.carries.bounds
        (λ l. (1 ≤ l.factor) × AreBy from l.factor (bounds_of (loops_in new.functions) l.id))
        (λ l m a b. (product_above l.factor m.factor a.0 b.0, AreBy-AreBy from (bounds_of (loops_in old.functions) l.id) (bounds_of (loops_in new.functions) m.id) l.factor m.factor a.0 b.0 a.1 b.1))
        (get_or whole.loops k d).new (h.bounds k d lt))

    opening_through : (f : ℕ) → f < first.functions → Contains (mark_copies (map (marks_through step.marks) whole.marks) f) f
    opening_through f lt =
        let d : MarkEntry = record { old = f; new = [] } in
        let a = h.openings f lt in
        subst (λ e. Contains e.new f) (sym (get_or-map_default (marks_through step.marks) whole.marks f d))
        (Contains-flat_map (mark_copies step.marks) (mark_copies whole.marks f) a.0 f f a.1 a.2 (law.carries.openings f (subst (λ n. f < n) (sym h.functions) lt)))

    origin_through : (j : ℕ) → j < old.loops → (1 ≤ (origin_among whole.loops j no_origin).factor) × AreBy (bounds_of first.loops (origin_among whole.loops j no_origin).old) (origin_among whole.loops j no_origin).factor (bounds_of (loops_in old.functions) j)
    origin_through j lt =
        finds_among (λ i o. (1 ≤ o.factor) × AreBy (bounds_of first.loops o.old) o.factor (bounds_of (loops_in old.functions) i)) j whole.loops no_origin h.bounds
        (omega (arith, lists.loops j, cond-true {A = ℕ} (nat_lt j old.loops) 1 0 (lt-ltb j old.loops lt)))

    nevers_through_all : All (λ v. StartsFewer (bounds_of first.loops v.old) v.factor) (composed whole step).nevers
    nevers_through_all = All-append (λ v. StartsFewer (bounds_of first.loops v.old) v.factor) (flat_map (nevers_through step.marks) whole.nevers) (map (taken_back whole.loops) step.nevers)
        (All-flat_map (λ v. StartsFewer (bounds_of first.loops v.old) v.factor) (nevers_through step.marks) whole.nevers (λ k d lt.
        All-map (λ v. StartsFewer (bounds_of first.loops v.old) v.factor) (at_mark (get_or whole.nevers k d)) (mark_copies step.marks (get_or whole.nevers k d).mark) (λ i e lt'. h.nevers k d lt)))
        (All-map (λ v. StartsFewer (bounds_of first.loops v.old) v.factor) (taken_back whole.loops) step.nevers (λ k d lt.
        let v = get_or step.nevers k d in
        let o = origin_among whole.loops v.old no_origin in
        let from = origin_through v.old (nevers_there k d lt) in
        StartsFewer-AreBy (bounds_of first.loops o.old) (bounds_of (loops_in old.functions) v.old) o.factor v.factor from.0 from.1 (law.carries.nevers k d lt)))

    carries_through : Carries first new (composed whole step)
    carries_through = record {
      runs = λ input. runs_through whole step old.marks law.carries.marks (each_mark (λ k. k < old.marks) whole below) (each_never (λ k. k < old.marks) whole below) (first.runs input) (hrun old input) (hrun new input) (h.runs input) (law.carries.runs input);
      marks = map-map (λ e. e.old) (marks_through step.marks) whole.marks ∙ h.marks;
      loops = map-map (λ e. e.old) (loops_through step.loops) whole.loops ∙ h.loops;
      lists = lists_through;
      bounds = bounds_through;
      functions = law.carries.functions ∙ h.functions;
      openings = opening_through;
      nevers = nevers_through_all;
    }

  pub continues : Continues old new whole (composed whole step)
  continues = record { carries = λ first h. carries_through first h; reach = reach_through; factors = factors_through }
