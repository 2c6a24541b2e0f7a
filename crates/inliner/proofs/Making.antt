-- What a program keeps while the calls of its functions are opened, one function after another.
use Rattle.std.proofs.Common.{◌≡◌, ℕ, zero, suc, ◌+◌, ◌-◌, ◌*◌, ◌<◌, ◌≤◌, max, ◌⊎◌, inl, inr, List, [], ◌∷◌, get_or, map, Option, Some, None, refl, sym, ap, ◌∙◌, subst, arith, All}
use Rattle.std.specs.Prelude.{slice_get, slice_set, sum_by}
use Rattle.std.proofs.lemmas.Bool.{cases_eq}
use Rattle.std.proofs.lemmas.Option.{none-some, same_Some}
use Rattle.std.proofs.lemmas.List.Sums.{sum_by-cons}
use Rattle.wcc_base.specs.Budgets.{most_depth, most_locals, most_operations}
use Rattle.high_ir.specs.Formed.{RanksFall}
use Rattle.high_ir.specs.Runs.{rank_or}
use Rattle.high_ir.specs.Size.{depth, frame_bytes, local_bytes, local_object_bytes, operations, program_operations}
use Rattle.high_ir.specs.Standing.{Bounded, blocks_needed, callees_of, loops_in, loops_of, marks_of}
use Rattle.high_ir.specs.Tree.{Function, Program}
use Rattle.high_ir.specs.Weight.{reaches, weights}
use Rattle.high_ir.specs.Whole.{HasWords}
use Rattle.high_pass.specs.Carries.{bounds_of}
use Rattle.high_pass.specs.Law.{Signature, signature_of}
use Rattle.high_renumber.proofs.Lawful.{rank_or-signatures}
use Rattle.inliner.specs.Budgets.{variables}
use Rattle.inliner.specs.Inlining.{Making, after, after_all, after_function, used_in, with_body}
use Rattle.inliner.specs.Walking.{Walked, opened}
use Rattle.inliner.proofs.Constants.{opened_words}
use Rattle.inliner.proofs.Extending.{next_grows}
use Rattle.inliner.proofs.Reaches.{ReachBelow, step_reaches}
use Rattle.inliner.proofs.Sizing.{Counts, opened_counts, opened_depth}
use Rattle.inliner.proofs.Standing.{opened_callees, opened_leaves, opened_loops, opened_marks}
use Rattle.inliner.proofs.Stepping.{set_other, set_same}
use Rattle.inliner.proofs.Weights.{Below, Falls, callee_there, step_weights}

-- lists with one element changed
pub sum_by_set : {A : Type 0} (F : A → ℕ) (xs : List A) (i : ℕ) (x y : A) → slice_get xs i ≡ Some x → sum_by F (slice_set xs i y) + F x ≡ sum_by F xs + F y
sum_by_set F [] i x y is = absurd (none-some x is)
sum_by_set F (z ∷ xs) zero x y is =
    let same : z ≡ x = same_Some z x is in
    omega (arith, sum_by-cons F y xs, sum_by-cons F z xs, ap F same)
sum_by_set F (z ∷ xs) (suc i) x y is = omega (arith, sum_by-cons F z (slice_set xs i y), sum_by-cons F z xs, sum_by_set F xs i x y is)

pub map_set : {A B : Type 0} (F : A → B) (xs : List A) (i : ℕ) (x y : A) → slice_get xs i ≡ Some x → F y ≡ F x → map F (slice_set xs i y) ≡ map F xs
map_set F [] i x y is same = absurd (none-some x is)
map_set F (z ∷ xs) zero x y is same = ap (λ b. b ∷ map F xs) (same ∙ ap F (sym (same_Some z x is)))
map_set F (z ∷ xs) (suc i) x y is same = ap (λ l. F z ∷ l) (map_set F xs i x y is same)

pub set_itself : {A : Type 0} (xs : List A) (i : ℕ) (x : A) → slice_get xs i ≡ Some x → slice_set xs i x ≡ xs
set_itself [] i x is = absurd (none-some x is)
set_itself (z ∷ xs) zero x is = ap (λ a. a ∷ xs) (sym (same_Some z x is))
set_itself (z ∷ xs) (suc i) x is = ap (λ l. z ∷ l) (set_itself xs i x is)

-- what holds of each function
abbrev pub Each : (Function → Type 0) → List Function → Type 0
Each P fs = (g : ℕ) (h : Function) → slice_get fs g ≡ Some h → P h

each_set : (P : Function → Type 0) (fs : List Function) (i : ℕ) (x y : Function) → slice_get fs i ≡ Some x → Each P fs → P y → Each P (slice_set fs i y)
each_set P fs i x y is each new g h found = by_number (cases_eq g i)
  where
    by_number : ((g ≡ i) ⊎ (g ≡ i → ⊥)) → P h
    by_number (inl same) = subst P (same_Some y h (sym (set_same fs i x y is) ∙ ap (slice_get (slice_set fs i y)) (sym same) ∙ found)) new
    by_number (inr other) = each g h (sym (set_other fs i g y other) ∙ found)

-- a function that is there has its rank
pub rank_there : (fs : List Function) (g r : ℕ) (h : Function) → slice_get fs g ≡ Some h → rank_or fs g r ≡ h.rank
rank_there [] g r h is = absurd (none-some h is)
rank_there (k ∷ fs) zero r h is = ap (λ q. q.rank) (same_Some k h is)
rank_there (k ∷ fs) (suc g) r h is = rank_there fs g r h is

-- a callee of a callee has a lower rank too
below_callee : (fs : List Function) → Falls fs → (r g : ℕ) (h : Function) → slice_get fs g ≡ Some h → rank_or fs g r < r → All (λ j. rank_or fs j r < r) (callees_of h.body)
below_callee fs falls r g h found lt i d within =
    let j = get_or (callees_of h.body) i d in
    let low = callee_there fs j h.rank (falls g h found i d within) in
    let same = rank_there fs g r h found in
    subst (λ n. n < r) (sym (rank_there fs j r low.0 low.1)) (omega (arith, low.2, lt, same))

-- a loop that is a copy of one of the program
abbrev pub IsCopy : Program → Bounded → Type 0
IsCopy p l = (bounds_of (loops_in p.functions) l.id ≡ Some l.bounds) × (l.id < p.loops)

-- what the functions of a program keep
pub record Keeping (p : Program) (m : Making) : Type 0 where
  pub signatures : map signature_of m.functions ≡ map signature_of p.functions
  pub falls : Falls m.functions
  pub leaves : Each (λ h. blocks_needed h.body ≡ 0) m.functions
  pub marks : Each (λ h. All (λ k. k < p.marks) (marks_of h.body)) m.functions
  pub loops : Each (λ h. All (IsCopy p) (loops_of h.body)) m.functions
  pub depth : Each (λ h. depth h.body ≤ most_depth) m.functions
  pub operations : m.used.operations ≡ sum_by (λ f. operations f.body + 1) m.functions
  pub bytes : m.used.bytes ≡ sum_by frame_bytes m.functions + sum_by (λ o. local_object_bytes o.storage o) p.objects
  pub within : m.used.operations ≤ max (program_operations p) most_operations
  pub small : m.used.bytes ≤ max (local_bytes p) most_locals
  pub weights : (n : ℕ) → Below p.functions (weights m.functions n)
  pub reaches : (mark n : ℕ) → ReachBelow mark p.functions (reaches m.functions mark n)
  pub words : Each (λ h. HasWords h.body) p.functions → Each (λ h. HasWords h.body) m.functions

nothing_there : (x : Signature) (xs : List Signature) → [] ≡ x ∷ xs → ⊥
nothing_there x xs e = cc e

-- a function of one program stands in the other, with its rank
pub there_too : (fs gs : List Function) (g : ℕ) (k : Function) → map signature_of gs ≡ map signature_of fs → slice_get fs g ≡ Some k → (q : Function) × (slice_get gs g ≡ Some q) × (q.rank ≡ k.rank)
there_too [] gs g k same found = absurd (none-some k found)
there_too (h ∷ fs) [] g k same found = absurd (nothing_there (signature_of h) (map signature_of fs) same)
there_too (h ∷ fs) (q ∷ gs) zero k same found =
    let first : signature_of q ≡ signature_of h = cc in
    (q, refl, ap (λ s. s.rank) first ∙ ap (λ x. x.rank) (same_Some h k found))
there_too (h ∷ fs) (q ∷ gs) (suc g) k same found =
    let rest : map signature_of gs ≡ map signature_of fs = cc in
    there_too fs gs g k rest found

-- no less, through a program in between
below_through : (fs gs : List Function) → map signature_of gs ≡ map signature_of fs → (c : ℕ → ℕ) → Below gs c → ((n : ℕ) → Below fs (weights gs n)) → Below fs c
below_through fs gs same c below up m g k found lt =
    let there = there_too fs gs g k same found in
    omega (arith, below m g there.0 there.1 (subst (λ r. r < m) (sym there.2) lt), up m m g k found lt)

reach_through : (mark : ℕ) (fs gs : List Function) → map signature_of gs ≡ map signature_of fs → (c : ℕ → ℕ) → ReachBelow mark gs c → ((n : ℕ) → ReachBelow mark fs (reaches gs mark n)) → ReachBelow mark fs c
reach_through mark fs gs same c below up m g k found lt =
    let there = there_too fs gs g k same found in
    omega (arith, below m g there.0 there.1 (subst (λ r. r < m) (sym there.2) lt), up m m g k found lt)

sum_by-part : {A : Type 0} (F : A → ℕ) (xs : List A) (i : ℕ) (x : A) → slice_get xs i ≡ Some x → F x ≤ sum_by F xs
sum_by-part F [] i x is = absurd (none-some x is)
sum_by-part F (z ∷ xs) zero x is = omega (arith, sum_by-cons F z xs, ap F (same_Some z x is))
sum_by-part F (z ∷ xs) (suc i) x is = omega (arith, sum_by-cons F z xs, sum_by-part F xs i x is)

module _ (limit : ℕ) (p : Program) (openings : (f : ℕ) (h : Function) → slice_get p.functions f ≡ Some h → f < p.marks) where
  -- one function more
  module _ (m : Making) (keeping : Keeping p m) (f : ℕ) (h : Function) (there : slice_get m.functions f ≡ Some h) where
    abbrev walk : Walked
    walk = opened limit m.functions 0 h.body (used_in m.used h)

    abbrev new : Function
    new = with_body h walk

    abbrev news : List Function
    news = slice_set m.functions f new

    counts : Counts (used_in m.used h) (operations h.body) walk.used (operations walk.statement)
    counts = opened_counts limit m.functions 0 h.body (used_in m.used h) (omega (arith, keeping.operations, sum_by-part (λ g. operations g.body + 1) m.functions f h there))

    least : variables h ≤ walk.used.next
    least = next_grows limit m.functions 0 h.body (used_in m.used h)

    frames : frame_bytes new + 4 * variables h ≡ frame_bytes h + 4 * walk.used.next
    frames = omega (arith, least)

    signatures : map signature_of news ≡ map signature_of m.functions
    signatures = map_set signature_of m.functions f h new there refl

    ranks : Each (RanksFall m.functions) news
    ranks = each_set (RanksFall m.functions) m.functions f h new there keeping.falls
        (opened_callees (λ j. rank_or m.functions j h.rank < h.rank) limit m.functions
        (λ g k found lt. below_callee m.functions keeping.falls h.rank g k found lt) 0 h.body (used_in m.used h) (keeping.falls f h there))

    step : Keeping p (record { functions = news; used = walk.used })
    step = record {
      signatures = signatures ∙ keeping.signatures;
      falls = λ g k found i d within. subst (λ r. r < k.rank) (sym (rank_or-signatures news m.functions (get_or (callees_of k.body) i d) k.rank signatures)) (ranks g k found i d within);
      leaves = each_set (λ k. blocks_needed k.body ≡ 0) m.functions f h new there keeping.leaves (opened_leaves limit m.functions keeping.leaves 0 h.body (used_in m.used h) ∙ keeping.leaves f h there);
      marks = each_set (λ k. All (λ j. j < p.marks) (marks_of k.body)) m.functions f h new there keeping.marks
          (opened_marks (λ j. j < p.marks) limit m.functions (λ g k found. (of_function g k found, keeping.marks g k found)) 0 h.body (used_in m.used h) (keeping.marks f h there));
      loops = each_set (λ k. All (IsCopy p) (loops_of k.body)) m.functions f h new there keeping.loops
          (opened_loops (IsCopy p) limit m.functions keeping.loops 0 h.body (used_in m.used h) (keeping.loops f h there));
      depth = each_set (λ k. depth k.body ≤ most_depth) m.functions f h new there keeping.depth (shallow (opened_depth limit m.functions 0 h.body (used_in m.used h) (omega (arith, keeping.depth f h there))));
      operations = omega (arith, counts.operations, keeping.operations, sum_by_set (λ g. operations g.body + 1) m.functions f h new there);
      bytes = omega (arith, counts.bytes, keeping.bytes, frames, sum_by_set frame_bytes m.functions f h new there);
      within = omega (arith, counts.within, keeping.within);
      small = omega (arith, counts.small, keeping.small);
      weights = λ n. below_through p.functions m.functions keeping.signatures (weights news n) (step_weights limit m.functions keeping.falls f h there (used_in m.used h) (walk.used.next - h.values) n) keeping.weights;
      reaches = λ mark n. reach_through mark p.functions m.functions keeping.signatures (reaches news mark n) (step_reaches mark limit m.functions keeping.falls f h there (used_in m.used h) (walk.used.next - h.values) n) (keeping.reaches mark);
      words = λ first.
          let had = keeping.words first in
          each_set (λ k. HasWords k.body) m.functions f h new there had (opened_words limit m.functions had 0 h.body (used_in m.used h) (had f h there));
    }
      where
        shallow : 0 + depth walk.statement ≤ most_depth → depth walk.statement ≤ most_depth
        shallow le = omega (arith, le)

        of_function : (g : ℕ) (k : Function) → slice_get m.functions g ≡ Some k → g < p.marks
        of_function g k found = let q = there_too m.functions p.functions g k (sym keeping.signatures) found in openings g q.0 q.1

  after_keeps : (m : Making) (f : ℕ) → Keeping p m → Keeping p (after limit m f)
  after_keeps m f keeping = by_function (slice_get m.functions f) refl
    where
      by_function : (o : Option Function) → slice_get m.functions f ≡ o → Keeping p (after_function limit m f o)
      by_function None is = keeping
      by_function (Some h) is = step m keeping f h is

  pub all_keep : (m : Making) (order : List ℕ) → Keeping p m → Keeping p (after_all limit m order)
  all_keep m [] keeping = keeping
  all_keep m (f ∷ order) keeping = all_keep (after limit m f) order (after_keeps m f keeping)
