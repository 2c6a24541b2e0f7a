-- A trace without the blocks that were passed: the same marks, and loops as often.
use Rattle.std.proofs.Common.{◌≡◌, ◌≢◌, ◌<◌, ◌≤◌, ◌==◌, ◌&&◌, ◌⊎◌, ℕ, Bool, true, false, zero, suc, List, [], ◌∷◌, ◌++◌, length, Some, None, refl, sym, ap, ◌∙◌, subst, ⊎_elim, inl, inr}
use Rattle.std.specs.Prelude.{All, if◌then◌else◌, option_to_list, slice_get}
use Rattle.std.specs.List.{AllZip, flat_map}
use Rattle.std.proofs.lemmas.Bool.{eqb-true, eqb-false}
use Rattle.std.proofs.lemmas.List.Elements.{All-nil, All-cons, All-head, All-tail}
use Rattle.low_ir.specs.Code.{Function, Loop, Low, Note}
use Rattle.low_ir.specs.declared.run.Began.{Began}
use Rattle.low_ir.specs.Turns.{IsWithin, KeepsLoop, KeepsLoops, Turns, is_at, mark_at, marks_passed, no_turns, started, turn, turns}
use Rattle.pass_jump_threading_law.specs.Threads.{FunctionThreaded, IsApart, IsThreaded, LoopThreaded, Plan}
use Rattle.low_parts.proofs.Lists.{before}
use Rattle.pass_jump_threading_law.proofs.Numbers.{same_block, same_number, some_same}

abbrev pub LowFunction : Type 0
LowFunction = Function ℕ Note

abbrev pub plan_in : (fs gs : List LowFunction) → AllZip FunctionThreaded fs gs → ℕ → Plan
plan_in [] [] h f = record { name = λ b. None; at = λ b r. None }
plan_in [] (g ∷ gs) h f = record { name = λ b. None; at = λ b r. None }
plan_in (x ∷ fs) [] h f = record { name = λ b. None; at = λ b r. None }
plan_in (x ∷ fs) (g ∷ gs) h zero = h.0.plan
plan_in (x ∷ fs) (g ∷ gs) h (suc f) = plan_in fs gs h.1 f

-- a function, and what became of it
pub record TwoIn (fs gs : List LowFunction) (h : AllZip FunctionThreaded fs gs) (func : ℕ) : Type 0 where
  pub fn : LowFunction
  pub gn : LowFunction
  pub there : slice_get fs func ≡ Some fn
  pub other : slice_get gs func ≡ Some gn
  pub same : FunctionThreaded fn gn
  pub planned : same.plan ≡ plan_in fs gs h func

two_in : (fs gs : List LowFunction) (h : AllZip FunctionThreaded fs gs) (f : ℕ) (fn : LowFunction) → slice_get fs f ≡ Some fn → TwoIn fs gs h f
two_in [] gs h f fn e = cc
two_in (x ∷ fs) [] h f fn e = absurd h
two_in (x ∷ fs) (g ∷ gs) h zero fn e = record { fn = x; gn = g; there = refl; other = refl; same = h.0; planned = refl }
two_in (x ∷ fs) (g ∷ gs) h (suc f) fn e =
    let k = two_in fs gs h.1 f fn e in
    record { fn = k.fn; gn = k.gn; there = k.there; other = k.other; same = k.same; planned = k.planned }

-- loops of a function are within its blocks
abbrev pub IsWithinBlocks : LowFunction → Loop → Type 0
IsWithinBlocks fn l = (l.header < length fn.blocks) × (l.latch < length fn.blocks)

is_at_none : (e : Began) (f b : ℕ) → (e.function ≡ f → e.block ≢ b) → is_at e f b ≡ false
is_at_none e f b apart = by_tests (e.function == f) (e.block == b) refl refl
  where
    by_tests : (c d : Bool) → (e.function == f) ≡ c → (e.block == b) ≡ d → (c && d) ≡ false
    by_tests false d x y = refl
    by_tests true false x y = refl
    by_tests true true x y = absurd (apart (eqb-true e.function f x) (eqb-true e.block b y))

test_same : (a b c d : ℕ) → (a ≡ b → c ≡ d) → (c ≡ d → a ≡ b) → (c == d) ≡ (a == b)
test_same a b c d f g = by_tests (a == b) (c == d) refl refl
  where
    by_tests : (x y : Bool) → (a == b) ≡ x → (c == d) ≡ y → (c == d) ≡ (a == b)
    by_tests true true ex ey = ey ∙ sym ex
    by_tests false false ex ey = ey ∙ sym ex
    by_tests true false ex ey = absurd (eqb-false c d ey (f (eqb-true a b ex)))
    by_tests false true ex ey = absurd (eqb-false a b ex (g (eqb-true c d ey)))

module _ (p q : Low) (threaded : IsThreaded p q) where
  abbrev pub Two : ℕ → Type 0
  Two f = TwoIn p.functions q.functions threaded.functions f

  pub two : (f : ℕ) (fn : LowFunction) → slice_get p.functions f ≡ Some fn → Two f
  two f fn e = two_in p.functions q.functions threaded.functions f fn e

  pub two_is : (f : ℕ) (fn : LowFunction) (w : Two f) → slice_get p.functions f ≡ Some fn → w.fn ≡ fn
  two_is f fn w e = some_same w.fn fn (sym w.there ∙ e)

  abbrev pub plan_of : ℕ → Plan
  plan_of f = plan_in p.functions q.functions threaded.functions f

  -- a block that was passed
  pub record Skipped (e : Began) : Type 0 where
    pub fn : LowFunction
    pub there : slice_get p.functions e.function ≡ Some fn
    pub apart : All (IsApart e.block) fn.loops
    pub mark : mark_at p e ≡ None

  -- a block that both programs began
  pub record Same (e d : Began) : Type 0 where
    pub function : d.function ≡ e.function
    pub named : (plan_of e.function).name e.block ≡ Some d.block
    pub fn : LowFunction
    pub there : slice_get p.functions e.function ≡ Some fn
    pub inside : e.block < length fn.blocks
    pub mark : mark_at q d ≡ mark_at p e

  abbrev pub Shorter : List Began → List Began → Type 0
  Shorter [] ds = ds ≡ []
  Shorter (e ∷ es) [] = Skipped e × Shorter es []
  Shorter (e ∷ es) (d ∷ ds) = (Skipped e × Shorter es (d ∷ ds)) ⊎ (Same e d × Shorter es ds)

  pub skip : (es ds : List Began) (e : Began) → Shorter es ds → Skipped e → Shorter (es ++ e ∷ []) ds
  skip [] ds e h s = subst (λ l. Shorter (e ∷ []) l) (sym h) (s, refl)
  skip (x ∷ es) [] e h s = (h.0, skip es [] e h.1 s)
  skip (x ∷ es) (d ∷ ds) e h s =
      ⊎_elim
      (λ (k : Skipped x × Shorter es (d ∷ ds)). inl (k.0, skip es (d ∷ ds) e k.1 s))
      (λ (k : Same x d × Shorter es ds). inr (k.0, skip es ds e k.1 s))
      h

  pub both : (es ds : List Began) (e d : Began) → Shorter es ds → Same e d → Shorter (es ++ e ∷ []) (ds ++ d ∷ [])
  both [] ds e d h s = subst (λ l. Shorter (e ∷ []) (l ++ d ∷ [])) (sym h) (inr (s, refl))
  both (x ∷ es) [] e d h s = inl (h.0, both es [] e d h.1 s)
  both (x ∷ es) (y ∷ ds) e d h s =
      ⊎_elim
      (λ (k : Skipped x × Shorter es (y ∷ ds)). inl (k.0, both es (y ∷ ds) e d k.1 s))
      (λ (k : Same x y × Shorter es ds). inr (k.0, both es ds e d k.1 s))
      h

  -- the marks
  skipped_marks : (e : Began) (es : List Began) → Skipped e → marks_passed p (e ∷ es) ≡ marks_passed p es
  skipped_marks e es s = ap (λ m. option_to_list m ++ flat_map (λ x. option_to_list (mark_at p x)) es) s.mark

  pub marks_kept : (es ds : List Began) → Shorter es ds → marks_passed q ds ≡ marks_passed p es
  marks_kept [] ds h = ap (marks_passed q) h
  marks_kept (e ∷ es) [] h = marks_kept es [] h.1 ∙ sym (skipped_marks e es h.0)
  marks_kept (e ∷ es) (d ∷ ds) h =
      ⊎_elim
      (λ (k : Skipped e × Shorter es (d ∷ ds)). marks_kept es (d ∷ ds) k.1 ∙ sym (skipped_marks e es k.0))
      (λ (k : Same e d × Shorter es ds).
      ap (λ m. option_to_list m ++ flat_map (λ x. option_to_list (mark_at q x)) ds) k.0.mark
      ∙ ap (λ ms. option_to_list (mark_at p e) ++ ms) (marks_kept es ds k.1))
      h

  -- a loop of a function
  module _ (f : ℕ) (w : Two f) (l k : Loop) (loop : LoopThreaded w.same.plan.name l k) (header : l.header < length w.fn.blocks) (latch : l.latch < length w.fn.blocks) (apart : (b : ℕ) → All (IsApart b) w.fn.loops → IsApart b l) where
    skipped_apart : (e : Began) → Skipped e → e.function ≡ f → IsApart e.block l
    skipped_apart e s is =
        let there : slice_get p.functions f ≡ Some s.fn = subst (λ g. slice_get p.functions g ≡ Some s.fn) is s.there in
        apart e.block (subst (λ (g : LowFunction). All (IsApart e.block) g.loops) (sym (two_is f s.fn w there)) s.apart)

    skipped_turn : (e : Began) (t : Turns) → Skipped e → turn f l t e ≡ t
    skipped_turn e t s =
        ap (λ c. if c then record { again = false; starts = started t.again t.starts } else if is_at e f l.latch then record { again = true; starts = t.starts } else t) (is_at_none e f l.header (λ is. (skipped_apart e s is).0))
        ∙ ap (λ c. if c then record { again = true; starts = t.starts } else t) (is_at_none e f l.latch (λ is. (skipped_apart e s is).1))

    -- numbers meet where blocks meet
    at_same : (e d : Began) (b c : ℕ) → Same e d → b < length w.fn.blocks → w.same.plan.name b ≡ Some c → is_at d f c ≡ is_at e f b
    at_same e d b c s inside named = ap (λ g. (g == f) && (d.block == c)) s.function ∙ by_function (e.function == f) refl
      where
        known : e.function ≡ f → w.same.plan.name e.block ≡ Some d.block
        known is = ap (λ (pl : Plan). pl.name e.block) (w.planned ∙ ap plan_of (sym is)) ∙ s.named

        there : e.function ≡ f → slice_get p.functions f ≡ Some s.fn
        there is = subst (λ g. slice_get p.functions g ≡ Some s.fn) is s.there

        short : e.function ≡ f → e.block < length w.fn.blocks
        short is = subst (λ (g : LowFunction). e.block < length g.blocks) (sym (two_is f s.fn w (there is))) s.inside

        by_function : (x : Bool) → (e.function == f) ≡ x → ((e.function == f) && (d.block == c)) ≡ ((e.function == f) && (e.block == b))
        by_function false ex = ap (λ y. y && (d.block == c)) ex ∙ sym (ap (λ y. y && (e.block == b)) ex)
        by_function true ex =
            let is = eqb-true e.function f ex in
            ap (λ y. (e.function == f) && y)
            (test_same e.block b d.block c (λ same. same_number w.fn w.gn w.same.plan w.same.blocks e.block b d.block c (known is) named same)
            (λ same. same_block w.fn w.gn w.same.plan w.same.blocks e.block b d.block c (short is) inside (known is) named same))

    same_turn : (e d : Began) (t : Turns) → Same e d → turn f k t d ≡ turn f l t e
    same_turn e d t s =
        ap (λ c. if c then record { again = false; starts = started t.again t.starts } else if is_at d f k.latch then record { again = true; starts = t.starts } else t) (at_same e d l.header k.header s header loop.header)
        ∙ ap (λ c. if is_at e f l.header then record { again = false; starts = started t.again t.starts } else if c then record { again = true; starts = t.starts } else t) (at_same e d l.latch k.latch s latch loop.latch)

    turns_same : (t : Turns) (es ds : List Began) → Shorter es ds → turns f k t ds ≡ turns f l t es
    turns_same t [] ds h = ap (turns f k t) h
    turns_same t (e ∷ es) [] h = turns_same t es [] h.1 ∙ sym (ap (λ u. turns f l u es) (skipped_turn e t h.0))
    turns_same t (e ∷ es) (d ∷ ds) h =
        ⊎_elim
        (λ (g : Skipped e × Shorter es (d ∷ ds)). turns_same t es (d ∷ ds) g.1 ∙ sym (ap (λ u. turns f l u es) (skipped_turn e t g.0)))
        (λ (g : Same e d × Shorter es ds). ap (λ u. turns f k u ds) (same_turn e d t g.0) ∙ turns_same (turn f l t e) es ds g.1)
        h

    loop_same : (es ds : List Began) → Shorter es ds → KeepsLoop f es l → KeepsLoop f ds k
    loop_same es ds h kept =
        subst (All (IsWithin k)) (sym (ap (λ (t : Turns). t.starts) (turns_same no_turns es ds h)))
        (subst (λ n. All (λ m. (n ≤ m) × (m ≤ k.most)) (turns f l no_turns es).starts) (sym loop.least)
        (subst (λ n. All (λ m. (l.least ≤ m) × (m ≤ n)) (turns f l no_turns es).starts) (sym loop.most) kept))

  all_same : (f : ℕ) (w : Two f) (es ds : List Began) → Shorter es ds → (ls ks : List Loop) → AllZip (LoopThreaded w.same.plan.name) ls ks → All (IsWithinBlocks w.fn) ls → ((b : ℕ) → All (IsApart b) w.fn.loops → All (IsApart b) ls) → All (KeepsLoop f es) ls → All (KeepsLoop f ds) ks
  all_same f w es ds h [] [] loops inside apart kept = All-nil (KeepsLoop f ds)
  all_same f w es ds h [] (k ∷ ks) loops inside apart kept = absurd loops
  all_same f w es ds h (l ∷ ls) [] loops inside apart kept = absurd loops
  all_same f w es ds h (l ∷ ls) (k ∷ ks) loops inside apart kept =
      let one = All-head (IsWithinBlocks w.fn) l ls inside in
      All-cons (KeepsLoop f ds) k ks
      (loop_same f w l k loops.0 one.0 one.1 (λ b all. All-head (IsApart b) l ls (apart b all)) es ds h (All-head (KeepsLoop f es) l ls kept))
      (all_same f w es ds h ls ks loops.1 (All-tail (IsWithinBlocks w.fn) l ls inside) (λ b all. All-tail (IsApart b) l ls (apart b all)) (All-tail (KeepsLoop f es) l ls kept))

  -- the loops of a program
  pub loops_kept : ((f : ℕ) (fn : LowFunction) → slice_get p.functions f ≡ Some fn → All (IsWithinBlocks fn) fn.loops) → (es ds : List Began) → Shorter es ds → KeepsLoops p es → KeepsLoops q ds
  loops_kept inside es ds h kept f g e =
      let k = before FunctionThreaded p.functions q.functions f g threaded.functions e in
      let w = two f k.it k.there in
      let is : w.fn ≡ k.it = two_is f k.it w k.there in
      let is2 : w.gn ≡ g = some_same w.gn g (sym w.other ∙ e) in
      let there : slice_get p.functions f ≡ Some w.fn = w.there in
      subst (λ (x : LowFunction). All (KeepsLoop f ds) x.loops) is2
      (all_same f w es ds h w.fn.loops w.gn.loops w.same.loops (inside f w.fn there) (λ b all. all) (kept f w.fn there))
