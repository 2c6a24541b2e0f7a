-- Either no call was opened, or what is used is within the budget of operations.
use Rattle.std.proofs.Common.{◌≡◌, ℕ, ◌+◌, ◌-◌, ◌≤◌, ◌⊎◌, inl, inr, Bool, true, false, List, [], ◌∷◌, Option, Some, None, refl, sym, ap, ◌∙◌, subst, arith}
use Rattle.std.specs.Prelude.{slice_get, slice_set}
use Rattle.wcc_base.specs.Budgets.{most_operations}
use Rattle.high_ir.specs.Tree.{Expr, Statement, Set, Put, Get, Keep, Mark, Seq, If, Loop, Block, Leave, Call, Return, Statements, End, Then, Function}
use Rattle.inliner.specs.declared.used.Used.{Used}
use Rattle.inliner.specs.Budgets.{fits, variables}
use Rattle.inliner.specs.Inlining.{Making, after, after_all, after_function, used_in, with_body}
use Rattle.inliner.specs.Opening.{Site, call_of}
use Rattle.inliner.specs.Walking.{Walked, WalkedAll, at_call, block, chosen, followed, looped, opened, opened_all, opened_if, seq, walked, walked_all}
use Rattle.inliner.proofs.Making.{set_itself}
use Rattle.inliner.proofs.Sizing.{Fitting, fitting}

abbrev pub Few : Used → Type 0
Few used = used.operations ≤ most_operations

module _ (limit : ℕ) (fs : List Function) where
  if_untouched : (b : Bool) (used : Used) (around : ℕ) (s : Site) (h : Function) → (b ≡ true → Fitting limit used around s h) → (opened_if b used s h ≡ walked (call_of s) used) ⊎ Few (opened_if b used s h).used
  if_untouched false used around s h fit = inl refl
  if_untouched true used around s h fit = inr (let f = fit refl in omega (arith, f.operations))

  call_untouched : (used : Used) (around : ℕ) (s : Site) (o : Option Function) → (at_call limit used around s o ≡ walked (call_of s) used) ⊎ Few (at_call limit used around s o).used
  call_untouched used around s None = inl refl
  call_untouched used around s (Some h) =
      if_untouched (fits limit used around s h) used around s h (λ e. fitting limit used around s h e)

  -- of two, one after the other
  both_untouched : (s : Statement) (used : Used) (first : Walked) (other : Used → Walked) (t : Statement) (test : Expr) → ((first ≡ walked s used) ⊎ Few first.used) → ((other first.used ≡ walked t first.used) ⊎ Few (other first.used).used) →
      (chosen test first other ≡ walked (If test s t) used) ⊎ Few (other first.used).used
  both_untouched s used first other t test (inl a) (inl b) =
      inl (ap (λ w. walked (If test first.statement w.statement) w.used) b ∙ ap (λ w. walked (If test w.statement t) w.used) a)
  both_untouched s used first other t test (inr few) (inl b) = inr (subst Few (sym (ap (λ w. w.used) b)) few)
  both_untouched s used first other t test a (inr few) = inr few

  row_untouched : (s : Statement) (used : Used) (first : Walked) (rest : Used → WalkedAll) (ts : Statements) → ((first ≡ walked s used) ⊎ Few first.used) → ((rest first.used ≡ walked_all ts first.used) ⊎ Few (rest first.used).used) →
      (followed first rest ≡ walked_all (Then s ts) used) ⊎ Few (rest first.used).used
  row_untouched s used first rest ts (inl a) (inl b) =
      inl (ap (λ w. walked_all (Then first.statement w.parts) w.used) b ∙ ap (λ w. walked_all (Then w.statement ts) w.used) a)
  row_untouched s used first rest ts (inr few) (inl b) = inr (subst Few (sym (ap (λ w. w.used) b)) few)
  row_untouched s used first rest ts a (inr few) = inr few

  one_untouched : (s : Statement) (used : Used) (w : Walked) (F : Walked → Walked) → ((w ≡ walked s used) ⊎ Few w.used) → ((F w).used ≡ w.used) → (F w ≡ F (walked s used)) ⊎ Few (F w).used
  one_untouched s used w F (inl a) same = inl (ap F a)
  one_untouched s used w F (inr few) same = inr (subst Few (sym same) few)

  seq_untouched : (ss : Statements) (used : Used) (w : WalkedAll) → ((w ≡ walked_all ss used) ⊎ Few w.used) → (seq w ≡ walked (Seq ss) used) ⊎ Few w.used
  seq_untouched ss used w (inl a) = inl (ap seq a)
  seq_untouched ss used w (inr few) = inr few

  mutual
    pub untouched : (around : ℕ) (s : Statement) (used : Used) → (opened limit fs around s used ≡ walked s used) ⊎ Few (opened limit fs around s used).used
    untouched around (Set x e) used = inl refl
    untouched around (Put e) used = inl refl
    untouched around (Get x) used = inl refl
    untouched around (Keep array i e) used = inl refl
    untouched around (Mark m) used = inl refl
    untouched around (Seq parts) used = seq_untouched parts used (opened_all limit fs (around + 1) parts used) (untouched_all (around + 1) parts used)
    untouched around (If test a b) used =
        let first = opened limit fs (around + 1) a used in
        both_untouched a used first (opened limit fs (around + 1) b) b test (untouched (around + 1) a used) (untouched (around + 1) b first.used)
    untouched around (Loop id least most body) used = one_untouched body used (opened limit fs (around + 1) body used) (looped id least most) (untouched (around + 1) body used) refl
    untouched around (Block body) used = one_untouched body used (opened limit fs (around + 1) body used) block (untouched (around + 1) body used) refl
    untouched around (Leave j) used = inl refl
    untouched around (Call f values arrays into) used = call_untouched used around (record { function = f; values = values; arrays = arrays; into = into }) (slice_get fs f)
    untouched around (Return e) used = inl refl

    untouched_all : (around : ℕ) (ss : Statements) (used : Used) → (opened_all limit fs around ss used ≡ walked_all ss used) ⊎ Few (opened_all limit fs around ss used).used
    untouched_all around End used = inl refl
    untouched_all around (Then s rest) used =
        let first = opened limit fs around s used in
        row_untouched s used first (opened_all limit fs around rest) rest (untouched around s used) (untouched_all around rest first.used)

-- the same of the functions
abbrev pub Untouched : List Function → Used → Making → Type 0
Untouched fs used m = ((m.functions ≡ fs) × (m.used.operations ≡ used.operations)) ⊎ Few m.used

pub both_steps : (fs : List Function) (used : Used) (m n : Making) → Untouched fs used m → Untouched m.functions m.used n → Untouched fs used n
both_steps fs used m n (inl a) (inl b) = inl (b.0 ∙ a.0, b.1 ∙ a.1)
both_steps fs used m n (inr few) (inl b) = inr (omega (arith, few, b.1))
both_steps fs used m n a (inr few) = inr few

module _ (limit : ℕ) where
  function_untouched : (m : Making) (f : ℕ) (h : Function) → slice_get m.functions f ≡ Some h → Untouched m.functions m.used (after_function limit m f (Some h))
  function_untouched m f h there = by_walk (untouched limit m.functions 0 h.body (used_in m.used h))
    where
      w : Walked
      w = opened limit m.functions 0 h.body (used_in m.used h)

      by_walk : ((w ≡ walked h.body (used_in m.used h)) ⊎ Few w.used) → Untouched m.functions m.used (after_function limit m f (Some h))
      by_walk (inl a) =
          let n : variables h - h.values ≡ h.locals = omega arith in
          let same : with_body h w ≡ h = ap (with_body h) a ∙ ap (λ k. record { values = h.values; arrays = h.arrays; locals = k; rank = h.rank; body = h.body }) n in
          inl (ap (slice_set m.functions f) same ∙ set_itself m.functions f h there, ap (λ x. x.used.operations) a)
      by_walk (inr few) = inr few

  pub all_untouched : (m : Making) (order : List ℕ) → Untouched m.functions m.used (after_all limit m order)
  all_untouched m [] = inl (refl, refl)
  all_untouched m (f ∷ order) =
      both_steps m.functions m.used (after limit m f) (after_all limit (after limit m f) order) (by_function (slice_get m.functions f) refl) (all_untouched (after limit m f) order)
    where
      by_function : (o : Option Function) → slice_get m.functions f ≡ o → Untouched m.functions m.used (after_function limit m f o)
      by_function None is = inl (refl, refl)
      by_function (Some h) is = function_untouched m f h is
