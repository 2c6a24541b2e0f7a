-- A program may reach its marks no more often when its calls are opened.
use Rattle.std.proofs.Common.{◌≡◌, ℕ, zero, suc, ◌+◌, ◌*◌, ◌<◌, ◌≤◌, Bool, true, false, ◌⊎◌, inl, inr, List, [], ◌∷◌, get_or, Option, Some, None, refl, sym, ap, ◌∙◌, subst, arith, All}
use Rattle.std.specs.Prelude.{slice_get, slice_set, ◌==◌, if◌then◌else◌}
use Rattle.std.proofs.Math.Nat.{mul-le-mul_left}
use Rattle.std.proofs.lemmas.Bool.{cases_eq}
use Rattle.std.proofs.lemmas.Option.{same_Some}
use Rattle.std.proofs.lemmas.List.Elements.{All-head}
use Rattle.high_ir.specs.Standing.{callees_of, callees_of_all}
use Rattle.high_ir.specs.Tree.{Expr, Statement, Set, Put, Get, Keep, Mark, Seq, If, Loop, Block, Leave, Call, Return, Statements, End, Then, Function}
use Rattle.high_ir.specs.Weight.{body_reach, most_starts, reach_of, reach_of_all, reaches}
use Rattle.high_pass.proofs.Elements.{All-append_back, All-append_front}
use Rattle.inliner.specs.declared.used.Used.{Used}
use Rattle.inliner.specs.Budgets.{fits}
use Rattle.inliner.specs.Moving.{Place, ended, moved, moved_all, moved_expr}
use Rattle.inliner.specs.Opening.{Site, assigned, call_of, opening}
use Rattle.inliner.specs.Walking.{at_call, opened, opened_all, opened_if}
use Rattle.inliner.proofs.Stepping.{set_other, set_same}
use Rattle.inliner.proofs.Weights.{Falls, callee_there}

module _ (mark : ℕ) where
  -- a mark that is reached once
  abbrev hit : ℕ → ℕ
  hit m = if m == mark then 1 else 0

  -- where no callee reaches it more often, nothing does
  module _ (c d : ℕ → ℕ) where
    mutual
      pub reach_less : (s : Statement) → All (λ g. c g ≤ d g) (callees_of s) → reach_of c mark s ≤ reach_of d mark s
      reach_less (Set x e) all = omega arith
      reach_less (Put e) all = omega arith
      reach_less (Get x) all = omega arith
      reach_less (Keep array i e) all = omega arith
      reach_less (Mark m) all = omega arith
      reach_less (Seq parts) all = reach_less_all parts all
      reach_less (If test a b) all =
          omega (arith, reach_less a (All-append_front (λ g. c g ≤ d g) (callees_of a) (callees_of b) all), reach_less b (All-append_back (λ g. c g ≤ d g) (callees_of a) (callees_of b) all))
      reach_less (Loop id least most body) all = mul-le-mul_left (most_starts most) (reach_less body all)
      reach_less (Block body) all = reach_less body all
      reach_less (Leave j) all = omega arith
      reach_less (Call f values arrays into) all = All-head (λ g. c g ≤ d g) f [] all
      reach_less (Return e) all = omega arith

      reach_less_all : (ss : Statements) → All (λ g. c g ≤ d g) (callees_of_all ss) → reach_of_all c mark ss ≤ reach_of_all d mark ss
      reach_less_all End all = omega arith
      reach_less_all (Then s rest) all =
          omega (arith, reach_less s (All-append_front (λ g. c g ≤ d g) (callees_of s) (callees_of_all rest) all), reach_less_all rest (All-append_back (λ g. c g ≤ d g) (callees_of s) (callees_of_all rest) all))

  -- a body reaches it as often where it is moved
  module _ (c : ℕ → ℕ) (p : Place) where
    ended_reach : (into : Option ℕ) (depth : ℕ) (e : Expr) → reach_of c mark (ended into depth e) ≡ 0
    ended_reach None depth e = refl
    ended_reach (Some x) depth e = refl

    mutual
      pub moved_reach : (depth : ℕ) (s : Statement) → reach_of c mark (moved p depth s) ≡ reach_of c mark s
      moved_reach depth (Set x e) = refl
      moved_reach depth (Put e) = refl
      moved_reach depth (Get x) = refl
      moved_reach depth (Keep array i e) = refl
      moved_reach depth (Mark m) = refl
      moved_reach depth (Seq parts) = moved_reach_all depth parts
      moved_reach depth (If test a b) = omega (arith, moved_reach depth a, moved_reach depth b)
      moved_reach depth (Loop id least most body) = ap (λ n. most_starts most * n) (moved_reach depth body)
      moved_reach depth (Block body) = moved_reach (depth + 1) body
      moved_reach depth (Leave j) = refl
      moved_reach depth (Call f values arrays into) = refl
      moved_reach depth (Return e) = ended_reach p.into depth (moved_expr p e)

      moved_reach_all : (depth : ℕ) (ss : Statements) → reach_of_all c mark (moved_all p depth ss) ≡ reach_of_all c mark ss
      moved_reach_all depth End = refl
      moved_reach_all depth (Then s rest) = omega (arith, moved_reach depth s, moved_reach_all depth rest)

  assigned_reach : (c : ℕ → ℕ) (x : ℕ) (es : List Expr) (after : Statements) → reach_of_all c mark (assigned x es after) ≡ reach_of_all c mark after
  assigned_reach c x [] after = refl
  assigned_reach c x (e ∷ es) after = omega (arith, assigned_reach c (x + 1) es after)

  -- an opened call reaches it no more often than the call
  pub opening_reach : (c d : ℕ → ℕ) (s : Site) (n : ℕ) (body : Statement) → hit s.function + reach_of c mark body ≤ d s.function → reach_of c mark (opening s n body) ≤ reach_of d mark (call_of s)
  opening_reach c d s n body covers =
      let p : Place = record { base = n; arrays = s.arrays; into = s.into } in
      omega (arith, covers, moved_reach c p 0 body, assigned_reach c n s.values (Then (Block (moved p 0 body)) End))

  -- a callee reaches it often enough: no less than in the calls that stay, and no less than its body in those that are opened
  pub record Reaches (fs : List Function) (c d : ℕ → ℕ) (g : ℕ) : Type 0 where
    pub kept : c g ≤ d g
    pub body : (h : Function) → slice_get fs g ≡ Some h → hit g + reach_of c mark h.body ≤ d g

  module _ (limit : ℕ) (fs : List Function) (c d : ℕ → ℕ) where
    if_reach : (b : Bool) (used : Used) (s : Site) (h : Function) → slice_get fs s.function ≡ Some h → Reaches fs c d s.function → reach_of c mark (opened_if b used s h).statement ≤ reach_of d mark (call_of s)
    if_reach false used s h found covers = covers.kept
    if_reach true used s h found covers = opening_reach c d s used.next h.body (covers.body h found)

    call_reach : (used : Used) (around : ℕ) (s : Site) (o : Option Function) → slice_get fs s.function ≡ o → Reaches fs c d s.function → reach_of c mark (at_call limit used around s o).statement ≤ reach_of d mark (call_of s)
    call_reach used around s None found covers = covers.kept
    call_reach used around s (Some h) found covers = if_reach (fits limit used around s h) used s h found covers

    mutual
      pub opened_reach : (around : ℕ) (s : Statement) (used : Used) → All (Reaches fs c d) (callees_of s) → reach_of c mark (opened limit fs around s used).statement ≤ reach_of d mark s
      opened_reach around (Set x e) used all = omega arith
      opened_reach around (Put e) used all = omega arith
      opened_reach around (Get x) used all = omega arith
      opened_reach around (Keep array i e) used all = omega arith
      opened_reach around (Mark m) used all = omega arith
      opened_reach around (Seq parts) used all = opened_reach_all (around + 1) parts used all
      opened_reach around (If test a b) used all =
          let first = opened limit fs (around + 1) a used in
          omega (
            arith,
            opened_reach (around + 1) a used (All-append_front (Reaches fs c d) (callees_of a) (callees_of b) all),
            opened_reach (around + 1) b first.used (All-append_back (Reaches fs c d) (callees_of a) (callees_of b) all),
          )
      opened_reach around (Loop id least most body) used all = mul-le-mul_left (most_starts most) (opened_reach (around + 1) body used all)
      opened_reach around (Block body) used all = opened_reach (around + 1) body used all
      opened_reach around (Leave j) used all = omega arith
      opened_reach around (Call f values arrays into) used all =
          call_reach used around (record { function = f; values = values; arrays = arrays; into = into }) (slice_get fs f) refl (All-head (Reaches fs c d) f [] all)
      opened_reach around (Return e) used all = omega arith

      opened_reach_all : (around : ℕ) (ss : Statements) (used : Used) → All (Reaches fs c d) (callees_of_all ss) → reach_of_all c mark (opened_all limit fs around ss used).parts ≤ reach_of_all d mark ss
      opened_reach_all around End used all = omega arith
      opened_reach_all around (Then s rest) used all =
          let first = opened limit fs around s used in
          omega (
            arith,
            opened_reach around s used (All-append_front (Reaches fs c d) (callees_of s) (callees_of_all rest) all),
            opened_reach_all around rest first.used (All-append_back (Reaches fs c d) (callees_of s) (callees_of_all rest) all),
          )

  body_reach-there : (fs : List Function) (f : ℕ) (h : Function) (c : ℕ → ℕ) → slice_get fs f ≡ Some h → body_reach mark f (slice_get fs f) c ≡ hit f + reach_of c mark h.body
  body_reach-there fs f h c there = ap (λ o. body_reach mark f o c) there

  -- the calls of functions nest no deeper than their ranks
  pub reaches_less : (fs : List Function) → Falls fs → (n m f : ℕ) (h : Function) → slice_get fs f ≡ Some h → h.rank < m → reaches fs mark n f ≤ reaches fs mark m f
  reaches_less fs falls zero m f h there lt = omega arith
  reaches_less fs falls (suc n) zero f h there lt = absurd (omega (arith, lt))
  reaches_less fs falls (suc n) (suc m) f h there lt =
      omega (
        arith,
        body_reach-there fs f h (reaches fs mark n) there,
        body_reach-there fs f h (reaches fs mark m) there,
        reach_less (reaches fs mark n) (reaches fs mark m) h.body (λ k e within.
            let found = callee_there fs (get_or (callees_of h.body) k e) h.rank (falls f h there k e within) in
            reaches_less fs falls n m (get_or (callees_of h.body) k e) found.0 found.1 (omega (arith, found.2, lt))),
      )

  -- what reaches it no more often than the functions as they are, with any calls that nest deep enough
  abbrev pub ReachBelow : List Function → (c : ℕ → ℕ) → Type 0
  ReachBelow fs c = (m g : ℕ) (k : Function) → slice_get fs g ≡ Some k → k.rank < m → c g ≤ reaches fs mark m g

  body_below : (fs : List Function) → Falls fs → (c : ℕ → ℕ) → ReachBelow fs c → (m g : ℕ) (k : Function) → slice_get fs g ≡ Some k → k.rank < m → hit g + reach_of c mark k.body ≤ reaches fs mark m g
  body_below fs falls c below zero g k found lt = absurd (omega (arith, lt))
  body_below fs falls c below (suc m) g k found lt =
      omega (
        arith,
        body_reach-there fs g k (reaches fs mark m) found,
        reach_less c (reaches fs mark m) k.body (λ i e within.
            let callee = callee_there fs (get_or (callees_of k.body) i e) k.rank (falls g k found i e within) in
            below m (get_or (callees_of k.body) i e) callee.0 callee.1 (omega (arith, callee.2, lt))),
      )

  covered : (fs : List Function) → Falls fs → (c : ℕ → ℕ) → ReachBelow fs c → (m g : ℕ) (k : Function) → slice_get fs g ≡ Some k → k.rank < m → Reaches fs c (reaches fs mark m) g
  covered fs falls c below m g k found lt = record {
    kept = below m g k found lt;
    body = λ h is.
        let same : k ≡ h = same_Some k h (sym found ∙ is) in
        body_below fs falls c below m g h is (subst (λ q. q.rank < m) same lt);
  }

  -- with the calls of one function opened, no function reaches it more often
  module _ (limit : ℕ) (fs : List Function) (falls : Falls fs) (f : ℕ) (h : Function) (there : slice_get fs f ≡ Some h) (used : Used) (locals : ℕ) where
    abbrev new : Function
    new = record { values = h.values; arrays = h.arrays; locals = locals; rank = h.rank; body = (opened limit fs 0 h.body used).statement }

    abbrev news : List Function
    news = slice_set fs f new

    opened_below : (c : ℕ → ℕ) → ReachBelow fs c → (m : ℕ) → h.rank < suc m → hit f + reach_of c mark new.body ≤ reaches fs mark (suc m) f
    opened_below c below m lt =
        omega (
          arith,
          body_reach-there fs f h (reaches fs mark m) there,
          opened_reach limit fs c (reaches fs mark m) 0 h.body used (λ i e within.
              let callee = callee_there fs (get_or (callees_of h.body) i e) h.rank (falls f h there i e within) in
              covered fs falls c below m (get_or (callees_of h.body) i e) callee.0 callee.1 (omega (arith, callee.2, lt))),
        )

    one_below : (n : ℕ) → ReachBelow fs (reaches news mark n) → (m g : ℕ) (k : Function) → slice_get fs g ≡ Some k → k.rank < suc m → ((g ≡ f) ⊎ (g ≡ f → ⊥)) → reaches news mark (suc n) g ≤ reaches fs mark (suc m) g
    one_below n below m g k found lt (inl same) =
        let is : slice_get fs g ≡ Some h = ap (slice_get fs) same ∙ there in
        let own : k ≡ h = same_Some k h (sym found ∙ is) in
        subst (λ j. reaches news mark (suc n) j ≤ reaches fs mark (suc m) j) (sym same)
        (omega (arith, body_reach-there news f new (reaches news mark n) (set_same fs f h new there), opened_below (reaches news mark n) below m (subst (λ q. q.rank < suc m) own lt)))
    one_below n below m g k found lt (inr other) =
        omega (arith, body_reach-there news g k (reaches news mark n) (set_other fs f g new other ∙ found), body_below fs falls (reaches news mark n) below (suc m) g k found lt)

    pub step_reaches : (n : ℕ) → ReachBelow fs (reaches news mark n)
    step_reaches zero m g k found lt = omega arith
    step_reaches (suc n) zero g k found lt = absurd (omega (arith, lt))
    step_reaches (suc n) (suc m) g k found lt = one_below n (step_reaches n) m g k found lt (cases_eq g f)
