-- A program may do no more when its calls are opened.
use Rattle.std.proofs.Common.{◌≡◌, ℕ, zero, suc, ◌+◌, ◌<◌, ◌≤◌, Bool, true, false, ◌⊎◌, inl, inr, List, [], ◌∷◌, length, get_or, map, Option, Some, None, refl, sym, ap, ◌∙◌, subst, arith, All}
use Rattle.std.specs.Prelude.{slice_get, slice_set, sum_by}
use Rattle.std.proofs.Math.Nat.{mul-le-mul_left}
use Rattle.std.proofs.lemmas.Bool.{cases_eq}
use Rattle.std.proofs.lemmas.Option.{same_Some}
use Rattle.std.proofs.lemmas.List.{length-map}
use Rattle.std.proofs.lemmas.List.Elements.{All-head}
use Rattle.std.proofs.lemmas.List.Sums.{sum_by-cons}
use Rattle.high_ir.specs.Formed.{RanksFall}
use Rattle.high_ir.specs.Runs.{rank_or}
use Rattle.high_ir.specs.Size.{expr_nodes}
use Rattle.high_ir.specs.Standing.{callees_of, callees_of_all}
use Rattle.high_ir.specs.Tree.{Expr, Constant, Variable, Element, Unary, Binary, Statement, Set, Put, Get, Keep, Mark, Seq, If, Loop, Block, Leave, Call, Return, Statements, End, Then, Function}
use Rattle.high_ir.specs.Weight.{body_weight, most_starts, weight_of, weight_of_all, weights}
use Rattle.high_pass.proofs.Elements.{All-append_back, All-append_front}
use Rattle.inliner.specs.declared.used.Used.{Used}
use Rattle.inliner.specs.Budgets.{fits}
use Rattle.inliner.specs.Moving.{Place, ended, moved, moved_all, moved_base, moved_expr}
use Rattle.inliner.specs.Opening.{Site, assigned, call_of, opening}
use Rattle.inliner.specs.Walking.{at_call, opened, opened_all, opened_if}
use Rattle.inliner.proofs.Stepping.{set_other, set_same}

-- a callee is there, and its rank is lower
pub callee_there : (fs : List Function) (g r : ℕ) → rank_or fs g r < r → (h : Function) × (slice_get fs g ≡ Some h) × (h.rank < r)
callee_there [] g r lt = absurd (omega (arith, lt))
callee_there (h ∷ fs) zero r lt = (h, refl, lt)
callee_there (h ∷ fs) (suc g) r lt = callee_there fs g r lt

-- where no callee weighs more, nothing does
module _ (c d : ℕ → ℕ) where
  mutual
    pub weight_less : (s : Statement) → All (λ g. c g ≤ d g) (callees_of s) → weight_of c s ≤ weight_of d s
    weight_less (Set x e) all = omega arith
    weight_less (Put e) all = omega arith
    weight_less (Get x) all = omega arith
    weight_less (Keep array i e) all = omega arith
    weight_less (Mark m) all = omega arith
    weight_less (Seq parts) all = omega (arith, weight_less_all parts all)
    weight_less (If test a b) all =
        omega (arith, weight_less a (All-append_front (λ g. c g ≤ d g) (callees_of a) (callees_of b) all), weight_less b (All-append_back (λ g. c g ≤ d g) (callees_of a) (callees_of b) all))
    weight_less (Loop id least most body) all =
        let h : 3 + weight_of c body ≤ 3 + weight_of d body = omega (arith, weight_less body all) in
        omega (arith, mul-le-mul_left (most_starts most) h)
    weight_less (Block body) all = omega (arith, weight_less body all)
    weight_less (Leave j) all = omega arith
    weight_less (Call f values arrays into) all = omega (arith, All-head (λ g. c g ≤ d g) f [] all)
    weight_less (Return e) all = omega arith

    weight_less_all : (ss : Statements) → All (λ g. c g ≤ d g) (callees_of_all ss) → weight_of_all c ss ≤ weight_of_all d ss
    weight_less_all End all = omega arith
    weight_less_all (Then s rest) all =
        omega (arith, weight_less s (All-append_front (λ g. c g ≤ d g) (callees_of s) (callees_of_all rest) all), weight_less_all rest (All-append_back (λ g. c g ≤ d g) (callees_of s) (callees_of_all rest) all))

-- an expression has as many nodes where it is moved
pub expr_nodes-moved : (p : Place) (e : Expr) → expr_nodes (moved_expr p e) ≡ expr_nodes e
expr_nodes-moved p (Constant word) = refl
expr_nodes-moved p (Variable x) = refl
expr_nodes-moved p (Element array index) = ap (λ n. n + 1) (expr_nodes-moved p index)
expr_nodes-moved p (Unary operator operand) = ap (λ n. n + 1) (expr_nodes-moved p operand)
expr_nodes-moved p (Binary operator a b) = omega (arith, expr_nodes-moved p a, expr_nodes-moved p b)

pub values_nodes-moved : (p : Place) (es : List Expr) → sum_by expr_nodes (map (moved_expr p) es) ≡ sum_by expr_nodes es
values_nodes-moved p [] = refl
values_nodes-moved p (e ∷ es) = omega (arith, sum_by-cons expr_nodes (moved_expr p e) (map (moved_expr p) es), sum_by-cons expr_nodes e es, expr_nodes-moved p e, values_nodes-moved p es)

-- a body weighs no more where it is moved
module _ (c : ℕ → ℕ) (p : Place) where
  ended_weight : (into : Option ℕ) (depth : ℕ) (e : Expr) → weight_of c (ended into depth e) ≤ 4 + expr_nodes e
  ended_weight None depth e = omega arith
  ended_weight (Some x) depth e = omega arith

  mutual
    pub moved_weight : (depth : ℕ) (s : Statement) → weight_of c (moved p depth s) ≤ weight_of c s
    moved_weight depth (Set x e) = omega (arith, expr_nodes-moved p e)
    moved_weight depth (Put e) = omega (arith, expr_nodes-moved p e)
    moved_weight depth (Get x) = omega arith
    moved_weight depth (Keep array i e) = omega (arith, expr_nodes-moved p i, expr_nodes-moved p e)
    moved_weight depth (Mark m) = omega arith
    moved_weight depth (Seq parts) = omega (arith, moved_weight_all depth parts)
    moved_weight depth (If test a b) = omega (arith, expr_nodes-moved p test, moved_weight depth a, moved_weight depth b)
    moved_weight depth (Loop id least most body) =
        let h : 3 + weight_of c (moved p depth body) ≤ 3 + weight_of c body = omega (arith, moved_weight depth body) in
        omega (arith, mul-le-mul_left (most_starts most) h)
    moved_weight depth (Block body) = omega (arith, moved_weight (depth + 1) body)
    moved_weight depth (Leave j) = omega arith
    moved_weight depth (Call f values arrays into) =
        omega (arith, values_nodes-moved p values, length-map values (moved_expr p), length-map arrays (moved_base p.arrays))
    moved_weight depth (Return e) = omega (arith, ended_weight p.into depth (moved_expr p e), expr_nodes-moved p e)

    moved_weight_all : (depth : ℕ) (ss : Statements) → weight_of_all c (moved_all p depth ss) ≤ weight_of_all c ss
    moved_weight_all depth End = omega arith
    moved_weight_all depth (Then s rest) = omega (arith, moved_weight depth s, moved_weight_all depth rest)

assigned_weight : (c : ℕ → ℕ) (x : ℕ) (es : List Expr) (after : Statements) → weight_of_all c (assigned x es after) ≡ sum_by expr_nodes es + length es + weight_of_all c after
assigned_weight c x [] after = omega arith
assigned_weight c x (e ∷ es) after = omega (arith, sum_by-cons expr_nodes e es, assigned_weight c (x + 1) es after)

-- an opened call weighs no more than the call, where the call weighs the body
pub opening_weight : (c d : ℕ → ℕ) (s : Site) (n : ℕ) (body : Statement) → 1 + weight_of c body ≤ d s.function → weight_of c (opening s n body) ≤ weight_of d (call_of s)
opening_weight c d s n body covers =
    let p : Place = record { base = n; arrays = s.arrays; into = s.into } in
    omega (arith, covers, moved_weight c p 0 body, assigned_weight c n s.values (Then (Block (moved p 0 body)) End))

-- a callee weighs enough: no less than in the calls that stay, and no less than its body in those that are opened
pub record Covers (fs : List Function) (c d : ℕ → ℕ) (g : ℕ) : Type 0 where
  pub kept : c g ≤ d g
  pub body : (h : Function) → slice_get fs g ≡ Some h → 1 + weight_of c h.body ≤ d g

module _ (limit : ℕ) (fs : List Function) (c d : ℕ → ℕ) where
  if_weight : (b : Bool) (used : Used) (s : Site) (h : Function) → slice_get fs s.function ≡ Some h → Covers fs c d s.function → weight_of c (opened_if b used s h).statement ≤ weight_of d (call_of s)
  if_weight false used s h found covers = omega (arith, covers.kept)
  if_weight true used s h found covers = opening_weight c d s used.next h.body (covers.body h found)

  call_weight : (used : Used) (around : ℕ) (s : Site) (o : Option Function) → slice_get fs s.function ≡ o → Covers fs c d s.function → weight_of c (at_call limit used around s o).statement ≤ weight_of d (call_of s)
  call_weight used around s None found covers = omega (arith, covers.kept)
  call_weight used around s (Some h) found covers = if_weight (fits limit used around s h) used s h found covers

  mutual
    pub opened_weight : (around : ℕ) (s : Statement) (used : Used) → All (Covers fs c d) (callees_of s) → weight_of c (opened limit fs around s used).statement ≤ weight_of d s
    opened_weight around (Set x e) used all = omega arith
    opened_weight around (Put e) used all = omega arith
    opened_weight around (Get x) used all = omega arith
    opened_weight around (Keep array i e) used all = omega arith
    opened_weight around (Mark m) used all = omega arith
    opened_weight around (Seq parts) used all = omega (arith, opened_weight_all (around + 1) parts used all)
    opened_weight around (If test a b) used all =
        let first = opened limit fs (around + 1) a used in
        omega (
          arith,
          opened_weight (around + 1) a used (All-append_front (Covers fs c d) (callees_of a) (callees_of b) all),
          opened_weight (around + 1) b first.used (All-append_back (Covers fs c d) (callees_of a) (callees_of b) all),
        )
    opened_weight around (Loop id least most body) used all =
        let h : 3 + weight_of c (opened limit fs (around + 1) body used).statement ≤ 3 + weight_of d body = omega (arith, opened_weight (around + 1) body used all) in
        omega (arith, mul-le-mul_left (most_starts most) h)
    opened_weight around (Block body) used all = omega (arith, opened_weight (around + 1) body used all)
    opened_weight around (Leave j) used all = omega arith
    opened_weight around (Call f values arrays into) used all =
        call_weight used around (record { function = f; values = values; arrays = arrays; into = into }) (slice_get fs f) refl (All-head (Covers fs c d) f [] all)
    opened_weight around (Return e) used all = omega arith

    opened_weight_all : (around : ℕ) (ss : Statements) (used : Used) → All (Covers fs c d) (callees_of_all ss) → weight_of_all c (opened_all limit fs around ss used).parts ≤ weight_of_all d ss
    opened_weight_all around End used all = omega arith
    opened_weight_all around (Then s rest) used all =
        let first = opened limit fs around s used in
        omega (
          arith,
          opened_weight around s used (All-append_front (Covers fs c d) (callees_of s) (callees_of_all rest) all),
          opened_weight_all around rest first.used (All-append_back (Covers fs c d) (callees_of s) (callees_of_all rest) all),
        )

-- ranks fall along the calls of each function
abbrev pub Falls : List Function → Type 0
Falls fs = (f : ℕ) (h : Function) → slice_get fs f ≡ Some h → RanksFall fs h

body_weight-there : (fs : List Function) (f : ℕ) (h : Function) (c : ℕ → ℕ) → slice_get fs f ≡ Some h → body_weight (slice_get fs f) c ≡ 1 + weight_of c h.body
body_weight-there fs f h c there = ap (λ o. body_weight o c) there

-- the calls of functions nest no deeper than their ranks
pub weights_less : (fs : List Function) → Falls fs → (n m f : ℕ) (h : Function) → slice_get fs f ≡ Some h → h.rank < m → weights fs n f ≤ weights fs m f
weights_less fs falls zero m f h there lt = omega arith
weights_less fs falls (suc n) zero f h there lt = absurd (omega (arith, lt))
weights_less fs falls (suc n) (suc m) f h there lt =
    omega (
      arith,
      body_weight-there fs f h (weights fs n) there,
      body_weight-there fs f h (weights fs m) there,
      weight_less (weights fs n) (weights fs m) h.body (λ k e within.
          let found = callee_there fs (get_or (callees_of h.body) k e) h.rank (falls f h there k e within) in
          weights_less fs falls n m (get_or (callees_of h.body) k e) found.0 found.1 (omega (arith, found.2, lt))),
    )

-- what weighs no more than the functions as they are, with any calls that nest deep enough
abbrev pub Below : List Function → (c : ℕ → ℕ) → Type 0
Below fs c = (m g : ℕ) (k : Function) → slice_get fs g ≡ Some k → k.rank < m → c g ≤ weights fs m g

body_below : (fs : List Function) → Falls fs → (c : ℕ → ℕ) → Below fs c → (m g : ℕ) (k : Function) → slice_get fs g ≡ Some k → k.rank < m → 1 + weight_of c k.body ≤ weights fs m g
body_below fs falls c below zero g k found lt = absurd (omega (arith, lt))
body_below fs falls c below (suc m) g k found lt =
    omega (
      arith,
      body_weight-there fs g k (weights fs m) found,
      weight_less c (weights fs m) k.body (λ i e within.
          let callee = callee_there fs (get_or (callees_of k.body) i e) k.rank (falls g k found i e within) in
          below m (get_or (callees_of k.body) i e) callee.0 callee.1 (omega (arith, callee.2, lt))),
    )

covered : (fs : List Function) → Falls fs → (c : ℕ → ℕ) → Below fs c → (m g : ℕ) (k : Function) → slice_get fs g ≡ Some k → k.rank < m → Covers fs c (weights fs m) g
covered fs falls c below m g k found lt = record {
  kept = below m g k found lt;
  body = λ h is.
      let same : k ≡ h = same_Some k h (sym found ∙ is) in
      body_below fs falls c below m g h is (subst (λ q. q.rank < m) same lt);
}

-- with the calls of one function opened, no function weighs more
module _ (limit : ℕ) (fs : List Function) (falls : Falls fs) (f : ℕ) (h : Function) (there : slice_get fs f ≡ Some h) (used : Used) (locals : ℕ) where
  abbrev new : Function
  new = record { values = h.values; arrays = h.arrays; locals = locals; rank = h.rank; body = (opened limit fs 0 h.body used).statement }

  abbrev news : List Function
  news = slice_set fs f new

  opened_below : (c : ℕ → ℕ) → Below fs c → (m : ℕ) → h.rank < suc m → 1 + weight_of c new.body ≤ weights fs (suc m) f
  opened_below c below m lt =
      omega (
        arith,
        body_weight-there fs f h (weights fs m) there,
        opened_weight limit fs c (weights fs m) 0 h.body used (λ i e within.
            let callee = callee_there fs (get_or (callees_of h.body) i e) h.rank (falls f h there i e within) in
            covered fs falls c below m (get_or (callees_of h.body) i e) callee.0 callee.1 (omega (arith, callee.2, lt))),
      )

  one_below : (n : ℕ) → Below fs (weights news n) → (m g : ℕ) (k : Function) → slice_get fs g ≡ Some k → k.rank < suc m → ((g ≡ f) ⊎ (g ≡ f → ⊥)) → weights news (suc n) g ≤ weights fs (suc m) g
  one_below n below m g k found lt (inl same) =
      let is : slice_get fs g ≡ Some h = ap (slice_get fs) same ∙ there in
      let own : k ≡ h = same_Some k h (sym found ∙ is) in
      subst (λ j. weights news (suc n) j ≤ weights fs (suc m) j) (sym same)
      (omega (arith, body_weight-there news f new (weights news n) (set_same fs f h new there), opened_below (weights news n) below m (subst (λ q. q.rank < suc m) own lt)))
  one_below n below m g k found lt (inr other) =
      omega (arith, body_weight-there news g k (weights news n) (set_other fs f g new other ∙ found), body_below fs falls (weights news n) below (suc m) g k found lt)

  pub step_weights : (n : ℕ) → Below fs (weights news n)
  step_weights zero m g k found lt = omega arith
  step_weights (suc n) zero g k found lt = absurd (omega (arith, lt))
  step_weights (suc n) (suc m) g k found lt = one_below n (step_weights n) m g k found lt (cases_eq g f)
