-- What stands in a body where it is moved, and where its calls are opened: callees, marks and loops.
use Rattle.std.proofs.Common.{◌≡◌, ℕ, ◌+◌, ◌-◌, ◌≤◌, max, Bool, true, false, List, [], ◌∷◌, ◌++◌, Option, Some, None, refl, sym, ap, ◌∙◌, subst, arith, All}
use Rattle.std.specs.Prelude.{slice_get}
use Rattle.std.proofs.lemmas.List.Elements.{All-append, All-cons, All-head, All-nil, All-tail}
use Rattle.high_ir.specs.Standing.{Bounded, blocks_needed, blocks_needed_all, callees_of, callees_of_all, loops_of, loops_of_all, marks_of, marks_of_all}
use Rattle.high_ir.specs.Tree.{Expr, Statement, Set, Put, Get, Keep, Mark, Seq, If, Loop, Block, Leave, Call, Return, Statements, End, Then, Function}
use Rattle.high_pass.proofs.Elements.{All-append_back, All-append_front}
use Rattle.inliner.specs.declared.used.Used.{Used}
use Rattle.inliner.specs.Budgets.{fits}
use Rattle.inliner.specs.Moving.{Place, ended, moved, moved_all, moved_expr}
use Rattle.inliner.specs.Opening.{Site, assigned, opening}
use Rattle.inliner.specs.Walking.{at_call, opened, opened_all, opened_if}

-- the callees of a body are the same where it is moved
module _ (p : Place) where
  ended_callees : (into : Option ℕ) (depth : ℕ) (e : Expr) → callees_of (ended into depth e) ≡ []
  ended_callees None depth e = refl
  ended_callees (Some x) depth e = refl

  mutual
    pub moved_callees : (depth : ℕ) (s : Statement) → callees_of (moved p depth s) ≡ callees_of s
    moved_callees depth (Set x e) = refl
    moved_callees depth (Put e) = refl
    moved_callees depth (Get x) = refl
    moved_callees depth (Keep array i e) = refl
    moved_callees depth (Mark m) = refl
    moved_callees depth (Seq parts) = moved_callees_all depth parts
    moved_callees depth (If test a b) = ap (λ l. l ++ callees_of (moved p depth b)) (moved_callees depth a) ∙ ap (λ l. callees_of a ++ l) (moved_callees depth b)
    moved_callees depth (Loop id least most body) = moved_callees depth body
    moved_callees depth (Block body) = moved_callees (depth + 1) body
    moved_callees depth (Leave j) = refl
    moved_callees depth (Call f values arrays into) = refl
    moved_callees depth (Return e) = ended_callees p.into depth (moved_expr p e)

    moved_callees_all : (depth : ℕ) (ss : Statements) → callees_of_all (moved_all p depth ss) ≡ callees_of_all ss
    moved_callees_all depth End = refl
    moved_callees_all depth (Then s rest) = ap (λ l. l ++ callees_of_all (moved_all p depth rest)) (moved_callees depth s) ∙ ap (λ l. callees_of s ++ l) (moved_callees_all depth rest)

assigned_callees : (x : ℕ) (es : List Expr) (after : Statements) → callees_of_all (assigned x es after) ≡ callees_of_all after
assigned_callees x [] after = refl
assigned_callees x (e ∷ es) after = assigned_callees (x + 1) es after

-- what holds of all callees of a body, and of those of the functions that it calls, holds of all when calls are opened
module _ (P : ℕ → Type 0) where
  opening_callees : (s : Site) (n : ℕ) (body : Statement) → All P (callees_of body) → All P (callees_of (opening s n body))
  opening_callees s n body all =
      let p : Place = record { base = n; arrays = s.arrays; into = s.into } in
      (subst (All P) (sym (assigned_callees n s.values (Then (Block (moved p 0 body)) End))) (All-append P (callees_of (moved p 0 body)) [] (subst (All P) (sym (moved_callees p 0 body)) all) (All-nil P)))

  module _ (limit : ℕ) (fs : List Function) (each : (g : ℕ) (h : Function) → slice_get fs g ≡ Some h → P g → All P (callees_of h.body)) where
    if_callees : (b : Bool) (used : Used) (s : Site) (h : Function) → slice_get fs s.function ≡ Some h → P s.function → All P (callees_of (opened_if b used s h).statement)
    if_callees false used s h found is = All-cons P s.function [] is (All-nil P)
    if_callees true used s h found is = opening_callees s used.next h.body (each s.function h found is)

    call_callees : (used : Used) (around : ℕ) (s : Site) (o : Option Function) → slice_get fs s.function ≡ o → P s.function → All P (callees_of (at_call limit used around s o).statement)
    call_callees used around s None found is = All-cons P s.function [] is (All-nil P)
    call_callees used around s (Some h) found is = if_callees (fits limit used around s h) used s h found is

    mutual
      pub opened_callees : (around : ℕ) (s : Statement) (used : Used) → All P (callees_of s) → All P (callees_of (opened limit fs around s used).statement)
      opened_callees around (Set x e) used all = all
      opened_callees around (Put e) used all = all
      opened_callees around (Get x) used all = all
      opened_callees around (Keep array i e) used all = all
      opened_callees around (Mark m) used all = all
      opened_callees around (Seq parts) used all = opened_callees_all (around + 1) parts used all
      opened_callees around (If test a b) used all =
          let first = opened limit fs (around + 1) a used in
          All-append P (callees_of first.statement) (callees_of (opened limit fs (around + 1) b first.used).statement)
          (opened_callees (around + 1) a used (All-append_front P (callees_of a) (callees_of b) all))
          (opened_callees (around + 1) b first.used (All-append_back P (callees_of a) (callees_of b) all))
      opened_callees around (Loop id least most body) used all = opened_callees (around + 1) body used all
      opened_callees around (Block body) used all = opened_callees (around + 1) body used all
      opened_callees around (Leave j) used all = all
      opened_callees around (Call f values arrays into) used all = call_callees used around (record { function = f; values = values; arrays = arrays; into = into }) (slice_get fs f) refl (All-head P f [] all)
      opened_callees around (Return e) used all = all

      opened_callees_all : (around : ℕ) (ss : Statements) (used : Used) → All P (callees_of_all ss) → All P (callees_of_all (opened_all limit fs around ss used).parts)
      opened_callees_all around End used all = all
      opened_callees_all around (Then s rest) used all =
          let first = opened limit fs around s used in
          All-append P (callees_of first.statement) (callees_of_all (opened_all limit fs around rest first.used).parts)
          (opened_callees around s used (All-append_front P (callees_of s) (callees_of_all rest) all))
          (opened_callees_all around rest first.used (All-append_back P (callees_of s) (callees_of_all rest) all))

-- the marks of a body are the same where it is moved
module _ (p : Place) where
  ended_marks : (into : Option ℕ) (depth : ℕ) (e : Expr) → marks_of (ended into depth e) ≡ []
  ended_marks None depth e = refl
  ended_marks (Some x) depth e = refl

  mutual
    pub moved_marks : (depth : ℕ) (s : Statement) → marks_of (moved p depth s) ≡ marks_of s
    moved_marks depth (Set x e) = refl
    moved_marks depth (Put e) = refl
    moved_marks depth (Get x) = refl
    moved_marks depth (Keep array i e) = refl
    moved_marks depth (Mark m) = refl
    moved_marks depth (Seq parts) = moved_marks_all depth parts
    moved_marks depth (If test a b) = ap (λ l. l ++ marks_of (moved p depth b)) (moved_marks depth a) ∙ ap (λ l. marks_of a ++ l) (moved_marks depth b)
    moved_marks depth (Loop id least most body) = moved_marks depth body
    moved_marks depth (Block body) = moved_marks (depth + 1) body
    moved_marks depth (Leave j) = refl
    moved_marks depth (Call f values arrays into) = refl
    moved_marks depth (Return e) = ended_marks p.into depth (moved_expr p e)

    moved_marks_all : (depth : ℕ) (ss : Statements) → marks_of_all (moved_all p depth ss) ≡ marks_of_all ss
    moved_marks_all depth End = refl
    moved_marks_all depth (Then s rest) = ap (λ l. l ++ marks_of_all (moved_all p depth rest)) (moved_marks depth s) ∙ ap (λ l. marks_of s ++ l) (moved_marks_all depth rest)

assigned_marks : (x : ℕ) (es : List Expr) (after : Statements) → marks_of_all (assigned x es after) ≡ marks_of_all after
assigned_marks x [] after = refl
assigned_marks x (e ∷ es) after = assigned_marks (x + 1) es after

-- what holds of all marks of a body, and of those of the functions that it calls, holds of all when calls are opened
module _ (P : ℕ → Type 0) where
  opening_marks : (s : Site) (n : ℕ) (body : Statement) → P s.function → All P (marks_of body) → All P (marks_of (opening s n body))
  opening_marks s n body own all =
      let p : Place = record { base = n; arrays = s.arrays; into = s.into } in
      All-cons P s.function (marks_of_all (assigned n s.values (Then (Block (moved p 0 body)) End))) own (subst (All P) (sym (assigned_marks n s.values (Then (Block (moved p 0 body)) End))) (All-append P (marks_of (moved p 0 body)) [] (subst (All P) (sym (moved_marks p 0 body)) all) (All-nil P)))

  module _ (limit : ℕ) (fs : List Function) (each : (g : ℕ) (h : Function) → slice_get fs g ≡ Some h → P g × All P (marks_of h.body)) where
    if_marks : (b : Bool) (used : Used) (s : Site) (h : Function) → slice_get fs s.function ≡ Some h → All P (marks_of (opened_if b used s h).statement)
    if_marks false used s h found = All-nil P
    if_marks true used s h found = let of_callee = each s.function h found in opening_marks s used.next h.body of_callee.0 of_callee.1

    call_marks : (used : Used) (around : ℕ) (s : Site) (o : Option Function) → slice_get fs s.function ≡ o → All P (marks_of (at_call limit used around s o).statement)
    call_marks used around s None found = All-nil P
    call_marks used around s (Some h) found = if_marks (fits limit used around s h) used s h found

    mutual
      pub opened_marks : (around : ℕ) (s : Statement) (used : Used) → All P (marks_of s) → All P (marks_of (opened limit fs around s used).statement)
      opened_marks around (Set x e) used all = all
      opened_marks around (Put e) used all = all
      opened_marks around (Get x) used all = all
      opened_marks around (Keep array i e) used all = all
      opened_marks around (Mark m) used all = all
      opened_marks around (Seq parts) used all = opened_marks_all (around + 1) parts used all
      opened_marks around (If test a b) used all =
          let first = opened limit fs (around + 1) a used in
          All-append P (marks_of first.statement) (marks_of (opened limit fs (around + 1) b first.used).statement)
          (opened_marks (around + 1) a used (All-append_front P (marks_of a) (marks_of b) all))
          (opened_marks (around + 1) b first.used (All-append_back P (marks_of a) (marks_of b) all))
      opened_marks around (Loop id least most body) used all = opened_marks (around + 1) body used all
      opened_marks around (Block body) used all = opened_marks (around + 1) body used all
      opened_marks around (Leave j) used all = all
      opened_marks around (Call f values arrays into) used all = call_marks used around (record { function = f; values = values; arrays = arrays; into = into }) (slice_get fs f) refl
      opened_marks around (Return e) used all = all

      opened_marks_all : (around : ℕ) (ss : Statements) (used : Used) → All P (marks_of_all ss) → All P (marks_of_all (opened_all limit fs around ss used).parts)
      opened_marks_all around End used all = all
      opened_marks_all around (Then s rest) used all =
          let first = opened limit fs around s used in
          All-append P (marks_of first.statement) (marks_of_all (opened_all limit fs around rest first.used).parts)
          (opened_marks around s used (All-append_front P (marks_of s) (marks_of_all rest) all))
          (opened_marks_all around rest first.used (All-append_back P (marks_of s) (marks_of_all rest) all))

-- the loops of a body are the same where it is moved
module _ (p : Place) where
  ended_loops : (into : Option ℕ) (depth : ℕ) (e : Expr) → loops_of (ended into depth e) ≡ []
  ended_loops None depth e = refl
  ended_loops (Some x) depth e = refl

  mutual
    pub moved_loops : (depth : ℕ) (s : Statement) → loops_of (moved p depth s) ≡ loops_of s
    moved_loops depth (Set x e) = refl
    moved_loops depth (Put e) = refl
    moved_loops depth (Get x) = refl
    moved_loops depth (Keep array i e) = refl
    moved_loops depth (Mark m) = refl
    moved_loops depth (Seq parts) = moved_loops_all depth parts
    moved_loops depth (If test a b) = ap (λ l. l ++ loops_of (moved p depth b)) (moved_loops depth a) ∙ ap (λ l. loops_of a ++ l) (moved_loops depth b)
    moved_loops depth (Loop id least most body) = ap (λ l. (record { id = id; bounds = record { least = least; most = most } }) ∷ l) (moved_loops depth body)
    moved_loops depth (Block body) = moved_loops (depth + 1) body
    moved_loops depth (Leave j) = refl
    moved_loops depth (Call f values arrays into) = refl
    moved_loops depth (Return e) = ended_loops p.into depth (moved_expr p e)

    moved_loops_all : (depth : ℕ) (ss : Statements) → loops_of_all (moved_all p depth ss) ≡ loops_of_all ss
    moved_loops_all depth End = refl
    moved_loops_all depth (Then s rest) = ap (λ l. l ++ loops_of_all (moved_all p depth rest)) (moved_loops depth s) ∙ ap (λ l. loops_of s ++ l) (moved_loops_all depth rest)

assigned_loops : (x : ℕ) (es : List Expr) (after : Statements) → loops_of_all (assigned x es after) ≡ loops_of_all after
assigned_loops x [] after = refl
assigned_loops x (e ∷ es) after = assigned_loops (x + 1) es after

-- what holds of all loops of a body, and of those of the functions that it calls, holds of all when calls are opened
module _ (P : Bounded → Type 0) where
  opening_loops : (s : Site) (n : ℕ) (body : Statement) → All P (loops_of body) → All P (loops_of (opening s n body))
  opening_loops s n body all =
      let p : Place = record { base = n; arrays = s.arrays; into = s.into } in
      (subst (All P) (sym (assigned_loops n s.values (Then (Block (moved p 0 body)) End))) (All-append P (loops_of (moved p 0 body)) [] (subst (All P) (sym (moved_loops p 0 body)) all) (All-nil P)))

  module _ (limit : ℕ) (fs : List Function) (each : (g : ℕ) (h : Function) → slice_get fs g ≡ Some h → All P (loops_of h.body)) where
    if_loops : (b : Bool) (used : Used) (s : Site) (h : Function) → slice_get fs s.function ≡ Some h → All P (loops_of (opened_if b used s h).statement)
    if_loops false used s h found = All-nil P
    if_loops true used s h found = opening_loops s used.next h.body (each s.function h found)

    call_loops : (used : Used) (around : ℕ) (s : Site) (o : Option Function) → slice_get fs s.function ≡ o → All P (loops_of (at_call limit used around s o).statement)
    call_loops used around s None found = All-nil P
    call_loops used around s (Some h) found = if_loops (fits limit used around s h) used s h found

    mutual
      pub opened_loops : (around : ℕ) (s : Statement) (used : Used) → All P (loops_of s) → All P (loops_of (opened limit fs around s used).statement)
      opened_loops around (Set x e) used all = all
      opened_loops around (Put e) used all = all
      opened_loops around (Get x) used all = all
      opened_loops around (Keep array i e) used all = all
      opened_loops around (Mark m) used all = all
      opened_loops around (Seq parts) used all = opened_loops_all (around + 1) parts used all
      opened_loops around (If test a b) used all =
          let first = opened limit fs (around + 1) a used in
          All-append P (loops_of first.statement) (loops_of (opened limit fs (around + 1) b first.used).statement)
          (opened_loops (around + 1) a used (All-append_front P (loops_of a) (loops_of b) all))
          (opened_loops (around + 1) b first.used (All-append_back P (loops_of a) (loops_of b) all))
      opened_loops around (Loop id least most body) used all = All-cons P (record { id = id; bounds = record { least = least; most = most } }) (loops_of (opened limit fs (around + 1) body used).statement) (All-head P (record { id = id; bounds = record { least = least; most = most } }) (loops_of body) all) (opened_loops (around + 1) body used (All-tail P (record { id = id; bounds = record { least = least; most = most } }) (loops_of body) all))
      opened_loops around (Block body) used all = opened_loops (around + 1) body used all
      opened_loops around (Leave j) used all = all
      opened_loops around (Call f values arrays into) used all = call_loops used around (record { function = f; values = values; arrays = arrays; into = into }) (slice_get fs f) refl
      opened_loops around (Return e) used all = all

      opened_loops_all : (around : ℕ) (ss : Statements) (used : Used) → All P (loops_of_all ss) → All P (loops_of_all (opened_all limit fs around ss used).parts)
      opened_loops_all around End used all = all
      opened_loops_all around (Then s rest) used all =
          let first = opened limit fs around s used in
          All-append P (loops_of first.statement) (loops_of_all (opened_all limit fs around rest first.used).parts)
          (opened_loops around s used (All-append_front P (loops_of s) (loops_of_all rest) all))
          (opened_loops_all around rest first.used (All-append_back P (loops_of s) (loops_of_all rest) all))

-- a moved body leaves no block but its own
module _ (p : Place) where
  ended_leaves : (into : Option ℕ) (depth : ℕ) (e : Expr) → blocks_needed (ended into depth e) ≤ depth + 1
  ended_leaves None depth e = omega arith
  ended_leaves (Some x) depth e = omega arith

  mutual
    pub moved_leaves : (depth : ℕ) (s : Statement) → blocks_needed (moved p depth s) ≤ max (blocks_needed s) (depth + 1)
    moved_leaves depth (Set x e) = omega arith
    moved_leaves depth (Put e) = omega arith
    moved_leaves depth (Get x) = omega arith
    moved_leaves depth (Keep array i e) = omega arith
    moved_leaves depth (Mark m) = omega arith
    moved_leaves depth (Seq parts) = moved_leaves_all depth parts
    moved_leaves depth (If test a b) = omega (arith, moved_leaves depth a, moved_leaves depth b)
    moved_leaves depth (Loop id least most body) = moved_leaves depth body
    moved_leaves depth (Block body) = omega (arith, moved_leaves (depth + 1) body)
    moved_leaves depth (Leave j) = omega arith
    moved_leaves depth (Call f values arrays into) = omega arith
    moved_leaves depth (Return e) = omega (arith, ended_leaves p.into depth (moved_expr p e))

    moved_leaves_all : (depth : ℕ) (ss : Statements) → blocks_needed_all (moved_all p depth ss) ≤ max (blocks_needed_all ss) (depth + 1)
    moved_leaves_all depth End = omega arith
    moved_leaves_all depth (Then s rest) = omega (arith, moved_leaves depth s, moved_leaves_all depth rest)

assigned_leaves : (x : ℕ) (es : List Expr) (after : Statements) → blocks_needed_all (assigned x es after) ≡ blocks_needed_all after
assigned_leaves x [] after = refl
assigned_leaves x (e ∷ es) after = omega (arith, assigned_leaves (x + 1) es after)

opening_leaves : (s : Site) (n : ℕ) (body : Statement) → blocks_needed body ≡ 0 → blocks_needed (opening s n body) ≡ 0
opening_leaves s n body none =
    let p : Place = record { base = n; arrays = s.arrays; into = s.into } in
    omega (arith, none, moved_leaves p 0 body, assigned_leaves n s.values (Then (Block (moved p 0 body)) End))

module _ (limit : ℕ) (fs : List Function) (each : (g : ℕ) (h : Function) → slice_get fs g ≡ Some h → blocks_needed h.body ≡ 0) where
  if_leaves : (b : Bool) (used : Used) (s : Site) (h : Function) → slice_get fs s.function ≡ Some h → blocks_needed (opened_if b used s h).statement ≡ 0
  if_leaves false used s h found = refl
  if_leaves true used s h found = opening_leaves s used.next h.body (each s.function h found)

  call_leaves : (used : Used) (around : ℕ) (s : Site) (o : Option Function) → slice_get fs s.function ≡ o → blocks_needed (at_call limit used around s o).statement ≡ 0
  call_leaves used around s None found = refl
  call_leaves used around s (Some h) found = if_leaves (fits limit used around s h) used s h found

  mutual
    pub opened_leaves : (around : ℕ) (s : Statement) (used : Used) → blocks_needed (opened limit fs around s used).statement ≡ blocks_needed s
    opened_leaves around (Set x e) used = refl
    opened_leaves around (Put e) used = refl
    opened_leaves around (Get x) used = refl
    opened_leaves around (Keep array i e) used = refl
    opened_leaves around (Mark m) used = refl
    opened_leaves around (Seq parts) used = opened_leaves_all (around + 1) parts used
    opened_leaves around (If test a b) used =
        let first = opened limit fs (around + 1) a used in
        omega (arith, opened_leaves (around + 1) a used, opened_leaves (around + 1) b first.used)
    opened_leaves around (Loop id least most body) used = opened_leaves (around + 1) body used
    opened_leaves around (Block body) used = ap (λ n. n - 1) (opened_leaves (around + 1) body used)
    opened_leaves around (Leave j) used = refl
    opened_leaves around (Call f values arrays into) used = call_leaves used around (record { function = f; values = values; arrays = arrays; into = into }) (slice_get fs f) refl
    opened_leaves around (Return e) used = refl

    opened_leaves_all : (around : ℕ) (ss : Statements) (used : Used) → blocks_needed_all (opened_all limit fs around ss used).parts ≡ blocks_needed_all ss
    opened_leaves_all around End used = refl
    opened_leaves_all around (Then s rest) used =
        let first = opened limit fs around s used in
        omega (arith, opened_leaves around s used, opened_leaves_all around rest first.used)
