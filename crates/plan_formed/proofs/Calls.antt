-- A typed tree whose calls are of what may be called, and whose markers and jumps are in their places, keeps to the form.
use Rattle.std.proofs.Common.{◌≡◌, ℕ, zero, suc, ◌+◌, ◌<◌, Bool, true, false, List, [], ◌∷◌, ◌++◌, length, map, get_or, inl, inr, Option, Some, None, refl, sym, ap, ◌∙◌, subst, arith}
use Rattle.std.specs.Prelude.{◌&&◌, if◌then◌else◌, nat_lt, slice_get, slice_index_or}
use Rattle.std.specs.List.{All}
use Rattle.std.proofs.lemmas.Bool.{false≢true, lt-ltb}
use Rattle.std.proofs.lemmas.Option.{none-some}
use Rattle.std.proofs.lemmas.List.Elements.{All-head, All-tail}
use Rattle.types_calls.specs.Calls.{called, calls_below, declaration_calls, expr_calls, exprs_calls, function_calls, graph_of, initial_calls, items_calls, label_calls, objects_calls, option_calls, params_calls, place_calls, shape_calls, start_calls, statement_calls}
use Rattle.types_calls.specs.Chains.{Among, AreRanks, callees}
use Rattle.types_tree.specs.Tree as c
use Rattle.types_tree.specs.declared.expression.Callee.{Callee}
use Rattle.types_tree.specs.declared.expression.Callee.TheVariants.{Getchar, Putchar, Function as Own}
use Rattle.plan_forms.specs.Forms.{AllAllowed, Allowed, CalleeAllowed, DeclarationAllowed, InitialAllowed, ItemsAllowed, Limits, ObjectsAllowed, OptionAllowed, PlaceAllowed, StartAllowed, StatementAllowed}
use Rattle.plan_forms.specs.Programs.{body_of, limits_in, may_call}
use Rattle.plan_formed.specs.Placed.{ItemsPlaced, StatementPlaced}

-- each of these may be called
module _ (l : Limits) where
  abbrev pub MayAll : List ℕ → Type 0
  MayAll [] = Unit {0}
  MayAll (g ∷ rest) = (l.callable g ≡ true) × MayAll rest

  front_may : (xs ys : List ℕ) → MayAll (xs ++ ys) → MayAll xs
  front_may [] ys h = tt
  front_may (x ∷ xs) ys h = (h.0, front_may xs ys h.1)

  behind_may : (xs ys : List ℕ) → MayAll (xs ++ ys) → MayAll ys
  behind_may [] ys h = h
  behind_may (x ∷ xs) ys h = behind_may xs ys h.1

  pub each_may : (xs : List ℕ) → ((g : ℕ) → Among g xs → l.callable g ≡ true) → MayAll xs
  each_may [] h = tt
  each_may (x ∷ xs) h = (h x (inl refl), each_may xs (λ g a. h g (inr a)))

  callee_allowed : (to : Callee) → MayAll (called to) → CalleeAllowed l to
  callee_allowed Getchar h = tt
  callee_allowed Putchar h = tt
  callee_allowed (Own function) h = h.0

  mutual
    place_allowed : (place : c.Place) → MayAll (place_calls place) → PlaceAllowed l place
    place_allowed (c.Scalar object at) h = tt
    place_allowed (c.Element array index at) h = expr_allowed index h
    place_allowed (c.Within inner at) h = place_allowed inner h

    expr_allowed : (e : c.Expr) → MayAll (expr_calls e) → Allowed l e
    expr_allowed (c.Number constant at) h = tt
    expr_allowed (c.Character word at) h = tt
    expr_allowed (c.Read place) h = place_allowed place h
    expr_allowed (c.Array object at) h = tt
    expr_allowed (c.Paren inner at) h = expr_allowed inner h
    expr_allowed (c.Call to arguments at) h = (all_allowed arguments (behind_may (called to) (exprs_calls arguments) h), callee_allowed to (front_may (called to) (exprs_calls arguments) h))
    expr_allowed (c.Step fix operator kind target at) h = place_allowed target h
    expr_allowed (c.Signed operator kind operand at) h = expr_allowed operand h
    expr_allowed (c.Cast specifiers to operand at) h = expr_allowed operand h
    expr_allowed (c.Convert to operand) h = expr_allowed operand h
    expr_allowed (c.Operate operator kind left right at) h = (expr_allowed left (front_may (expr_calls left) (expr_calls right) h), expr_allowed right (behind_may (expr_calls left) (expr_calls right) h))
    expr_allowed (c.And left right at) h = (expr_allowed left (front_may (expr_calls left) (expr_calls right) h), expr_allowed right (behind_may (expr_calls left) (expr_calls right) h))
    expr_allowed (c.Or left right at) h = (expr_allowed left (front_may (expr_calls left) (expr_calls right) h), expr_allowed right (behind_may (expr_calls left) (expr_calls right) h))
    expr_allowed (c.Comma left right at) h = (expr_allowed left (front_may (expr_calls left) (expr_calls right) h), expr_allowed right (behind_may (expr_calls left) (expr_calls right) h))
    expr_allowed (c.Conditional test first second at) h =
        let both = behind_may (expr_calls test) (expr_calls first ++ expr_calls second) h in
        (expr_allowed test (front_may (expr_calls test) (expr_calls first ++ expr_calls second) h), expr_allowed first (front_may (expr_calls first) (expr_calls second) both), expr_allowed second (behind_may (expr_calls first) (expr_calls second) both))
    expr_allowed (c.Assign target value at) h = (place_allowed target (front_may (place_calls target) (expr_calls value) h), expr_allowed value (behind_may (place_calls target) (expr_calls value) h))
    expr_allowed (c.Update operator kind to target value at) h = (place_allowed target (front_may (place_calls target) (expr_calls value) h), expr_allowed value (behind_may (place_calls target) (expr_calls value) h))

    all_allowed : (es : c.Exprs) → MayAll (exprs_calls es) → AllAllowed l es
    all_allowed c.NoExpr h = tt
    all_allowed (c.WithExpr e rest) h = (expr_allowed e (front_may (expr_calls e) (exprs_calls rest) h), all_allowed rest (behind_may (expr_calls e) (exprs_calls rest) h))

  option_allowed : (o : Option c.Expr) → MayAll (option_calls o) → OptionAllowed l o
  option_allowed None h = tt
  option_allowed (Some e) h = expr_allowed e h

  initial_allowed : (initial : c.Initial) → MayAll (initial_calls initial) → InitialAllowed l initial
  initial_allowed c.Absent h = tt
  initial_allowed (c.Value e) h = expr_allowed e h
  initial_allowed (c.Listed values comma filling) h = all_allowed values h

  objects_allowed : (objects : List c.Object) → MayAll (objects_calls objects) → ObjectsAllowed l objects
  objects_allowed [] h = tt
  objects_allowed (c.Declared object shape initial at ∷ rest) h =
      let here = front_may (shape_calls shape ++ initial_calls initial) (objects_calls rest) h in
      (initial_allowed initial (behind_may (shape_calls shape) (initial_calls initial) here), objects_allowed rest (behind_may (shape_calls shape ++ initial_calls initial) (objects_calls rest) h))

  declaration_allowed : (declaration : c.Declaration) → MayAll (declaration_calls declaration) → DeclarationAllowed l declaration
  declaration_allowed (c.Objects specifiers objects at) h = objects_allowed objects h
  declaration_allowed (c.Prototype specifiers name params at) h = tt

  start_allowed : (start : c.ForStart) → MayAll (start_calls start) → StartAllowed l start
  start_allowed c.NoStart h = tt
  start_allowed (c.StartValue e) h = expr_allowed e h
  start_allowed (c.StartDeclaration declaration) h = declaration_allowed declaration h

  module _ (markers : ℕ) (marks_are : l.first + markers ≡ l.marks) where
    mutual
      statement_allowed : (s : c.Statement) (out next : Bool) → MayAll (statement_calls s) → StatementPlaced markers out next s → StatementAllowed l out next s
      statement_allowed (c.Block items at) out next h p = items_allowed items out next h p
      statement_allowed (c.Empty at) out next h p = tt
      statement_allowed (c.Evaluate e at) out next h p = expr_allowed e h
      statement_allowed (c.Marker number pragma) out next h p = omega (arith, p, marks_are)
      statement_allowed (c.If test first at) out next h p = (expr_allowed test (front_may (expr_calls test) (statement_calls first) h), statement_allowed first out next (behind_may (expr_calls test) (statement_calls first) h) p)
      statement_allowed (c.IfElse test first second at) out next h p =
          let both = behind_may (expr_calls test) (statement_calls first ++ statement_calls second) h in
          (expr_allowed test (front_may (expr_calls test) (statement_calls first ++ statement_calls second) h), statement_allowed first out next (front_may (statement_calls first) (statement_calls second) both) p.0, statement_allowed second out next (behind_may (statement_calls first) (statement_calls second) both) p.1)
      statement_allowed (c.While number bound test body at) out next h p = (expr_allowed test (front_may (expr_calls test) (statement_calls body) h), statement_allowed body true true (behind_may (expr_calls test) (statement_calls body) h) p)
      statement_allowed (c.Do number bound body test at) out next h p = (statement_allowed body true true (front_may (statement_calls body) (expr_calls test) h) p, expr_allowed test (behind_may (statement_calls body) (expr_calls test) h))
      statement_allowed (c.For number bound start test step body at) out next h p =
          let ss = start_calls start in
          let ts = option_calls test in
          let us = option_calls step in
          let bs = statement_calls body in
          let behind_start = behind_may ss (ts ++ (us ++ bs)) h in
          let behind_test = behind_may ts (us ++ bs) behind_start in
          (start_allowed start (front_may ss (ts ++ (us ++ bs)) h), option_allowed test (front_may ts (us ++ bs) behind_start), option_allowed step (front_may us bs behind_test), statement_allowed body true true (behind_may us bs behind_test) p)
      statement_allowed (c.Switch test items at) out next h p = (expr_allowed test (front_may (expr_calls test) (items_calls items) h), items_allowed items true next (behind_may (expr_calls test) (items_calls items) h) p)
      statement_allowed (c.Break at) out next h p = p
      statement_allowed (c.Continue at) out next h p = p
      statement_allowed (c.Return value at) out next h p = option_allowed value h

      pub items_allowed : (items : c.Items) (out next : Bool) → MayAll (items_calls items) → ItemsPlaced markers out next items → ItemsAllowed l out next items
      items_allowed c.NoItem out next h p = tt
      items_allowed (c.WithDeclaration declaration rest) out next h p =
          (declaration_allowed declaration (front_may (declaration_calls declaration) (items_calls rest) h), items_allowed rest out next (behind_may (declaration_calls declaration) (items_calls rest) h) p)
      items_allowed (c.WithStatement statement rest) out next h p =
          (statement_allowed statement out next (front_may (statement_calls statement) (items_calls rest) h) p.0, items_allowed rest out next (behind_may (statement_calls statement) (items_calls rest) h) p.1)
      items_allowed (c.WithRestriction pragma rest) out next h p = items_allowed rest out next h p
      items_allowed (c.WithLabel label rest) out next h p = items_allowed rest out next (behind_may (label_calls label) (items_calls rest) h) p

-- the functions that a function calls, and those that its graph has
among_behind : (g : ℕ) (xs ys : List ℕ) → Among g ys → Among g (xs ++ ys)
among_behind g [] ys a = a
among_behind g (x ∷ xs) ys a = inr (among_behind g xs ys a)

among_all : (n g : ℕ) (xs : List ℕ) → All (λ x. x < n) xs → Among g xs → g < n
among_all n g [] h a = absurd a
among_all n g (x ∷ xs) h (inl same) = subst (λ y. y < n) (sym same) (All-head (λ x. x < n) x xs h)
among_all n g (x ∷ xs) h (inr behind) = among_all n g xs (All-tail (λ x. x < n) x xs h) behind

among_first : (g x : ℕ) (rest : List ℕ) (b : Bool) → b ≡ true → g ≡ x → Among g (if b then x ∷ rest else rest)
among_first g x rest true e same = inl same
among_first g x rest false e same = absurd (false≢true e)

among_later : (g x : ℕ) (rest : List ℕ) (b : Bool) → Among g rest → Among g (if b then x ∷ rest else rest)
among_later g x rest true a = inr a
among_later g x rest false a = a

among_kept : (n g : ℕ) (xs : List ℕ) → g < n → Among g xs → Among g (calls_below n xs)
among_kept n g [] lt a = a
among_kept n g (x ∷ xs) lt (inl same) = among_first g x (calls_below n xs) (nat_lt x n) (ap (λ y. nat_lt y n) (sym same) ∙ lt-ltb g n lt) same
among_kept n g (x ∷ xs) lt (inr behind) = among_later g x (calls_below n xs) (nat_lt x n) (among_kept n g xs lt behind)

kept_at : (n : ℕ) (fs : List c.Function) (i : ℕ) (f : c.Function) → slice_get fs i ≡ Some f → get_or (map (λ h. calls_below n (function_calls h)) fs) i [] ≡ calls_below n (function_calls f)
kept_at n [] i f h = absurd (none-some f h)
kept_at n (g ∷ fs) zero f h = ap (λ x. calls_below n (function_calls x)) (some_is g f h)
  where
    some_is : (g f : c.Function) → Some g ≡ Some f → g ≡ f
    some_is g f e = cc e
kept_at n (g ∷ fs) (suc i) f h = kept_at n fs i f h

both_true : (a b : Bool) → a ≡ true → b ≡ true → (a && b) ≡ true
both_true true b e k = k
both_true false b e k = e

may_one : (program : c.Program) (ranks : List ℕ) → AreRanks (graph_of program) ranks → (i : ℕ) (f : c.Function) → slice_get program.functions i ≡ Some f → All (λ g. g < length program.functions) (function_calls f) → (g : ℕ) → Among g (function_calls f) → may_call ranks (length program.functions) i g ≡ true
may_one program ranks are i f h below g a =
    let n = length program.functions in
    let lt : g < n = among_all n g (function_calls f) below a in
    let among : Among g (callees (graph_of program) i) = subst (Among g) (sym (kept_at n program.functions i f h)) (among_kept n g (function_calls f) lt a) in
    both_true (nat_lt g n) (nat_lt (slice_index_or ranks g 0) (slice_index_or ranks i 0)) (lt-ltb g n lt) (lt-ltb (slice_index_or ranks g 0) (slice_index_or ranks i 0) (are.falls i g among))

-- a function may call what it calls
pub function_may : (program : c.Program) (ranks : List ℕ) (marks : ℕ) → AreRanks (graph_of program) ranks → (i : ℕ) (f : c.Function) → slice_get program.functions i ≡ Some f → All (λ g. g < length program.functions) (function_calls f) → MayAll (limits_in ranks (length program.functions) marks i) (items_calls (body_of f))
function_may program ranks marks are i (c.Defined specifiers name name_at params first body body_at at) h below =
    each_may (limits_in ranks (length program.functions) marks i) (items_calls body)
    (λ g a. may_one program ranks are i (c.Defined specifiers name name_at params first body body_at at) h below g (among_behind g (params_calls params) (items_calls body) a))
