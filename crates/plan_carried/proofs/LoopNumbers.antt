-- Where loops are numbered in the order of the source, they stand in the order of their numbers.
use Rattle.std.proofs.Common.{◌≡◌, ℕ, suc, ◌+◌, ◌-◌, List, [], ◌∷◌, ◌++◌, map, Some, None, refl, sym, ap, ◌∙◌, arith}
use Rattle.std.specs.List.{range_with_len}
use Rattle.std.proofs.lemmas.List.{map-append}
use Rattle.facts_definitions.specs.declared.facts.Bounds.{Bounds}
use Rattle.types_tree.specs.Tree as c
use Rattle.plan_definition.specs.Statements.{fillings_in, fillings_of, loops_before}
use Rattle.plan_forms.specs.Numbers as numbers
use Rattle.plan_forms.specs.Numbers.{DeclarationNumbered, FunctionsNumbered, InitialNumbered, ItemsNumbered, ObjectsNumbered, StartNumbered, StatementNumbered}
use Rattle.plan_forms.proofs.Ids.{range-append}
use Rattle.plan_carried.specs.Loops.{Planned, declaration_loops, functions_loops, initial_loops, items_loops, objects_loops, start_loops, statement_loops}

abbrev pub number_of : Planned → ℕ
number_of l = l.old

-- loops that have the numbers from one on
abbrev pub InOrder : List Planned → (from count : ℕ) → Type 0
InOrder ls from count = map number_of ls ≡ range_with_len from count

order-append : (ls ms : List Planned) (from m n : ℕ) → InOrder ls from m → InOrder ms (from + m) n → InOrder (ls ++ ms) from (m + n)
order-append ls ms from m n h k = map-append number_of ls ms ∙ ap (λ l. l ++ map number_of ms) h ∙ ap (λ l. range_with_len from m ++ l) k ∙ sym (range-append from m n)

own_number : (number from : ℕ) → number ≡ from + 1 → number - 1 ≡ from
own_number number from e = omega (arith, e)

-- a loop, and those within it
order-loop : (all inner : List Planned) (number from n : ℕ) → map number_of all ≡ (number - 1) ∷ map number_of inner → number ≡ from + 1 → InOrder inner (from + 1) n → InOrder all from (1 + n)
order-loop all inner number from n is e h = is ∙ ap (λ x. x ∷ map number_of inner) (own_number number from e) ∙ ap (λ r. from ∷ r) h ∙ ap (λ m. range_with_len from m) (one_more n)
  where
    one_more : (n : ℕ) → suc n ≡ 1 + n
    one_more n = omega arith

module _ (bounds : List Bounds) where
  initial_order : (initial : c.Initial) (shift from : ℕ) → InitialNumbered from initial → InOrder (initial_loops bounds shift initial) from (fillings_of initial)
  initial_order c.Absent shift from h = refl
  initial_order (c.Value e) shift from h = refl
  initial_order (c.Listed values comma None) shift from h = refl
  initial_order (c.Listed values comma (Some number)) shift from h = ap (λ x. x ∷ []) (own_number number from h)

  objects_order : (objects : List c.Object) (shift from : ℕ) → ObjectsNumbered from objects → InOrder (objects_loops bounds shift objects) from (fillings_in objects)
  objects_order [] shift from h = refl
  objects_order (c.Declared object shape initial at ∷ rest) shift from h =
      order-append (initial_loops bounds shift initial) (objects_loops bounds shift rest) from (fillings_of initial) (fillings_in rest) (initial_order initial shift from h.0) (objects_order rest shift (from + fillings_of initial) h.1)

  declaration_order : (declaration : c.Declaration) (shift from : ℕ) → DeclarationNumbered from declaration → InOrder (declaration_loops bounds shift declaration) from (numbers.declaration_loops declaration)
  declaration_order (c.Objects specifiers objects at) shift from h = objects_order objects shift from h
  declaration_order (c.Prototype specifiers name params at) shift from h = refl

  start_order : (start : c.ForStart) (from : ℕ) → StartNumbered from start → InOrder (start_loops bounds start) from (loops_before start)
  start_order c.NoStart from h = refl
  start_order (c.StartValue e) from h = refl
  start_order (c.StartDeclaration (c.Objects specifiers objects at)) from h = objects_order objects 1 from h
  start_order (c.StartDeclaration (c.Prototype specifiers name params at)) from h = refl

  mutual
    statement_order : (s : c.Statement) (from : ℕ) → StatementNumbered from s → InOrder (statement_loops bounds s) from (numbers.statement_loops s)
    statement_order (c.Block items at) from h = items_order items from h
    statement_order (c.Empty at) from h = refl
    statement_order (c.Evaluate e at) from h = refl
    statement_order (c.Marker number pragma) from h = refl
    statement_order (c.If test first at) from h = statement_order first from h
    statement_order (c.IfElse test first second at) from h =
        order-append (statement_loops bounds first) (statement_loops bounds second) from (numbers.statement_loops first) (numbers.statement_loops second) (statement_order first from h.0) (statement_order second (from + numbers.statement_loops first) h.1)
    statement_order (c.While number bound test body at) from h =
        order-loop (statement_loops bounds (c.While number bound test body at)) (statement_loops bounds body) number from (numbers.statement_loops body) refl h.0 (statement_order body (from + 1) h.1)
    statement_order (c.Do number bound body test at) from h =
        order-loop (statement_loops bounds (c.Do number bound body test at)) (statement_loops bounds body) number from (numbers.statement_loops body) refl h.0 (statement_order body (from + 1) h.1)
    statement_order (c.For number bound start test step body at) from h =
        let inner = start_loops bounds start ++ statement_loops bounds body in
        let m = loops_before start in
        let n = numbers.statement_loops body in
        order-loop (statement_loops bounds (c.For number bound start test step body at)) inner number from (m + n) refl h.0
        (order-append (start_loops bounds start) (statement_loops bounds body) (from + 1) m n (start_order start (from + 1) h.1) (statement_order body (from + 1 + m) h.2))
        ∙ ap (λ k. range_with_len from k) (regroup m n)
      where
        regroup : (m n : ℕ) → 1 + (m + n) ≡ 1 + m + n
        regroup m n = omega arith
    statement_order (c.Switch test items at) from h = items_order items from h
    statement_order (c.Break at) from h = refl
    statement_order (c.Continue at) from h = refl
    statement_order (c.Return value at) from h = refl

    items_order : (items : c.Items) (from : ℕ) → ItemsNumbered from items → InOrder (items_loops bounds items) from (numbers.items_loops items)
    items_order c.NoItem from h = refl
    items_order (c.WithDeclaration declaration rest) from h =
        order-append (declaration_loops bounds 0 declaration) (items_loops bounds rest) from (numbers.declaration_loops declaration) (numbers.items_loops rest) (declaration_order declaration 0 from h.0) (items_order rest (from + numbers.declaration_loops declaration) h.1)
    items_order (c.WithStatement statement rest) from h =
        order-append (statement_loops bounds statement) (items_loops bounds rest) from (numbers.statement_loops statement) (numbers.items_loops rest) (statement_order statement from h.0) (items_order rest (from + numbers.statement_loops statement) h.1)
    items_order (c.WithRestriction pragma rest) from h = items_order rest from h
    items_order (c.WithLabel label rest) from h = items_order rest from h

  -- of the functions of a program
  pub functions_order : (fs : List c.Function) (from : ℕ) → FunctionsNumbered from fs → InOrder (functions_loops bounds fs) from (numbers.functions_loops fs)
  functions_order [] from h = refl
  functions_order (c.Defined specifiers name name_at params first body body_at at ∷ rest) from h =
      order-append (items_loops bounds body) (functions_loops bounds rest) from (numbers.items_loops body) (numbers.functions_loops rest) (items_order body from h.0) (functions_order rest (from + numbers.items_loops body) h.1)
