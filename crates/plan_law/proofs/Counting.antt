-- A function of few nodes has few labels, and lists of few values, which fit their arrays.
use Rattle.std.proofs.Common.{◌≡◌, ℕ, zero, suc, ◌+◌, ◌*◌, ◌^◌, ◌<◌, ◌≤◌, max, Bool, true, List, [], ◌∷◌, Option, Some, None, arith}
use Rattle.facts_definitions.specs.Most.{bounds_at, declaration_most, expr_most, exprs_most, initial_most, items_most, label_most, objects_most, option_most, place_most, start_most, statement_most, times}
use Rattle.facts_definitions.specs.Sites.{count_exprs}
use Rattle.facts_definitions.specs.Starts.{is_always, is_always_or_absent, most_starts}
use Rattle.facts_definitions.specs.declared.facts.Bounds.{Bounds}
use Rattle.types_tree.specs.Tree as c
use Rattle.high_ir.specs.declared.object.Kind.{Kind}
use Rattle.plan_runs.specs.StatementFits.{FillingFits, FitDeclaration, FitInitial, FitItems, FitObjects, FitStart, FitStatement, block_declares, start_declares, with_live}
use Rattle.plan_runs.specs.ExpressionFits.{Function, Signatures}
use Rattle.plan_runs.specs.Meets.{Layout}
use Rattle.plan_definition.specs.Statements.{label_count}
use Rattle.plan_law.specs.Counts.{DeclarationCounted, FillingCounted, InitialCounted, ItemsCounted, ObjectsCounted, StartCounted, StatementCounted}

-- each node counts once where calls come to nothing
abbrev none : ℕ → ℕ
none g = 0

place_some : (place : c.Place) → 1 ≤ place_most none place
place_some (c.Scalar object at) = omega arith
place_some (c.Element array index at) = omega arith
place_some (c.Within inner at) = omega arith

expr_some : (e : c.Expr) → 1 ≤ expr_most none e
expr_some (c.Number constant at) = omega arith
expr_some (c.Character value at) = omega arith
expr_some (c.Read place) = place_some place
expr_some (c.Array object at) = omega arith
expr_some (c.Paren inner at) = omega arith
expr_some (c.Call callee arguments at) = omega arith
expr_some (c.Step fix operator kind target at) = omega arith
expr_some (c.Signed operator kind operand at) = omega arith
expr_some (c.Cast specifiers to operand at) = omega arith
expr_some (c.Convert to operand) = expr_some operand
expr_some (c.Operate operator kind left right at) = omega arith
expr_some (c.And left right at) = omega arith
expr_some (c.Or left right at) = omega arith
expr_some (c.Comma left right at) = omega arith
expr_some (c.Conditional test first second at) = omega arith
expr_some (c.Assign target value at) = omega arith
expr_some (c.Update operator kind to target value at) = omega arith

values_few : (es : c.Exprs) → count_exprs es ≤ exprs_most none es
values_few c.NoExpr = omega arith
values_few (c.WithExpr e rest) = omega (arith, expr_some e, values_few rest)

label_some : (label : c.Label) → 1 ≤ label_most none label
label_some (c.Case value word at) = omega arith
label_some (c.Default at) = omega arith

labels_few : (items : c.Items) → label_count items ≤ items_most [] none items
labels_few c.NoItem = omega arith
labels_few (c.WithDeclaration declaration rest) = omega (arith, labels_few rest)
labels_few (c.WithStatement statement rest) = omega (arith, labels_few rest)
labels_few (c.WithRestriction pragma rest) = omega (arith, labels_few rest)
labels_few (c.WithLabel label rest) = omega (arith, label_some label, labels_few rest)

-- what counts so often at least once
once : (t n : ℕ) → 1 ≤ t → n ≤ t * n
once zero n h = absurd (omega (arith, h))
once (suc t) n h = more n (t * n) (suc t * n) (omega arith)
  where
    more : (n k m : ℕ) → m ≡ n + k → n ≤ m
    more n k m e = omega (arith, e)

above : (always : Bool) (b : Bounds) → 1 ≤ times always b
above always b = least (most_starts always b.max)
  where
    least : (n : ℕ) → 1 ≤ max 1 n
    least n = omega arith

-- of a function in a unit that is within the limits
abbrev nodes : ℕ
nodes = 16384

module _ (layout : Layout) (signatures : Signatures) (result : Kind) (bounds : List Bounds) where
  filling_counted : (elements count : ℕ) (filling : Option ℕ) → FillingFits bounds elements count filling → FillingCounted bounds count filling
  filling_counted elements count None h = tt
  filling_counted elements count (Some number) h = small (count + (bounds_at bounds number).max) elements h.0 h.2
    where
      small : (x y : ℕ) → x ≡ y → y < 2 ^ 32 → x < 2 ^ 32
      small x y e lt = omega (arith, e, lt)

  initial_counted : (f : Function) (object : ℕ) (initial : c.Initial) → FitInitial layout signatures result bounds f object initial → initial_most [] none initial ≤ nodes → InitialCounted bounds initial
  initial_counted f object c.Absent h few = tt
  initial_counted f object (c.Value e) h few = tt
  initial_counted f object (c.Listed values comma filling) h few = (omega (arith, values_few values, few), filling_counted (layout.sizes object) (count_exprs values) filling h.2)

  objects_counted : (f : Function) (objects : List c.Object) → FitObjects layout signatures result bounds f objects → objects_most [] none objects ≤ nodes → ObjectsCounted bounds objects
  objects_counted f [] h few = tt
  objects_counted f (c.Declared object shape initial at ∷ rest) h few = (initial_counted f object initial h.1 (omega (arith, few)), objects_counted f rest h.2 (omega (arith, few)))

  declaration_counted : (f : Function) (declaration : c.Declaration) → FitDeclaration layout signatures result bounds f declaration → declaration_most [] none declaration ≤ nodes → DeclarationCounted bounds declaration
  declaration_counted f (c.Objects specifiers objects at) h few = objects_counted f objects h (omega (arith, few))
  declaration_counted f (c.Prototype specifiers name params at) h few = tt

  start_counted : (f : Function) (start : c.ForStart) → FitStart layout signatures result bounds f start → start_most [] none start ≤ nodes → StartCounted bounds start
  start_counted f c.NoStart h few = tt
  start_counted f (c.StartValue e) h few = tt
  start_counted f (c.StartDeclaration declaration) h few = declaration_counted f declaration h few

  turned : (t test body : ℕ) → 1 ≤ t → 1 + t * (test + body) ≤ nodes → body ≤ nodes
  turned t test body some few = let all = once t (test + body) some in omega (arith, few, all)

  first_of_two : (x y : ℕ) → 1 + (x + y) ≤ nodes → x ≤ nodes
  first_of_two x y few = omega (arith, few)

  last_of_all : (start turns test step body : ℕ) → 1 + (start + turns) ≤ nodes → test + (step + body) ≤ turns → body ≤ nodes
  last_of_all start turns test step body few all = omega (arith, few, all)

  mutual
    statement_counted : (f : Function) (s : c.Statement) → FitStatement layout signatures result bounds f s → statement_most [] none s ≤ nodes → StatementCounted bounds s
    statement_counted f (c.Block items at) h few = items_counted (with_live f (block_declares items)) items h (omega (arith, few))
    statement_counted f (c.Empty at) h few = tt
    statement_counted f (c.Evaluate e at) h few = tt
    statement_counted f (c.Marker number pragma) h few = tt
    statement_counted f (c.If test first at) h few = statement_counted f first h.1 (omega (arith, few))
    statement_counted f (c.IfElse test first second at) h few = (statement_counted f first h.1 (omega (arith, few)), statement_counted f second h.2 (omega (arith, few)))
    statement_counted f (c.While number bound test body at) h few = statement_counted f body h.1 (turned (times (is_always test) (bounds_at [] number)) (expr_most none test) (statement_most [] none body) (above (is_always test) (bounds_at [] number)) few)
    statement_counted f (c.Do number bound body test at) h few = statement_counted f body h.1 (turned (times true (bounds_at [] number)) (expr_most none test) (statement_most [] none body) (above true (bounds_at [] number)) few)
    statement_counted f (c.For number bound start test step body at) h few =
        let t = times (is_always_or_absent test) (bounds_at [] number) in
        let turn = option_most none test + (option_most none step + statement_most [] none body) in
        let within = with_live f (start_declares start) in
        let all = once t turn (above (is_always_or_absent test) (bounds_at [] number)) in
        (start_counted within start h.0 (first_of_two (start_most [] none start) (t * turn) few), statement_counted within body h.3 (last_of_all (start_most [] none start) (t * turn) (option_most none test) (option_most none step) (statement_most [] none body) few all))
    statement_counted f (c.Switch test items at) h few = (omega (arith, labels_few items, few), items_counted (with_live f (block_declares items)) items h.1 (omega (arith, few)))
    statement_counted f (c.Break at) h few = tt
    statement_counted f (c.Continue at) h few = tt
    statement_counted f (c.Return value at) h few = tt

    pub items_counted : (f : Function) (items : c.Items) → FitItems layout signatures result bounds f items → items_most [] none items ≤ nodes → ItemsCounted bounds items
    items_counted f c.NoItem h few = tt
    items_counted f (c.WithDeclaration declaration rest) h few = (declaration_counted f declaration h.0 (omega (arith, few)), items_counted f rest h.1 (omega (arith, few)))
    items_counted f (c.WithStatement statement rest) h few = (statement_counted f statement h.0 (omega (arith, few)), items_counted f rest h.1 (omega (arith, few)))
    items_counted f (c.WithRestriction pragma rest) h few = items_counted f rest h (omega (arith, few))
    items_counted f (c.WithLabel label rest) h few = items_counted f rest h (omega (arith, few))
