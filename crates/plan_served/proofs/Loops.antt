-- Loops are numbered in the order in which the facts of a program list them.
use Rattle.std.proofs.Common.{◌≡◌, refl, ap, ◌∙◌, ℕ, ◌+◌, zero, suc, Bool, true, false, List, [], ◌∷◌, ◌++◌, length, Option, Some, None, arith, length-append, suc-add, zero-add}
use Rattle.std.specs.Prelude.{◌-◌, slice_get}
use Rattle.std.proofs.lemmas.Option.{none-some}
use Rattle.c_tree.specs.Tree.{Row, Nothing, Then, Object, Declared, Absent, Value, Listed, Declaration, Objects, Prototype, ForStart, NoStart, StartValue, StartDeclaration, Statement, Block, Empty, Evaluate, Marker, If, IfElse, While, Do, For, Switch, Break, Continue, Return, Items, NoItem, AndDeclaration, AndStatement, AndRestriction, AndLabel}
use Rattle.c_tree.specs.declared.pragma.Pragma.{Pragma}
use Rattle.facts_definitions.specs.FlowFacts.{and_one, bounds_at_site, gathered}
use Rattle.facts_definitions.specs.Sites.{count_exprs, declaration_sites, elements_of, filling_sites, items_sites, loop_site, object_sites, objects_sites, start_sites, statement_sites}
use Rattle.facts_definitions.specs.declared.facts.Bounds.{Bounds}
use Rattle.facts_definitions.specs.declared.facts.Derived.{Derived}
use Rattle.facts_definitions.specs.declared.site.Site.{Site}
use Rattle.types_tree.specs.Tree as typed
use Rattle.types_tree.specs.declared.variable.Variable.{Variable}
use Rattle.types_value.specs.declared.kind.Kind.{Kind}
use Rattle.types_rules.specs.DeclarationRules.{Base, after_declaration, after_object, base_of, extent_of, is_filled, with_filling}
use Rattle.types_rules.specs.Scope.{Around, after_row, entered, with_loop, with_object}
use Rattle.types_rules.specs.StatementRules.{after, after_items, after_start, within_for}
use Rattle.types_rules.specs.Typing.{and_object, filling_of, typed_declaration, typed_items, typed_label, typed_object, typed_row, typed_start, typed_statement, values_at}
use Rattle.plan_served.specs.Places.{AreBounds}

-- what two lists of sites give
gathered-append : {A : Type 0} (f : Site → Option A) (xs ys : List Site) → gathered f (xs ++ ys) ≡ gathered f xs ++ gathered f ys
gathered-append f [] ys = refl
gathered-append f (x ∷ xs) ys = ap (and_one (f x)) (gathered-append f xs ys) ∙ of (f x) (gathered f xs) (gathered f ys)
  where
    of : {A : Type 0} (o : Option A) (ws vs : List A) → and_one o (ws ++ vs) ≡ and_one o ws ++ vs
    of None ws vs = refl
    of (Some a) ws vs = refl

moved : (n l m i : ℕ) → n + l ≡ m → m + i ≡ n + (l + i)
moved n l m i e = omega (arith, e)

module _ (derived : List Derived) where
  abbrev pub loops_of : List Site → ℕ
  loops_of sites = length (gathered (bounds_at_site derived) sites)

  loops_of-append : (xs ys : List Site) → loops_of (xs ++ ys) ≡ loops_of xs + loops_of ys
  loops_of-append xs ys = ap length (gathered-append (bounds_at_site derived) xs ys) ∙ length-append (gathered (bounds_at_site derived) xs) (gathered (bounds_at_site derived) ys)

  loops_of-loop : (number : ℕ) (bound : Option Pragma) (at : ℕ) (xs : List Site) → loops_of (loop_site number bound at ∷ xs) ≡ loops_of xs + 1
  loops_of-loop number None at xs = omega arith
  loops_of-loop number (Some pragma) at xs = omega arith

  -- bounds of what stands first, and of what stands behind it
  slice_get-before : (xs ys : List Bounds) (i : ℕ) (b : Bounds) → slice_get xs i ≡ Some b → slice_get (xs ++ ys) i ≡ Some b
  slice_get-before [] ys i b e = absurd (none-some b e)
  slice_get-before (x ∷ xs) ys zero b e = e
  slice_get-before (x ∷ xs) ys (suc i) b e = slice_get-before xs ys i b e

  slice_get-behind : (xs ys : List Bounds) (i : ℕ) → slice_get (xs ++ ys) (length xs + i) ≡ slice_get ys i
  slice_get-behind [] ys i = ap (slice_get ys) (zero-add i)
  slice_get-behind (x ∷ xs) ys i = ap (slice_get (x ∷ xs ++ ys)) (suc-add (length xs) i) ∙ slice_get-behind xs ys i

  pub bounds_first : (bounds : List Bounds) (n : ℕ) (xs ys : List Site) → AreBounds derived bounds n (xs ++ ys) → AreBounds derived bounds n xs
  bounds_first bounds n xs ys h = record {
    by = λ i b e. h.by i b (ap (λ l. slice_get l i) (gathered-append (bounds_at_site derived) xs ys) ∙ slice_get-before (gathered (bounds_at_site derived) xs) (gathered (bounds_at_site derived) ys) i b e);
  }

  pub bounds_second : (bounds : List Bounds) (n m : ℕ) (xs ys : List Site) → n + loops_of xs ≡ m → AreBounds derived bounds n (xs ++ ys) → AreBounds derived bounds m ys
  bounds_second bounds n m xs ys same h = record {
    by = λ i b e.
        let k : slice_get bounds (n + (loops_of xs + i)) ≡ Some b =
        h.by (loops_of xs + i) b (ap (λ l. slice_get l (loops_of xs + i)) (gathered-append (bounds_at_site derived) xs ys) ∙ slice_get-behind (gathered (bounds_at_site derived) xs) (gathered (bounds_at_site derived) ys) i ∙ e) in
        ap (slice_get bounds) (moved n (loops_of xs) m i same) ∙ k;
  }

  -- a loop before others
  pub bounds_behind : (bounds : List Bounds) (n number : ℕ) (bound : Option Pragma) (at : ℕ) (xs : List Site) → AreBounds derived bounds n (loop_site number bound at ∷ xs) → AreBounds derived bounds (n + 1) xs
  bounds_behind bounds n number bound at xs h = bounds_second bounds n (n + 1) (loop_site number bound at ∷ []) xs (one bound) h
    where
      one : (bound : Option Pragma) → n + loops_of (loop_site number bound at ∷ []) ≡ n + 1
      one None = omega arith
      one (Some pragma) = omega arith

  loops_filled : (filled : Bool) (left n : ℕ) (a : Around) → a.loops ≡ n → n + loops_of (filling_sites left (filling_of filled n)) ≡ (with_filling filled a).loops
  loops_filled true left n a e = omega (arith, e)
  loops_filled false left n a e = omega (arith, e)

  module _ (vs : List Variable) where
    loops_object : (base : Base) (o : Object ℕ) (a : Around) → a.loops + loops_of (object_sites vs (typed_object base o a)) ≡ (after_object base o a).loops
    loops_object base (Declared name shape Absent at) a = omega arith
    loops_object base (Declared name shape (Value value) at) a = omega arith
    loops_object base (Declared name shape (Listed values comma) at) a =
        let now = with_object name base.kind base.const (extent_of shape (Listed values comma)) a in
        let filled = is_filled shape (Listed values comma) a in
        let es = values_at base.kind values (after_object base (Declared name shape (Listed values comma) at) a) typed.NoExpr in
        loops_filled filled (elements_of (slice_get vs (length a.variables)) - count_exprs es) a.loops now refl

    joins : (a b c d e f : ℕ) → a + b ≡ c + d → d ≡ e + f → (after : ℕ) → c + e ≡ after → a + b ≡ after + f
    joins a b c d e f h k after l = omega (arith, h, k, l)

    loops_row : (base : Base) (objects : Row (Object ℕ)) (a : Around) (rest : List typed.Object) → a.loops + loops_of (objects_sites vs (typed_row (after_object base) (and_object base) objects a rest)) ≡ (after_row (after_object base) objects a).loops + loops_of (objects_sites vs rest)
    loops_row base Nothing a rest = refl
    loops_row base (Then front last) a rest =
        let now = after_row (after_object base) front a in
        let made = typed_object base last now in
        joins a.loops (loops_of (objects_sites vs (typed_row (after_object base) (and_object base) (Then front last) a rest))) now.loops (loops_of (objects_sites vs (made ∷ rest))) (loops_of (object_sites vs made)) (loops_of (objects_sites vs rest))
        (loops_row base front a (made ∷ rest)) (loops_of-append (object_sites vs made) (objects_sites vs rest)) (after_object base last now).loops (loops_object base last now)

    ends_there : (a b c : ℕ) → a + b ≡ c + 0 → a + b ≡ c
    ends_there a b c e = omega (arith, e)

    pub loops_declaration : (d : Declaration ℕ) (a : Around) → a.loops + loops_of (declaration_sites vs (typed_declaration d a)) ≡ (after_declaration d a).loops
    loops_declaration (Objects specifiers objects at) a =
        let base = base_of specifiers in
        ends_there a.loops (loops_of (objects_sites vs (typed_row (after_object base) (and_object base) objects a []))) (after_row (after_object base) objects a).loops (loops_row base objects a [])
    loops_declaration (Prototype specifiers name params at) a = omega arith

    pub loops_start : (s : ForStart ℕ) (a : Around) → a.loops + loops_of (start_sites vs (typed_start s a)) ≡ (after_start s a).loops
    loops_start NoStart a = omega arith
    loops_start (StartValue value) a = omega arith
    loops_start (StartDeclaration d) a = loops_declaration d a

    looped : (n l b after : ℕ) → n + 1 + b ≡ after → l ≡ b + 1 → n + l ≡ after
    looped n l b after e k = omega (arith, e, k)

    twice : (a b l s t after : ℕ) → a + s ≡ b → b + t ≡ after → l ≡ s + t → a + l ≡ after
    twice a b l s t after e f k = omega (arith, e, f, k)

    mutual
      pub loops_statement : (result : Kind) (s : Statement ℕ) (a : Around) → a.loops + loops_of (statement_sites vs (typed_statement result s a)) ≡ (after s a).loops
      loops_statement result (Block items at) a =
          ends_there a.loops (loops_of (items_sites vs (typed_items result items (entered a) typed.NoItem))) (after_items items (entered a)).loops (loops_items result items (entered a) typed.NoItem)
      loops_statement result (Empty at) a = omega arith
      loops_statement result (Evaluate value at) a = omega arith
      loops_statement result (Marker pragma) a = omega arith
      loops_statement result (If test first at) a = loops_statement result first a
      loops_statement result (IfElse test first second at) a =
          let one = statement_sites vs (typed_statement result first a) in
          let two = statement_sites vs (typed_statement result second (after first a)) in
          twice a.loops (after first a).loops (loops_of (one ++ two)) (loops_of one) (loops_of two) (after second (after first a)).loops
          (loops_statement result first a) (loops_statement result second (after first a)) (loops_of-append one two)
      loops_statement result (While bound test body at) a =
          let inner = statement_sites vs (typed_statement result body (with_loop a)) in
          looped a.loops (loops_of (loop_site (a.loops + 1) bound at ∷ inner)) (loops_of inner) (after body (with_loop a)).loops (loops_statement result body (with_loop a)) (loops_of-loop (a.loops + 1) bound at inner)
      loops_statement result (Do bound body test at) a =
          let inner = statement_sites vs (typed_statement result body (with_loop a)) in
          looped a.loops (loops_of (loop_site (a.loops + 1) bound at ∷ inner)) (loops_of inner) (after body (with_loop a)).loops (loops_statement result body (with_loop a)) (loops_of-loop (a.loops + 1) bound at inner)
      loops_statement result (For bound start test step body at) a =
          let head = with_loop (entered a) in
          let one = start_sites vs (typed_start start head) in
          let two = statement_sites vs (typed_statement result body (within_for start a)) in
          looped a.loops (loops_of (loop_site (a.loops + 1) bound at ∷ (one ++ two))) (loops_of (one ++ two)) (after body (within_for start a)).loops
          (twice (a.loops + 1) (within_for start a).loops (loops_of (one ++ two)) (loops_of one) (loops_of two) (after body (within_for start a)).loops
          (loops_start start head) (loops_statement result body (within_for start a)) (loops_of-append one two))
          (loops_of-loop (a.loops + 1) bound at (one ++ two))
      loops_statement result (Switch test items at) a =
          ends_there a.loops (loops_of (items_sites vs (typed_items result items (entered a) typed.NoItem))) (after_items items (entered a)).loops (loops_items result items (entered a) typed.NoItem)
      loops_statement result (Break at) a = omega arith
      loops_statement result (Continue at) a = omega arith
      loops_statement result (Return value at) a = omega arith

      pub loops_items : (result : Kind) (items : Items ℕ) (a : Around) (rest : typed.Items) → a.loops + loops_of (items_sites vs (typed_items result items a rest)) ≡ (after_items items a).loops + loops_of (items_sites vs rest)
      loops_items result NoItem a rest = refl
      loops_items result (AndDeclaration front d) a rest =
          let now = after_items front a in
          let made = typed_declaration d now in
          joins a.loops (loops_of (items_sites vs (typed_items result front a (typed.WithDeclaration made rest)))) now.loops (loops_of (items_sites vs (typed.WithDeclaration made rest))) (loops_of (declaration_sites vs made)) (loops_of (items_sites vs rest))
          (loops_items result front a (typed.WithDeclaration made rest)) (loops_of-append (declaration_sites vs made) (items_sites vs rest)) (after_declaration d now).loops (loops_declaration d now)
      loops_items result (AndStatement front s) a rest =
          let now = after_items front a in
          let made = typed_statement result s now in
          joins a.loops (loops_of (items_sites vs (typed_items result front a (typed.WithStatement made rest)))) now.loops (loops_of (items_sites vs (typed.WithStatement made rest))) (loops_of (statement_sites vs made)) (loops_of (items_sites vs rest))
          (loops_items result front a (typed.WithStatement made rest)) (loops_of-append (statement_sites vs made) (items_sites vs rest)) (after s now).loops (loops_statement result s now)
      loops_items result (AndRestriction front pragma) a rest = loops_items result front a (typed.WithRestriction pragma rest)
      loops_items result (AndLabel front label) a rest = loops_items result front a (typed.WithLabel (typed_label label (after_items front a)) rest)

    module _ (bounds : List Bounds) where
      abbrev Are : ℕ → List Site → Type 0
      Are n sites = AreBounds derived bounds n sites

      -- the bounds of what stands behind others
      pub bounds_row : (base : Base) (objects : Row (Object ℕ)) (a : Around) (rest : List typed.Object) → Are a.loops (objects_sites vs (typed_row (after_object base) (and_object base) objects a rest)) → Are (after_row (after_object base) objects a).loops (objects_sites vs rest)
      bounds_row base Nothing a rest h = h
      bounds_row base (Then front last) a rest h =
          let now = after_row (after_object base) front a in
          let made = typed_object base last now in
          bounds_second bounds now.loops (after_object base last now).loops (object_sites vs made) (objects_sites vs rest) (loops_object base last now) (bounds_row base front a (made ∷ rest) h)

      pub bounds_items : (result : Kind) (items : Items ℕ) (a : Around) (rest : typed.Items) → Are a.loops (items_sites vs (typed_items result items a rest)) → Are (after_items items a).loops (items_sites vs rest)
      bounds_items result NoItem a rest h = h
      bounds_items result (AndDeclaration front d) a rest h =
          let now = after_items front a in
          let made = typed_declaration d now in
          bounds_second bounds now.loops (after_declaration d now).loops (declaration_sites vs made) (items_sites vs rest) (loops_declaration d now) (bounds_items result front a (typed.WithDeclaration made rest) h)
      bounds_items result (AndStatement front s) a rest h =
          let now = after_items front a in
          let made = typed_statement result s now in
          bounds_second bounds now.loops (after s now).loops (statement_sites vs made) (items_sites vs rest) (loops_statement result s now) (bounds_items result front a (typed.WithStatement made rest) h)
      bounds_items result (AndRestriction front pragma) a rest h = behind_restriction (after_items front a).loops pragma rest (bounds_items result front a (typed.WithRestriction pragma rest) h)
        where
          behind_restriction : (n : ℕ) (pragma : Pragma) (rest : typed.Items) → Are n (items_sites vs (typed.WithRestriction pragma rest)) → Are n (items_sites vs rest)
          behind_restriction n pragma rest h = record { by = h.by }
      bounds_items result (AndLabel front label) a rest h = bounds_items result front a (typed.WithLabel (typed_label label (after_items front a)) rest) h
