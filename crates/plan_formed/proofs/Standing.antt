-- The loops and markers of a typed tree are numbered in the order of the source, and its jumps have somewhere to go.
use Rattle.std.proofs.Common.{◌≡◌, ℕ, ◌+◌, ◌≤◌, Bool, true, false, List, [], ◌∷◌, ◌++◌, None, refl, sym, ap, ◌∙◌, subst, arith}
use Rattle.std.specs.Prelude.{not}
use Rattle.c_tree.specs.Tree.{Row, Nothing, Then, Shape, Initial, Absent, Value, Listed, Object, Declared, Declaration, Objects, Prototype, ForStart, NoStart, StartValue, StartDeclaration, Statement, Block, Empty, Evaluate, Marker, If, IfElse, While, Do, For, Switch, Break, Continue, Return, Items, NoItem, AndDeclaration, AndStatement, AndRestriction, AndLabel}
use Rattle.types_tree.specs.Tree as typed
use Rattle.types_value.specs.declared.kind.Kind.{Kind}
use Rattle.types_rules.specs.DeclarationRules.{Base, after_declaration, after_object, base_of, extent_of, is_filled, with_filling}
use Rattle.types_rules.specs.ExpressionRules.{when}
use Rattle.types_rules.specs.Scope.{Around, Scope, after_row, entered, left, with_loop, with_object, without_innermost}
use Rattle.types_rules.specs.Sights.{SeenStatement, declaration_nodes, first_fault, items_nodes, label_nodes, option_nodes, start_nodes, statement_nodes, value_nodes}
use Rattle.types_rules.specs.StatementRules.{Within, after, after_items, after_start, in_loop, in_switch, returns_wrongly, within_for}
use Rattle.types_rules.specs.Typing.{and_object, filling_of, typed_declaration, typed_initial, typed_items, typed_label, typed_object, typed_row, typed_start, typed_statement, values_at}
use Rattle.types_rules.specs.declared.fault.Rule.TheVariants as rules
use Rattle.plan_definition.specs.Statements.{fillings_in, fillings_of, loops_before}
use Rattle.plan_forms.specs.Numbers.{DeclarationNumbered, InitialNumbered, ItemsNumbered, ObjectsNumbered, StartNumbered, StatementNumbered, declaration_loops, items_loops, statement_loops}
use Rattle.plan_formed.specs.Placed.{ItemsPlaced, StatementPlaced, items_markers, statement_markers}
use Rattle.plan_formed.proofs.Faults.{behind_passes, front_passes, no_first, rest_of, rule_of, when_none}

-- from before some parts to behind them: so many loops and markers are counted before what else stands there, and so many with it
pub record Moves (a b : Around) (loops all_loops markers all_markers : ℕ) : Type 0 where
  pub loops_are : b.loops + loops ≡ a.loops + all_loops
  pub markers_are : b.markers + markers ≡ a.markers + all_markers
  pub outer_is : b.outer ≡ a.outer
  pub defined_are : b.defined ≡ a.defined

pub stays : (a : Around) → Moves a a 0 0 0 0
stays a = record { loops_are = refl; markers_are = refl; outer_is = refl; defined_are = refl }

-- two steps, one behind the other
pub steps : (a b d : Around) (l m l1 m1 : ℕ) → Moves a b 0 l 0 m → Moves b d 0 l1 0 m1 → Moves a d 0 (l + l1) 0 (m + m1)
steps a b d l m l1 m1 f g = record { loops_are = omega (arith, f.loops_are, g.loops_are); markers_are = omega (arith, f.markers_are, g.markers_are); outer_is = g.outer_is ∙ f.outer_is; defined_are = g.defined_are ∙ f.defined_are }

-- one step more, before what else stands there
more : (a b d : Around) (l m l1 m1 all all1 : ℕ) → Moves a b (l1 + l) all (m1 + m) all1 → Moves b d 0 l1 0 m1 → Moves a d l all m all1
more a b d l m l1 m1 all all1 f g = record { loops_are = omega (arith, f.loops_are, g.loops_are); markers_are = omega (arith, f.markers_are, g.markers_are); outer_is = g.outer_is ∙ f.outer_is; defined_are = g.defined_are ∙ f.defined_are }

-- a block
pub out_of : (xs : List Scope) (x : Scope) → without_innermost (xs ++ x ∷ []) ≡ xs
out_of [] x = refl
out_of (y ∷ []) x = refl
out_of (y ∷ z ∷ zs) x = ap (λ l. y ∷ l) (out_of (z ∷ zs) x)

leaves : (a b : Around) (l m : ℕ) → Moves (entered a) b 0 l 0 m → Moves a (left b) 0 l 0 m
leaves a b l m f = record { loops_are = f.loops_are; markers_are = f.markers_are; outer_is = ap without_innermost f.outer_is ∙ out_of a.outer a.scope; defined_are = f.defined_are }

-- objects
filled_moves : (filled : Bool) (name : ℕ) (base : Base) (values : typed.Exprs) (comma : Bool) (shape : Shape ℕ) (initial : Initial ℕ) (a : Around) →
    Moves a (with_filling filled (with_object name base.kind base.const (extent_of shape initial) a)) 0 (fillings_of (typed.Listed values comma (filling_of filled a.loops))) 0 0
filled_moves true name base values comma shape initial a = record { loops_are = omega arith; markers_are = refl; outer_is = refl; defined_are = refl }
filled_moves false name base values comma shape initial a = record { loops_are = refl; markers_are = refl; outer_is = refl; defined_are = refl }

object_moves : (base : Base) (name : ℕ) (shape : Shape ℕ) (initial : Initial ℕ) (at : ℕ) (a b : Around) → Moves a (after_object base (Declared name shape initial at) a) 0 (fillings_of (typed_initial base.kind (filling_of (is_filled shape initial a) a.loops) initial b)) 0 0
object_moves base name shape Absent at a b = record { loops_are = refl; markers_are = refl; outer_is = refl; defined_are = refl }
object_moves base name shape (Value e) at a b = record { loops_are = refl; markers_are = refl; outer_is = refl; defined_are = refl }
object_moves base name shape (Listed values comma) at a b = filled_moves (is_filled shape (Listed values comma) a) name base (values_at base.kind values b typed.NoExpr) comma shape (Listed values comma) a

filled_numbered : (filled : Bool) (values : typed.Exprs) (comma : Bool) (loops : ℕ) → InitialNumbered loops (typed.Listed values comma (filling_of filled loops))
filled_numbered true values comma loops = refl
filled_numbered false values comma loops = tt

initial_numbered : (kind : Kind) (shape : Shape ℕ) (initial : Initial ℕ) (a b : Around) → InitialNumbered a.loops (typed_initial kind (filling_of (is_filled shape initial a) a.loops) initial b)
initial_numbered kind shape Absent a b = tt
initial_numbered kind shape (Value e) a b = tt
initial_numbered kind shape (Listed values comma) a b = filled_numbered (is_filled shape (Listed values comma) a) (values_at kind values b typed.NoExpr) comma a.loops

pub objects_move : (base : Base) (objects : Row (Object ℕ)) (a : Around) (rest : List typed.Object) → Moves a (after_row (after_object base) objects a) (fillings_in rest) (fillings_in (typed_row (after_object base) (and_object base) objects a rest)) 0 0
objects_move base Nothing a rest = record { loops_are = refl; markers_are = refl; outer_is = refl; defined_are = refl }
objects_move base (Then front (Declared name shape initial at)) a rest =
    let b = after_row (after_object base) front a in
    let object = Declared name shape initial at in
    let f = objects_move base front a (typed_object base object b ∷ rest) in
    let g = object_moves base name shape initial at b (after_object base object b) in
    record { loops_are = omega (arith, f.loops_are, g.loops_are); markers_are = omega (arith, f.markers_are, g.markers_are); outer_is = g.outer_is ∙ f.outer_is; defined_are = g.defined_are ∙ f.defined_are }

objects_numbered : (base : Base) (objects : Row (Object ℕ)) (a : Around) (rest : List typed.Object) → ObjectsNumbered (after_row (after_object base) objects a).loops rest → ObjectsNumbered a.loops (typed_row (after_object base) (and_object base) objects a rest)
objects_numbered base Nothing a rest h = h
objects_numbered base (Then front (Declared name shape initial at)) a rest h =
    let b = after_row (after_object base) front a in
    let object = Declared name shape initial at in
    let behind = after_object base object b in
    let own = typed_initial base.kind (filling_of (is_filled shape initial b) b.loops) initial behind in
    objects_numbered base front a (typed_object base object b ∷ rest)
    (initial_numbered base.kind shape initial b behind, subst (λ n. ObjectsNumbered n rest) (moved behind.loops b.loops (fillings_of own) (object_moves base name shape initial at b behind).loops_are) h)
  where
    moved : (x y z : ℕ) → x + 0 ≡ y + z → x ≡ y + z
    moved x y z e = omega (arith, e)

pub declaration_moves : (declaration : Declaration ℕ) (a : Around) → Moves a (after_declaration declaration a) 0 (declaration_loops (typed_declaration declaration a)) 0 0
declaration_moves (Objects specifiers objects at) a = objects_move (base_of specifiers) objects a []
declaration_moves (Prototype specifiers name params at) a = record { loops_are = refl; markers_are = refl; outer_is = refl; defined_are = refl }

declaration_numbered : (declaration : Declaration ℕ) (a : Around) → DeclarationNumbered a.loops (typed_declaration declaration a)
declaration_numbered (Objects specifiers objects at) a = objects_numbered (base_of specifiers) objects a [] tt
declaration_numbered (Prototype specifiers name params at) a = tt

start_moves : (start : ForStart ℕ) (a : Around) → Moves a (after_start start a) 0 (loops_before (typed_start start a)) 0 0
start_moves NoStart a = stays a
start_moves (StartValue e) a = stays a
start_moves (StartDeclaration (Objects specifiers objects at)) a = declaration_moves (Objects specifiers objects at) a
start_moves (StartDeclaration (Prototype specifiers name params at)) a = declaration_moves (Prototype specifiers name params at) a

start_numbered : (start : ForStart ℕ) (a : Around) → StartNumbered a.loops (typed_start start a)
start_numbered NoStart a = tt
start_numbered (StartValue e) a = tt
start_numbered (StartDeclaration declaration) a = declaration_numbered declaration a

-- a loop
looped : (a b : Around) (l m : ℕ) → Moves (with_loop a) b 0 l 0 m → Moves a b 0 (1 + l) 0 m
looped a b l m f = record { loops_are = omega (arith, f.loops_are); markers_are = f.markers_are; outer_is = f.outer_is; defined_are = f.defined_are }

mutual
  pub statement_moves : (result : Kind) (s : Statement ℕ) (a : Around) → Moves a (after s a) 0 (statement_loops (typed_statement result s a)) 0 (statement_markers (typed_statement result s a))
  statement_moves result (Block items at) a = leaves a (after_items items (entered a)) (items_loops (typed_items result items (entered a) typed.NoItem)) (items_markers (typed_items result items (entered a) typed.NoItem)) (items_move result items (entered a) typed.NoItem)
  statement_moves result (Empty at) a = stays a
  statement_moves result (Evaluate e at) a = stays a
  statement_moves result (Marker pragma) a = record { loops_are = refl; markers_are = omega arith; outer_is = refl; defined_are = refl }
  statement_moves result (If test first at) a = statement_moves result first a
  statement_moves result (IfElse test first second at) a =
      let b = after first a in
      steps a b (after second b) (statement_loops (typed_statement result first a)) (statement_markers (typed_statement result first a)) (statement_loops (typed_statement result second b)) (statement_markers (typed_statement result second b)) (statement_moves result first a) (statement_moves result second b)
  statement_moves result (While bound test body at) a = looped a (after body (with_loop a)) (statement_loops (typed_statement result body (with_loop a))) (statement_markers (typed_statement result body (with_loop a))) (statement_moves result body (with_loop a))
  statement_moves result (Do bound body test at) a = looped a (after body (with_loop a)) (statement_loops (typed_statement result body (with_loop a))) (statement_markers (typed_statement result body (with_loop a))) (statement_moves result body (with_loop a))
  statement_moves result (For bound start test step body at) a =
      let inside = entered a in
      let within = within_for start a in
      let f = start_moves start (with_loop inside) in
      let g = statement_moves result body within in
      let l = loops_before (typed_start start (with_loop inside)) in
      let m = statement_loops (typed_statement result body within) in
      let n = statement_markers (typed_statement result body within) in
      let all = looped inside (after body within) (l + m) (0 + n) (steps (with_loop inside) within (after body within) l 0 m n f g) in
      leaves a (after body within) (1 + l + m) n (record { loops_are = omega (arith, all.loops_are); markers_are = omega (arith, all.markers_are); outer_is = all.outer_is; defined_are = all.defined_are })
  statement_moves result (Switch test items at) a = leaves a (after_items items (entered a)) (items_loops (typed_items result items (entered a) typed.NoItem)) (items_markers (typed_items result items (entered a) typed.NoItem)) (items_move result items (entered a) typed.NoItem)
  statement_moves result (Break at) a = stays a
  statement_moves result (Continue at) a = stays a
  statement_moves result (Return value at) a = stays a

  pub items_move : (result : Kind) (items : Items ℕ) (a : Around) (rest : typed.Items) → Moves a (after_items items a) (items_loops rest) (items_loops (typed_items result items a rest)) (items_markers rest) (items_markers (typed_items result items a rest))
  items_move result NoItem a rest = record { loops_are = refl; markers_are = refl; outer_is = refl; defined_are = refl }
  items_move result (AndDeclaration front declaration) a rest =
      let b = after_items front a in
      let t = typed_declaration declaration b in
      let f = items_move result front a (typed.WithDeclaration t rest) in
      let g = declaration_moves declaration b in
      record { loops_are = omega (arith, f.loops_are, g.loops_are); markers_are = omega (arith, f.markers_are, g.markers_are); outer_is = g.outer_is ∙ f.outer_is; defined_are = g.defined_are ∙ f.defined_are }
  items_move result (AndStatement front statement) a rest =
      let b = after_items front a in
      let t = typed_statement result statement b in
      more a b (after statement b) (items_loops rest) (items_markers rest) (statement_loops t) (statement_markers t) (items_loops (typed_items result front a (typed.WithStatement t rest))) (items_markers (typed_items result front a (typed.WithStatement t rest)))
      (items_move result front a (typed.WithStatement t rest)) (statement_moves result statement b)
  items_move result (AndRestriction front pragma) a rest = items_move result front a (typed.WithRestriction pragma rest)
  items_move result (AndLabel front label) a rest = items_move result front a (typed.WithLabel (typed_label label (after_items front a)) rest)

-- the number of loops behind a step
pub behind_is : (x y z : ℕ) → x + 0 ≡ y + z → x ≡ y + z
behind_is x y z e = omega (arith, e)

mutual
  pub statement_numbered : (result : Kind) (s : Statement ℕ) (a : Around) → StatementNumbered a.loops (typed_statement result s a)
  statement_numbered result (Block items at) a = items_numbered result items (entered a) typed.NoItem tt
  statement_numbered result (Empty at) a = tt
  statement_numbered result (Evaluate e at) a = tt
  statement_numbered result (Marker pragma) a = tt
  statement_numbered result (If test first at) a = statement_numbered result first a
  statement_numbered result (IfElse test first second at) a =
      let b = after first a in (
        statement_numbered result first a,
        subst (λ n. StatementNumbered n (typed_statement result second b)) (behind_is b.loops a.loops (statement_loops (typed_statement result first a)) (statement_moves result first a).loops_are) (statement_numbered result second b),
      )
  statement_numbered result (While bound test body at) a = (refl, statement_numbered result body (with_loop a))
  statement_numbered result (Do bound body test at) a = (refl, statement_numbered result body (with_loop a))
  statement_numbered result (For bound start test step body at) a =
      let inside = with_loop (entered a) in
      let within = within_for start a in (
        refl,
        start_numbered start inside,
        subst (λ n. StatementNumbered n (typed_statement result body within)) (behind_is within.loops inside.loops (loops_before (typed_start start inside)) (start_moves start inside).loops_are) (statement_numbered result body within),
      )
  statement_numbered result (Switch test items at) a = items_numbered result items (entered a) typed.NoItem tt
  statement_numbered result (Break at) a = tt
  statement_numbered result (Continue at) a = tt
  statement_numbered result (Return value at) a = tt

  -- items before others that are numbered from there on
  pub items_numbered : (result : Kind) (items : Items ℕ) (a : Around) (rest : typed.Items) → ItemsNumbered (after_items items a).loops rest → ItemsNumbered a.loops (typed_items result items a rest)
  items_numbered result NoItem a rest h = h
  items_numbered result (AndDeclaration front declaration) a rest h =
      let b = after_items front a in
      let t = typed_declaration declaration b in
      items_numbered result front a (typed.WithDeclaration t rest)
      (declaration_numbered declaration b, subst (λ n. ItemsNumbered n rest) (behind_is (after_declaration declaration b).loops b.loops (declaration_loops t) (declaration_moves declaration b).loops_are) h)
  items_numbered result (AndStatement front statement) a rest h =
      let b = after_items front a in
      let t = typed_statement result statement b in
      items_numbered result front a (typed.WithStatement t rest)
      (statement_numbered result statement b, subst (λ n. ItemsNumbered n rest) (behind_is (after statement b).loops b.loops (statement_loops t) (statement_moves result statement b).loops_are) h)
  items_numbered result (AndRestriction front pragma) a rest h = items_numbered result front a (typed.WithRestriction pragma rest) h
  items_numbered result (AndLabel front label) a rest h = items_numbered result front a (typed.WithLabel (typed_label label (after_items front a)) rest) h

-- a jump at which no rule fails has somewhere to go
not_false : (b : Bool) → not b ≡ false → b ≡ true
not_false true h = refl
not_false false h = sym h

break_placed : (at : ℕ) (a : Around) (w : Within) → first_fault (SeenStatement (Break at) a w ∷ []) ≡ None → w.exit ≡ true
break_placed at a w h =
    not_false w.exit (when_none (not w.exit) rules.Jump (no_first (when (not w.exit) rules.Jump) (when (returns_wrongly (Break at) w) rules.Return) (rule_of (SeenStatement (Break at) a w) [] h)))

continue_placed : (at : ℕ) (a : Around) (w : Within) → first_fault (SeenStatement (Continue at) a w ∷ []) ≡ None → w.loop ≡ true
continue_placed at a w h =
    not_false w.loop (when_none (not w.loop) rules.Jump (no_first (when (not w.loop) rules.Jump) (when (returns_wrongly (Continue at) w) rules.Return) (rule_of (SeenStatement (Continue at) a w) [] h)))

-- markers before a step
pub before_step : (x y z n : ℕ) → x + 0 ≡ y + z → x ≤ n → y ≤ n
before_step x y z n e le = omega (arith, e, le)

mutual
  pub statement_placed : (result : Kind) (s : Statement ℕ) (a : Around) (w : Within) (total : ℕ) → first_fault (statement_nodes s a w) ≡ None → (after s a).markers ≤ total → StatementPlaced total w.exit w.loop (typed_statement result s a)
  statement_placed result (Block items at) a w total h le = items_placed result items (entered a) w total typed.NoItem (rest_of (SeenStatement (Block items at) a w) (items_nodes items (entered a) w) h) le tt
  statement_placed result (Empty at) a w total h le = tt
  statement_placed result (Evaluate e at) a w total h le = tt
  statement_placed result (Marker pragma) a w total h le = omega (arith, le)
  statement_placed result (If test first at) a w total h le =
      statement_placed result first a w total (behind_passes (value_nodes test a) (statement_nodes first a w) (rest_of (SeenStatement (If test first at) a w) (value_nodes test a ++ statement_nodes first a w) h)) le
  statement_placed result (IfElse test first second at) a w total h le =
      let b = after first a in
      let xs = statement_nodes first a w in
      let ys = statement_nodes second b w in
      let both = behind_passes (value_nodes test a) (xs ++ ys) (rest_of (SeenStatement (IfElse test first second at) a w) (value_nodes test a ++ (xs ++ ys)) h) in (
        statement_placed result first a w total (front_passes xs ys both) (before_step (after second b).markers b.markers (statement_markers (typed_statement result second b)) total (statement_moves result second b).markers_are le),
        statement_placed result second b w total (behind_passes xs ys both) le,
      )
  statement_placed result (While bound test body at) a w total h le =
      let xs = value_nodes test (with_loop a) in
      let ys = statement_nodes body (with_loop a) (in_loop w) in
      statement_placed result body (with_loop a) (in_loop w) total (behind_passes xs ys (rest_of (SeenStatement (While bound test body at) a w) (xs ++ ys) h)) le
  statement_placed result (Do bound body test at) a w total h le =
      let xs = statement_nodes body (with_loop a) (in_loop w) in
      let ys = value_nodes test (after body (with_loop a)) in
      statement_placed result body (with_loop a) (in_loop w) total (front_passes xs ys (rest_of (SeenStatement (Do bound body test at) a w) (xs ++ ys) h)) le
  statement_placed result (For bound start test step body at) a w total h le =
      let within = within_for start a in
      let ss = start_nodes start (with_loop (entered a)) in
      let ts = option_nodes test within in
      let us = option_nodes step within in
      let bs = statement_nodes body within (in_loop w) in
      statement_placed result body within (in_loop w) total
      (behind_passes us bs (behind_passes ts (us ++ bs) (behind_passes ss (ts ++ (us ++ bs)) (rest_of (SeenStatement (For bound start test step body at) a w) (ss ++ (ts ++ (us ++ bs))) h)))) le
  statement_placed result (Switch test items at) a w total h le =
      let xs = value_nodes test a in
      let ys = items_nodes items (entered a) (in_switch w) in
      items_placed result items (entered a) (in_switch w) total typed.NoItem (behind_passes xs ys (rest_of (SeenStatement (Switch test items at) a w) (xs ++ ys) h)) le tt
  statement_placed result (Break at) a w total h le = break_placed at a w h
  statement_placed result (Continue at) a w total h le = continue_placed at a w h
  statement_placed result (Return value at) a w total h le = tt

  pub items_placed : (result : Kind) (items : Items ℕ) (a : Around) (w : Within) (total : ℕ) (rest : typed.Items) → first_fault (items_nodes items a w) ≡ None → (after_items items a).markers ≤ total → ItemsPlaced total w.exit w.loop rest → ItemsPlaced total w.exit w.loop (typed_items result items a rest)
  items_placed result NoItem a w total rest h le r = r
  items_placed result (AndDeclaration front declaration) a w total rest h le r =
      let b = after_items front a in
      items_placed result front a w total (typed.WithDeclaration (typed_declaration declaration b) rest) (front_passes (items_nodes front a w) (declaration_nodes declaration b) h)
      (before_step (after_declaration declaration b).markers b.markers 0 total (declaration_moves declaration b).markers_are le) r
  items_placed result (AndStatement front statement) a w total rest h le r =
      let b = after_items front a in
      let xs = items_nodes front a w in
      let ys = statement_nodes statement b w in
      items_placed result front a w total (typed.WithStatement (typed_statement result statement b) rest) (front_passes xs ys h)
      (before_step (after statement b).markers b.markers (statement_markers (typed_statement result statement b)) total (statement_moves result statement b).markers_are le)
      (statement_placed result statement b w total (behind_passes xs ys h) le, r)
  items_placed result (AndRestriction front pragma) a w total rest h le r = items_placed result front a w total (typed.WithRestriction pragma rest) h le r
  items_placed result (AndLabel front label) a w total rest h le r =
      items_placed result front a w total (typed.WithLabel (typed_label label (after_items front a)) rest) (front_passes (items_nodes front a w) (label_nodes label front (after_items front a)) h) le r
