-- The typed form of a statement is no larger and no deeper than the statement; arrays that are filled have written sizes.
use Rattle.std.proofs.Common.{◌≡◌, ℕ, ◌+◌, ◌*◌, ◌≤◌, max, Bool, true, false, List, [], ◌∷◌, Option, Some, None, refl, sym, ap, ◌∙◌, subst, arith}
use Rattle.std.specs.Prelude.{◌<◌, ◌&&◌, if◌then◌else◌, nat_lt}
use Rattle.std.proofs.lemmas.Bool.{ltb-true}
use Rattle.c_tree.specs.Size.{size, size_all, size_declaration, size_initial, size_items, size_label, size_object, size_optional, size_param, size_row, size_shape, size_start, size_statement}
use Rattle.c_tree.specs.Tree.{Row, Nothing, Then, Expr, Exprs, NoExpr, AndExpr, Shape, Scalar, Unsized, Sized, Initial, Absent, Value, Listed, Object, Declared, Param, Parameter, Declaration, Objects, Prototype, Label, Case, Default, ForStart, NoStart, StartValue, StartDeclaration, Statement, Block, Empty, Evaluate, Marker, If, IfElse, While, Do, For, Switch, Break, Continue, Return, Items, NoItem, AndDeclaration, AndStatement, AndRestriction, AndLabel}
use Rattle.c_tree.specs.declared.size.Size.{Size}
use Rattle.facts_definitions.specs.Most.{bounds_at, declaration_most, expr_most, exprs_most, filling_most, initial_most, items_most, label_most, list_most, objects_most, option_most, params_most, shape_most, start_most, statement_most, times, is_lone_void}
use Rattle.facts_definitions.specs.Starts.{is_always, is_always_or_absent}
use Rattle.types_tree.specs.Tree as typed
use Rattle.types_value.specs.Kinds.{promoted}
use Rattle.types_value.specs.declared.kind.Kind.{Kind}
use Rattle.types_rules.specs.DeclarationRules.{Base, after_object, base_of, is_filled}
use Rattle.types_rules.specs.Scope.{Around, after_row, entered, in_block, unseen, with_loop}
use Rattle.types_rules.specs.StatementRules.{after, after_items, within_for}
use Rattle.types_rules.specs.Types.{count, kind_of}
use Rattle.types_rules.specs.Typing.{and_object, and_param, filling_of, option_at, typed_declaration, typed_initial, typed_items, typed_label, typed_object, typed_option, typed_param, typed_params, typed_row, typed_shape, typed_start, typed_statement, typed_value, value_at, values_at}
use Rattle.plan_forms.specs.Conversions.{AllSingle, DeclarationSingle, FillingSized, InitialSingle, ItemsSingle, ObjectsSingle, OptionSingle, StartSingle, StatementSingle}
use Rattle.plan_forms.specs.Levels.{all_levels, declaration_levels, initial_levels, items_levels, objects_levels, option_levels, start_levels, statement_levels}
use Rattle.plan_formed.proofs.SourceExpressions.{AllNoLarger, NoLarger, converted_part, expr_plain, none}

-- without bounds each loop starts once
no_bounds_max : (number : ℕ) → (bounds_at [] number).max ≡ 0
no_bounds_max number = refl

pub once : (always : Bool) (number x : ℕ) → times always (bounds_at [] number) * x ≡ x
once true number x = one (bounds_at [] number).max x (no_bounds_max number)
  where
    one : (m x : ℕ) → m ≡ 0 → max 1 m * x ≡ x
    one m x e = ap (λ k. max 1 k * x) e ∙ itself x
      where
        itself : (x : ℕ) → 1 * x ≡ x
        itself x = omega arith
once false number x = one (bounds_at [] number).max x (no_bounds_max number)
  where
    one : (m x : ℕ) → m ≡ 0 → max 1 (m + 1) * x ≡ x
    one m x e = ap (λ k. max 1 (k + 1) * x) e ∙ itself x
      where
        itself : (x : ℕ) → 1 * x ≡ x
        itself x = omega arith

value_part : (e : Expr ℕ) (a : Around) → NoLarger (typed_value e a) (size e)
value_part e a = (expr_plain e false a).part

value_at_part : (kind : Kind) (e : Expr ℕ) (a : Around) → NoLarger (value_at kind e a) (size e)
value_at_part kind e a = converted_part (kind_of e a) kind (typed_value e a) (size e) (expr_plain e false a)

values_part : (kind : Kind) (es : Exprs ℕ) (a : Around) (rest : typed.Exprs) (depth nodes : ℕ) → (size_all es).depth ≤ depth → AllSingle rest → all_levels rest ≤ 2 * depth → exprs_most none rest + (size_all es).nodes ≤ nodes → AllNoLarger (values_at kind es a rest) depth nodes
values_part kind NoExpr a rest depth nodes deep single l n = record { single = single; levels_are = l; nodes_are = omega (arith, n) }
values_part kind (AndExpr front last) a rest depth nodes deep single l n =
    let p = value_at_part kind last a in
    values_part kind front a (typed.WithExpr (value_at kind last a) rest) depth nodes (omega (arith, deep)) (p.single, single) (omega (arith, deep, l, p.levels_are)) (omega (arith, n, p.nodes_are))

-- options
pub record OptionNoLarger (e : Option typed.Expr) (s : Size) : Type 0 where
  pub single : OptionSingle e
  pub levels_are : option_levels e ≤ 4 * s.depth
  pub nodes_are : option_most none e ≤ s.nodes

some_part : (e : typed.Expr) (s : Size) → NoLarger e s → OptionNoLarger (Some e) s
some_part e s h = record { single = h.single; levels_are = omega (arith, h.levels_are); nodes_are = h.nodes_are }

none_part : OptionNoLarger None (record { nodes = 0; depth = 0 })
none_part = record { single = tt; levels_are = omega arith; nodes_are = omega arith }

option_part : (o : Option (Expr ℕ)) (a : Around) → OptionNoLarger (typed_option o a) (size_optional o)
option_part None a = none_part
option_part (Some e) a = some_part (typed_value e a) (size e) (value_part e a)

option_at_part : (kind : Kind) (o : Option (Expr ℕ)) (a : Around) → OptionNoLarger (option_at kind o a) (size_optional o)
option_at_part kind None a = none_part
option_at_part kind (Some e) a = some_part (value_at kind e a) (size e) (value_at_part kind e a)

-- objects
shape_nodes : (shape : Shape ℕ) (a : Around) → shape_most none (typed_shape shape a) ≤ (size_shape shape).nodes
shape_nodes Scalar a = omega arith
shape_nodes Unsized a = omega arith
shape_nodes (Sized e) a = (value_part e a).nodes_are

pub record InitialNoLarger (initial : typed.Initial) (s : Size) : Type 0 where
  pub single : InitialSingle initial
  pub levels_are : initial_levels initial ≤ 4 * s.depth
  pub nodes_are : initial_most [] none initial ≤ s.nodes

no_filling : (filling : Option ℕ) → filling_most [] filling ≡ 0
no_filling None = refl
no_filling (Some number) = ap (λ m. 2 * m) (no_bounds_max number)

initial_part : (kind : Kind) (filling : Option ℕ) (initial : Initial ℕ) (a : Around) → InitialNoLarger (typed_initial kind filling initial a) (size_initial initial)
initial_part kind filling Absent a = record { single = tt; levels_are = omega arith; nodes_are = omega arith }
initial_part kind filling (Value e) a =
    let p = value_at_part kind e a in
    record { single = p.single; levels_are = omega (arith, p.levels_are); nodes_are = p.nodes_are }
initial_part kind filling (Listed values comma) a =
    let s = size_all values in
    let p = values_part kind values a typed.NoExpr s.depth s.nodes (omega arith) tt (omega arith) (omega arith) in
    record { single = p.single; levels_are = omega (arith, p.levels_are); nodes_are = omega (arith, p.nodes_are, no_filling filling) }

not_less : (n : ℕ) → nat_lt n n ≡ false
not_less n = of (nat_lt n n) refl
  where
    of : (b : Bool) → nat_lt n n ≡ b → nat_lt n n ≡ false
    of false e = e
    of true e = absurd (itself n (ltb-true n n e))
      where
        itself : (n : ℕ) → n < n → ⊥
        itself n lt = omega (arith, lt)

both_false : (b : Bool) → (b && false) ≡ false
both_false true = refl
both_false false = refl

-- what is filled has a written size
filling_sized : (kind : Kind) (shape : Shape ℕ) (initial : Initial ℕ) (a b : Around) → FillingSized (typed_shape shape a) (typed_initial kind (filling_of (is_filled shape initial a) a.loops) initial b)
filling_sized kind shape Absent a b = tt
filling_sized kind shape (Value e) a b = tt
filling_sized kind Scalar (Listed values comma) a b =
    subst (λ f. FillingSized typed.Single (typed_initial kind (filling_of (f && nat_lt (count values) 1) a.loops) (Listed values comma) b)) (sym (both_false (in_block a))) tt
filling_sized kind Unsized (Listed values comma) a b =
    subst (λ f. FillingSized typed.Unsized (typed_initial kind (filling_of ((in_block a && true) && f) a.loops) (Listed values comma) b)) (sym (not_less (count values)))
    (subst (λ f. FillingSized typed.Unsized (typed_initial kind (filling_of f a.loops) (Listed values comma) b)) (sym (both_false (in_block a && true))) tt)
filling_sized kind (Sized e) (Listed values comma) a b = of (is_filled (Sized e) (Listed values comma) a)
  where
    of : (f : Bool) → FillingSized (typed.Sized (typed_value e a)) (typed_initial kind (filling_of f a.loops) (Listed values comma) b)
    of true = tt
    of false = tt

-- objects, before others
pub record ObjectsNoLarger (objects : List typed.Object) (depth nodes : ℕ) : Type 0 where
  pub single : ObjectsSingle objects
  pub levels_are : objects_levels objects ≤ 4 * depth
  pub nodes_are : objects_most [] none objects ≤ nodes

objects_part : (base : Base) (objects : Row (Object ℕ)) (a : Around) (rest : List typed.Object) (depth nodes : ℕ) → (size_row size_object objects).depth ≤ depth → ObjectsSingle rest → objects_levels rest ≤ 4 * depth → objects_most [] none rest + (size_row size_object objects).nodes ≤ nodes →
    ObjectsNoLarger (typed_row (after_object base) (and_object base) objects a rest) depth nodes
objects_part base Nothing a rest depth nodes deep single l n = record { single = single; levels_are = l; nodes_are = omega (arith, n) }
objects_part base (Then front (Declared name shape initial at)) a rest depth nodes deep single l n =
    let b = after_row (after_object base) front a in
    let behind = after_object base (Declared name shape initial at) b in
    let filling = filling_of (is_filled shape initial b) b.loops in
    let p = initial_part base.kind filling initial behind in
    objects_part base front a (typed_object base (Declared name shape initial at) b ∷ rest) depth nodes (omega (arith, deep))
    (p.single, single, filling_sized base.kind shape initial b behind) (omega (arith, deep, l, p.levels_are)) (omega (arith, n, p.nodes_are, shape_nodes shape b))

params_nodes : (params : Row (Param ℕ)) (a : Around) (rest : List typed.Param) → params_most none (typed_row unseen and_param params a rest) ≤ (size_row size_param params).nodes + params_most none rest
params_nodes Nothing a rest = omega arith
params_nodes (Then front (Parameter specifiers name shape at)) a rest =
    let b = after_row unseen front a in
    omega (arith, params_nodes front a (typed_param b (Parameter specifiers name shape at) ∷ rest), shape_nodes shape b)

list_nodes : (params : List typed.Param) → list_most none params ≤ params_most none params
list_nodes [] = omega arith
list_nodes (typed.Parameter specifiers name shape at ∷ []) = of (is_lone_void (typed.Parameter specifiers name shape at))
  where
    of : (b : Bool) → (if b then 0 else params_most none (typed.Parameter specifiers name shape at ∷ [])) ≤ params_most none (typed.Parameter specifiers name shape at ∷ [])
    of true = omega arith
    of false = omega arith
list_nodes (first ∷ second ∷ rest) = omega arith

pub typed_params_nodes : (params : Row (Param ℕ)) (a : Around) → list_most none (typed_params params a) ≤ (size_row size_param params).nodes
typed_params_nodes params a = omega (arith, list_nodes (typed_params params a), params_nodes params a [])

pub record DeclarationNoLarger (declaration : typed.Declaration) (s : Size) : Type 0 where
  pub single : DeclarationSingle declaration
  pub levels_are : declaration_levels declaration ≤ 4 * s.depth
  pub nodes_are : declaration_most [] none declaration ≤ s.nodes

declaration_part : (declaration : Declaration ℕ) (a : Around) → DeclarationNoLarger (typed_declaration declaration a) (size_declaration declaration)
declaration_part (Objects specifiers objects at) a =
    let s = size_row size_object objects in
    let p = objects_part (base_of specifiers) objects a [] s.depth s.nodes (omega arith) tt (omega arith) (omega arith) in
    record { single = p.single; levels_are = omega (arith, p.levels_are); nodes_are = omega (arith, p.nodes_are) }
declaration_part (Prototype specifiers name params at) a = record { single = tt; levels_are = omega arith; nodes_are = omega (arith, typed_params_nodes params a) }

label_nodes : (label : Label ℕ) (a : Around) → label_most none (typed_label label a) ≤ (size_label label).nodes
label_nodes (Case value at) a = omega (arith, (value_part value a).nodes_are)
label_nodes (Default at) a = omega arith

pub record StartNoLarger (start : typed.ForStart) (s : Size) : Type 0 where
  pub single : StartSingle start
  pub levels_are : start_levels start ≤ 4 * s.depth
  pub nodes_are : start_most [] none start ≤ s.nodes

start_part : (start : ForStart ℕ) (a : Around) → StartNoLarger (typed_start start a) (size_start start)
start_part NoStart a = record { single = tt; levels_are = omega arith; nodes_are = omega arith }
start_part (StartValue e) a = let p = value_part e a in record { single = p.single; levels_are = omega (arith, p.levels_are); nodes_are = p.nodes_are }
start_part (StartDeclaration declaration) a = let p = declaration_part declaration a in record { single = p.single; levels_are = p.levels_are; nodes_are = p.nodes_are }

-- statements
pub record StatementNoLarger (statement : typed.Statement) (s : Size) : Type 0 where
  pub single : StatementSingle statement
  pub levels_are : statement_levels statement ≤ 4 * s.depth
  pub nodes_are : statement_most [] none statement ≤ s.nodes

pub record ItemsNoLarger (items : typed.Items) (depth nodes : ℕ) : Type 0 where
  pub single : ItemsSingle items
  pub levels_are : items_levels items ≤ 4 * depth
  pub nodes_are : items_most [] none items ≤ nodes

mutual
  pub statement_part : (result : Kind) (s : Statement ℕ) (a : Around) → StatementNoLarger (typed_statement result s a) (size_statement s)
  statement_part result (Block items at) a = let p = items_part result items (entered a) typed.NoItem (size_items items).depth (size_items items).nodes (omega arith) tt (omega arith) (omega arith) in record { single = p.single; levels_are = omega (arith, p.levels_are); nodes_are = omega (arith, p.nodes_are) }
  statement_part result (Empty at) a = record { single = tt; levels_are = omega arith; nodes_are = omega arith }
  statement_part result (Evaluate e at) a = let p = value_part e a in record { single = p.single; levels_are = omega (arith, p.levels_are); nodes_are = omega (arith, p.nodes_are) }
  statement_part result (Marker pragma) a = record { single = tt; levels_are = omega arith; nodes_are = omega arith }
  statement_part result (If test first at) a =
      let p = value_part test a in
      let q = statement_part result first a in
      record { single = (p.single, q.single); levels_are = omega (arith, p.levels_are, q.levels_are); nodes_are = omega (arith, p.nodes_are, q.nodes_are) }
  statement_part result (IfElse test first second at) a =
      let p = value_part test a in
      let q = statement_part result first a in
      let r = statement_part result second (after first a) in
      record { single = (p.single, q.single, r.single); levels_are = omega (arith, p.levels_are, q.levels_are, r.levels_are); nodes_are = omega (arith, p.nodes_are, q.nodes_are, r.nodes_are) }
  statement_part result (While bound test body at) a =
      let p = value_part test (with_loop a) in
      let q = statement_part result body (with_loop a) in
      let t = typed_value test (with_loop a) in
      record { single = (p.single, q.single); levels_are = omega (arith, p.levels_are, q.levels_are); nodes_are = omega (arith, p.nodes_are, q.nodes_are, once (is_always t) (a.loops + 1) (expr_most none t + statement_most [] none (typed_statement result body (with_loop a)))) }
  statement_part result (Do bound body test at) a =
      let q = statement_part result body (with_loop a) in
      let p = value_part test (after body (with_loop a)) in
      let t = typed_value test (after body (with_loop a)) in
      record { single = (q.single, p.single); levels_are = omega (arith, p.levels_are, q.levels_are); nodes_are = omega (arith, p.nodes_are, q.nodes_are, once true (a.loops + 1) (expr_most none t + statement_most [] none (typed_statement result body (with_loop a)))) }
  statement_part result (For bound start test step body at) a =
      let within = within_for start a in
      let p = start_part start (with_loop (entered a)) in
      let q = option_part test within in
      let r = option_part step within in
      let b = statement_part result body within in
      record {
        single = (p.single, q.single, r.single, b.single);
        levels_are = omega (arith, p.levels_are, q.levels_are, r.levels_are, b.levels_are);
        nodes_are = omega (arith, p.nodes_are, q.nodes_are, r.nodes_are, b.nodes_are, once (is_always_or_absent (typed_option test within)) (a.loops + 1) (option_most none (typed_option test within) + (option_most none (typed_option step within) + statement_most [] none (typed_statement result body within))));
      }
  statement_part result (Switch test items at) a =
      let p = value_at_part (promoted (kind_of test a)) test a in
      let q = items_part result items (entered a) typed.NoItem (size_items items).depth (size_items items).nodes (omega arith) tt (omega arith) (omega arith) in
      record { single = (p.single, q.single); levels_are = omega (arith, p.levels_are, q.levels_are); nodes_are = omega (arith, p.nodes_are, q.nodes_are) }
  statement_part result (Break at) a = record { single = tt; levels_are = omega arith; nodes_are = omega arith }
  statement_part result (Continue at) a = record { single = tt; levels_are = omega arith; nodes_are = omega arith }
  statement_part result (Return value at) a = let p = option_at_part result value a in record { single = p.single; levels_are = omega (arith, p.levels_are); nodes_are = omega (arith, p.nodes_are) }

  -- items before others
  items_part : (result : Kind) (items : Items ℕ) (a : Around) (rest : typed.Items) (depth nodes : ℕ) → (size_items items).depth ≤ depth → ItemsSingle rest → items_levels rest ≤ 4 * depth → items_most [] none rest + (size_items items).nodes ≤ nodes → ItemsNoLarger (typed_items result items a rest) depth nodes
  items_part result NoItem a rest depth nodes deep single l n = record { single = single; levels_are = l; nodes_are = omega (arith, n) }
  items_part result (AndDeclaration front declaration) a rest depth nodes deep single l n =
      let b = after_items front a in
      let p = declaration_part declaration b in
      items_part result front a (typed.WithDeclaration (typed_declaration declaration b) rest) depth nodes (omega (arith, deep)) (p.single, single) (omega (arith, deep, l, p.levels_are)) (omega (arith, n, p.nodes_are))
  items_part result (AndStatement front statement) a rest depth nodes deep single l n =
      let b = after_items front a in
      let p = statement_part result statement b in
      items_part result front a (typed.WithStatement (typed_statement result statement b) rest) depth nodes (omega (arith, deep)) (p.single, single) (omega (arith, deep, l, p.levels_are)) (omega (arith, n, p.nodes_are))
  items_part result (AndRestriction front pragma) a rest depth nodes deep single l n =
      items_part result front a (typed.WithRestriction pragma rest) depth nodes (omega (arith, deep)) single l (omega (arith, n))
  items_part result (AndLabel front label) a rest depth nodes deep single l n =
      let b = after_items front a in
      items_part result front a (typed.WithLabel (typed_label label b) rest) depth nodes (omega (arith, deep)) single l (omega (arith, n, label_nodes label b))

pub block_part : (result : Kind) (items : Items ℕ) (a : Around) → ItemsNoLarger (typed_items result items a typed.NoItem) (size_items items).depth (size_items items).nodes
block_part result items a = items_part result items a typed.NoItem (size_items items).depth (size_items items).nodes (omega arith) tt (omega arith) (omega arith)
