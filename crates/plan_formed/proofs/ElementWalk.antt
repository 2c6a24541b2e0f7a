-- What holds of each object at which no rule fails, and of each parameter, holds of all objects of a unit that passes.
use Rattle.std.proofs.Common.{◌≡◌, ℕ, Bool, true, false, List, [], ◌∷◌, ◌++◌, Some, None, All}
use Rattle.std.specs.Prelude.{if◌then◌else◌}
use Rattle.std.proofs.lemmas.List.Elements.{All-append, All-cons, All-nil}
use Rattle.c_tree.specs.Tree.{Row, Nothing, Then, Shape, Initial, Object, Declared, Param, Parameter, Declaration, Objects, Prototype, ForStart, NoStart, StartValue, StartDeclaration, Statement, Block, Empty, Evaluate, Marker, If, IfElse, While, Do, For, Switch, Break, Continue, Return, Items, NoItem, AndDeclaration, AndStatement, AndRestriction, AndLabel, External, Restriction, Declaring, Function}
use Rattle.types_tree.specs.declared.variable.Extent.{Extent}
use Rattle.types_tree.specs.declared.variable.Variable.{Variable}
use Rattle.types_value.specs.declared.kind.Kind.{Kind}
use Rattle.types_rules.specs.DeclarationRules.{Base, after_declaration, after_list, after_object, after_params, base_of, extent_of, is_filled, is_no_list, param_extent, with_filling, within_function}
use Rattle.types_rules.specs.Scope.{Around, after_row, duration_in, entered, in_block, with_loop, with_object}
use Rattle.types_rules.specs.Sights.{Node, SeenDeclaration, SeenFunction, SeenObject, SeenStatement, after_external, body_around, declaration_nodes, external_nodes, externals_nodes, first_fault, initial_nodes, items_nodes, label_nodes, object_nodes, objects_nodes, option_nodes, params_nodes, row_nodes, shape_nodes, start_nodes, statement_nodes, value_nodes}
use Rattle.types_rules.specs.Specifiers.{is_const, kind_spelled}
use Rattle.types_rules.specs.StatementRules.{Within, after, after_items, after_start, in_function, in_loop, in_switch, within_for}
use Rattle.plan_formed.proofs.Faults.{behind_passes, front_passes, rest_of}

-- what is declared of an object
abbrev pub variable : ℕ → Kind → Extent → Around → Variable
variable name kind extent a = record { name = record { 0 = name }; kind = kind; extent = extent; duration = duration_in (in_block a) }

-- an object that passes, or a parameter
abbrev pub OfObjects : (Variable → Type 0) → Type 0
OfObjects P =
    (base : Base) (name : ℕ) (shape : Shape ℕ) (initial : Initial ℕ) (at : ℕ) (a : Around) (rest : List Node) → first_fault (SeenObject base (Declared name shape initial at) a ∷ rest) ≡ None
    → P (variable name base.kind (extent_of shape initial) a)

abbrev pub OfParameters : (Variable → Type 0) → Type 0
OfParameters P = (name : ℕ) (kind : Kind) (shape : Shape ℕ) (a : Around) → P (variable name kind (param_extent shape) a)

module _ (P : Variable → Type 0) (of_object : OfObjects P) (of_parameter : OfParameters P) where
  -- what holds of all objects before some parts holds of all behind them
  abbrev Keeps : Around → Around → Type 0
  Keeps a b = All P a.variables → All P b.variables

  one_more : (name : ℕ) (kind : Kind) (const : Bool) (extent : Extent) (a : Around) → P (variable name kind extent a) → Keeps a (with_object name kind const extent a)
  one_more name kind const extent a p h = All-append P a.variables (variable name kind extent a ∷ []) h (All-cons P (variable name kind extent a) [] p (All-nil P))

  filling_keeps : (filled : Bool) (a b : Around) → Keeps a b → Keeps a (with_filling filled b)
  filling_keeps true a b k = k
  filling_keeps false a b k = k

  object_keeps : (base : Base) (object : Object ℕ) (a : Around) → first_fault (object_nodes base object a) ≡ None → Keeps a (after_object base object a)
  object_keeps base (Declared name shape initial at) a h =
      filling_keeps (is_filled shape initial a) a (with_object name base.kind base.const (extent_of shape initial) a)
      (one_more name base.kind base.const (extent_of shape initial) a (of_object base name shape initial at a (shape_nodes shape a ++ initial_nodes initial (after_object base (Declared name shape initial at) a)) h))

  objects_keep : (base : Base) (objects : Row (Object ℕ)) (a : Around) → first_fault (row_nodes (after_object base) (object_nodes base) objects a) ≡ None → Keeps a (after_row (after_object base) objects a)
  objects_keep base Nothing a h all = all
  objects_keep base (Then front last) a h all =
      let b = after_row (after_object base) front a in
      let xs = row_nodes (after_object base) (object_nodes base) front a in
      let ys = object_nodes base last b in
      object_keeps base last b (behind_passes xs ys h) (objects_keep base front a (front_passes xs ys h) all)

  declaration_keeps : (declaration : Declaration ℕ) (a : Around) → first_fault (declaration_nodes declaration a) ≡ None → Keeps a (after_declaration declaration a)
  declaration_keeps (Objects specifiers objects at) a h all = objects_keep (base_of specifiers) objects a (rest_of (SeenDeclaration (Objects specifiers objects at) a) (objects_nodes (base_of specifiers) objects a) h) all
  declaration_keeps (Prototype specifiers name params at) a h all = all

  start_keeps : (start : ForStart ℕ) (a : Around) → first_fault (start_nodes start a) ≡ None → Keeps a (after_start start a)
  start_keeps NoStart a h all = all
  start_keeps (StartValue e) a h all = all
  start_keeps (StartDeclaration declaration) a h all = declaration_keeps declaration a h all

  mutual
    statement_keeps : (s : Statement ℕ) (a : Around) (w : Within) → first_fault (statement_nodes s a w) ≡ None → Keeps a (after s a)
    statement_keeps (Block items at) a w h all = items_keep items (entered a) w (rest_of (SeenStatement (Block items at) a w) (items_nodes items (entered a) w) h) all
    statement_keeps (Empty at) a w h all = all
    statement_keeps (Evaluate e at) a w h all = all
    statement_keeps (Marker pragma) a w h all = all
    statement_keeps (If test first at) a w h all =
        statement_keeps first a w (behind_passes (value_nodes test a) (statement_nodes first a w) (rest_of (SeenStatement (If test first at) a w) (value_nodes test a ++ statement_nodes first a w) h)) all
    statement_keeps (IfElse test first second at) a w h all =
        let b = after first a in
        let xs = statement_nodes first a w in
        let ys = statement_nodes second b w in
        let both = behind_passes (value_nodes test a) (xs ++ ys) (rest_of (SeenStatement (IfElse test first second at) a w) (value_nodes test a ++ (xs ++ ys)) h) in
        statement_keeps second b w (behind_passes xs ys both) (statement_keeps first a w (front_passes xs ys both) all)
    statement_keeps (While bound test body at) a w h all =
        let xs = value_nodes test (with_loop a) in
        let ys = statement_nodes body (with_loop a) (in_loop w) in
        statement_keeps body (with_loop a) (in_loop w) (behind_passes xs ys (rest_of (SeenStatement (While bound test body at) a w) (xs ++ ys) h)) all
    statement_keeps (Do bound body test at) a w h all =
        let xs = statement_nodes body (with_loop a) (in_loop w) in
        let ys = value_nodes test (after body (with_loop a)) in
        statement_keeps body (with_loop a) (in_loop w) (front_passes xs ys (rest_of (SeenStatement (Do bound body test at) a w) (xs ++ ys) h)) all
    statement_keeps (For bound start test step body at) a w h all =
        let inside = with_loop (entered a) in
        let within = within_for start a in
        let ss = start_nodes start inside in
        let ts = option_nodes test within in
        let us = option_nodes step within in
        let bs = statement_nodes body within (in_loop w) in
        let nodes = rest_of (SeenStatement (For bound start test step body at) a w) (ss ++ (ts ++ (us ++ bs))) h in
        statement_keeps body within (in_loop w) (behind_passes us bs (behind_passes ts (us ++ bs) (behind_passes ss (ts ++ (us ++ bs)) nodes))) (start_keeps start inside (front_passes ss (ts ++ (us ++ bs)) nodes) all)
    statement_keeps (Switch test items at) a w h all =
        let xs = value_nodes test a in
        let ys = items_nodes items (entered a) (in_switch w) in
        items_keep items (entered a) (in_switch w) (behind_passes xs ys (rest_of (SeenStatement (Switch test items at) a w) (xs ++ ys) h)) all
    statement_keeps (Break at) a w h all = all
    statement_keeps (Continue at) a w h all = all
    statement_keeps (Return value at) a w h all = all

    items_keep : (items : Items ℕ) (a : Around) (w : Within) → first_fault (items_nodes items a w) ≡ None → Keeps a (after_items items a)
    items_keep NoItem a w h all = all
    items_keep (AndDeclaration front declaration) a w h all =
        let b = after_items front a in
        let xs = items_nodes front a w in
        let ys = declaration_nodes declaration b in
        declaration_keeps declaration b (behind_passes xs ys h) (items_keep front a w (front_passes xs ys h) all)
    items_keep (AndStatement front statement) a w h all =
        let b = after_items front a in
        let xs = items_nodes front a w in
        let ys = statement_nodes statement b w in
        statement_keeps statement b w (behind_passes xs ys h) (items_keep front a w (front_passes xs ys h) all)
    items_keep (AndRestriction front pragma) a w h all = items_keep front a w h all
    items_keep (AndLabel front label) a w h all = items_keep front a w (front_passes (items_nodes front a w) (label_nodes label front (after_items front a)) h) all

  -- functions and file level
  params_keep : (params : Row (Param ℕ)) (a : Around) → Keeps a (after_params params a)
  params_keep Nothing a all = all
  params_keep (Then front (Parameter specifiers None shape at)) a all = params_keep front a all
  params_keep (Then front (Parameter specifiers (Some name) shape at)) a all =
      let b = after_params front a in
      one_more name (kind_spelled specifiers) (is_const specifiers) (param_extent shape) b (of_parameter name (kind_spelled specifiers) shape b) (params_keep front a all)

  list_keeps : (params : Row (Param ℕ)) (a : Around) → Keeps a (after_list params a)
  list_keeps params a = of (is_no_list params)
    where
      of : (b : Bool) → Keeps a (if b then a else after_params params a)
      of true all = all
      of false all = params_keep params a all

  external_keeps : (external : External ℕ) (a : Around) → first_fault (external_nodes external a) ≡ None → Keeps a (after_external external a)
  external_keeps (Restriction pragma) a h all = all
  external_keeps (Declaring declaration) a h all = declaration_keeps declaration a h all
  external_keeps (Function specifiers name name_at params body body_at at) a h all =
      let within = within_function specifiers name params a in
      let inside = body_around specifiers name params a in
      let own = if is_no_list params then [] else params_nodes params within in
      let nodes = items_nodes body inside (in_function (kind_spelled specifiers)) in
      items_keep body inside (in_function (kind_spelled specifiers)) (behind_passes own nodes (rest_of (SeenFunction specifiers name params at a) (own ++ nodes) h)) (list_keeps params within all)

  pub externals_keep : (items : Row (External ℕ)) (a : Around) → first_fault (externals_nodes items a) ≡ None → Keeps a (after_row after_external items a)
  externals_keep Nothing a h all = all
  externals_keep (Then front last) a h all =
      let b = after_row after_external front a in
      let xs = externals_nodes front a in
      let ys = external_nodes last b in
      external_keeps last b (behind_passes xs ys h) (externals_keep front a (front_passes xs ys h) all)
