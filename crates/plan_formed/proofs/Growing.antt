-- Objects of a unit that passes: arrays have elements of a type with bytes, and functions begin one behind the other.
use Rattle.std.proofs.Common.{◌≡◌, ℕ, ◌+◌, ◌≤◌, Bool, true, false, List, [], ◌∷◌, ◌++◌, length, Some, None, refl, sym, ap, subst, arith, length-append}
use Rattle.std.specs.Prelude.{◌&&◌, ◌||◌, not, if◌then◌else◌, is_some}
use Rattle.std.proofs.lemmas.Bool.{or_parts}
use Rattle.c_tree.specs.Tree.{Row, Nothing, Then, Shape, Scalar, Unsized, Sized, Initial, Object, Declared, Param, Parameter, Declaration, Objects, Prototype, ForStart, NoStart, StartValue, StartDeclaration, Statement, Block, Empty, Evaluate, Marker, If, IfElse, While, Do, For, Switch, Break, Continue, Return, Items, NoItem, AndDeclaration, AndStatement, AndRestriction, AndLabel, External, Restriction, Declaring, Function}
use Rattle.types_tree.specs.Tree as typed
use Rattle.types_tree.specs.declared.variable.Extent.{Extent}
use Rattle.types_tree.specs.declared.variable.Variable.{Variable}
use Rattle.types_value.specs.Kinds.{is_void}
use Rattle.types_value.specs.declared.kind.Kind.{Kind}
use Rattle.types_rules.specs.DeclarationRules.{Base, after_declaration, after_list, after_object, after_param, after_params, base_of, extent_of, has_bad_size, has_no_constant_size, has_no_constant_value, has_void_value, has_wrong_initial, is_filled, is_no_list, param_extent, with_filling, within_function}
use Rattle.types_rules.specs.ExpressionRules.{when}
use Rattle.types_rules.specs.Scope.{Around, after_row, duration_in, entered, found_here, in_block, or_else, with_loop, with_object}
use Rattle.types_rules.specs.Sights.{Node, SeenDeclaration, SeenFunction, SeenObject, SeenStatement, after_external, body_around, declaration_nodes, external_nodes, externals_nodes, first_fault, initial_nodes, items_nodes, label_nodes, object_nodes, objects_nodes, option_nodes, params_nodes, row_nodes, shape_nodes, start_nodes, statement_nodes, value_nodes}
use Rattle.types_rules.specs.Specifiers.{is_const, kind_spelled}
use Rattle.types_rules.specs.StatementRules.{Within, after, after_items, after_start, in_function, in_loop, in_switch, within_for}
use Rattle.types_rules.specs.Typing.{typed_function, typed_row}
use Rattle.types_rules.specs.declared.fault.Rule.TheVariants as rules
use Rattle.plan_definition.specs.Programs.{end_of}
use Rattle.plan_formed.proofs.Faults.{behind_passes, front_passes, no_first, no_second, rest_of, rule_of, when_none}
use Rattle.plan_formed.specs.Memory.{AllSolid, Rise, SolidBy}

-- from before some parts to behind them: no object goes, and those that come are solid
pub record Grows (a b : Around) : Type 0 where
  pub more : length a.variables ≤ length b.variables
  pub solid : AllSolid a.variables → AllSolid b.variables

stays : (a b : Around) → b.variables ≡ a.variables → Grows a b
stays a b e = record { more = same (length a.variables) (length b.variables) (ap length e); solid = λ h. subst AllSolid (sym e) h }
  where
    same : (x y : ℕ) → y ≡ x → x ≤ y
    same x y e = omega (arith, e)

then_grows : (a b d : Around) → Grows a b → Grows b d → Grows a d
then_grows a b d f g = record { more = omega (arith, f.more, g.more); solid = λ h. g.solid (f.solid h) }

solid_more : (vs : List Variable) (v : Variable) → AllSolid vs → SolidBy v.extent v.kind → AllSolid (vs ++ v ∷ [])
solid_more [] v h s = (s, tt)
solid_more (w ∷ vs) v h s = (h.0, solid_more vs v h.1 s)

one_grows : (name : ℕ) (kind : Kind) (const : Bool) (extent : Extent) (a : Around) → SolidBy extent kind → Grows a (with_object name kind const extent a)
one_grows name kind const extent a s =
    let v : Variable = record { name = record { 0 = name }; kind = kind; extent = extent; duration = duration_in (in_block a) } in
    record { more = longer (length a.variables) (length (a.variables ++ v ∷ [])) (length-append a.variables (v ∷ [])); solid = λ h. solid_more a.variables v h s }
  where
    longer : (x y : ℕ) → y ≡ x + 1 → x ≤ y
    longer x y e = omega (arith, e)

-- an object at which no rule fails
shape_solid : (shape : Shape ℕ) (initial : Initial ℕ) (kind : Kind) → is_void kind ≡ false → SolidBy (extent_of shape initial) kind
shape_solid Scalar initial kind h = tt
shape_solid Unsized initial kind h = h
shape_solid (Sized size) initial kind h = h

not_void : (base : Base) (name : ℕ) (shape : Shape ℕ) (initial : Initial ℕ) (at : ℕ) (a : Around) (rest : List Node) → first_fault (SeenObject base (Declared name shape initial at) a ∷ rest) ≡ None → is_void base.kind ≡ false
not_void base name shape initial at a rest h =
    let behind = after_object base (Declared name shape initial at) a in
    let void = is_void base.kind || has_void_value initial behind in
    let last = when (has_wrong_initial shape initial base.const a) rules.Initial in
    let sizes = or_else (when (has_bad_size shape initial) rules.Size) (or_else (when void rules.Void) last) in
    let constants = or_else (when (has_no_constant_size shape || (not (in_block a) && has_no_constant_value initial)) rules.Constant) sizes in
    let rule = rule_of (SeenObject base (Declared name shape initial at) a) rest h in
    let one = no_second (when (is_some (found_here name a)) rules.Redeclared) constants rule in
    let two = no_second (when (has_no_constant_size shape || (not (in_block a) && has_no_constant_value initial)) rules.Constant) sizes one in
    let three = no_second (when (has_bad_size shape initial) rules.Size) (or_else (when void rules.Void) last) two in
    (or_parts (is_void base.kind) (has_void_value initial behind) (when_none void rules.Void (no_first (when void rules.Void) last three))).0

filling_grows : (filled : Bool) (a b : Around) → Grows a b → Grows a (with_filling filled b)
filling_grows true a b g = record { more = g.more; solid = g.solid }
filling_grows false a b g = g

object_grows : (base : Base) (object : Object ℕ) (a : Around) → first_fault (object_nodes base object a) ≡ None → Grows a (after_object base object a)
object_grows base (Declared name shape initial at) a h =
    filling_grows (is_filled shape initial a) a (with_object name base.kind base.const (extent_of shape initial) a)
    (one_grows name base.kind base.const (extent_of shape initial) a
    (shape_solid shape initial base.kind (not_void base name shape initial at a (shape_nodes shape a ++ initial_nodes initial (after_object base (Declared name shape initial at) a)) h)))

objects_grow : (base : Base) (objects : Row (Object ℕ)) (a : Around) → first_fault (row_nodes (after_object base) (object_nodes base) objects a) ≡ None → Grows a (after_row (after_object base) objects a)
objects_grow base Nothing a h = stays a a refl
objects_grow base (Then front last) a h =
    let b = after_row (after_object base) front a in
    let xs = row_nodes (after_object base) (object_nodes base) front a in
    let ys = object_nodes base last b in
    then_grows a b (after_object base last b) (objects_grow base front a (front_passes xs ys h)) (object_grows base last b (behind_passes xs ys h))

declaration_grows : (declaration : Declaration ℕ) (a : Around) → first_fault (declaration_nodes declaration a) ≡ None → Grows a (after_declaration declaration a)
declaration_grows (Objects specifiers objects at) a h = objects_grow (base_of specifiers) objects a (rest_of (SeenDeclaration (Objects specifiers objects at) a) (objects_nodes (base_of specifiers) objects a) h)
declaration_grows (Prototype specifiers name params at) a h = stays a (after_declaration (Prototype specifiers name params at) a) refl

start_grows : (start : ForStart ℕ) (a : Around) → first_fault (start_nodes start a) ≡ None → Grows a (after_start start a)
start_grows NoStart a h = stays a a refl
start_grows (StartValue e) a h = stays a a refl
start_grows (StartDeclaration declaration) a h = declaration_grows declaration a h

mutual
  statement_grows : (s : Statement ℕ) (a : Around) (w : Within) → first_fault (statement_nodes s a w) ≡ None → Grows a (after s a)
  statement_grows (Block items at) a w h = let g = items_grow items (entered a) w (rest_of (SeenStatement (Block items at) a w) (items_nodes items (entered a) w) h) in record { more = g.more; solid = g.solid }
  statement_grows (Empty at) a w h = stays a a refl
  statement_grows (Evaluate e at) a w h = stays a a refl
  statement_grows (Marker pragma) a w h = stays a (after (Marker pragma) a) refl
  statement_grows (If test first at) a w h =
      statement_grows first a w (behind_passes (value_nodes test a) (statement_nodes first a w) (rest_of (SeenStatement (If test first at) a w) (value_nodes test a ++ statement_nodes first a w) h))
  statement_grows (IfElse test first second at) a w h =
      let b = after first a in
      let xs = statement_nodes first a w in
      let ys = statement_nodes second b w in
      let both = behind_passes (value_nodes test a) (xs ++ ys) (rest_of (SeenStatement (IfElse test first second at) a w) (value_nodes test a ++ (xs ++ ys)) h) in
      then_grows a b (after second b) (statement_grows first a w (front_passes xs ys both)) (statement_grows second b w (behind_passes xs ys both))
  statement_grows (While bound test body at) a w h =
      let xs = value_nodes test (with_loop a) in
      let ys = statement_nodes body (with_loop a) (in_loop w) in
      let g = statement_grows body (with_loop a) (in_loop w) (behind_passes xs ys (rest_of (SeenStatement (While bound test body at) a w) (xs ++ ys) h)) in
      record { more = g.more; solid = g.solid }
  statement_grows (Do bound body test at) a w h =
      let xs = statement_nodes body (with_loop a) (in_loop w) in
      let ys = value_nodes test (after body (with_loop a)) in
      let g = statement_grows body (with_loop a) (in_loop w) (front_passes xs ys (rest_of (SeenStatement (Do bound body test at) a w) (xs ++ ys) h)) in
      record { more = g.more; solid = g.solid }
  statement_grows (For bound start test step body at) a w h =
      let inside = with_loop (entered a) in
      let within = within_for start a in
      let ss = start_nodes start inside in
      let ts = option_nodes test within in
      let us = option_nodes step within in
      let bs = statement_nodes body within (in_loop w) in
      let all = rest_of (SeenStatement (For bound start test step body at) a w) (ss ++ (ts ++ (us ++ bs))) h in
      let g = then_grows inside within (after body within) (start_grows start inside (front_passes ss (ts ++ (us ++ bs)) all)) (statement_grows body within (in_loop w) (behind_passes us bs (behind_passes ts (us ++ bs) (behind_passes ss (ts ++ (us ++ bs)) all)))) in
      record { more = g.more; solid = g.solid }
  statement_grows (Switch test items at) a w h =
      let xs = value_nodes test a in
      let ys = items_nodes items (entered a) (in_switch w) in
      let g = items_grow items (entered a) (in_switch w) (behind_passes xs ys (rest_of (SeenStatement (Switch test items at) a w) (xs ++ ys) h)) in
      record { more = g.more; solid = g.solid }
  statement_grows (Break at) a w h = stays a a refl
  statement_grows (Continue at) a w h = stays a a refl
  statement_grows (Return value at) a w h = stays a a refl

  items_grow : (items : Items ℕ) (a : Around) (w : Within) → first_fault (items_nodes items a w) ≡ None → Grows a (after_items items a)
  items_grow NoItem a w h = stays a a refl
  items_grow (AndDeclaration front declaration) a w h =
      let b = after_items front a in
      let xs = items_nodes front a w in
      let ys = declaration_nodes declaration b in
      then_grows a b (after_declaration declaration b) (items_grow front a w (front_passes xs ys h)) (declaration_grows declaration b (behind_passes xs ys h))
  items_grow (AndStatement front statement) a w h =
      let b = after_items front a in
      let xs = items_nodes front a w in
      let ys = statement_nodes statement b w in
      then_grows a b (after statement b) (items_grow front a w (front_passes xs ys h)) (statement_grows statement b w (behind_passes xs ys h))
  items_grow (AndRestriction front pragma) a w h = items_grow front a w h
  items_grow (AndLabel front label) a w h = items_grow front a w (front_passes (items_nodes front a w) (label_nodes label front (after_items front a)) h)

-- functions and file level
param_solid : (shape : Shape ℕ) (kind : Kind) → SolidBy (param_extent shape) kind
param_solid Scalar kind = tt
param_solid Unsized kind = tt
param_solid (Sized size) kind = tt

params_grow : (params : Row (Param ℕ)) (a : Around) → Grows a (after_params params a)
params_grow Nothing a = stays a a refl
params_grow (Then front (Parameter specifiers None shape at)) a = params_grow front a
params_grow (Then front (Parameter specifiers (Some name) shape at)) a =
    let b = after_params front a in
    then_grows a b (after_param (Parameter specifiers (Some name) shape at) b) (params_grow front a) (one_grows name (kind_spelled specifiers) (is_const specifiers) (param_extent shape) b (param_solid shape (kind_spelled specifiers)))

list_grows : (params : Row (Param ℕ)) (a : Around) → Grows a (after_list params a)
list_grows params a = of (is_no_list params)
  where
    of : (b : Bool) → Grows a (if b then a else after_params params a)
    of true = stays a a refl
    of false = params_grow params a

external_grows : (external : External ℕ) (a : Around) → first_fault (external_nodes external a) ≡ None → Grows a (after_external external a)
external_grows (Restriction pragma) a h = stays a a refl
external_grows (Declaring declaration) a h = declaration_grows declaration a h
external_grows (Function specifiers name name_at params body body_at at) a h =
    let within = within_function specifiers name params a in
    let inside = body_around specifiers name params a in
    let own = if is_no_list params then [] else params_nodes params within in
    let nodes = items_nodes body inside (in_function (kind_spelled specifiers)) in
    let f = list_grows params within in
    let g = items_grow body inside (in_function (kind_spelled specifiers)) (behind_passes own nodes (rest_of (SeenFunction specifiers name params at a) (own ++ nodes) h)) in
    record { more = omega (arith, f.more, g.more); solid = λ s. g.solid (f.solid s) }

pub externals_grow : (items : Row (External ℕ)) (a : Around) → first_fault (externals_nodes items a) ≡ None → Grows a (after_row after_external items a)
externals_grow Nothing a h = stays a a refl
externals_grow (Then front last) a h =
    let b = after_row after_external front a in
    let xs = externals_nodes front a in
    let ys = external_nodes last b in
    then_grows a b (after_external last b) (externals_grow front a (front_passes xs ys h)) (external_grows last b (behind_passes xs ys h))

-- functions begin one behind the other, before others that begin behind these parts
pub functions_rise : (items : Row (External ℕ)) (a : Around) (rest : List typed.Function) (all : ℕ) → first_fault (externals_nodes items a) ≡ None → length (after_row after_external items a).variables ≤ end_of rest all → Rise all rest → Rise all (typed_row after_external typed_function items a rest)
functions_rise Nothing a rest all h le r = r
functions_rise (Then front (Restriction pragma)) a rest all h le r =
    functions_rise front a rest all (front_passes (externals_nodes front a) (external_nodes (Restriction pragma) (after_row after_external front a)) h) le r
functions_rise (Then front (Declaring declaration)) a rest all h le r =
    let b = after_row after_external front a in
    let xs = externals_nodes front a in
    let ys = external_nodes (Declaring declaration) b in
    functions_rise front a rest all (front_passes xs ys h) (omega (arith, le, (external_grows (Declaring declaration) b (behind_passes xs ys h)).more)) r
functions_rise (Then front (Function specifiers name name_at params body body_at at)) a rest all h le r =
    let b = after_row after_external front a in
    let f = Function specifiers name name_at params body body_at at in
    let xs = externals_nodes front a in
    let ys = external_nodes f b in
    functions_rise front a (typed_function f b rest) all (front_passes xs ys h) (itself (length b.variables)) (omega (arith, le, (external_grows f b (behind_passes xs ys h)).more), r)
  where
    itself : (n : ℕ) → n ≤ n
    itself n = omega arith
