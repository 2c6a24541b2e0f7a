-- What is visible behind parts of a source has grown.
use Rattle.std.proofs.Common.{◌≡◌, refl, ap, ◌∙◌, sym, subst, ℕ, ◌+◌, ◌≤◌, zero, suc, Bool, true, false, if◌then◌else◌, cond, List, [], ◌∷◌, ◌++◌, length, Option, Some, None, nat_eq, arith, length-append}
use Rattle.std.specs.Prelude.{slice_get}
use Rattle.std.specs.Map.{lookup}
use Rattle.std.proofs.lemmas.Option.{none-some}
use Rattle.c_tree.specs.Tree.{Row, Nothing, Then, Object, Declared, Param, Parameter, Declaration, Objects, Prototype, ForStart, NoStart, StartValue, StartDeclaration, Statement, Block, Empty, Evaluate, Marker, If, IfElse, While, Do, For, Switch, Break, Continue, Return, Items, NoItem, AndDeclaration, AndStatement, AndRestriction, AndLabel, External, Restriction, Declaring, Function}
use Rattle.types_tree.specs.declared.variable.Duration.TheVariants.{Automatic}
use Rattle.types_tree.specs.declared.variable.Extent.{Extent}
use Rattle.types_tree.specs.declared.variable.Variable.{Variable}
use Rattle.types_value.specs.declared.kind.Kind.{Kind}
use Rattle.types_rules.specs.DeclarationRules.{Base, after_declaration, after_list, after_object, after_param, after_params, base_of, extent_of, is_filled, is_no_list, param_extent, routine, with_filling, within_function}
use Rattle.types_rules.specs.Scope.{Around, Scope, after_row, duration_in, entered, has_scope, in_block, innermost, left, routine_of, with_definition, with_loop, with_marker, with_object, with_routine, with_type, without_innermost}
use Rattle.types_rules.specs.Sights.{after_external, body_around}
use Rattle.types_rules.specs.Specifiers.{is_const, kind_spelled}
use Rattle.types_rules.specs.StatementRules.{after, after_items, after_start, within_for}
use Rattle.types_rules.specs.declared.scope.Routine.{Routine}
use Rattle.types_seen.specs.Growing.{Beside, Grows, Inside, static_count, statics}

pub slice_get-append : {A : Type 0} (xs ys : List A) (i : ℕ) (x : A) → slice_get xs i ≡ Some x → slice_get (xs ++ ys) i ≡ Some x
slice_get-append [] ys i x e = absurd (none-some x e)
slice_get-append (y ∷ xs) ys zero x e = e
slice_get-append (y ∷ xs) ys (suc i) x e = slice_get-append xs ys i x e

pub slice_get-last : {A : Type 0} (xs : List A) (x : A) → slice_get (xs ++ x ∷ []) (length xs) ≡ Some x
slice_get-last [] x = refl
slice_get-last (y ∷ xs) x = slice_get-last xs x

lookup-append : (name : ℕ) (xs ys : List (ℕ × Routine)) (r : Routine) → lookup (nat_eq name) xs ≡ Some r → lookup (nat_eq name) (xs ++ ys) ≡ Some r
lookup-append name [] ys r e = absurd (none-some r e)
lookup-append name (x ∷ xs) ys r e = of (nat_eq name x.0) (λ h. lookup-append name xs ys r h) e
  where
    of : (b : Bool) → (lookup (nat_eq name) xs ≡ Some r → lookup (nat_eq name) (xs ++ ys) ≡ Some r) → cond b (Some x.1) (lookup (nat_eq name) xs) ≡ Some r → cond b (Some x.1) (lookup (nat_eq name) (xs ++ ys)) ≡ Some r
    of true more e = e
    of false more e = more e

pub statics-append : (xs ys : List Variable) → statics (xs ++ ys) ≡ statics xs + statics ys
statics-append [] ys = omega arith
statics-append (x ∷ xs) ys = let h = statics-append xs ys in omega (arith, h)

pub grows_same : (a b : Around) → b.outline ≡ a.outline → b.variables ≡ a.variables → b.routines ≡ a.routines → Grows a b
grows_same a b o v r = record {
  outline_is = o;
  variables_are = λ i x e. ap (λ xs. slice_get xs i) v ∙ e;
  more = subst (λ xs. length a.variables ≤ length xs) (sym v) (omega arith);
  routines_are = λ name x e. ap (lookup (nat_eq name)) r ∙ e;
}

pub grows_then : (a b c : Around) → Grows a b → Grows b c → Grows a c
grows_then a b c g h = record {
  outline_is = h.outline_is ∙ g.outline_is;
  variables_are = λ i v e. h.variables_are i v (g.variables_are i v e);
  more = let m = g.more in let n = h.more in omega (arith, m, n);
  routines_are = λ name r e. h.routines_are name r (g.routines_are name r e);
}

pub grows_object : (name : ℕ) (kind : Kind) (const : Bool) (extent : Extent) (a : Around) → Grows a (with_object name kind const extent a)
grows_object name kind const extent a = record {
  outline_is = refl;
  variables_are = λ i v e. slice_get-append a.variables (record { name = record { 0 = name }; kind = kind; extent = extent; duration = duration_in (in_block a) } ∷ []) i v e;
  more =
      let h = length-append a.variables (record { name = record { 0 = name }; kind = kind; extent = extent; duration = duration_in (in_block a) } ∷ []) in
      omega (arith, h);
  routines_are = λ n r e. e;
}

with_type-keeps : (o : Option Routine) (name : ℕ) (t : Routine) (n : ℕ) (r : Routine) (routines : List (ℕ × Routine)) → lookup (nat_eq n) routines ≡ Some r → lookup (nat_eq n) (with_type o name t routines) ≡ Some r
with_type-keeps None name t n r routines e = lookup-append n routines ((name, t) ∷ []) r e
with_type-keeps (Some known) name t n r routines e = e

pub grows_routine : (name : ℕ) (t : Routine) (a : Around) → Grows a (with_routine name t a)
grows_routine name t a = record {
  outline_is = refl;
  variables_are = λ i v e. e;
  more = omega arith;
  routines_are = λ n r e. with_type-keeps (routine_of name a) name t n r a.routines e;
}

grows_filling : (b : Bool) (a : Around) → Grows a (with_filling b a)
grows_filling true a = grows_same a (with_loop a) refl refl refl
grows_filling false a = grows_same a a refl refl refl

pub grows_declared : (base : Base) (o : Object ℕ) (a : Around) → Grows a (after_object base o a)
grows_declared base (Declared name shape initial at) a =
    let b = with_object name base.kind base.const (extent_of shape initial) a in
    grows_then a b (with_filling (is_filled shape initial a) b) (grows_object name base.kind base.const (extent_of shape initial) a) (grows_filling (is_filled shape initial a) b)

-- behind a row of parts
pub row_grows : {B : Type 0} (step : B → Around → Around) → ((x : B) (a : Around) → Grows a (step x a)) → (xs : Row B) (a : Around) → Grows a (after_row step xs a)
row_grows step g Nothing a = grows_same a a refl refl refl
row_grows step g (Then front last) a = grows_then a (after_row step front a) (step last (after_row step front a)) (row_grows step g front a) (g last (after_row step front a))

pub declaration_grows : (d : Declaration ℕ) (a : Around) → Grows a (after_declaration d a)
declaration_grows (Objects specifiers objects at) a = row_grows (after_object (base_of specifiers)) (grows_declared (base_of specifiers)) objects a
declaration_grows (Prototype specifiers name params at) a = grows_routine name (routine specifiers params) a

-- scopes
pub innermost-push : (scopes : List Scope) (scope : Scope) → innermost (scopes ++ scope ∷ []) ≡ scope
innermost-push [] scope = refl
innermost-push (x ∷ []) scope = refl
innermost-push (x ∷ y ∷ rest) scope = innermost-push (y ∷ rest) scope

pub without_innermost-push : (scopes : List Scope) (scope : Scope) → without_innermost (scopes ++ scope ∷ []) ≡ scopes
without_innermost-push [] scope = refl
without_innermost-push (x ∷ []) scope = refl
without_innermost-push (x ∷ y ∷ rest) scope = ap (λ more. x ∷ more) (without_innermost-push (y ∷ rest) scope)

pub in_entered : (a : Around) → in_block (entered a) ≡ true
in_entered a = of a.outer
  where
    of : (outer : List Scope) → has_scope (outer ++ a.scope ∷ []) ≡ true
    of [] = refl
    of (x ∷ rest) = refl

pub in_same : (a b : Around) → b.outer ≡ a.outer → in_block a ≡ true → in_block b ≡ true
in_same a b e h = ap has_scope e ∙ h

inside_same : (a b : Around) → b.outline ≡ a.outline → b.variables ≡ a.variables → b.routines ≡ a.routines → b.outer ≡ a.outer → b.defined ≡ a.defined → Inside a b
inside_same a b o v r e d = record { grows = grows_same a b o v r; outer_is = e; defined_is = d; statics_are = ap statics v }

pub inside_then : (a b c : Around) → Inside a b → Inside b c → Inside a c
inside_then a b c g h = record { grows = grows_then a b c g.grows h.grows; outer_is = h.outer_is ∙ g.outer_is; defined_is = h.defined_is ∙ g.defined_is; statics_are = h.statics_are ∙ g.statics_are }

no_static : (a : Around) (v : Variable) → v.duration ≡ Automatic → statics (a.variables ++ v ∷ []) ≡ statics a.variables
no_static a v e =
    let h = statics-append a.variables (v ∷ []) in
    let n : static_count v.duration ≡ 0 = ap static_count e in
    omega (arith, h, n)

pub inside_object : (name : ℕ) (kind : Kind) (const : Bool) (extent : Extent) (a : Around) → in_block a ≡ true → Inside a (with_object name kind const extent a)
inside_object name kind const extent a block = record {
  grows = grows_object name kind const extent a;
  outer_is = refl;
  defined_is = refl;
  statics_are = no_static a (record { name = record { 0 = name }; kind = kind; extent = extent; duration = duration_in (in_block a) }) (ap duration_in block);
}

inside_filling : (b : Bool) (a : Around) → Inside a (with_filling b a)
inside_filling true a = inside_same a (with_loop a) refl refl refl refl refl
inside_filling false a = inside_same a a refl refl refl refl refl

pub inside_declared : (base : Base) (o : Object ℕ) (a : Around) → in_block a ≡ true → Inside a (after_object base o a)
inside_declared base (Declared name shape initial at) a block =
    let b = with_object name base.kind base.const (extent_of shape initial) a in
    inside_then a b (with_filling (is_filled shape initial a) b) (inside_object name base.kind base.const (extent_of shape initial) a block) (inside_filling (is_filled shape initial a) b)

pub row_inside : {B : Type 0} (step : B → Around → Around) → ((x : B) (a : Around) → in_block a ≡ true → Inside a (step x a)) → (xs : Row B) (a : Around) → in_block a ≡ true → Inside a (after_row step xs a)
row_inside step g Nothing a block = inside_same a a refl refl refl refl refl
row_inside step g (Then front last) a block =
    let now = after_row step front a in
    let h = row_inside step g front a block in
    inside_then a now (step last now) h (g last now (in_same a now h.outer_is block))

pub inside_declaration : (d : Declaration ℕ) (a : Around) → in_block a ≡ true → Inside a (after_declaration d a)
inside_declaration (Objects specifiers objects at) a block = row_inside (after_object (base_of specifiers)) (inside_declared (base_of specifiers)) objects a block
inside_declaration (Prototype specifiers name params at) a block = record { grows = grows_routine name (routine specifiers params) a; outer_is = refl; defined_is = refl; statics_are = refl }

pub inside_start : (s : ForStart ℕ) (a : Around) → in_block a ≡ true → Inside a (after_start s a)
inside_start NoStart a block = inside_same a a refl refl refl refl refl
inside_start (StartValue value) a block = inside_same a a refl refl refl refl refl
inside_start (StartDeclaration d) a block = inside_declaration d a block

-- behind a block, whose scope is gone
beside_left : (a b : Around) → Inside (entered a) b → Beside a (left b)
beside_left a b i = record {
  inside = record {
    grows = grows_then a (entered a) (left b) (grows_same a (entered a) refl refl refl) (grows_then (entered a) b (left b) i.grows (grows_same b (left b) refl refl refl));
    outer_is = ap without_innermost i.outer_is ∙ without_innermost-push a.outer a.scope;
    defined_is = i.defined_is;
    statics_are = i.statics_are;
  };
  scope_is = ap innermost i.outer_is ∙ innermost-push a.outer a.scope;
}

beside_same : (a b : Around) → b.outline ≡ a.outline → b.variables ≡ a.variables → b.routines ≡ a.routines → b.outer ≡ a.outer → b.defined ≡ a.defined → b.scope ≡ a.scope → Beside a b
beside_same a b o v r e d s = record { inside = inside_same a b o v r e d; scope_is = s }

pub beside_then : (a b c : Around) → Beside a b → Beside b c → Beside a c
beside_then a b c g h = record { inside = inside_then a b c g.inside h.inside; scope_is = h.scope_is ∙ g.scope_is }

mutual
  pub beside : (s : Statement ℕ) (a : Around) → in_block a ≡ true → Beside a (after s a)
  beside (Block items at) a block = beside_left a (after_items items (entered a)) (inside_items items (entered a) (in_entered a))
  beside (Empty at) a block = beside_same a a refl refl refl refl refl refl
  beside (Evaluate value at) a block = beside_same a a refl refl refl refl refl refl
  beside (Marker pragma) a block = beside_same a (with_marker a) refl refl refl refl refl refl
  beside (If test first at) a block = beside first a block
  beside (IfElse test first second at) a block =
      let one = beside first a block in
      beside_then a (after first a) (after second (after first a)) one (beside second (after first a) (in_same a (after first a) one.inside.outer_is block))
  beside (While bound test body at) a block = beside_then a (with_loop a) (after body (with_loop a)) (beside_same a (with_loop a) refl refl refl refl refl refl) (beside body (with_loop a) block)
  beside (Do bound body test at) a block = beside_then a (with_loop a) (after body (with_loop a)) (beside_same a (with_loop a) refl refl refl refl refl refl) (beside body (with_loop a) block)
  beside (For bound start test step body at) a block =
      let head = within_for start a in
      let begun = inside_start start (with_loop (entered a)) (in_entered a) in
      let run = beside body head (in_same (with_loop (entered a)) head begun.outer_is (in_entered a)) in
      beside_left a (after body head)
      (inside_then (entered a) (with_loop (entered a)) (after body head) (inside_same (entered a) (with_loop (entered a)) refl refl refl refl refl) (inside_then (with_loop (entered a)) head (after body head) begun run.inside))
  beside (Switch test items at) a block = beside_left a (after_items items (entered a)) (inside_items items (entered a) (in_entered a))
  beside (Break at) a block = beside_same a a refl refl refl refl refl refl
  beside (Continue at) a block = beside_same a a refl refl refl refl refl refl
  beside (Return value at) a block = beside_same a a refl refl refl refl refl refl

  pub inside_items : (items : Items ℕ) (a : Around) → in_block a ≡ true → Inside a (after_items items a)
  inside_items NoItem a block = inside_same a a refl refl refl refl refl
  inside_items (AndDeclaration front d) a block =
      let now = after_items front a in
      let h = inside_items front a block in
      inside_then a now (after_declaration d now) h (inside_declaration d now (in_same a now h.outer_is block))
  inside_items (AndStatement front s) a block =
      let now = after_items front a in
      let h = inside_items front a block in
      inside_then a now (after s now) h (beside s now (in_same a now h.outer_is block)).inside
  inside_items (AndRestriction front pragma) a block = inside_items front a block
  inside_items (AndLabel front label) a block = inside_items front a block

-- parameters
pub inside_param : (p : Param ℕ) (a : Around) → in_block a ≡ true → Inside a (after_param p a)
inside_param (Parameter specifiers None shape at) a block = inside_same a a refl refl refl refl refl
inside_param (Parameter specifiers (Some name) shape at) a block = inside_object name (kind_spelled specifiers) (is_const specifiers) (param_extent shape) a block

pub inside_list : (ps : Row (Param ℕ)) (a : Around) → in_block a ≡ true → Inside a (after_list ps a)
inside_list ps a block = of (is_no_list ps)
  where
    of : (none : Bool) → Inside a (if none then a else after_params ps a)
    of true = inside_same a a refl refl refl refl refl
    of false = row_inside after_param inside_param ps a block

pub external_grows : (x : External ℕ) (a : Around) → Grows a (after_external x a)
external_grows (Restriction pragma) a = grows_same a a refl refl refl
external_grows (Declaring d) a = declaration_grows d a
external_grows (Function specifiers name name_at ps items body_at at) a =
    let begun = with_routine name (routine specifiers ps) a in
    let within = within_function specifiers name ps a in
    let inside = body_around specifiers name ps a in
    let behind = after_items items inside in
    let listed = inside_list ps within (in_entered (with_definition name begun)) in
    grows_then a begun (left behind) (grows_routine name (routine specifiers ps) a)
    (grows_then begun within (left behind) (grows_same begun within refl refl refl)
    (grows_then within inside (left behind) listed.grows
    (grows_then inside behind (left behind) (inside_items items inside (in_same within inside listed.outer_is (in_entered (with_definition name begun)))).grows (grows_same behind (left behind) refl refl refl))))
