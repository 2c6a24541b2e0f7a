-- What is known of a unit as a whole stays the same behind each of its parts.
use Rattle.std.proofs.Common.{◌≡◌, refl, ◌∙◌, ℕ, Bool, true, false, if◌then◌else◌, List, Some, None}
use Rattle.c_tree.specs.Tree.{Row, Nothing, Then, Object, Declared, Param, Parameter, Declaration, Objects, Prototype, ForStart, NoStart, StartValue, StartDeclaration, Statement, Block, Empty, Evaluate, Marker, If, IfElse, While, Do, For, Switch, Break, Continue, Return, Items, NoItem, AndDeclaration, AndStatement, AndRestriction, AndLabel, External, Restriction, Declaring, Function}
use Rattle.c_tree.specs.declared.expression.Specifier.{Specifier}
use Rattle.types_rules.specs.DeclarationRules.{Base, after_declaration, after_object, after_param, after_params, base_of, extent_of, is_filled, is_no_list, with_filling, within_function}
use Rattle.types_rules.specs.Scope.{Around, after_row, entered, with_loop, with_object}
use Rattle.types_rules.specs.Sights.{after_external, body_around}
use Rattle.types_rules.specs.StatementRules.{after, after_items, after_start, within_for}

filling : (b : Bool) (a : Around) → (with_filling b a).outline ≡ a.outline
filling true a = refl
filling false a = refl

pub object : (base : Base) (o : Object ℕ) (a : Around) → (after_object base o a).outline ≡ a.outline
object base (Declared name shape initial at) a = filling (is_filled shape initial a) (with_object name base.kind base.const (extent_of shape initial) a)

pub param : (p : Param ℕ) (a : Around) → (after_param p a).outline ≡ a.outline
param (Parameter specifiers None shape at) a = refl
param (Parameter specifiers (Some name) shape at) a = refl

-- behind a row, where each part keeps it
pub row : {B : Type 0} (step : B → Around → Around) → ((x : B) (a : Around) → (step x a).outline ≡ a.outline) → (xs : Row B) (a : Around) → (after_row step xs a).outline ≡ a.outline
row step keeps Nothing a = refl
row step keeps (Then front last) a = keeps last (after_row step front a) ∙ row step keeps front a

pub declaration : (d : Declaration ℕ) (a : Around) → (after_declaration d a).outline ≡ a.outline
declaration (Objects specifiers objects at) a = row (after_object (base_of specifiers)) (object (base_of specifiers)) objects a
declaration (Prototype specifiers name params at) a = refl

pub start : (s : ForStart ℕ) (a : Around) → (after_start s a).outline ≡ a.outline
start NoStart a = refl
start (StartValue value) a = refl
start (StartDeclaration d) a = declaration d a

mutual
  pub statement : (s : Statement ℕ) (a : Around) → (after s a).outline ≡ a.outline
  statement (Block items at) a = list items (entered a)
  statement (Empty at) a = refl
  statement (Evaluate value at) a = refl
  statement (Marker pragma) a = refl
  statement (If test first at) a = statement first a
  statement (IfElse test first second at) a = statement second (after first a) ∙ statement first a
  statement (While bound test body at) a = statement body (with_loop a)
  statement (Do bound body test at) a = statement body (with_loop a)
  statement (For bound s test step body at) a = statement body (within_for s a) ∙ start s (with_loop (entered a))
  statement (Switch test items at) a = list items (entered a)
  statement (Break at) a = refl
  statement (Continue at) a = refl
  statement (Return value at) a = refl

  pub list : (items : Items ℕ) (a : Around) → (after_items items a).outline ≡ a.outline
  list NoItem a = refl
  list (AndDeclaration front d) a = declaration d (after_items front a) ∙ list front a
  list (AndStatement front s) a = statement s (after_items front a) ∙ list front a
  list (AndRestriction front pragma) a = list front a
  list (AndLabel front label) a = list front a

params : (none : Bool) (ps : Row (Param ℕ)) (a : Around) → (if none then a else after_params ps a).outline ≡ a.outline
params true ps a = refl
params false ps a = row after_param param ps a

pub body : (specifiers : List Specifier) (name : ℕ) (ps : Row (Param ℕ)) (a : Around) → (body_around specifiers name ps a).outline ≡ a.outline
body specifiers name ps a = params (is_no_list ps) ps (within_function specifiers name ps a)

pub external : (x : External ℕ) (a : Around) → (after_external x a).outline ≡ a.outline
external (Restriction pragma) a = refl
external (Declaring d) a = declaration d a
external (Function specifiers name name_at ps items body_at at) a = list items (body_around specifiers name ps a) ∙ body specifiers name ps a
