-- The first parts of a unit, and the functions that they define.
use Rattle.std.specs.Prelude.{◌≡◌, ◌⊎◌, ℕ, List, [], length}
use Rattle.c_tree.specs.Tree.{Row, Nothing, Then, Param, Items, External, Function}
use Rattle.c_tree.specs.declared.expression.Specifier.{Specifier}
use Rattle.types_tree.specs.Tree as typed
use Rattle.types_rules.specs.Scope.{Around, Outline, started}
use Rattle.types_rules.specs.Sights.{after_external, after_externals, body_around}
use Rattle.types_rules.specs.DeclarationRules.{within_function}
use Rattle.types_rules.specs.Specifiers.{kind_spelled}
use Rattle.types_rules.specs.StatementRules.{after_items}
use Rattle.types_rules.specs.Typing.{typed_function, typed_items, typed_params, typed_row}

-- a row that another begins with
abbrev pub IsFront : {B : Type 0} → Row B → Row B → Type 0
IsFront p Nothing = p ≡ Nothing
IsFront p (Then front last) = (p ≡ Then front last) ⊎ IsFront p front

-- the definition of a function
pub record Definition : Type 0 where
  pub specifiers : List Specifier
  pub name : ℕ
  pub name_at : ℕ
  pub params : Row (Param ℕ)
  pub body : Items ℕ
  pub body_at : ℕ
  pub at : ℕ

abbrev pub external_by : Definition → External ℕ
external_by d = Function d.specifiers d.name d.name_at d.params d.body d.body_at d.at

-- its typed form, where this is visible before it
abbrev pub function_by : Definition → Around → typed.Function
function_by d a =
    typed.Defined d.specifiers d.name d.name_at (typed_params d.params (within_function d.specifiers d.name d.params a)) (length a.variables)
    (typed_items (kind_spelled d.specifiers) d.body (body_around d.specifiers d.name d.params a) typed.NoItem) d.body_at d.at

-- within its body, and at the body's end
abbrev pub begun_by : Definition → Around → Around
begun_by d a = body_around d.specifiers d.name d.params a

abbrev pub ended_by : Definition → Around → Around
ended_by d a = after_items d.body (begun_by d a)

abbrev pub functions_of : Row (External ℕ) → Around → List typed.Function
functions_of items a = typed_row after_external typed_function items a []

-- what is visible behind the first parts of a unit
abbrev pub behind : Outline → Row (External ℕ) → Around
behind outline front = after_externals front (started outline)

-- a function of a unit, by its number
pub record IsDefined (outline : Outline) (items : Row (External ℕ)) (number : ℕ) (f : typed.Function) : Type 0 where
  pub front : Row (External ℕ)
  pub definition : Definition
  pub part : IsFront (Then front (external_by definition)) items
  pub number_is : number ≡ length (functions_of front (started outline))
  pub function_is : f ≡ function_by definition (behind outline front)
