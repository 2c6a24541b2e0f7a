-- The nodes of a unit in source order, each before its parts and with what is visible there, and the first at which a rule
-- fails. Nodes that no rule speaks of, as restrictions, are left out.
use Rattle.std.specs.Prelude.{ℕ, ◌+◌, nat_eq, Bool, false, ◌&&◌, ◌||◌, if◌then◌else◌, List, [], ◌∷◌, ◌++◌, codes, Option, Some, None, slice_get}
use Rattle.std.specs.Cmp.Lexicographic.{pointwise}
use Rattle.c_tree.specs.Formed.{declaration_place, place}
use Rattle.c_tree.specs.Tree.{Row, Nothing, Then, Expr, Number, Character, Name, Paren, Index, Call, Postfix, Prefix, Cast, Binary, Conditional, Assign, Exprs, NoExpr, AndExpr, Shape, Scalar, Unsized, Sized, Initial, Absent, Value, Listed, Object, Declared, Param, Parameter, Declaration, Objects, Prototype, Label, Case, Default, ForStart, NoStart, StartValue, StartDeclaration, Statement, Block, Empty, Evaluate, Marker, If, IfElse, While, Do, For, Switch, Break, Continue, Return, Items, NoItem, AndDeclaration, AndStatement, AndRestriction, AndLabel, External, Restriction, Declaring, Function, TranslationUnit, Whole}
use Rattle.c_tree.specs.declared.expression.Specifier.{Specifier}
use Rattle.types_value.specs.Kinds.{same_kind}
use Rattle.types_value.specs.declared.kind.Kind.TheVariants.{Int}
use Rattle.types_rules.specs.DeclarationRules.{Base, after_declaration, after_list, after_object, after_param, base_of, declaration_rule, function_rule, is_no_list, object_rule, param_rule, prototype_param_rule, within_function}
use Rattle.types_rules.specs.ExpressionRules.{expr_rule}
use Rattle.types_rules.specs.Scope.{Around, after_row, unseen, Outline, entered, left, or_else, started, with_loop, with_number}
use Rattle.types_rules.specs.Specifiers.{kind_spelled}
use Rattle.types_rules.specs.StatementRules.{Within, after, after_items, in_function, in_loop, in_switch, label_rule, statement_rule, within_for}
use Rattle.types_rules.specs.Types.{callee, count, takes_array}
use Rattle.types_rules.specs.Scope.{params_of}
use Rattle.types_rules.specs.declared.fault.Fault.{Fault}
use Rattle.types_rules.specs.declared.fault.Rule.{Rule}
use Rattle.types_rules.specs.declared.fault.Rule.TheVariants as rules
use Rattle.types_rules.specs.declared.scope.ParamType.{ParamType}

-- a node, and what is visible there
pub data Node : Type 0 where
  SeenUnit : (unit : TranslationUnit ℕ) (outline : Outline) → Node
  SeenFunction : (specifiers : List Specifier) (name : ℕ) (params : Row (Param ℕ)) (at : ℕ) → Around → Node
  SeenParam : Param ℕ → Around → Node
  SeenDeclaration : Declaration ℕ → Around → Node
  SeenPrototypeParam : Param ℕ → Around → Node
  SeenObject : Base → Object ℕ → Around → Node
  SeenStatement : Statement ℕ → Around → Within → Node
  SeenLabel : Label ℕ → (front : Items ℕ) → Node
  SeenExpr : Expr ℕ → (as_array : Bool) → Around → Node

abbrev mutual
  pub expr_nodes : Expr ℕ → (as_array : Bool) → Around → List Node
  expr_nodes (Number constant at) as_array a = SeenExpr (Number constant at) as_array a ∷ []
  expr_nodes (Character value at) as_array a = SeenExpr (Character value at) as_array a ∷ []
  expr_nodes (Name name at) as_array a = SeenExpr (Name name at) as_array a ∷ []
  expr_nodes (Paren inner at) as_array a = SeenExpr (Paren inner at) as_array a ∷ expr_nodes inner false a
  expr_nodes (Index array index at) as_array a = SeenExpr (Index array index at) as_array a ∷ expr_nodes index false a
  expr_nodes (Call function arguments at) as_array a = SeenExpr (Call function arguments at) as_array a ∷ argument_nodes arguments (params_of (callee function a)) a
  expr_nodes (Postfix operator operand at) as_array a = SeenExpr (Postfix operator operand at) as_array a ∷ expr_nodes operand false a
  expr_nodes (Prefix operator operand at) as_array a = SeenExpr (Prefix operator operand at) as_array a ∷ expr_nodes operand false a
  expr_nodes (Cast specifiers operand at) as_array a = SeenExpr (Cast specifiers operand at) as_array a ∷ expr_nodes operand false a
  expr_nodes (Binary operator left right at) as_array a = SeenExpr (Binary operator left right at) as_array a ∷ (expr_nodes left false a ++ expr_nodes right false a)
  expr_nodes (Conditional test first second at) as_array a = SeenExpr (Conditional test first second at) as_array a ∷ (expr_nodes test false a ++ (expr_nodes first false a ++ expr_nodes second false a))
  expr_nodes (Assign operator target value at) as_array a = SeenExpr (Assign operator target value at) as_array a ∷ (expr_nodes target false a ++ expr_nodes value false a)

  -- an argument may be an array where its parameter is one
  pub argument_nodes : Exprs ℕ → List ParamType → Around → List Node
  argument_nodes NoExpr params a = []
  argument_nodes (AndExpr front last) params a = argument_nodes front params a ++ expr_nodes last (takes_array (slice_get params (count front))) a

abbrev pub value_nodes : Expr ℕ → Around → List Node
value_nodes e a = expr_nodes e false a

abbrev pub list_nodes : Exprs ℕ → Around → List Node
list_nodes values a = argument_nodes values [] a

abbrev pub option_nodes : Option (Expr ℕ) → Around → List Node
option_nodes None a = []
option_nodes (Some value) a = value_nodes value a

abbrev pub shape_nodes : Shape ℕ → Around → List Node
shape_nodes Scalar a = []
shape_nodes Unsized a = []
shape_nodes (Sized size) a = value_nodes size a

abbrev pub initial_nodes : Initial ℕ → Around → List Node
initial_nodes Absent a = []
initial_nodes (Value value) a = value_nodes value a
initial_nodes (Listed values comma) a = list_nodes values a

-- an object is visible in its initial value, and not in its size
abbrev pub object_nodes : Base → Object ℕ → Around → List Node
object_nodes base (Declared name shape initial at) a =
    SeenObject base (Declared name shape initial at) a
    ∷ (shape_nodes shape a ++ initial_nodes initial (after_object base (Declared name shape initial at) a))

-- the nodes of a row, each part of which is seen behind those before it
abbrev pub row_nodes : {B : Type 0} → (B → Around → Around) → (B → Around → List Node) → Row B → Around → List Node
row_nodes step nodes Nothing a = []
row_nodes step nodes (Then front last) a = row_nodes step nodes front a ++ nodes last (after_row step front a)

abbrev pub objects_nodes : Base → Row (Object ℕ) → Around → List Node
objects_nodes base objects a = row_nodes (after_object base) (object_nodes base) objects a

abbrev pub prototype_param_nodes : Param ℕ → Around → List Node
prototype_param_nodes (Parameter specifiers name shape at) a = SeenPrototypeParam (Parameter specifiers name shape at) a ∷ shape_nodes shape a

abbrev pub prototype_params_nodes : Row (Param ℕ) → Around → List Node
prototype_params_nodes params a = row_nodes unseen prototype_param_nodes params a

abbrev pub param_nodes : Param ℕ → Around → List Node
param_nodes (Parameter specifiers name shape at) a = SeenParam (Parameter specifiers name shape at) a ∷ shape_nodes shape a

abbrev pub params_nodes : Row (Param ℕ) → Around → List Node
params_nodes params a = row_nodes after_param param_nodes params a

-- a function is visible already in what its declaration says of its parameters
abbrev pub declaration_nodes : Declaration ℕ → Around → List Node
declaration_nodes (Objects specifiers objects at) a = SeenDeclaration (Objects specifiers objects at) a ∷ objects_nodes (base_of specifiers) objects a
declaration_nodes (Prototype specifiers name params at) a =
    SeenDeclaration (Prototype specifiers name params at) a
    ∷ (if is_no_list params then [] else prototype_params_nodes params (after_declaration (Prototype specifiers name params at) a))

abbrev pub start_nodes : ForStart ℕ → Around → List Node
start_nodes NoStart a = []
start_nodes (StartValue value) a = value_nodes value a
start_nodes (StartDeclaration declaration) a = declaration_nodes declaration a

abbrev pub label_nodes : Label ℕ → (front : Items ℕ) → Around → List Node
label_nodes (Case value at) front a = SeenLabel (Case value at) front ∷ value_nodes value a
label_nodes (Default at) front a = SeenLabel (Default at) front ∷ []

abbrev mutual
  pub statement_nodes : Statement ℕ → Around → Within → List Node
  statement_nodes (Block items at) a w = SeenStatement (Block items at) a w ∷ items_nodes items (entered a) w
  statement_nodes (Empty at) a w = SeenStatement (Empty at) a w ∷ []
  statement_nodes (Evaluate value at) a w = SeenStatement (Evaluate value at) a w ∷ value_nodes value a
  statement_nodes (Marker pragma) a w = SeenStatement (Marker pragma) a w ∷ []
  statement_nodes (If test first at) a w = SeenStatement (If test first at) a w ∷ (value_nodes test a ++ statement_nodes first a w)
  statement_nodes (IfElse test first second at) a w =
      SeenStatement (IfElse test first second at) a w ∷ (value_nodes test a ++ (statement_nodes first a w ++ statement_nodes second (after first a) w))
  statement_nodes (While bound test body at) a w =
      SeenStatement (While bound test body at) a w ∷ (value_nodes test (with_loop a) ++ statement_nodes body (with_loop a) (in_loop w))
  statement_nodes (Do bound body test at) a w =
      SeenStatement (Do bound body test at) a w ∷ (statement_nodes body (with_loop a) (in_loop w) ++ value_nodes test (after body (with_loop a)))
  statement_nodes (For bound start test step body at) a w =
      SeenStatement (For bound start test step body at) a w
      ∷ (start_nodes start (with_loop (entered a))
      ++ (option_nodes test (within_for start a) ++ (option_nodes step (within_for start a) ++ statement_nodes body (within_for start a) (in_loop w))))
  statement_nodes (Switch test items at) a w = SeenStatement (Switch test items at) a w ∷ (value_nodes test a ++ items_nodes items (entered a) (in_switch w))
  statement_nodes (Break at) a w = SeenStatement (Break at) a w ∷ []
  statement_nodes (Continue at) a w = SeenStatement (Continue at) a w ∷ []
  statement_nodes (Return value at) a w = SeenStatement (Return value at) a w ∷ option_nodes value a

  pub items_nodes : Items ℕ → Around → Within → List Node
  items_nodes NoItem a w = []
  items_nodes (AndDeclaration front declaration) a w = items_nodes front a w ++ declaration_nodes declaration (after_items front a)
  items_nodes (AndStatement front statement) a w = items_nodes front a w ++ statement_nodes statement (after_items front a) w
  items_nodes (AndRestriction front pragma) a w = items_nodes front a w
  items_nodes (AndLabel front label) a w = items_nodes front a w ++ label_nodes label front (after_items front a)

-- within a function's body, behind its parameters
abbrev pub body_around : List Specifier → ℕ → Row (Param ℕ) → Around → Around
body_around specifiers name params a = after_list params (within_function specifiers name params a)

abbrev pub after_external : External ℕ → Around → Around
after_external (Restriction pragma) a = a
after_external (Declaring declaration) a = after_declaration declaration a
after_external (Function specifiers name name_at params body body_at at) a = left (after_items body (body_around specifiers name params a))

abbrev pub after_externals : Row (External ℕ) → Around → Around
after_externals items a = after_row after_external items a

abbrev pub external_nodes : External ℕ → Around → List Node
external_nodes (Restriction pragma) a = []
external_nodes (Declaring declaration) a = declaration_nodes declaration a
external_nodes (Function specifiers name name_at params body body_at at) a =
    SeenFunction specifiers name params at a
    ∷ ((if is_no_list params then [] else params_nodes params (within_function specifiers name params a))
    ++ items_nodes body (body_around specifiers name params a) (in_function (kind_spelled specifiers)))

abbrev pub externals_nodes : Row (External ℕ) → Around → List Node
externals_nodes items a = row_nodes after_external external_nodes items a

-- the number of a name in a list of names, or the list's length
abbrev pub number_of : List ℕ → List (List ℕ) → ℕ
number_of name [] = 0
number_of name (n ∷ rest) = if pointwise nat_eq n name then 0 else number_of name rest + 1

-- the names of the functions that are defined, each once, in the order of their definitions
abbrev pub definitions : Row (External ℕ) → List ℕ
definitions Nothing = []
definitions (Then front (Function specifiers name name_at params body body_at at)) = with_number (definitions front) name
definitions (Then front (Restriction pragma)) = definitions front
definitions (Then front (Declaring declaration)) = definitions front

abbrev pub outline_of : List (List ℕ) → TranslationUnit ℕ → Outline
outline_of names (Whole items at) = record {
  definitions = definitions items;
  main = number_of (codes "main") names;
  getchar = number_of (codes "getchar") names;
  putchar = number_of (codes "putchar") names;
}

-- all nodes of a unit
abbrev pub unit_nodes : Outline → TranslationUnit ℕ → List Node
unit_nodes outline (Whole items at) = SeenUnit (Whole items at) outline ∷ externals_nodes items (started outline)

abbrev pub is_main : ℕ → External ℕ → Bool
is_main main (Function specifiers name name_at params body body_at at) = nat_eq name main && same_kind (kind_spelled specifiers) Int && is_no_list params
is_main main _ = false

abbrev pub has_main : ℕ → Row (External ℕ) → Bool
has_main main Nothing = false
has_main main (Then front last) = has_main main front || is_main main last

-- rule 13: `int main` without parameters is defined
abbrev pub unit_rule : TranslationUnit ℕ → Outline → Option Rule
unit_rule (Whole items at) outline = if has_main outline.main items then None else Some rules.Main

-- the least rule that fails at a node
abbrev pub node_rule : Node → Option Rule
node_rule (SeenUnit unit outline) = unit_rule unit outline
node_rule (SeenFunction specifiers name params at a) = function_rule specifiers name params a
node_rule (SeenParam param a) = param_rule param a
node_rule (SeenDeclaration declaration a) = declaration_rule declaration a
node_rule (SeenPrototypeParam param a) = prototype_param_rule param a
node_rule (SeenObject base object a) = object_rule base object a
node_rule (SeenStatement statement a w) = statement_rule statement a w
node_rule (SeenLabel label front) = label_rule label front
node_rule (SeenExpr e as_array a) = expr_rule e as_array a

abbrev pub statement_place : {N : Type 0} → Statement N → ℕ
statement_place (Block items at) = at
statement_place (Empty at) = at
statement_place (Evaluate value at) = at
statement_place (Marker pragma) = pragma.at
statement_place (If test first at) = at
statement_place (IfElse test first second at) = at
statement_place (While bound test body at) = at
statement_place (Do bound body test at) = at
statement_place (For bound start test step body at) = at
statement_place (Switch test items at) = at
statement_place (Break at) = at
statement_place (Continue at) = at
statement_place (Return value at) = at

abbrev pub param_place : {N : Type 0} → Param N → ℕ
param_place (Parameter specifiers name shape at) = at

abbrev pub object_place : {N : Type 0} → Object N → ℕ
object_place (Declared name shape initial at) = at

abbrev pub label_place : {N : Type 0} → Label N → ℕ
label_place (Case value at) = at
label_place (Default at) = at

abbrev pub unit_place : {N : Type 0} → TranslationUnit N → ℕ
unit_place (Whole items at) = at

abbrev pub node_place : Node → ℕ
node_place (SeenUnit unit outline) = unit_place unit
node_place (SeenFunction specifiers name params at a) = at
node_place (SeenParam param a) = param_place param
node_place (SeenDeclaration declaration a) = declaration_place declaration
node_place (SeenPrototypeParam param a) = param_place param
node_place (SeenObject base object a) = object_place object
node_place (SeenStatement statement a w) = statement_place statement
node_place (SeenLabel label front) = label_place label
node_place (SeenExpr e as_array a) = place e

abbrev pub fault_at : Option Rule → ℕ → Option Fault
fault_at None at = None
fault_at (Some rule) at = Some (record { rule = rule; at = at })

-- what fails at a node by itself
abbrev pub node_fault : Node → Option Fault
node_fault node = fault_at (node_rule node) (node_place node)

-- the first of these at which a rule fails, with the least rule that fails there
abbrev pub first_fault : List Node → Option Fault
first_fault [] = None
first_fault (node ∷ rest) = or_else (node_fault node) (first_fault rest)
