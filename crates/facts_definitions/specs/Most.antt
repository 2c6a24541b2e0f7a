-- How often nodes of a program are executed at most, as the bounds of its loops allow. Each body counts once at least.
use Rattle.std.specs.Prelude.{Bool, true, false, if◌then◌else◌, ℕ, zero, suc, ◌+◌, ◌*◌, ◌-◌, max, min, List, [], ◌∷◌, Option, Some, None, slice_get, slice_index_or}
use Rattle.std.proofs.Math.ListN.{get_or}
use Rattle.facts_definitions.specs.Starts.{is_always, is_always_or_absent, most_starts}
use Rattle.facts_definitions.specs.declared.facts.Bounds.{Bounds}
use Rattle.c_tree.specs.declared.expression.Specifier.{Specifier}
use Rattle.c_tree.specs.declared.expression.Specifier.TheVariants as specifier
use Rattle.types_tree.specs.declared.expression.Callee.{Callee}
use Rattle.types_tree.specs.declared.expression.Callee.TheVariants.{Getchar, Putchar, Function as Own}
use Rattle.types_tree.specs.Tree.{Place, Scalar, Element, Within, Expr, Number, Character, Read, Array, Paren, Call, Step, Signed, Cast, Convert, Operate, And, Or, Comma, Conditional, Assign, Update, Exprs, NoExpr, WithExpr, Shape, Single, Unsized, Sized, Initial, Absent, Value, Listed, Object, Declared, Param, Parameter, Declaration, Objects, Prototype, Label, Case, Default, ForStart, NoStart, StartValue, StartDeclaration, Statement, Block, Empty, Evaluate, Marker, If, IfElse, While, Do, For, Switch, Break, Continue, Return, Items, NoItem, WithDeclaration, WithStatement, WithRestriction, WithLabel, Function, Defined, Program}

abbrev pub no_bounds : Bounds
no_bounds = record { min = 0; max = 0 }

-- the bounds of the loop of this number, which counts from 1
abbrev pub bounds_at : List Bounds → ℕ → Bounds
bounds_at bounds number = slice_index_or bounds (number - 1) no_bounds

abbrev pub call_most : (ℕ → ℕ) → Callee → ℕ
call_most calls Getchar = 0
call_most calls Putchar = 0
call_most calls (Own function) = calls function.0

-- where a call of a function comes to `calls` of it; a conversion that C implies is no node
abbrev mutual
  pub place_most : (calls : ℕ → ℕ) → Place → ℕ
  place_most calls (Scalar object at) = 1
  place_most calls (Element array index at) = 1 + expr_most calls index
  place_most calls (Within inner at) = 1 + place_most calls inner

  pub expr_most : (calls : ℕ → ℕ) → Expr → ℕ
  expr_most calls (Number constant at) = 1
  expr_most calls (Character value at) = 1
  expr_most calls (Read place) = place_most calls place
  expr_most calls (Array object at) = 1
  expr_most calls (Paren inner at) = 1 + expr_most calls inner
  expr_most calls (Call callee arguments at) = 1 + (exprs_most calls arguments + call_most calls callee)
  expr_most calls (Step fix operator kind target at) = 1 + place_most calls target
  expr_most calls (Signed operator kind operand at) = 1 + expr_most calls operand
  expr_most calls (Cast specifiers to operand at) = 1 + expr_most calls operand
  expr_most calls (Convert to operand) = expr_most calls operand
  expr_most calls (Operate operator kind left right at) = 1 + (expr_most calls left + expr_most calls right)
  expr_most calls (And left right at) = 1 + (expr_most calls left + expr_most calls right)
  expr_most calls (Or left right at) = 1 + (expr_most calls left + expr_most calls right)
  expr_most calls (Comma left right at) = 1 + (expr_most calls left + expr_most calls right)
  expr_most calls (Conditional test first second at) = 1 + (expr_most calls test + (expr_most calls first + expr_most calls second))
  expr_most calls (Assign target value at) = 1 + (place_most calls target + expr_most calls value)
  expr_most calls (Update operator kind to target value at) = 1 + (place_most calls target + expr_most calls value)

  pub exprs_most : (calls : ℕ → ℕ) → Exprs → ℕ
  exprs_most calls NoExpr = 0
  exprs_most calls (WithExpr e rest) = expr_most calls e + exprs_most calls rest

abbrev pub option_most : (ℕ → ℕ) → Option Expr → ℕ
option_most calls None = 0
option_most calls (Some e) = expr_most calls e

abbrev pub shape_most : (ℕ → ℕ) → Shape → ℕ
shape_most calls Single = 0
shape_most calls Unsized = 0
shape_most calls (Sized size) = expr_most calls size

-- a filling of n elements, whose bounds are n and n, adds 2 n
abbrev pub filling_most : List Bounds → Option ℕ → ℕ
filling_most bounds None = 0
filling_most bounds (Some number) = 2 * (bounds_at bounds number).max

abbrev pub initial_most : List Bounds → (ℕ → ℕ) → Initial → ℕ
initial_most bounds calls Absent = 0
initial_most bounds calls (Value value) = expr_most calls value
initial_most bounds calls (Listed values comma filling) = exprs_most calls values + filling_most bounds filling

abbrev pub object_most : List Bounds → (ℕ → ℕ) → Object → ℕ
object_most bounds calls (Declared object shape initial at) = 1 + (shape_most calls shape + initial_most bounds calls initial)

abbrev pub objects_most : List Bounds → (ℕ → ℕ) → List Object → ℕ
objects_most bounds calls [] = 0
objects_most bounds calls (object ∷ rest) = object_most bounds calls object + objects_most bounds calls rest

abbrev pub param_most : (ℕ → ℕ) → Param → ℕ
param_most calls (Parameter specifiers name shape at) = 1 + shape_most calls shape

abbrev pub params_most : (ℕ → ℕ) → List Param → ℕ
params_most calls [] = 0
params_most calls (param ∷ rest) = param_most calls param + params_most calls rest

abbrev pub is_void_alone : List Specifier → Bool
is_void_alone (specifier.Void ∷ []) = true
is_void_alone _ = false

abbrev pub is_lone_void : Param → Bool
is_lone_void (Parameter specifiers None Single at) = is_void_alone specifiers
is_lone_void _ = false

-- a lone unnamed `void` is no parameter
abbrev pub list_most : (ℕ → ℕ) → List Param → ℕ
list_most calls [] = 0
list_most calls (param ∷ []) = if is_lone_void param then 0 else params_most calls (param ∷ [])
list_most calls (first ∷ second ∷ rest) = params_most calls (first ∷ second ∷ rest)

abbrev pub declaration_most : List Bounds → (ℕ → ℕ) → Declaration → ℕ
declaration_most bounds calls (Objects specifiers objects at) = 1 + objects_most bounds calls objects
declaration_most bounds calls (Prototype specifiers name params at) = 1 + list_most calls params

abbrev pub label_most : (ℕ → ℕ) → Label → ℕ
label_most calls (Case value word at) = 1 + expr_most calls value
label_most calls (Default at) = 1

abbrev pub start_most : List Bounds → (ℕ → ℕ) → ForStart → ℕ
start_most bounds calls NoStart = 0
start_most bounds calls (StartValue value) = expr_most calls value
start_most bounds calls (StartDeclaration declaration) = declaration_most bounds calls declaration

-- so often a loop starts at most, and once at least
abbrev pub times : (always : Bool) → Bounds → ℕ
times always bounds = max 1 (most_starts always bounds.max)

abbrev mutual
  pub statement_most : List Bounds → (calls : ℕ → ℕ) → Statement → ℕ
  statement_most bounds calls (Block items at) = 1 + items_most bounds calls items
  statement_most bounds calls (Empty at) = 1
  statement_most bounds calls (Evaluate value at) = 1 + expr_most calls value
  statement_most bounds calls (Marker number pragma) = 1
  statement_most bounds calls (If test first at) = 1 + (expr_most calls test + statement_most bounds calls first)
  statement_most bounds calls (IfElse test first second at) = 1 + (expr_most calls test + (statement_most bounds calls first + statement_most bounds calls second))
  statement_most bounds calls (While number bound test body at) =
      1 + times (is_always test) (bounds_at bounds number) * (expr_most calls test + statement_most bounds calls body)
  statement_most bounds calls (Do number bound body test at) =
      1 + times true (bounds_at bounds number) * (expr_most calls test + statement_most bounds calls body)
  statement_most bounds calls (For number bound start test step body at) =
      1 + (start_most bounds calls start
      + times (is_always_or_absent test) (bounds_at bounds number) * (option_most calls test + (option_most calls step + statement_most bounds calls body)))
  statement_most bounds calls (Switch test items at) = 1 + (expr_most calls test + items_most bounds calls items)
  statement_most bounds calls (Break at) = 1
  statement_most bounds calls (Continue at) = 1
  statement_most bounds calls (Return value at) = 1 + option_most calls value

  pub items_most : List Bounds → (calls : ℕ → ℕ) → Items → ℕ
  items_most bounds calls NoItem = 0
  items_most bounds calls (WithDeclaration declaration rest) = declaration_most bounds calls declaration + items_most bounds calls rest
  items_most bounds calls (WithStatement statement rest) = statement_most bounds calls statement + items_most bounds calls rest
  items_most bounds calls (WithRestriction pragma rest) = 1 + items_most bounds calls rest
  items_most bounds calls (WithLabel label rest) = label_most calls label + items_most bounds calls rest

-- of a function's node, with its parameters and the block of its body
abbrev pub function_most : List Bounds → (calls : ℕ → ℕ) → Option Function → ℕ
function_most bounds calls None = 0
function_most bounds calls (Some (Defined specifiers name name_at params first body body_at at)) = 1 + (list_most calls params + (1 + items_most bounds calls body))

-- of a function, with so many calls within one another
abbrev pub most_within : Program → List Bounds → (depth : ℕ) → (function : ℕ) → ℕ
most_within program bounds zero function = 0
most_within program bounds (suc depth) function = function_most bounds (most_within program bounds depth) (slice_get program.functions function)

-- of a function, whose rank is the greatest number of calls in a chain that begins at it
abbrev pub most_of : Program → List Bounds → (ranks : List ℕ) → (function : ℕ) → ℕ
most_of program bounds ranks function = most_within program bounds (suc (get_or ranks function 0)) function

-- a number that is cut at 2^64 - 1
abbrev pub cut : ℕ → ℕ
cut n = min n 18446744073709551615
