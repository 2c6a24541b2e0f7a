-- Typed trees whose names are those of objects and functions that are there: scalars, arrays, and functions with as many
-- parameters as a call has arguments, arrays among them where the call has arrays.
use Rattle.std.specs.Prelude.{◌≡◌, ℕ, ◌+◌, ◌≤◌, Bool, true, false, List, [], ◌∷◌, Option, Some, None, slice_get}
use Rattle.types_rules.specs.Scope.{is_array}
use Rattle.types_tree.specs.Tree.{Place, Scalar, Element, Within, Expr, Number, Character, Read, Array, Paren, Call, Step, Signed, Cast, Convert, Operate, And, Or, Comma, Conditional, Assign, Update, Exprs, NoExpr, WithExpr, Shape, Single, Unsized, Sized, Initial, Absent, Value, Listed, Object, Declared, Param, Parameter, Declaration, Objects, Prototype, ForStart, NoStart, StartValue, StartDeclaration, Statement, Block, Empty, Evaluate, Marker, If, IfElse, While, Do, For, Switch, Break, Continue, Return, Items, NoItem, WithDeclaration, WithStatement, WithRestriction, WithLabel, Function, Defined}
use Rattle.types_tree.specs.declared.expression.Callee.{Callee}
use Rattle.types_tree.specs.declared.expression.Callee.TheVariants.{Getchar, Putchar, Function as Own}
use Rattle.types_tree.specs.declared.variable.Extent.{Extent}
use Rattle.types_tree.specs.declared.variable.Extent.TheVariants as extents
use Rattle.types_tree.specs.declared.variable.Variable.{Variable}

abbrev pub IsOfExtent : (array : Bool) → Option Variable → Type 0
IsOfExtent array None = ⊥
IsOfExtent array (Some variable) = is_array variable.extent ≡ array

-- an object that is there, as a scalar or as an array
abbrev pub IsObject : List Variable → (array : Bool) → (object : ℕ) → Type 0
IsObject variables array object = IsOfExtent array (slice_get variables object)

-- room for so many elements in an array of its own
abbrev pub HasRoom : Extent → (count : ℕ) → Type 0
HasRoom extents.Scalar count = ⊥
HasRoom (extents.Array size) count = count ≤ size
HasRoom extents.Parameter count = ⊥

abbrev pub HasRoomIn : Option Variable → (count : ℕ) → Type 0
HasRoomIn None count = ⊥
HasRoomIn (Some variable) count = HasRoom variable.extent count

abbrev pub IsArrayName : Expr → Type 0
IsArrayName (Array object at) = Unit {0}
IsArrayName _ = ⊥

abbrev pub IsArgument : (array : Bool) → Expr → Type 0
IsArgument true e = IsArrayName e
IsArgument false e = Unit {0}

-- an argument for each parameter, and the name of an array for each that is one
abbrev pub Matches : Exprs → (arrays : List Bool) → Type 0
Matches NoExpr [] = Unit {0}
Matches NoExpr (array ∷ arrays) = ⊥
Matches (WithExpr e rest) [] = ⊥
Matches (WithExpr e rest) (array ∷ arrays) = IsArgument array e × Matches rest arrays

abbrev pub is_array_shape : Shape → Bool
is_array_shape Single = false
is_array_shape Unsized = true
is_array_shape (Sized size) = true

-- which parameters are arrays; a lone `void` is none
abbrev pub arrays_of : List Param → List Bool
arrays_of [] = []
arrays_of (Parameter specifiers None shape at ∷ rest) = arrays_of rest
arrays_of (Parameter specifiers (Some name) shape at ∷ rest) = is_array_shape shape ∷ arrays_of rest

abbrev pub takes : Option Function → List Bool
takes None = []
takes (Some (Defined specifiers name name_at params first body body_at at)) = arrays_of params

abbrev pub MatchesCall : List Function → Callee → Exprs → Type 0
MatchesCall functions Getchar arguments = Unit {0}
MatchesCall functions Putchar arguments = Unit {0}
MatchesCall functions (Own function) arguments = Matches arguments (takes (slice_get functions function.0))

-- how many values a list has
abbrev pub count_values : Exprs → ℕ
count_values NoExpr = 0
count_values (WithExpr e rest) = count_values rest + 1

-- how an argument is held
abbrev pub IsPassedAs : (array : Bool) → Extent → Type 0
IsPassedAs true extent = extent ≡ extents.Parameter
IsPassedAs false extent = extent ≡ extents.Scalar

abbrev pub IsPassed : (array : Bool) → Option Variable → Type 0
IsPassed array None = ⊥
IsPassed array (Some variable) = IsPassedAs array variable.extent

-- the objects of parameters, one behind the other
abbrev pub ArePassed : List Variable → (object : ℕ) → (arrays : List Bool) → Type 0
ArePassed variables object [] = Unit {0}
ArePassed variables object (array ∷ arrays) = IsPassed array (slice_get variables object) × ArePassed variables (object + 1) arrays

module _ (variables : List Variable) (functions : List Function) where
  abbrev mutual
    pub FitPlace : Place → Type 0
    FitPlace (Scalar object at) = IsObject variables false object
    FitPlace (Element array index at) = IsObject variables true array × Fit index
    FitPlace (Within inner at) = FitPlace inner

    pub Fit : Expr → Type 0
    Fit (Number constant at) = Unit {0}
    Fit (Character value at) = Unit {0}
    Fit (Read place) = FitPlace place
    Fit (Array object at) = IsObject variables true object
    Fit (Paren inner at) = Fit inner
    Fit (Call callee arguments at) = FitAll arguments × MatchesCall functions callee arguments
    Fit (Step fix operator kind target at) = FitPlace target
    Fit (Signed operator kind operand at) = Fit operand
    Fit (Cast specifiers to operand at) = Fit operand
    Fit (Convert to operand) = Fit operand
    Fit (Operate operator kind left right at) = Fit left × Fit right
    Fit (And left right at) = Fit left × Fit right
    Fit (Or left right at) = Fit left × Fit right
    Fit (Comma left right at) = Fit left × Fit right
    Fit (Conditional test first second at) = Fit test × Fit first × Fit second
    Fit (Assign target value at) = FitPlace target × Fit value
    Fit (Update operator kind to target value at) = FitPlace target × Fit value

    pub FitAll : Exprs → Type 0
    FitAll NoExpr = Unit {0}
    FitAll (WithExpr e rest) = Fit e × FitAll rest

  abbrev pub FitOption : Option Expr → Type 0
  FitOption None = Unit {0}
  FitOption (Some e) = Fit e

  abbrev pub FitInitial : (object : ℕ) → Initial → Type 0
  FitInitial object Absent = Unit {0}
  FitInitial object (Value e) = IsObject variables false object × Fit e
  FitInitial object (Listed values comma filling) = HasRoomIn (slice_get variables object) (count_values values) × FitAll values

  abbrev pub FitObjects : List Object → Type 0
  FitObjects [] = Unit {0}
  FitObjects (Declared object shape initial at ∷ rest) = FitInitial object initial × FitObjects rest

  abbrev pub FitDeclaration : Declaration → Type 0
  FitDeclaration (Objects specifiers objects at) = FitObjects objects
  FitDeclaration (Prototype specifiers name params at) = Unit {0}

  abbrev pub FitStart : ForStart → Type 0
  FitStart NoStart = Unit {0}
  FitStart (StartValue value) = Fit value
  FitStart (StartDeclaration declaration) = FitDeclaration declaration

  abbrev mutual
    pub FitStatement : Statement → Type 0
    FitStatement (Block items at) = FitItems items
    FitStatement (Empty at) = Unit {0}
    FitStatement (Evaluate value at) = Fit value
    FitStatement (Marker number pragma) = Unit {0}
    FitStatement (If test first at) = Fit test × FitStatement first
    FitStatement (IfElse test first second at) = Fit test × FitStatement first × FitStatement second
    FitStatement (While number bound test body at) = Fit test × FitStatement body
    FitStatement (Do number bound body test at) = FitStatement body × Fit test
    FitStatement (For number bound start test step body at) = FitStart start × FitOption test × FitOption step × FitStatement body
    FitStatement (Switch test items at) = Fit test × FitItems items
    FitStatement (Break at) = Unit {0}
    FitStatement (Continue at) = Unit {0}
    FitStatement (Return value at) = FitOption value

    pub FitItems : Items → Type 0
    FitItems NoItem = Unit {0}
    FitItems (WithDeclaration declaration rest) = FitDeclaration declaration × FitItems rest
    FitItems (WithStatement statement rest) = FitStatement statement × FitItems rest
    FitItems (WithRestriction pragma rest) = FitItems rest
    FitItems (WithLabel label rest) = FitItems rest

  abbrev pub FitFunction : Function → Type 0
  FitFunction (Defined specifiers name name_at params first body body_at at) = ArePassed variables first (arrays_of params) × FitItems body
