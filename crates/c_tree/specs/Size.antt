-- The number of nodes of a tree, and its depth.
use Rattle.std.specs.Prelude.{◌+◌, ◌<◌, max, Option, Some, None}
use Rattle.c_tree.specs.declared.size.Size.{Size}
use Rattle.c_tree.specs.Tree.{Row, Nothing, Then, Expr, Number, Character, Name, Paren, Index, Call, Postfix, Prefix, Cast, Binary, Conditional, Assign, Exprs, NoExpr, AndExpr, Shape, Scalar, Unsized, Sized, Initial, Absent, Value, Listed, Object, Declared, Param, Parameter, Declaration, Objects, Prototype, Label, Case, Default, ForStart, NoStart, StartValue, StartDeclaration, Statement, Block, Empty, Evaluate, Marker, If, IfElse, While, Do, For, Switch, Break, Continue, Return, Items, NoItem, AndDeclaration, AndStatement, AndRestriction, AndLabel, External, Restriction, Declaring, Function, TranslationUnit, Whole}

-- both are numbers of 32 bits
pub record Fits (s : Size) : Type 0 where
  pub nodes : s.nodes < 4294967296
  pub depth : s.depth < 4294967296

-- of no node
abbrev pub empty : Size
empty = record { nodes = 0; depth = 0 }

-- of parts side by side
abbrev pub beside : Size → Size → Size
beside a b = record { nodes = a.nodes + b.nodes; depth = max a.depth b.depth }

-- of a node over its parts
abbrev pub over : Size → Size
over parts = record { nodes = parts.nodes + 1; depth = parts.depth + 1 }

abbrev pub leaf : Size
leaf = record { nodes = 1; depth = 1 }

abbrev mutual
  pub size : {N : Type 0} → Expr N → Size
  size (Number constant at) = leaf
  size (Character value at) = leaf
  size (Name name at) = leaf
  size (Paren inner at) = over (size inner)
  size (Index array index at) = over (size index)
  size (Call function arguments at) = over (size_all arguments)
  size (Postfix operator operand at) = over (size operand)
  size (Prefix operator operand at) = over (size operand)
  size (Cast specifiers operand at) = over (size operand)
  size (Binary operator left right at) = over (beside (size left) (size right))
  size (Conditional test first second at) = over (beside (beside (size test) (size first)) (size second))
  size (Assign operator target value at) = over (beside (size target) (size value))

  pub size_all : {N : Type 0} → Exprs N → Size
  size_all NoExpr = empty
  size_all (AndExpr front last) = beside (size_all front) (size last)

abbrev pub size_row : {A : Type 0} → (A → Size) → Row A → Size
size_row f Nothing = empty
size_row f (Then front last) = beside (size_row f front) (f last)

abbrev pub size_optional : {N : Type 0} → Option (Expr N) → Size
size_optional None = empty
size_optional (Some value) = size value

-- a shape and an initial value are no nodes, but their expressions are
abbrev pub size_shape : {N : Type 0} → Shape N → Size
size_shape Scalar = empty
size_shape Unsized = empty
size_shape (Sized value) = size value

abbrev pub size_initial : {N : Type 0} → Initial N → Size
size_initial Absent = empty
size_initial (Value value) = size value
size_initial (Listed values comma) = size_all values

abbrev pub size_object : {N : Type 0} → Object N → Size
size_object (Declared name shape initial at) = over (beside (size_shape shape) (size_initial initial))

abbrev pub size_param : {N : Type 0} → Param N → Size
size_param (Parameter specifiers name shape at) = over (size_shape shape)

abbrev pub size_declaration : {N : Type 0} → Declaration N → Size
size_declaration (Objects specifiers objects at) = over (size_row size_object objects)
size_declaration (Prototype specifiers name params at) = over (size_row size_param params)

abbrev pub size_label : {N : Type 0} → Label N → Size
size_label (Case value at) = over (size value)
size_label (Default at) = leaf

abbrev pub size_start : {N : Type 0} → ForStart N → Size
size_start NoStart = empty
size_start (StartValue value) = size value
size_start (StartDeclaration declaration) = size_declaration declaration

abbrev mutual
  pub size_statement : {N : Type 0} → Statement N → Size
  size_statement (Block items at) = over (size_items items)
  size_statement (Empty at) = leaf
  size_statement (Evaluate value at) = over (size value)
  size_statement (Marker pragma) = leaf
  size_statement (If test first at) = over (beside (size test) (size_statement first))
  size_statement (IfElse test first second at) = over (beside (beside (size test) (size_statement first)) (size_statement second))
  size_statement (While bound test body at) = over (beside (size test) (size_statement body))
  size_statement (Do bound body test at) = over (beside (size_statement body) (size test))
  size_statement (For bound start test step body at) = over (beside (beside (beside (size_start start) (size_optional test)) (size_optional step)) (size_statement body))
  size_statement (Switch test items at) = over (beside (size test) (size_items items))
  size_statement (Break at) = leaf
  size_statement (Continue at) = leaf
  size_statement (Return value at) = over (size_optional value)

  pub size_items : {N : Type 0} → Items N → Size
  size_items NoItem = empty
  size_items (AndDeclaration front declaration) = beside (size_items front) (size_declaration declaration)
  size_items (AndStatement front statement) = beside (size_items front) (size_statement statement)
  size_items (AndRestriction front pragma) = beside (size_items front) leaf
  size_items (AndLabel front label) = beside (size_items front) (size_label label)

abbrev pub size_external : {N : Type 0} → External N → Size
size_external (Restriction pragma) = leaf
size_external (Declaring declaration) = size_declaration declaration
size_external (Function specifiers name name_at params body body_at at) = over (beside (size_row size_param params) (over (size_items body)))

abbrev pub size_unit : {N : Type 0} → TranslationUnit N → Size
size_unit (Whole items at) = over (size_row size_external items)
