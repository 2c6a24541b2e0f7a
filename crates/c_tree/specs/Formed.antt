-- Well-formed trees: no operand binds weaker than its place, and an `else` belongs to the nearest `if` (C11 6.5, 6.8.4.1); and tokens that spell one.
use Rattle.std.specs.Prelude.{◌≡◌, ℕ, ◌-◌, ◌≤◌, List, [], ◌∷◌, Option, Some, None, Bool, true, false}
use Rattle.c_tree.specs.declared.expression.BinaryOperator.{BinaryOperator}
use Rattle.c_tree.specs.declared.expression.BinaryOperator.TheVariants as binary
use Rattle.c_tree.specs.Spelling.{Agree, Spoken, spell_unit}
use Rattle.c_tree.specs.Tree.{Row, Nothing, Then, Expr, Number, Character, Name, Paren, Index, Call, Postfix, Prefix, Cast, Binary, Conditional, Assign, Exprs, NoExpr, AndExpr, Shape, Scalar, Unsized, Sized, Initial, Absent, Value, Listed, Object, Declared, Param, Parameter, Declaration, Objects, Prototype, Label, Case, Default, ForStart, NoStart, StartValue, StartDeclaration, Statement, Block, Empty, Evaluate, Marker, If, IfElse, While, Do, For, Switch, Break, Continue, Return, Items, NoItem, AndDeclaration, AndStatement, AndRestriction, AndLabel, External, Restriction, Declaring, Function, TranslationUnit, Whole}

-- how tightly an operator binds: the least level binds the most
abbrev pub level_of : BinaryOperator → ℕ
level_of binary.Multiply = 3
level_of binary.Divide = 3
level_of binary.Remainder = 3
level_of binary.Add = 4
level_of binary.Subtract = 4
level_of binary.ShiftLeft = 5
level_of binary.ShiftRight = 5
level_of binary.Less = 6
level_of binary.Greater = 6
level_of binary.LessEqual = 6
level_of binary.GreaterEqual = 6
level_of binary.Equal = 7
level_of binary.NotEqual = 7
level_of binary.BitAnd = 8
level_of binary.BitXor = 9
level_of binary.BitOr = 10
level_of binary.And = 11
level_of binary.Or = 12
level_of binary.Comma = 15

abbrev pub level : {N : Type 0} → Expr N → ℕ
level (Prefix operator operand at) = 2
level (Cast specifiers operand at) = 2
level (Binary operator left right at) = level_of operator
level (Conditional test first second at) = 13
level (Assign operator target value at) = 14
level _ = 1

abbrev pub place : {N : Type 0} → Expr N → ℕ
place (Number constant at) = at
place (Character value at) = at
place (Name name at) = at
place (Paren inner at) = at
place (Index array index at) = at
place (Call function arguments at) = at
place (Postfix operator operand at) = at
place (Prefix operator operand at) = at
place (Cast specifiers operand at) = at
place (Binary operator left right at) = at
place (Conditional test first second at) = at
place (Assign operator target value at) = at

abbrev pub IsSome : {A : Type 0} → List A → Type 0
IsSome [] = ⊥
IsSome (x ∷ xs) = Unit {0}

abbrev mutual
  -- no operand binds weaker than its place, and a node that begins with a part has that part's place
  pub IsFormed : {N : Type 0} → Expr N → Type 0
  IsFormed (Number constant at) = Unit {0}
  IsFormed (Character value at) = Unit {0}
  IsFormed (Name name at) = Unit {0}
  IsFormed (Paren inner at) = IsFormed inner
  IsFormed (Index array index at) = IsFormed index
  IsFormed (Call function arguments at) = AreFormed arguments
  IsFormed (Postfix operator operand at) = (level operand ≤ 1) × (at ≡ place operand) × IsFormed operand
  IsFormed (Prefix operator operand at) = (level operand ≤ 2) × IsFormed operand
  IsFormed (Cast specifiers operand at) = (level operand ≤ 2) × IsSome specifiers × IsFormed operand
  IsFormed (Binary operator left right at) = (level left ≤ level_of operator) × (level right ≤ level_of operator - 1) × (at ≡ place left) × IsFormed left × IsFormed right
  IsFormed (Conditional test first second at) = (level test ≤ 12) × (level second ≤ 13) × (at ≡ place test) × IsFormed test × IsFormed first × IsFormed second
  IsFormed (Assign operator target value at) = (level target ≤ 2) × (level value ≤ 14) × (at ≡ place target) × IsFormed target × IsFormed value

  -- without a comma of their own
  pub AreFormed : {N : Type 0} → Exprs N → Type 0
  AreFormed NoExpr = Unit {0}
  AreFormed (AndExpr front last) = AreFormed front × (level last ≤ 14) × IsFormed last

abbrev pub AreSome : {N : Type 0} → Exprs N → Type 0
AreSome NoExpr = ⊥
AreSome (AndExpr front last) = Unit {0}

abbrev pub IsSomeRow : {A : Type 0} → Row A → Type 0
IsSomeRow Nothing = ⊥
IsSomeRow (Then front last) = Unit {0}

abbrev pub EachOf : {A : Type 0} → (A → Type 0) → Row A → Type 0
EachOf P Nothing = Unit {0}
EachOf P (Then front last) = EachOf P front × P last

abbrev pub IsFormedOption : {N : Type 0} → Option (Expr N) → Type 0
IsFormedOption None = Unit {0}
IsFormedOption (Some value) = IsFormed value

abbrev pub IsFormedShape : {N : Type 0} → Shape N → Type 0
IsFormedShape Scalar = Unit {0}
IsFormedShape Unsized = Unit {0}
IsFormedShape (Sized size) = (level size ≤ 13) × IsFormed size

abbrev pub IsFormedInitial : {N : Type 0} → Initial N → Type 0
IsFormedInitial Absent = Unit {0}
IsFormedInitial (Value value) = (level value ≤ 14) × IsFormed value
IsFormedInitial (Listed values comma) = AreSome values × AreFormed values

abbrev pub IsFormedObject : {N : Type 0} → Object N → Type 0
IsFormedObject (Declared name shape initial at) = IsFormedShape shape × IsFormedInitial initial

abbrev pub IsFormedParam : {N : Type 0} → Param N → Type 0
IsFormedParam (Parameter specifiers name shape at) = IsSome specifiers × IsFormedShape shape

abbrev pub IsFormedDeclaration : {N : Type 0} → Declaration N → Type 0
IsFormedDeclaration (Objects specifiers objects at) = IsSome specifiers × IsSomeRow objects × EachOf IsFormedObject objects
IsFormedDeclaration (Prototype specifiers name params at) = IsSome specifiers × EachOf IsFormedParam params

abbrev pub IsFormedLabel : {N : Type 0} → Label N → Type 0
IsFormedLabel (Case value at) = (level value ≤ 13) × IsFormed value
IsFormedLabel (Default at) = Unit {0}

abbrev pub IsFormedStart : {N : Type 0} → ForStart N → Type 0
IsFormedStart NoStart = Unit {0}
IsFormedStart (StartValue value) = IsFormed value
IsFormedStart (StartDeclaration declaration) = IsFormedDeclaration declaration

-- whether a statement ends in an `if` without `else`
abbrev pub ends_open : {N : Type 0} → Statement N → Bool
ends_open (If test first at) = true
ends_open (IfElse test first second at) = ends_open second
ends_open (While bound test body at) = ends_open body
ends_open (For bound start test step body at) = ends_open body
ends_open _ = false

abbrev mutual
  -- no first part of an `if` with `else` ends in an `if` without one
  pub IsFormedStatement : {N : Type 0} → Statement N → Type 0
  IsFormedStatement (Block items at) = AreFormedItems false items
  IsFormedStatement (Empty at) = Unit {0}
  IsFormedStatement (Evaluate value at) = (at ≡ place value) × IsFormed value
  IsFormedStatement (Marker pragma) = Unit {0}
  IsFormedStatement (If test first at) = IsFormed test × IsFormedStatement first
  IsFormedStatement (IfElse test first second at) = (ends_open first ≡ false) × IsFormed test × IsFormedStatement first × IsFormedStatement second
  IsFormedStatement (While bound test body at) = IsFormed test × IsFormedStatement body
  IsFormedStatement (Do bound body test at) = IsFormed test × IsFormedStatement body
  IsFormedStatement (For bound start test step body at) = IsFormedStart start × IsFormedOption test × IsFormedOption step × IsFormedStatement body
  IsFormedStatement (Switch test items at) = IsFormed test × AreFormedItems true items
  IsFormedStatement (Break at) = Unit {0}
  IsFormedStatement (Continue at) = Unit {0}
  IsFormedStatement (Return value at) = IsFormedOption value

  -- labels stand in a `switch` alone
  pub AreFormedItems : {N : Type 0} → (labels : Bool) → Items N → Type 0
  AreFormedItems labels NoItem = Unit {0}
  AreFormedItems labels (AndDeclaration front declaration) = AreFormedItems labels front × IsFormedDeclaration declaration
  AreFormedItems labels (AndStatement front statement) = AreFormedItems labels front × IsFormedStatement statement
  AreFormedItems labels (AndRestriction front pragma) = AreFormedItems labels front
  AreFormedItems labels (AndLabel front label) = AreFormedItems labels front × (labels ≡ true) × IsFormedLabel label

abbrev pub IsFormedExternal : {N : Type 0} → External N → Type 0
IsFormedExternal (Restriction pragma) = Unit {0}
IsFormedExternal (Declaring declaration) = IsFormedDeclaration declaration
IsFormedExternal (Function specifiers name name_at params body body_at at) = IsSome specifiers × EachOf IsFormedParam params × AreFormedItems false body

abbrev pub declaration_place : {N : Type 0} → Declaration N → ℕ
declaration_place (Objects specifiers objects at) = at
declaration_place (Prototype specifiers name params at) = at

abbrev pub external_place : {N : Type 0} → External N → ℕ
external_place (Restriction pragma) = pragma.at
external_place (Declaring declaration) = declaration_place declaration
external_place (Function specifiers name name_at params body body_at at) = at

-- the place of the first of these, where there is one
abbrev pub IsFirstPlace : {N : Type 0} → ℕ → Row (External N) → Type 0
IsFirstPlace at Nothing = ⊥
IsFirstPlace at (Then Nothing last) = at ≡ external_place last
IsFirstPlace at (Then (Then front middle) last) = IsFirstPlace at (Then front middle)

abbrev pub IsFormedUnit : {N : Type 0} → TranslationUnit N → Type 0
IsFormedUnit (Whole items at) = IsFirstPlace at items × EachOf IsFormedExternal items

-- a well-formed tree of names by their bytes, and these tokens are its spelling
abbrev pub IsTreeOf : TranslationUnit (List ℕ) → List Spoken → Type 0
IsTreeOf unit tokens = IsFormedUnit unit × Agree (spell_unit unit) tokens
