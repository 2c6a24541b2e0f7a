-- Trees of sources whose constants are words.
use Rattle.std.specs.Prelude.{ℕ, ◌<◌, ◌^◌, Option, Some, None}
use Rattle.c_tree.specs.Tree.{Row, Nothing, Then, Expr, Number, Character, Name, Paren, Index, Call, Postfix, Prefix, Cast, Binary, Conditional, Assign, Exprs, NoExpr, AndExpr, Initial, Absent, Value, Listed, Object, Declared, Declaration, Objects, Prototype, Label, Case, Default, ForStart, NoStart, StartValue, StartDeclaration, Statement, Block, Empty, Evaluate, Marker, If, IfElse, While, Do, For, Switch, Break, Continue, Return, Items, NoItem, AndDeclaration, AndStatement, AndRestriction, AndLabel, External, Restriction, Declaring, Function, TranslationUnit, Whole}

abbrev mutual
  pub TreeWords : Expr ℕ → Type 0
  TreeWords (Number constant at) = constant.value < 2 ^ 32
  TreeWords (Character value at) = value < 2 ^ 32
  TreeWords (Name name at) = Unit {0}
  TreeWords (Paren inner at) = TreeWords inner
  TreeWords (Index array index at) = TreeWords index
  TreeWords (Call function arguments at) = TreesWords arguments
  TreeWords (Postfix operator operand at) = TreeWords operand
  TreeWords (Prefix operator operand at) = TreeWords operand
  TreeWords (Cast specifiers operand at) = TreeWords operand
  TreeWords (Binary operator left right at) = TreeWords left × TreeWords right
  TreeWords (Conditional test first second at) = TreeWords test × TreeWords first × TreeWords second
  TreeWords (Assign operator target value at) = TreeWords target × TreeWords value

  pub TreesWords : Exprs ℕ → Type 0
  TreesWords NoExpr = Unit {0}
  TreesWords (AndExpr front last) = TreesWords front × TreeWords last

abbrev pub OptionTree : Option (Expr ℕ) → Type 0
OptionTree None = Unit {0}
OptionTree (Some e) = TreeWords e

-- sizes aside, which are no part of a plan's code
abbrev pub InitialTree : Initial ℕ → Type 0
InitialTree Absent = Unit {0}
InitialTree (Value value) = TreeWords value
InitialTree (Listed values comma) = TreesWords values

abbrev pub ObjectTree : Object ℕ → Type 0
ObjectTree (Declared name shape initial at) = InitialTree initial

abbrev pub RowTree : {A : Type 0} → (A → Type 0) → Row A → Type 0
RowTree P Nothing = Unit {0}
RowTree P (Then front last) = RowTree P front × P last

abbrev pub DeclarationTree : Declaration ℕ → Type 0
DeclarationTree (Objects specifiers objects at) = RowTree ObjectTree objects
DeclarationTree (Prototype specifiers name params at) = Unit {0}

abbrev pub LabelTree : Label ℕ → Type 0
LabelTree (Case value at) = TreeWords value
LabelTree (Default at) = Unit {0}

abbrev pub StartTree : ForStart ℕ → Type 0
StartTree NoStart = Unit {0}
StartTree (StartValue value) = TreeWords value
StartTree (StartDeclaration declaration) = DeclarationTree declaration

abbrev mutual
  pub StatementTree : Statement ℕ → Type 0
  StatementTree (Block items at) = ItemsTree items
  StatementTree (Empty at) = Unit {0}
  StatementTree (Evaluate value at) = TreeWords value
  StatementTree (Marker pragma) = Unit {0}
  StatementTree (If test first at) = TreeWords test × StatementTree first
  StatementTree (IfElse test first second at) = TreeWords test × StatementTree first × StatementTree second
  StatementTree (While bound test body at) = TreeWords test × StatementTree body
  StatementTree (Do bound body test at) = StatementTree body × TreeWords test
  StatementTree (For bound start test step body at) = StartTree start × OptionTree test × OptionTree step × StatementTree body
  StatementTree (Switch test items at) = TreeWords test × ItemsTree items
  StatementTree (Break at) = Unit {0}
  StatementTree (Continue at) = Unit {0}
  StatementTree (Return value at) = OptionTree value

  pub ItemsTree : Items ℕ → Type 0
  ItemsTree NoItem = Unit {0}
  ItemsTree (AndDeclaration front declaration) = ItemsTree front × DeclarationTree declaration
  ItemsTree (AndStatement front statement) = ItemsTree front × StatementTree statement
  ItemsTree (AndRestriction front pragma) = ItemsTree front
  ItemsTree (AndLabel front label) = ItemsTree front × LabelTree label

abbrev pub ExternalTree : External ℕ → Type 0
ExternalTree (Restriction pragma) = Unit {0}
ExternalTree (Declaring declaration) = DeclarationTree declaration
ExternalTree (Function specifiers name name_at params body body_at at) = ItemsTree body

abbrev pub UnitTree : TranslationUnit ℕ → Type 0
UnitTree (Whole items at) = RowTree ExternalTree items
