-- What holds of each name of a tree, and of each marker and restriction in it.
use Rattle.std.specs.Prelude.{Option, Some, None}
use Rattle.c_tree.specs.declared.pragma.Pragma.{Pragma}
use Rattle.c_tree.specs.Formed.{EachOf}
use Rattle.c_tree.specs.Tree.{Expr, Number, Character, Name, Paren, Index, Call, Postfix, Prefix, Cast, Binary, Conditional, Assign, Exprs, NoExpr, AndExpr, Shape, Scalar, Unsized, Sized, Initial, Absent, Value, Listed, Object, Declared, Param, Parameter, Declaration, Objects, Prototype, Label, Case, Default, ForStart, NoStart, StartValue, StartDeclaration, Statement, Block, Empty, Evaluate, Marker, If, IfElse, While, Do, For, Switch, Break, Continue, Return, Items, NoItem, AndDeclaration, AndStatement, AndRestriction, AndLabel, External, Restriction, Declaring, Function, TranslationUnit, Whole}

abbrev mutual
  pub Holds : {N : Type 0} → (N → Type 0) → Expr N → Type 0
  Holds P (Number constant at) = Unit {0}
  Holds P (Character value at) = Unit {0}
  Holds P (Name name at) = P name
  Holds P (Paren inner at) = Holds P inner
  Holds P (Index array index at) = P array × Holds P index
  Holds P (Call function arguments at) = P function × HoldsAll P arguments
  Holds P (Postfix operator operand at) = Holds P operand
  Holds P (Prefix operator operand at) = Holds P operand
  Holds P (Cast specifiers operand at) = Holds P operand
  Holds P (Binary operator left right at) = Holds P left × Holds P right
  Holds P (Conditional test first second at) = Holds P test × Holds P first × Holds P second
  Holds P (Assign operator target value at) = Holds P target × Holds P value

  pub HoldsAll : {N : Type 0} → (N → Type 0) → Exprs N → Type 0
  HoldsAll P NoExpr = Unit {0}
  HoldsAll P (AndExpr front last) = HoldsAll P front × Holds P last

abbrev pub OfSome : {A : Type 0} → (A → Type 0) → Option A → Type 0
OfSome P None = Unit {0}
OfSome P (Some x) = P x

abbrev pub HoldsShape : {N : Type 0} → (N → Type 0) → Shape N → Type 0
HoldsShape P Scalar = Unit {0}
HoldsShape P Unsized = Unit {0}
HoldsShape P (Sized size) = Holds P size

abbrev pub HoldsInitial : {N : Type 0} → (N → Type 0) → Initial N → Type 0
HoldsInitial P Absent = Unit {0}
HoldsInitial P (Value value) = Holds P value
HoldsInitial P (Listed values comma) = HoldsAll P values

abbrev pub HoldsObject : {N : Type 0} → (N → Type 0) → Object N → Type 0
HoldsObject P (Declared name shape initial at) = P name × HoldsShape P shape × HoldsInitial P initial

abbrev pub HoldsParam : {N : Type 0} → (N → Type 0) → Param N → Type 0
HoldsParam P (Parameter specifiers name shape at) = OfSome P name × HoldsShape P shape

abbrev pub HoldsDeclaration : {N : Type 0} → (N → Type 0) → Declaration N → Type 0
HoldsDeclaration P (Objects specifiers objects at) = EachOf (HoldsObject P) objects
HoldsDeclaration P (Prototype specifiers name params at) = P name × EachOf (HoldsParam P) params

abbrev pub HoldsLabel : {N : Type 0} → (N → Type 0) → Label N → Type 0
HoldsLabel P (Case value at) = Holds P value
HoldsLabel P (Default at) = Unit {0}

abbrev pub HoldsStart : {N : Type 0} → (N → Type 0) → ForStart N → Type 0
HoldsStart P NoStart = Unit {0}
HoldsStart P (StartValue value) = Holds P value
HoldsStart P (StartDeclaration declaration) = HoldsDeclaration P declaration

abbrev mutual
  -- P of each name, Q of each marker and restriction
  pub HoldsStatement : {N : Type 0} → (N → Type 0) → (Pragma → Type 0) → Statement N → Type 0
  HoldsStatement P Q (Block items at) = HoldsItems P Q items
  HoldsStatement P Q (Empty at) = Unit {0}
  HoldsStatement P Q (Evaluate value at) = Holds P value
  HoldsStatement P Q (Marker pragma) = Q pragma
  HoldsStatement P Q (If test first at) = Holds P test × HoldsStatement P Q first
  HoldsStatement P Q (IfElse test first second at) = Holds P test × HoldsStatement P Q first × HoldsStatement P Q second
  HoldsStatement P Q (While bound test body at) = Holds P test × HoldsStatement P Q body
  HoldsStatement P Q (Do bound body test at) = HoldsStatement P Q body × Holds P test
  HoldsStatement P Q (For bound start test step body at) = HoldsStart P start × OfSome (Holds P) test × OfSome (Holds P) step × HoldsStatement P Q body
  HoldsStatement P Q (Switch test items at) = Holds P test × HoldsItems P Q items
  HoldsStatement P Q (Break at) = Unit {0}
  HoldsStatement P Q (Continue at) = Unit {0}
  HoldsStatement P Q (Return value at) = OfSome (Holds P) value

  pub HoldsItems : {N : Type 0} → (N → Type 0) → (Pragma → Type 0) → Items N → Type 0
  HoldsItems P Q NoItem = Unit {0}
  HoldsItems P Q (AndDeclaration front declaration) = HoldsItems P Q front × HoldsDeclaration P declaration
  HoldsItems P Q (AndStatement front statement) = HoldsItems P Q front × HoldsStatement P Q statement
  HoldsItems P Q (AndRestriction front pragma) = HoldsItems P Q front × Q pragma
  HoldsItems P Q (AndLabel front label) = HoldsItems P Q front × HoldsLabel P label

abbrev pub HoldsExternal : {N : Type 0} → (N → Type 0) → (Pragma → Type 0) → External N → Type 0
HoldsExternal P Q (Restriction pragma) = Q pragma
HoldsExternal P Q (Declaring declaration) = HoldsDeclaration P declaration
HoldsExternal P Q (Function specifiers name name_at params body body_at at) = P name × EachOf (HoldsParam P) params × HoldsItems P Q body

abbrev pub HoldsUnit : {N : Type 0} → (N → Type 0) → (Pragma → Type 0) → TranslationUnit N → Type 0
HoldsUnit P Q (Whole items at) = EachOf (HoldsExternal P Q) items
