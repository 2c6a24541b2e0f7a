-- A tree with other names in the same places.
use Rattle.std.specs.Prelude.{Option, Some, None}
use Rattle.c_tree.specs.Tree.{Row, Nothing, Then, Expr, Number, Character, Name, Paren, Index, Call, Postfix, Prefix, Cast, Binary, Conditional, Assign, Exprs, NoExpr, AndExpr, Shape, Scalar, Unsized, Sized, Initial, Absent, Value, Listed, Object, Declared, Param, Parameter, Declaration, Objects, Prototype, Label, Case, Default, ForStart, NoStart, StartValue, StartDeclaration, Statement, Block, Empty, Evaluate, Marker, If, IfElse, While, Do, For, Switch, Break, Continue, Return, Items, NoItem, AndDeclaration, AndStatement, AndRestriction, AndLabel, External, Restriction, Declaring, Function, TranslationUnit, Whole}

abbrev mutual
  pub named : {M N : Type 0} → (M → N) → Expr M → Expr N
  named f (Number constant at) = Number constant at
  named f (Character value at) = Character value at
  named f (Name name at) = Name (f name) at
  named f (Paren inner at) = Paren (named f inner) at
  named f (Index array index at) = Index (f array) (named f index) at
  named f (Call function arguments at) = Call (f function) (named_all f arguments) at
  named f (Postfix operator operand at) = Postfix operator (named f operand) at
  named f (Prefix operator operand at) = Prefix operator (named f operand) at
  named f (Cast specifiers operand at) = Cast specifiers (named f operand) at
  named f (Binary operator left right at) = Binary operator (named f left) (named f right) at
  named f (Conditional test first second at) = Conditional (named f test) (named f first) (named f second) at
  named f (Assign operator target value at) = Assign operator (named f target) (named f value) at

  pub named_all : {M N : Type 0} → (M → N) → Exprs M → Exprs N
  named_all f NoExpr = NoExpr
  named_all f (AndExpr front last) = AndExpr (named_all f front) (named f last)

abbrev pub map_row : {A B : Type 0} → (A → B) → Row A → Row B
map_row g Nothing = Nothing
map_row g (Then front last) = Then (map_row g front) (g last)

abbrev pub map_option : {A B : Type 0} → (A → B) → Option A → Option B
map_option g None = None
map_option g (Some x) = Some (g x)

abbrev pub named_shape : {M N : Type 0} → (M → N) → Shape M → Shape N
named_shape f Scalar = Scalar
named_shape f Unsized = Unsized
named_shape f (Sized size) = Sized (named f size)

abbrev pub named_initial : {M N : Type 0} → (M → N) → Initial M → Initial N
named_initial f Absent = Absent
named_initial f (Value value) = Value (named f value)
named_initial f (Listed values comma) = Listed (named_all f values) comma

abbrev pub named_object : {M N : Type 0} → (M → N) → Object M → Object N
named_object f (Declared name shape initial at) = Declared (f name) (named_shape f shape) (named_initial f initial) at

abbrev pub named_param : {M N : Type 0} → (M → N) → Param M → Param N
named_param f (Parameter specifiers name shape at) = Parameter specifiers (map_option f name) (named_shape f shape) at

abbrev pub named_declaration : {M N : Type 0} → (M → N) → Declaration M → Declaration N
named_declaration f (Objects specifiers objects at) = Objects specifiers (map_row (named_object f) objects) at
named_declaration f (Prototype specifiers name params at) = Prototype specifiers (f name) (map_row (named_param f) params) at

abbrev pub named_label : {M N : Type 0} → (M → N) → Label M → Label N
named_label f (Case value at) = Case (named f value) at
named_label f (Default at) = Default at

abbrev pub named_start : {M N : Type 0} → (M → N) → ForStart M → ForStart N
named_start f NoStart = NoStart
named_start f (StartValue value) = StartValue (named f value)
named_start f (StartDeclaration declaration) = StartDeclaration (named_declaration f declaration)

abbrev mutual
  pub named_statement : {M N : Type 0} → (M → N) → Statement M → Statement N
  named_statement f (Block items at) = Block (named_items f items) at
  named_statement f (Empty at) = Empty at
  named_statement f (Evaluate value at) = Evaluate (named f value) at
  named_statement f (Marker pragma) = Marker pragma
  named_statement f (If test first at) = If (named f test) (named_statement f first) at
  named_statement f (IfElse test first second at) = IfElse (named f test) (named_statement f first) (named_statement f second) at
  named_statement f (While bound test body at) = While bound (named f test) (named_statement f body) at
  named_statement f (Do bound body test at) = Do bound (named_statement f body) (named f test) at
  named_statement f (For bound start test step body at) = For bound (named_start f start) (map_option (named f) test) (map_option (named f) step) (named_statement f body) at
  named_statement f (Switch test items at) = Switch (named f test) (named_items f items) at
  named_statement f (Break at) = Break at
  named_statement f (Continue at) = Continue at
  named_statement f (Return value at) = Return (map_option (named f) value) at

  pub named_items : {M N : Type 0} → (M → N) → Items M → Items N
  named_items f NoItem = NoItem
  named_items f (AndDeclaration front declaration) = AndDeclaration (named_items f front) (named_declaration f declaration)
  named_items f (AndStatement front statement) = AndStatement (named_items f front) (named_statement f statement)
  named_items f (AndRestriction front pragma) = AndRestriction (named_items f front) pragma
  named_items f (AndLabel front label) = AndLabel (named_items f front) (named_label f label)

abbrev pub named_external : {M N : Type 0} → (M → N) → External M → External N
named_external f (Restriction pragma) = Restriction pragma
named_external f (Declaring declaration) = Declaring (named_declaration f declaration)
named_external f (Function specifiers name name_at params body body_at at) = Function specifiers (f name) name_at (map_row (named_param f) params) (named_items f body) body_at at

abbrev pub named_unit : {M N : Type 0} → (M → N) → TranslationUnit M → TranslationUnit N
named_unit f (Whole items at) = Whole (map_row (named_external f) items) at
