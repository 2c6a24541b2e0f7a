-- Well-formed trees: no operand binds weaker than its place, and an `else` belongs to the nearest `if` (C11 6.5, 6.8.4.1); and tokens that spell one.
use Rattle.std.specs.Prelude.{◌≡◌, ℕ, ◌-◌, ◌≤◌, ◌||◌, List, Option, Some, None, Bool, true, false}
use Rattle.c_tree.specs.Formed.{EachOf, level_of}
use Rattle.c_tree.specs.Tree.{Row, Nothing, Then}
use Rattle.wide_tree.specs.Said.{Spoken}
use Rattle.wide_tree.specs.Spelling.{Agree, spell_unit}
use Rattle.wide_tree.specs.Tree.{Expr, Number, Character, Name, Paren, Index, Call, Postfix, Prefix, Cast, Binary, Conditional, Assign, SizeofValue, SizeofType, AlignofType, Exprs, NoExpr, AndExpr, Specifiers, NoSpecifier, WithSpecifier, Specifier, Profile, Keyword, TypeName, Tagged, Enumeration, Enumerators, NoEnumerator, AndNext, AndValued, Shape, Scalar, Unsized, Sized, Initial, Absent, Value, Listed, Object, Declared, Param, Parameter, Declaration, Objects, Prototype, Asserted, Label, Case, Default, ForStart, NoStart, StartValue, StartDeclaration, Statement, Block, Empty, Evaluate, Marker, If, IfElse, While, Do, For, Switch, Break, Continue, Return, Items, NoItem, AndDeclaration, AndStatement, AndRestriction, AndLabel, External, Restriction, Declaring, Function, TranslationUnit, Whole}

abbrev pub level : Expr → ℕ
level (Prefix operator operand at) = 2
level (Cast specifiers operand at) = 2
level (SizeofValue operand at) = 2
level (SizeofType specifiers at) = 2
level (AlignofType specifiers at) = 2
level (Binary operator left right at) = level_of operator
level (Conditional test first second at) = 13
level (Assign operator target value at) = 14
level _ = 1

abbrev pub place : Expr → ℕ
place (Number constant at) = at
place (Character value at) = at
place (Name name at) = at
place (Paren inner at) = at
place (Index array index at) = at
place (Call function arguments at) = at
place (Postfix operator operand at) = at
place (Prefix operator operand at) = at
place (Cast specifiers operand at) = at
place (Binary operator left right at) = at
place (Conditional test first second at) = at
place (Assign operator target value at) = at
place (SizeofValue operand at) = at
place (SizeofType specifiers at) = at
place (AlignofType specifiers at) = at

-- a cast is no operand of `sizeof`: in `sizeof (int)-1` the type is (6.5.3)
abbrev pub is_cast : Expr → Bool
is_cast (Cast specifiers operand at) = true
is_cast _ = false

abbrev pub AreSomeWords : Specifiers → Type 0
AreSomeWords NoSpecifier = ⊥
AreSomeWords (WithSpecifier first others) = Unit {0}

abbrev pub AreSomeConstants : Enumerators → Type 0
AreSomeConstants NoEnumerator = ⊥
AreSomeConstants _ = Unit {0}

-- whether one of these words lists the constants of an enumeration
abbrev pub lists : Specifier → Bool
lists (Enumeration tag list comma) = true
lists _ = false

abbrev pub list_one : Specifiers → Bool
list_one NoSpecifier = false
list_one (WithSpecifier first others) = lists first || list_one others

abbrev mutual
  -- no operand binds weaker than its place, and a node that begins with a part has that part's place
  pub IsFormed : Expr → Type 0
  IsFormed (Number constant at) = Unit {0}
  IsFormed (Character value at) = Unit {0}
  IsFormed (Name name at) = Unit {0}
  IsFormed (Paren inner at) = IsFormed inner
  IsFormed (Index array index at) = IsFormed index
  IsFormed (Call function arguments at) = AreFormed arguments
  IsFormed (Postfix operator operand at) = (level operand ≤ 1) × (at ≡ place operand) × IsFormed operand
  IsFormed (Prefix operator operand at) = (level operand ≤ 2) × IsFormed operand
  IsFormed (Cast specifiers operand at) = (level operand ≤ 2) × AreSomeWords specifiers × AreFormedWords specifiers × IsFormed operand
  IsFormed (Binary operator left right at) = (level left ≤ level_of operator) × (level right ≤ level_of operator - 1) × (at ≡ place left) × IsFormed left × IsFormed right
  IsFormed (Conditional test first second at) = (level test ≤ 12) × (level second ≤ 13) × (at ≡ place test) × IsFormed test × IsFormed first × IsFormed second
  IsFormed (Assign operator target value at) = (level target ≤ 2) × (level value ≤ 14) × (at ≡ place target) × IsFormed target × IsFormed value
  IsFormed (SizeofValue operand at) = (level operand ≤ 2) × (is_cast operand ≡ false) × IsFormed operand
  IsFormed (SizeofType specifiers at) = AreSomeWords specifiers × AreFormedWords specifiers
  IsFormed (AlignofType specifiers at) = AreSomeWords specifiers × AreFormedWords specifiers

  -- without a comma of their own
  pub AreFormed : Exprs → Type 0
  AreFormed NoExpr = Unit {0}
  AreFormed (AndExpr front last) = AreFormed front × (level last ≤ 14) × IsFormed last

  pub AreFormedWords : Specifiers → Type 0
  AreFormedWords NoSpecifier = Unit {0}
  AreFormedWords (WithSpecifier first others) = IsFormedWord first × AreFormedWords others

  pub IsFormedWord : Specifier → Type 0
  IsFormedWord (Profile word) = Unit {0}
  IsFormedWord (Keyword word) = Unit {0}
  IsFormedWord (TypeName name) = Unit {0}
  IsFormedWord (Tagged tag) = Unit {0}
  IsFormedWord (Enumeration tag list comma) = AreSomeConstants list × AreFormedConstants list

  pub AreFormedConstants : Enumerators → Type 0
  AreFormedConstants NoEnumerator = Unit {0}
  AreFormedConstants (AndNext front name) = AreFormedConstants front
  AreFormedConstants (AndValued front name value) = AreFormedConstants front × (level value ≤ 13) × IsFormed value

abbrev pub AreSome : Exprs → Type 0
AreSome NoExpr = ⊥
AreSome (AndExpr front last) = Unit {0}

abbrev pub IsFormedOption : Option Expr → Type 0
IsFormedOption None = Unit {0}
IsFormedOption (Some value) = IsFormed value

abbrev pub IsFormedShape : Shape → Type 0
IsFormedShape Scalar = Unit {0}
IsFormedShape Unsized = Unit {0}
IsFormedShape (Sized size) = (level size ≤ 13) × IsFormed size

abbrev pub IsFormedInitial : Initial → Type 0
IsFormedInitial Absent = Unit {0}
IsFormedInitial (Value value) = (level value ≤ 14) × IsFormed value
IsFormedInitial (Listed values comma) = AreSome values × AreFormed values

abbrev pub IsFormedObject : Object → Type 0
IsFormedObject (Declared name shape initial at) = IsFormedShape shape × IsFormedInitial initial

abbrev pub AreWords : Specifiers → Type 0
AreWords specifiers = AreSomeWords specifiers × AreFormedWords specifiers

abbrev pub IsFormedParam : Param → Type 0
IsFormedParam (Parameter specifiers name shape at) = AreWords specifiers × IsFormedShape shape

-- objects are declared, or the words declare an enumeration
abbrev pub Declare : Specifiers → Row Object → Type 0
Declare specifiers Nothing = list_one specifiers ≡ true
Declare specifiers (Then front last) = Unit {0}

abbrev pub IsFormedDeclaration : Declaration → Type 0
IsFormedDeclaration (Objects specifiers objects at) = AreWords specifiers × Declare specifiers objects × EachOf IsFormedObject objects
IsFormedDeclaration (Prototype specifiers name params at) = AreWords specifiers × EachOf IsFormedParam params
IsFormedDeclaration (Asserted test message at) = (level test ≤ 13) × IsFormed test

abbrev pub IsFormedLabel : Label → Type 0
IsFormedLabel (Case value at) = (level value ≤ 13) × IsFormed value
IsFormedLabel (Default at) = Unit {0}

abbrev pub IsFormedStart : ForStart → Type 0
IsFormedStart NoStart = Unit {0}
IsFormedStart (StartValue value) = IsFormed value
IsFormedStart (StartDeclaration declaration) = IsFormedDeclaration declaration

-- whether a statement ends in an `if` without `else`
abbrev pub ends_open : Statement → Bool
ends_open (If test first at) = true
ends_open (IfElse test first second at) = ends_open second
ends_open (While bound test body at) = ends_open body
ends_open (For bound start test step body at) = ends_open body
ends_open _ = false

abbrev mutual
  -- no first part of an `if` with `else` ends in an `if` without one
  pub IsFormedStatement : Statement → Type 0
  IsFormedStatement (Block items at) = AreFormedItems false items
  IsFormedStatement (Empty at) = Unit {0}
  IsFormedStatement (Evaluate value at) = (at ≡ place value) × IsFormed value
  IsFormedStatement (Marker pragma) = Unit {0}
  IsFormedStatement (If test first at) = IsFormed test × IsFormedStatement first
  IsFormedStatement (IfElse test first second at) = (ends_open first ≡ false) × IsFormed test × IsFormedStatement first × IsFormedStatement second
  IsFormedStatement (While bound test body at) = IsFormed test × IsFormedStatement body
  IsFormedStatement (Do bound body test at) = IsFormed test × IsFormedStatement body
  IsFormedStatement (For bound start test step body at) = IsFormedStart start × IsFormedOption test × IsFormedOption step × IsFormedStatement body
  IsFormedStatement (Switch test items at) = IsFormed test × AreFormedItems true items
  IsFormedStatement (Break at) = Unit {0}
  IsFormedStatement (Continue at) = Unit {0}
  IsFormedStatement (Return value at) = IsFormedOption value

  -- labels stand in a `switch` alone
  pub AreFormedItems : (labels : Bool) → Items → Type 0
  AreFormedItems labels NoItem = Unit {0}
  AreFormedItems labels (AndDeclaration front declaration) = AreFormedItems labels front × IsFormedDeclaration declaration
  AreFormedItems labels (AndStatement front statement) = AreFormedItems labels front × IsFormedStatement statement
  AreFormedItems labels (AndRestriction front pragma) = AreFormedItems labels front
  AreFormedItems labels (AndLabel front label) = AreFormedItems labels front × (labels ≡ true) × IsFormedLabel label

abbrev pub IsFormedExternal : External → Type 0
IsFormedExternal (Restriction pragma) = Unit {0}
IsFormedExternal (Declaring declaration) = IsFormedDeclaration declaration
IsFormedExternal (Function specifiers name name_at params body body_at at) = AreWords specifiers × EachOf IsFormedParam params × AreFormedItems false body

abbrev pub declaration_place : Declaration → ℕ
declaration_place (Objects specifiers objects at) = at
declaration_place (Prototype specifiers name params at) = at
declaration_place (Asserted test message at) = at

abbrev pub external_place : External → ℕ
external_place (Restriction pragma) = pragma.at
external_place (Declaring declaration) = declaration_place declaration
external_place (Function specifiers name name_at params body body_at at) = at

-- the place of the first of these, where there is one
abbrev pub IsFirstPlace : ℕ → Row External → Type 0
IsFirstPlace at Nothing = ⊥
IsFirstPlace at (Then Nothing last) = at ≡ external_place last
IsFirstPlace at (Then (Then front middle) last) = IsFirstPlace at (Then front middle)

abbrev pub IsFormedUnit : TranslationUnit → Type 0
IsFormedUnit (Whole items at) = IsFirstPlace at items × EachOf IsFormedExternal items

-- a well-formed tree, and these tokens are its spelling
abbrev pub IsTreeOf : TranslationUnit → List Spoken → Type 0
IsTreeOf unit tokens = IsFormedUnit unit × Agree (spell_unit unit) tokens
