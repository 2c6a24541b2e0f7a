-- A machine that reads a translation unit, one token a step.
use Rattle.std.specs.Prelude.{ℕ, List, [], ◌∷◌, ◌++◌, Option, Some, None, Bool, true, false, nat_le, if◌then◌else◌}
use Rattle.c_tree.specs.declared.token.TokenKind.TheVariants as kinds
use Rattle.c_tree.specs.declared.expression.Specifier.{Specifier}
use Rattle.c_tree.specs.declared.expression.Specifier.TheVariants as specifiers
use Rattle.c_tree.specs.declared.expression.PostfixOperator.{PostfixOperator}
use Rattle.c_tree.specs.declared.expression.PostfixOperator.TheVariants as postfix
use Rattle.c_tree.specs.declared.expression.PrefixOperator.TheVariants as prefix
use Rattle.c_tree.specs.declared.expression.BinaryOperator.{BinaryOperator}
use Rattle.c_tree.specs.declared.expression.BinaryOperator.TheVariants as binary
use Rattle.c_tree.specs.declared.expression.AssignOperator.{AssignOperator}
use Rattle.c_tree.specs.declared.expression.AssignOperator.TheVariants as assign
use Rattle.c_tree.specs.Said as lexemes
use Rattle.c_tree.specs.Said.{Lexeme, Plain}
use Rattle.c_tree.specs.Spelling.{Spoken}
use Rattle.c_tree.specs.Formed.{level, level_of, place}
use Rattle.c_tree.specs.declared.pragma.Pragma.{Pragma}
use Rattle.c_tree.specs.Tree.{Row, Nothing, Then, Expr, Number, Character, Name, Paren, Index, Call, Postfix, Prefix, Cast, Binary, Conditional, Assign, Exprs, NoExpr, AndExpr, Shape, Scalar, Unsized, Sized, Absent, Value, Object, Declared, Param, Parameter, Declaration, Objects, Prototype, Case, Default, ForStart, NoStart, StartValue, StartDeclaration, Statement, Block, Empty, Evaluate, Marker, If, IfElse, While, Do, For, Switch, Break, Continue, Return, Items, NoItem, AndDeclaration, AndStatement, AndRestriction, AndLabel, External, Restriction, Declaring, Function}
use Rattle.c_tree.specs.Tree as trees
use Rattle.parse_grammar.specs.Begun.{Bytes, Heads, Frames, InItems, InThen, InElse, InWhile, InDo, InFor, Braces, OfBlock, OfSwitch, OfFunction, Scope, AtFile, AmongItems, AtFor, Head, Heading, Proto, Signs, Declarator, OfObject, OfParam, Test, OfIf, OfWhile, OfDo, OfChoice, Purpose, Evaluates, Returns, Tests, Starts, Guards, Repeats, Sizes, Initialises, Lists, Labels, Stack, Base, InParen, InIndex, InCall, AfterPrefix, AfterCast, AfterJoin, AfterQuestion, AfterColon, AfterAssign, demand, State, Wants, Has, Opened, Typed, Called, File, Among, Begins, Stands, Closes, Bounded, Opens, Chooses, Answers, Defaults, Loops, LoopStarts, LoopTests, LoopSteps, Specified, Named, Further, Declares, Sizing, Shaped, Initial, Listed, Ended, ParamsOpen, ParamNext, ParamSpecified, ParamsDone}

-- where a step leads
pub data Moved : Type 0 where
  Goes : (state : State) → Moved
  Stuck : Moved

-- what a token does behind an operand
pub data Role : Type 0 where
  Joins : (operator : BinaryOperator) → Role
  Assigns : (operator : AssignOperator) → Role
  Steps : (operator : PostfixOperator) → Role
  Asks : Role
  Separates : Role
  OpensParen : Role
  ClosesParen : Role
  OpensBracket : Role
  ClosesBracket : Role
  Other : (said : Lexeme) → Role

abbrev pub role : Lexeme → Role
role (Plain kinds.Star) = Joins binary.Multiply
role (Plain kinds.Slash) = Joins binary.Divide
role (Plain kinds.Percent) = Joins binary.Remainder
role (Plain kinds.Plus) = Joins binary.Add
role (Plain kinds.Minus) = Joins binary.Subtract
role (Plain kinds.LessLess) = Joins binary.ShiftLeft
role (Plain kinds.GreaterGreater) = Joins binary.ShiftRight
role (Plain kinds.LessThan) = Joins binary.Less
role (Plain kinds.GreaterThan) = Joins binary.Greater
role (Plain kinds.LessEqual) = Joins binary.LessEqual
role (Plain kinds.GreaterEqual) = Joins binary.GreaterEqual
role (Plain kinds.EqualEqual) = Joins binary.Equal
role (Plain kinds.ExclamationEqual) = Joins binary.NotEqual
role (Plain kinds.Ampersand) = Joins binary.BitAnd
role (Plain kinds.Caret) = Joins binary.BitXor
role (Plain kinds.Bar) = Joins binary.BitOr
role (Plain kinds.AmpersandAmpersand) = Joins binary.And
role (Plain kinds.BarBar) = Joins binary.Or
role (Plain kinds.Comma) = Joins binary.Comma
role (Plain kinds.Equal) = Assigns assign.Assign
role (Plain kinds.StarEqual) = Assigns assign.Multiply
role (Plain kinds.SlashEqual) = Assigns assign.Divide
role (Plain kinds.PercentEqual) = Assigns assign.Remainder
role (Plain kinds.PlusEqual) = Assigns assign.Add
role (Plain kinds.MinusEqual) = Assigns assign.Subtract
role (Plain kinds.LessLessEqual) = Assigns assign.ShiftLeft
role (Plain kinds.GreaterGreaterEqual) = Assigns assign.ShiftRight
role (Plain kinds.AmpersandEqual) = Assigns assign.BitAnd
role (Plain kinds.CaretEqual) = Assigns assign.BitXor
role (Plain kinds.BarEqual) = Assigns assign.BitOr
role (Plain kinds.PlusPlus) = Steps postfix.Increment
role (Plain kinds.MinusMinus) = Steps postfix.Decrement
role (Plain kinds.Question) = Asks
role (Plain kinds.Colon) = Separates
role (Plain kinds.LeftParen) = OpensParen
role (Plain kinds.RightParen) = ClosesParen
role (Plain kinds.LeftBracket) = OpensBracket
role (Plain kinds.RightBracket) = ClosesBracket
role said = Other said

-- the level at which it goes on with an operand; above all levels, where it only ends one
abbrev pub reach : Role → ℕ
reach (Joins operator) = level_of operator
reach (Assigns operator) = 14
reach (Steps operator) = 1
reach Asks = 13
reach OpensParen = 0
reach OpensBracket = 0
reach _ = 16

-- the specifier that a token is
abbrev pub specifier_of : Lexeme → Option Specifier
specifier_of (Plain kinds.Static) = Some specifiers.Static
specifier_of (Plain kinds.Extern) = Some specifiers.Extern
specifier_of (Plain kinds.Inline) = Some specifiers.Inline
specifier_of (Plain kinds.Const) = Some specifiers.Const
specifier_of (Plain kinds.Void) = Some specifiers.Void
specifier_of (Plain kinds.Char) = Some specifiers.Char
specifier_of (Plain kinds.Short) = Some specifiers.Short
specifier_of (Plain kinds.Int) = Some specifiers.Int
specifier_of (Plain kinds.Long) = Some specifiers.Long
specifier_of (Plain kinds.Signed) = Some specifiers.Signed
specifier_of (Plain kinds.Unsigned) = Some specifiers.Unsigned
specifier_of said = None

abbrev pub only_if : Bool → State → Moved
only_if b state = if b then Goes state else Stuck

-- an operand begins
abbrev pub begin : Lexeme → ℕ → Stack → Moved
begin (lexemes.Name name) at under = Goes (Has (Name name at) under)
begin (lexemes.Integer constant) at under = Goes (Has (Number constant at) under)
begin (lexemes.Character value) at under = Goes (Has (Character value at) under)
begin (Plain kinds.LeftParen) at under = Goes (Opened at under)
begin (Plain kinds.PlusPlus) at under = Goes (Wants (AfterPrefix prefix.Increment at under))
begin (Plain kinds.MinusMinus) at under = Goes (Wants (AfterPrefix prefix.Decrement at under))
begin (Plain kinds.Minus) at under = Goes (Wants (AfterPrefix prefix.Negate at under))
begin (Plain kinds.Plus) at under = Goes (Wants (AfterPrefix prefix.Plus at under))
begin (Plain kinds.Tilde) at under = Goes (Wants (AfterPrefix prefix.Complement at under))
begin (Plain kinds.Exclamation) at under = Goes (Wants (AfterPrefix prefix.Not at under))
begin said at under = Stuck

-- a declaration is whole
abbrev pub declared : Scope → Declaration Bytes → State
declared (AtFile front) declaration = File (Then front (Declaring declaration))
declared (AmongItems front braces) declaration = Among (AndDeclaration front declaration) braces
declared (AtFor bound at under) declaration = LoopTests bound (StartDeclaration declaration) at under

-- an object is whole
abbrev pub object_ends : Lexeme → Head → Object Bytes → Moved
object_ends (Plain kinds.Comma) (Heading specifiers objects at scope) object = Goes (Further (Heading specifiers (Then objects object) at scope))
object_ends (Plain kinds.Semicolon) (Heading specifiers objects at scope) object = Goes (declared scope (Objects specifiers (Then objects object) at))
object_ends said head object = Stuck

-- a parameter is whole
abbrev pub param_ends : Lexeme → Proto → Row (Param Bytes) → Param Bytes → Moved
param_ends (Plain kinds.Comma) proto front param = Goes (ParamNext proto (Then front param))
param_ends (Plain kinds.RightParen) proto front param = Goes (ParamsDone proto (Then front param))
param_ends said proto front param = Stuck

-- a test in round brackets is whole
abbrev pub tested : Test → Expr Bytes → State
tested (OfIf at under) test = Begins (InThen test at under)
tested (OfWhile bound at under) test = Begins (InWhile bound test at under)
tested (OfDo bound body at under) test = Closes (Do bound body test at) under
tested (OfChoice at under) test = Chooses test at under

-- an expression is whole, and this token ends it
abbrev pub took : Purpose → Lexeme → Expr Bytes → Moved
took (Evaluates under) (Plain kinds.Semicolon) tree = Goes (Stands (Evaluate tree (place tree)) under)
took (Returns at under) (Plain kinds.Semicolon) tree = Goes (Stands (Return (Some tree) at) under)
took (Tests test) (Plain kinds.RightParen) tree = Goes (tested test tree)
took (Starts bound at under) (Plain kinds.Semicolon) tree = Goes (LoopTests bound (StartValue tree) at under)
took (Guards bound start at under) (Plain kinds.Semicolon) tree = Goes (LoopSteps bound start (Some tree) at under)
took (Repeats bound start test at under) (Plain kinds.RightParen) tree = Goes (Begins (InFor bound start test (Some tree) at under))
took (Sizes declarator) (Plain kinds.RightBracket) tree = Goes (Shaped declarator (Sized tree))
took (Initialises head name shape at) said tree = object_ends said head (Declared name shape (Value tree) at)
took (Lists head name shape front at) (Plain kinds.Comma) tree = Goes (Listed head name shape (AndExpr front tree) at)
took (Lists head name shape front at) (Plain kinds.RightBrace) tree = Goes (Ended head (Declared name shape (trees.Listed (AndExpr front tree) false) at))
took (Labels front braces at) (Plain kinds.Colon) tree = Goes (Among (AndLabel front (Case tree at)) braces)
took purpose said tree = Stuck

-- the operand goes on
abbrev pub enter : Role → Expr Bytes → Stack → Moved
enter (Joins operator) tree under = only_if (nat_le (level tree) (level_of operator)) (Wants (AfterJoin operator tree under))
enter (Assigns operator) tree under = only_if (nat_le (level tree) 2) (Wants (AfterAssign operator tree under))
enter (Steps operator) tree under = only_if (nat_le (level tree) 1) (Has (Postfix operator tree (place tree)) under)
enter Asks tree under = only_if (nat_le (level tree) 12) (Wants (AfterQuestion tree under))
enter OpensParen (Name name at) under = Goes (Called name at under)
enter OpensBracket (Name name at) under = Goes (Wants (InIndex name at under))
enter _ tree under = Stuck

-- the operand has ended, and the part that it ends goes on or ends with it
abbrev pub leave : Stack → Role → Lexeme → Expr Bytes → Moved
leave (AfterPrefix operator at under) r said tree = if nat_le (reach r) (demand under) then enter r (Prefix operator tree at) under else leave under r said (Prefix operator tree at)
leave (AfterCast specifiers at under) r said tree = if nat_le (reach r) (demand under) then enter r (Cast specifiers tree at) under else leave under r said (Cast specifiers tree at)
leave (AfterJoin operator left under) r said tree = if nat_le (reach r) (demand under) then enter r (Binary operator left tree (place left)) under else leave under r said (Binary operator left tree (place left))
leave (AfterColon test first under) r said tree = if nat_le (reach r) (demand under) then enter r (Conditional test first tree (place test)) under else leave under r said (Conditional test first tree (place test))
leave (AfterAssign operator target under) r said tree = if nat_le (reach r) (demand under) then enter r (Assign operator target tree (place target)) under else leave under r said (Assign operator target tree (place target))
leave (InParen at under) ClosesParen said tree = Goes (Has (Paren tree at) under)
leave (InIndex array at under) ClosesBracket said tree = Goes (Has (Index array tree at) under)
leave (InCall function at front under) ClosesParen said tree = Goes (Has (Call function (AndExpr front tree) at) under)
leave (InCall function at front under) (Joins binary.Comma) said tree = Goes (Wants (InCall function at (AndExpr front tree) under))
leave (AfterQuestion test under) Separates said tree = Goes (Wants (AfterColon test tree under))
leave (Base purpose) r said tree = took purpose said tree
leave _ r said tree = Stuck

abbrev pub go_on : Role → Lexeme → Expr Bytes → Stack → Moved
go_on r said tree under = if nat_le (reach r) (demand under) then enter r tree under else leave under r said tree

abbrev pub opened : Option Specifier → Lexeme → (here at : ℕ) → Stack → Moved
opened (Some specifier) said here at under = Goes (Typed (specifier ∷ []) at under)
opened None said here at under = begin said here (InParen at under)

abbrev pub cast_ends : Lexeme → List Specifier → ℕ → Stack → Moved
cast_ends (Plain kinds.RightParen) specifiers at under = Goes (Wants (AfterCast specifiers at under))
cast_ends said specifiers at under = Stuck

abbrev pub typed : Option Specifier → Lexeme → List Specifier → ℕ → Stack → Moved
typed (Some specifier) said specifiers at under = Goes (Typed (specifiers ++ specifier ∷ []) at under)
typed None said specifiers at under = cast_ends said specifiers at under

abbrev pub called : Lexeme → ℕ → Bytes → ℕ → Stack → Moved
called (Plain kinds.RightParen) here function at under = Goes (Has (Call function NoExpr at) under)
called said here function at under = begin said here (InCall function at NoExpr under)

-- a statement begins
abbrev pub begin_statement : Lexeme → ℕ → Frames → Moved
begin_statement (Plain kinds.Semicolon) at under = Goes (Stands (Empty at) under)
begin_statement (Plain kinds.LeftBrace) at under = Goes (Among NoItem (OfBlock at under))
begin_statement (Plain kinds.If) at under = Goes (Opens (OfIf at under))
begin_statement (Plain kinds.While) at under = Goes (Opens (OfWhile None at under))
begin_statement (Plain kinds.Do) at under = Goes (Begins (InDo None at under))
begin_statement (Plain kinds.For) at under = Goes (Loops None at under)
begin_statement (Plain kinds.Switch) at under = Goes (Opens (OfChoice at under))
begin_statement (Plain kinds.Break) at under = Goes (Closes (Break at) under)
begin_statement (Plain kinds.Continue) at under = Goes (Closes (Continue at) under)
begin_statement (Plain kinds.Return) at under = Goes (Answers at under)
begin_statement (lexemes.Pragma kinds.Marker bytes) at under = Goes (Stands (Marker (record { text = bytes; at = at })) under)
begin_statement (lexemes.Pragma kinds.LoopBound bytes) at under = Goes (Bounded (record { text = bytes; at = at }) under)
begin_statement said at under = begin said at (Base (Evaluates under))

abbrev pub begin_loop : Lexeme → ℕ → Pragma → Frames → Moved
begin_loop (Plain kinds.While) at bound under = Goes (Opens (OfWhile (Some bound) at under))
begin_loop (Plain kinds.Do) at bound under = Goes (Begins (InDo (Some bound) at under))
begin_loop (Plain kinds.For) at bound under = Goes (Loops (Some bound) at under)
begin_loop said at bound under = Stuck

-- the braces close
abbrev pub close : Braces → Items Bytes → State
close (OfBlock at under) items = Stands (Block items at) under
close (OfSwitch test at under) items = Stands (Switch test items at) under
close (OfFunction (Heads specifiers name name_at params body_at at front)) items = File (Then front (Function specifiers name name_at params items body_at at))

-- a label stands in a `switch` alone
abbrev pub label : Braces → State → Moved
label (OfSwitch test at under) state = Goes state
label braces state = Stuck

abbrev pub item : Lexeme → ℕ → Items Bytes → Braces → Moved
item (Plain kinds.RightBrace) at front braces = Goes (close braces front)
item (lexemes.Pragma kinds.FlowRestriction bytes) at front braces = Goes (Among (AndRestriction front (record { text = bytes; at = at })) braces)
item (Plain kinds.Case) at front braces = label braces (Wants (Base (Labels front braces at)))
item (Plain kinds.Default) at front braces = label braces (Defaults front braces at)
item said at front braces = begin_statement said at (InItems front braces)

abbrev pub among : Option Specifier → Lexeme → ℕ → Items Bytes → Braces → Moved
among (Some specifier) said at front braces = Goes (Specified (specifier ∷ []) at (AmongItems front braces))
among None said at front braces = item said at front braces

-- a statement has ended, and what it ends goes on or ends with it
abbrev pub settle : Frames → Lexeme → ℕ → Statement Bytes → Moved
settle (InItems front braces) said here statement = among (specifier_of said) said here (AndStatement front statement) braces
settle (InThen test at under) (Plain kinds.Else) here statement = Goes (Begins (InElse test statement at under))
settle (InThen test at under) said here statement = settle under said here (If test statement at)
settle (InElse test first at under) said here statement = settle under said here (IfElse test first statement at)
settle (InWhile bound test at under) said here statement = settle under said here (While bound test statement at)
settle (InFor bound start test step at under) said here statement = settle under said here (For bound start test step statement at)
settle (InDo bound at under) (Plain kinds.While) here statement = Goes (Opens (OfDo bound statement at under))
settle (InDo bound at under) said here statement = Stuck

abbrev pub semicolon : Lexeme → State → Moved
semicolon (Plain kinds.Semicolon) state = Goes state
semicolon said state = Stuck

abbrev pub paren : Lexeme → State → Moved
paren (Plain kinds.LeftParen) state = Goes state
paren said state = Stuck

abbrev pub brace : Lexeme → State → Moved
brace (Plain kinds.LeftBrace) state = Goes state
brace said state = Stuck

abbrev pub colon : Lexeme → State → Moved
colon (Plain kinds.Colon) state = Goes state
colon said state = Stuck

abbrev pub answers : Lexeme → ℕ → ℕ → Frames → Moved
answers (Plain kinds.Semicolon) here at under = Goes (Stands (Return None at) under)
answers said here at under = begin said here (Base (Returns at under))

abbrev pub loop_starts : Option Specifier → Lexeme → ℕ → Option Pragma → ℕ → Frames → Moved
loop_starts (Some specifier) said here bound at under = Goes (Specified (specifier ∷ []) here (AtFor bound at under))
loop_starts None (Plain kinds.Semicolon) here bound at under = Goes (LoopTests bound NoStart at under)
loop_starts None said here bound at under = begin said here (Base (Starts bound at under))

abbrev pub loop_tests : Lexeme → ℕ → Option Pragma → ForStart Bytes → ℕ → Frames → Moved
loop_tests (Plain kinds.Semicolon) here bound start at under = Goes (LoopSteps bound start None at under)
loop_tests said here bound start at under = begin said here (Base (Guards bound start at under))

abbrev pub loop_steps : Lexeme → ℕ → Option Pragma → ForStart Bytes → Option (Expr Bytes) → ℕ → Frames → Moved
loop_steps (Plain kinds.RightParen) here bound start test at under = Goes (Begins (InFor bound start test None at under))
loop_steps said here bound start test at under = begin said here (Base (Repeats bound start test at under))

-- at file level
abbrev pub file_item : Option Specifier → Lexeme → ℕ → Row (External Bytes) → Moved
file_item (Some specifier) said here front = Goes (Specified (specifier ∷ []) here (AtFile front))
file_item None (lexemes.Pragma kinds.FlowRestriction bytes) here front = Goes (File (Then front (Restriction (record { text = bytes; at = here }))))
file_item None said here front = Stuck

abbrev pub first_name : Lexeme → ℕ → List Specifier → ℕ → Scope → Moved
first_name (lexemes.Name name) here specifiers at scope = Goes (Named (Signs specifiers name here at scope))
first_name said here specifiers at scope = Stuck

abbrev pub specified : Option Specifier → Lexeme → ℕ → List Specifier → ℕ → Scope → Moved
specified (Some specifier) said here specifiers at scope = Goes (Specified (specifiers ++ specifier ∷ []) at scope)
specified None said here specifiers at scope = first_name said here specifiers at scope

-- an object or parameter with this shape goes on
abbrev pub shaped : Lexeme → Declarator → Shape Bytes → Moved
shaped (Plain kinds.Equal) (OfObject head name at) shape = Goes (Initial head name shape at)
shaped said (OfObject head name at) shape = object_ends said head (Declared name shape Absent at)
shaped said (OfParam proto front specifiers name at) shape = param_ends said proto front (Parameter specifiers name shape at)

abbrev pub declares : Lexeme → Declarator → Moved
declares (Plain kinds.LeftBracket) declarator = Goes (Sizing declarator)
declares said declarator = shaped said declarator Scalar

abbrev pub named : Lexeme → Proto → Moved
named (Plain kinds.LeftParen) proto = Goes (ParamsOpen proto)
named said (Signs specifiers name name_at at scope) = declares said (OfObject (Heading specifiers Nothing at scope) name name_at)

abbrev pub further : Lexeme → ℕ → Head → Moved
further (lexemes.Name name) here head = Goes (Declares (OfObject head name here))
further said here head = Stuck

abbrev pub sizing : Lexeme → ℕ → Declarator → Moved
sizing (Plain kinds.RightBracket) here declarator = Goes (Shaped declarator Unsized)
sizing said here declarator = begin said here (Base (Sizes declarator))

abbrev pub initial : Lexeme → ℕ → Head → Bytes → Shape Bytes → ℕ → Moved
initial (Plain kinds.LeftBrace) here head name shape at = Goes (Wants (Base (Lists head name shape NoExpr at)))
initial said here head name shape at = begin said here (Base (Initialises head name shape at))

abbrev pub listed : Lexeme → ℕ → Head → Bytes → Shape Bytes → Exprs Bytes → ℕ → Moved
listed (Plain kinds.RightBrace) here head name shape front at = Goes (Ended head (Declared name shape (trees.Listed front true) at))
listed said here head name shape front at = begin said here (Base (Lists head name shape front at))

abbrev pub param_begins : Option Specifier → ℕ → Proto → Row (Param Bytes) → Moved
param_begins (Some specifier) here proto front = Goes (ParamSpecified proto front (specifier ∷ []) here)
param_begins None here proto front = Stuck

abbrev pub params_open : Lexeme → ℕ → Proto → Moved
params_open (Plain kinds.RightParen) here proto = Goes (ParamsDone proto Nothing)
params_open said here proto = param_begins (specifier_of said) here proto Nothing

abbrev pub param_named : Lexeme → Proto → Row (Param Bytes) → List Specifier → ℕ → Moved
param_named (lexemes.Name name) proto front specifiers at = Goes (Declares (OfParam proto front specifiers (Some name) at))
param_named said proto front specifiers at = declares said (OfParam proto front specifiers None at)

abbrev pub param_specified : Option Specifier → Lexeme → Proto → Row (Param Bytes) → List Specifier → ℕ → Moved
param_specified (Some specifier) said proto front specifiers at = Goes (ParamSpecified proto front (specifiers ++ specifier ∷ []) at)
param_specified None said proto front specifiers at = param_named said proto front specifiers at

-- a definition stands at file level alone
abbrev pub body : Proto → Row (Param Bytes) → ℕ → Moved
body (Signs specifiers name name_at at (AtFile front)) params here = Goes (Among NoItem (OfFunction (Heads specifiers name name_at params here at front)))
body proto params here = Stuck

abbrev pub params_done : Lexeme → ℕ → Proto → Row (Param Bytes) → Moved
params_done (Plain kinds.Semicolon) here (Signs specifiers name name_at at scope) params = Goes (declared scope (Prototype specifiers name params at))
params_done (Plain kinds.LeftBrace) here proto params = body proto params here
params_done said here proto params = Stuck

abbrev pub step : State → Spoken → Moved
step (Wants under) token = begin token.said token.at under
step (Has tree under) token = go_on (role token.said) token.said tree under
step (Opened at under) token = opened (specifier_of token.said) token.said token.at at under
step (Typed specifiers at under) token = typed (specifier_of token.said) token.said specifiers at under
step (Called function at under) token = called token.said token.at function at under
step (File front) token = file_item (specifier_of token.said) token.said token.at front
step (Among front braces) token = among (specifier_of token.said) token.said token.at front braces
step (Begins under) token = begin_statement token.said token.at under
step (Stands statement under) token = settle under token.said token.at statement
step (Closes statement under) token = semicolon token.said (Stands statement under)
step (Bounded bound under) token = begin_loop token.said token.at bound under
step (Opens test) token = paren token.said (Wants (Base (Tests test)))
step (Chooses test at under) token = brace token.said (Among NoItem (OfSwitch test at under))
step (Answers at under) token = answers token.said token.at at under
step (Defaults front braces at) token = colon token.said (Among (AndLabel front (Default at)) braces)
step (Loops bound at under) token = paren token.said (LoopStarts bound at under)
step (LoopStarts bound at under) token = loop_starts (specifier_of token.said) token.said token.at bound at under
step (LoopTests bound start at under) token = loop_tests token.said token.at bound start at under
step (LoopSteps bound start test at under) token = loop_steps token.said token.at bound start test at under
step (Specified specifiers at scope) token = specified (specifier_of token.said) token.said token.at specifiers at scope
step (Named proto) token = named token.said proto
step (Further head) token = further token.said token.at head
step (Declares declarator) token = declares token.said declarator
step (Sizing declarator) token = sizing token.said token.at declarator
step (Shaped declarator shape) token = shaped token.said declarator shape
step (Initial head name shape at) token = initial token.said token.at head name shape at
step (Listed head name shape front at) token = listed token.said token.at head name shape front at
step (Ended head object) token = object_ends token.said head object
step (ParamsOpen proto) token = params_open token.said token.at proto
step (ParamNext proto front) token = param_begins (specifier_of token.said) token.at proto front
step (ParamSpecified proto front specifiers at) token = param_specified (specifier_of token.said) token.said proto front specifiers at
step (ParamsDone proto params) token = params_done token.said token.at proto params

-- behind these tokens
abbrev pub after_all : Moved → List Spoken → Moved
after_all Stuck tokens = Stuck
after_all (Goes state) [] = Goes state
after_all (Goes state) (token ∷ tokens) = after_all (step state token) tokens
