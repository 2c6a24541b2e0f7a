-- What has begun and still lacks a part, where a list of tokens is read from left to right.
use Rattle.std.specs.Prelude.{ℕ, ◌-◌, List, Option}
use Rattle.c_tree.specs.declared.expression.Specifier.{Specifier}
use Rattle.c_tree.specs.declared.expression.PrefixOperator.{PrefixOperator}
use Rattle.c_tree.specs.declared.expression.BinaryOperator.{BinaryOperator}
use Rattle.c_tree.specs.declared.expression.AssignOperator.{AssignOperator}
use Rattle.c_tree.specs.Formed.{level_of}
use Rattle.c_tree.specs.declared.pragma.Pragma.{Pragma}
use Rattle.c_tree.specs.Tree.{Row, Expr, Exprs, Shape, Object, Param, ForStart, Statement, Items, External}

abbrev pub Bytes : Type 0
Bytes = List ℕ

-- the header of a function definition, at file level behind the externals before it
pub data Header : Type 0 where
  Heads : (specifiers : List Specifier) (name : Bytes) (name_at : ℕ) (params : Row (Param Bytes)) (body_at at : ℕ) (front : Row (External Bytes)) → Header

mutual
  -- what a statement stands in
  pub data Frames : Type 0 where
    InItems : (front : Items Bytes) (braces : Braces) → Frames
    InThen : (test : Expr Bytes) (at : ℕ) (under : Frames) → Frames
    InElse : (test : Expr Bytes) (first : Statement Bytes) (at : ℕ) (under : Frames) → Frames
    InWhile : (bound : Option Pragma) (test : Expr Bytes) (at : ℕ) (under : Frames) → Frames
    InDo : (bound : Option Pragma) (at : ℕ) (under : Frames) → Frames
    InFor : (bound : Option Pragma) (start : ForStart Bytes) (test step : Option (Expr Bytes)) (at : ℕ) (under : Frames) → Frames

  -- what the items between braces belong to
  pub data Braces : Type 0 where
    OfBlock : (at : ℕ) (under : Frames) → Braces
    OfSwitch : (test : Expr Bytes) (at : ℕ) (under : Frames) → Braces
    OfFunction : (header : Header) → Braces

-- where a declaration stands
pub data Scope : Type 0 where
  AtFile : (front : Row (External Bytes)) → Scope
  AmongItems : (front : Items Bytes) (braces : Braces) → Scope
  AtFor : (bound : Option Pragma) (at : ℕ) (under : Frames) → Scope

-- a declaration of objects, as far as they are whole
pub data Head : Type 0 where
  Heading : (specifiers : List Specifier) (objects : Row (Object Bytes)) (at : ℕ) (scope : Scope) → Head

-- a function's specifiers, name and the places of both
pub data Proto : Type 0 where
  Signs : (specifiers : List Specifier) (name : Bytes) (name_at at : ℕ) (scope : Scope) → Proto

-- what may have a size: an object, or a parameter behind those before it
pub data Declarator : Type 0 where
  OfObject : (head : Head) (name : Bytes) (at : ℕ) → Declarator
  OfParam : (proto : Proto) (front : Row (Param Bytes)) (specifiers : List Specifier) (name : Option Bytes) (at : ℕ) → Declarator

-- what a test in round brackets belongs to
pub data Test : Type 0 where
  OfIf : (at : ℕ) (under : Frames) → Test
  OfWhile : (bound : Option Pragma) (at : ℕ) (under : Frames) → Test
  OfDo : (bound : Option Pragma) (body : Statement Bytes) (at : ℕ) (under : Frames) → Test
  OfChoice : (at : ℕ) (under : Frames) → Test

-- what a whole expression stands in
pub data Purpose : Type 0 where
  Evaluates : (under : Frames) → Purpose
  Returns : (at : ℕ) (under : Frames) → Purpose
  Tests : (test : Test) → Purpose
  Starts : (bound : Option Pragma) (at : ℕ) (under : Frames) → Purpose
  Guards : (bound : Option Pragma) (start : ForStart Bytes) (at : ℕ) (under : Frames) → Purpose
  Repeats : (bound : Option Pragma) (start : ForStart Bytes) (test : Option (Expr Bytes)) (at : ℕ) (under : Frames) → Purpose
  Sizes : (declarator : Declarator) → Purpose
  Initialises : (head : Head) (name : Bytes) (shape : Shape Bytes) (at : ℕ) → Purpose
  Lists : (head : Head) (name : Bytes) (shape : Shape Bytes) (front : Exprs Bytes) (at : ℕ) → Purpose
  Labels : (front : Items Bytes) (braces : Braces) (at : ℕ) → Purpose

-- what an operand stands in, the innermost part first
pub data Stack : Type 0 where
  Base : (purpose : Purpose) → Stack
  InParen : (at : ℕ) (under : Stack) → Stack
  InIndex : (array : Bytes) (at : ℕ) (under : Stack) → Stack
  InCall : (function : Bytes) (at : ℕ) (front : Exprs Bytes) (under : Stack) → Stack
  AfterPrefix : (operator : PrefixOperator) (at : ℕ) (under : Stack) → Stack
  AfterCast : (specifiers : List Specifier) (at : ℕ) (under : Stack) → Stack
  AfterJoin : (operator : BinaryOperator) (left : Expr Bytes) (under : Stack) → Stack
  AfterQuestion : (test : Expr Bytes) (under : Stack) → Stack
  AfterColon : (test first : Expr Bytes) (under : Stack) → Stack
  AfterAssign : (operator : AssignOperator) (target : Expr Bytes) (under : Stack) → Stack

abbrev pub limit : Purpose → ℕ
limit (Sizes declarator) = 13
limit (Labels front braces at) = 13
limit (Initialises head name shape at) = 14
limit (Lists head name shape front at) = 14
limit _ = 15

-- the level that an operand may have there
abbrev pub demand : Stack → ℕ
demand (Base purpose) = limit purpose
demand (AfterPrefix operator at under) = 2
demand (AfterCast specifiers at under) = 2
demand (AfterJoin operator left under) = level_of operator - 1
demand (AfterColon test first under) = 13
demand (AfterAssign operator target under) = 14
demand (InCall function at front under) = 14
demand _ = 15

pub data State : Type 0 where
  -- an operand must begin
  Wants : (under : Stack) → State
  -- an operand stands there, and may go on
  Has : (tree : Expr Bytes) (under : Stack) → State
  -- behind an opening round bracket
  Opened : (at : ℕ) (under : Stack) → State
  -- within the type of a cast
  Typed : (specifiers : List Specifier) (at : ℕ) (under : Stack) → State
  -- behind the opening bracket of a call
  Called : (function : Bytes) (at : ℕ) (under : Stack) → State
  -- at file level
  File : (front : Row (External Bytes)) → State
  -- between braces
  Among : (front : Items Bytes) (braces : Braces) → State
  -- a statement must begin
  Begins : (under : Frames) → State
  -- a statement has ended, but for an `else`
  Stands : (statement : Statement Bytes) (under : Frames) → State
  -- a semicolon must come
  Closes : (statement : Statement Bytes) (under : Frames) → State
  -- a loop must come
  Bounded : (bound : Pragma) (under : Frames) → State
  -- the test's bracket must come
  Opens : (test : Test) → State
  -- the braces of a `switch` must come
  Chooses : (test : Expr Bytes) (at : ℕ) (under : Frames) → State
  -- behind `return`
  Answers : (at : ℕ) (under : Frames) → State
  -- the colon of `default` must come
  Defaults : (front : Items Bytes) (braces : Braces) (at : ℕ) → State
  -- behind `for`, its bracket, its first and its second semicolon
  Loops : (bound : Option Pragma) (at : ℕ) (under : Frames) → State
  LoopStarts : (bound : Option Pragma) (at : ℕ) (under : Frames) → State
  LoopTests : (bound : Option Pragma) (start : ForStart Bytes) (at : ℕ) (under : Frames) → State
  LoopSteps : (bound : Option Pragma) (start : ForStart Bytes) (test : Option (Expr Bytes)) (at : ℕ) (under : Frames) → State
  -- within the specifiers of a declaration, and behind the first name
  Specified : (specifiers : List Specifier) (at : ℕ) (scope : Scope) → State
  Named : (proto : Proto) → State
  -- a further object must come
  Further : (head : Head) → State
  -- without a size so far, behind the bracket of the size, and with the size
  Declares : (declarator : Declarator) → State
  Sizing : (declarator : Declarator) → State
  Shaped : (declarator : Declarator) (shape : Shape Bytes) → State
  -- behind the sign of an initial value, behind a comma of its list, and behind the list
  Initial : (head : Head) (name : Bytes) (shape : Shape Bytes) (at : ℕ) → State
  Listed : (head : Head) (name : Bytes) (shape : Shape Bytes) (front : Exprs Bytes) (at : ℕ) → State
  Ended : (head : Head) (object : Object Bytes) → State
  -- behind the bracket of the parameters, behind a comma of theirs, within the specifiers of one, and behind them
  ParamsOpen : (proto : Proto) → State
  ParamNext : (proto : Proto) (front : Row (Param Bytes)) → State
  ParamSpecified : (proto : Proto) (front : Row (Param Bytes)) (specifiers : List Specifier) (at : ℕ) → State
  ParamsDone : (proto : Proto) (params : Row (Param Bytes)) → State
