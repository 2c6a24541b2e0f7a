-- Syntax trees, over any kind of name (C11 6.5 to 6.9).
use Rattle.std.specs.Prelude.{ℕ, List, Option, Bool}
use Rattle.c_tree.specs.declared.token.Constant.{Constant}
use Rattle.c_tree.specs.declared.pragma.Pragma.{Pragma}
use Rattle.c_tree.specs.declared.expression.Specifier.{Specifier}
use Rattle.c_tree.specs.declared.expression.PostfixOperator.{PostfixOperator}
use Rattle.c_tree.specs.declared.expression.PrefixOperator.{PrefixOperator}
use Rattle.c_tree.specs.declared.expression.BinaryOperator.{BinaryOperator}
use Rattle.c_tree.specs.declared.expression.AssignOperator.{AssignOperator}

-- a list that grows at its end
pub data Row (A : Type 0) : Type 0 where
  Nothing : Row A
  Then : (front : Row A) (last : A) → Row A

mutual
  -- an expression, with the place of its first token
  pub data Expr (N : Type 0) : Type 0 where
    Number : (constant : Constant) (at : ℕ) → Expr N
    Character : (value at : ℕ) → Expr N
    Name : (name : N) (at : ℕ) → Expr N
    Paren : (inner : Expr N) (at : ℕ) → Expr N
    Index : (array : N) (index : Expr N) (at : ℕ) → Expr N
    Call : (function : N) (arguments : Exprs N) (at : ℕ) → Expr N
    Postfix : (operator : PostfixOperator) (operand : Expr N) (at : ℕ) → Expr N
    Prefix : (operator : PrefixOperator) (operand : Expr N) (at : ℕ) → Expr N
    Cast : (specifiers : List Specifier) (operand : Expr N) (at : ℕ) → Expr N
    Binary : (operator : BinaryOperator) (left right : Expr N) (at : ℕ) → Expr N
    Conditional : (test first second : Expr N) (at : ℕ) → Expr N
    Assign : (operator : AssignOperator) (target value : Expr N) (at : ℕ) → Expr N

  pub data Exprs (N : Type 0) : Type 0 where
    NoExpr : Exprs N
    AndExpr : (front : Exprs N) (last : Expr N) → Exprs N

-- whether an object or parameter is an array, and its size where one is written
pub data Shape (N : Type 0) : Type 0 where
  Scalar : Shape N
  Unsized : Shape N
  Sized : (size : Expr N) → Shape N

-- an initial value, of a list with whether a comma ends it
pub data Initial (N : Type 0) : Type 0 where
  Absent : Initial N
  Value : (value : Expr N) → Initial N
  Listed : (values : Exprs N) (comma : Bool) → Initial N

pub data Object (N : Type 0) : Type 0 where
  Declared : (name : N) (shape : Shape N) (initial : Initial N) (at : ℕ) → Object N

pub data Param (N : Type 0) : Type 0 where
  Parameter : (specifiers : List Specifier) (name : Option N) (shape : Shape N) (at : ℕ) → Param N

pub data Declaration (N : Type 0) : Type 0 where
  Objects : (specifiers : List Specifier) (objects : Row (Object N)) (at : ℕ) → Declaration N
  Prototype : (specifiers : List Specifier) (name : N) (params : Row (Param N)) (at : ℕ) → Declaration N

pub data Label (N : Type 0) : Type 0 where
  Case : (value : Expr N) (at : ℕ) → Label N
  Default : (at : ℕ) → Label N

-- what stands first in the head of a `for`
pub data ForStart (N : Type 0) : Type 0 where
  NoStart : ForStart N
  StartValue : (value : Expr N) → ForStart N
  StartDeclaration : (declaration : Declaration N) → ForStart N

mutual
  -- a statement, with the place of its first token, of a loop that of its keyword
  pub data Statement (N : Type 0) : Type 0 where
    Block : (items : Items N) (at : ℕ) → Statement N
    Empty : (at : ℕ) → Statement N
    Evaluate : (value : Expr N) (at : ℕ) → Statement N
    Marker : (pragma : Pragma) → Statement N
    If : (test : Expr N) (first : Statement N) (at : ℕ) → Statement N
    IfElse : (test : Expr N) (first second : Statement N) (at : ℕ) → Statement N
    While : (bound : Option Pragma) (test : Expr N) (body : Statement N) (at : ℕ) → Statement N
    Do : (bound : Option Pragma) (body : Statement N) (test : Expr N) (at : ℕ) → Statement N
    For : (bound : Option Pragma) (start : ForStart N) (test step : Option (Expr N)) (body : Statement N) (at : ℕ) → Statement N
    Switch : (test : Expr N) (items : Items N) (at : ℕ) → Statement N
    Break : (at : ℕ) → Statement N
    Continue : (at : ℕ) → Statement N
    Return : (value : Option (Expr N)) (at : ℕ) → Statement N

  -- what stands in the braces of a block or a `switch`
  pub data Items (N : Type 0) : Type 0 where
    NoItem : Items N
    AndDeclaration : (front : Items N) (declaration : Declaration N) → Items N
    AndStatement : (front : Items N) (statement : Statement N) → Items N
    AndRestriction : (front : Items N) (pragma : Pragma) → Items N
    AndLabel : (front : Items N) (label : Label N) → Items N

-- what stands at file level
pub data External (N : Type 0) : Type 0 where
  Restriction : (pragma : Pragma) → External N
  Declaring : (declaration : Declaration N) → External N
  Function : (specifiers : List Specifier) (name : N) (name_at : ℕ) (params : Row (Param N)) (body : Items N) (body_at at : ℕ) → External N

pub data TranslationUnit (N : Type 0) : Type 0 where
  Whole : (items : Row (External N)) (at : ℕ) → TranslationUnit N
