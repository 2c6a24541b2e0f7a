-- Typed trees, without where they lie in memory.
use Rattle.std.specs.Prelude.{ℕ, List, Option, Bool}
use Rattle.c_tree.specs.declared.expression.PostfixOperator.{PostfixOperator}
use Rattle.c_tree.specs.declared.expression.Specifier.{Specifier}
use Rattle.c_tree.specs.declared.pragma.Pragma.{Pragma}
use Rattle.c_tree.specs.declared.token.Constant.{Constant}
use Rattle.types_value.specs.declared.kind.Kind.{Kind}
use Rattle.types_value.specs.declared.operator.Operator.{Operator}
use Rattle.types_value.specs.declared.operator.Sign.{Sign}
use Rattle.types_tree.specs.declared.expression.Callee.{Callee}
use Rattle.types_tree.specs.declared.expression.Fix.{Fix}
use Rattle.types_tree.specs.declared.variable.Variable.{Variable}

mutual
  -- what is read, assigned or stepped
  pub data Place : Type 0 where
    Scalar : (object at : ℕ) → Place
    Element : (array : ℕ) (index : Expr) (at : ℕ) → Place
    Within : (inner : Place) (at : ℕ) → Place

  pub data Expr : Type 0 where
    Number : (constant : Constant) (at : ℕ) → Expr
    Character : (value at : ℕ) → Expr
    Read : (place : Place) → Expr
    Array : (object at : ℕ) → Expr
    Paren : (inner : Expr) (at : ℕ) → Expr
    Call : (callee : Callee) (arguments : Exprs) (at : ℕ) → Expr
    Step : (fix : Fix) (operator : PostfixOperator) (kind : Kind) (target : Place) (at : ℕ) → Expr
    Signed : (operator : Sign) (kind : Kind) (operand : Expr) (at : ℕ) → Expr
    Cast : (specifiers : List Specifier) (to : Kind) (operand : Expr) (at : ℕ) → Expr
    Convert : (to : Kind) (operand : Expr) → Expr
    Operate : (operator : Operator) (kind : Kind) (left right : Expr) (at : ℕ) → Expr
    And : (left right : Expr) (at : ℕ) → Expr
    Or : (left right : Expr) (at : ℕ) → Expr
    Comma : (left right : Expr) (at : ℕ) → Expr
    Conditional : (test first second : Expr) (at : ℕ) → Expr
    Assign : (target : Place) (value : Expr) (at : ℕ) → Expr
    Update : (operator : Operator) (kind to : Kind) (target : Place) (value : Expr) (at : ℕ) → Expr

  pub data Exprs : Type 0 where
    NoExpr : Exprs
    WithExpr : (first : Expr) (rest : Exprs) → Exprs

pub data Shape : Type 0 where
  Single : Shape
  Unsized : Shape
  Sized : (size : Expr) → Shape

pub data Initial : Type 0 where
  Absent : Initial
  Value : (value : Expr) → Initial
  Listed : (values : Exprs) (comma : Bool) (filling : Option ℕ) → Initial

pub data Object : Type 0 where
  Declared : (object : ℕ) (shape : Shape) (initial : Initial) (at : ℕ) → Object

pub data Param : Type 0 where
  Parameter : (specifiers : List Specifier) (name : Option ℕ) (shape : Shape) (at : ℕ) → Param

pub data Declaration : Type 0 where
  Objects : (specifiers : List Specifier) (objects : List Object) (at : ℕ) → Declaration
  Prototype : (specifiers : List Specifier) (name : ℕ) (params : List Param) (at : ℕ) → Declaration

pub data Label : Type 0 where
  Case : (value : Expr) (word at : ℕ) → Label
  Default : (at : ℕ) → Label

pub data ForStart : Type 0 where
  NoStart : ForStart
  StartValue : (value : Expr) → ForStart
  StartDeclaration : (declaration : Declaration) → ForStart

mutual
  pub data Statement : Type 0 where
    Block : (items : Items) (at : ℕ) → Statement
    Empty : (at : ℕ) → Statement
    Evaluate : (value : Expr) (at : ℕ) → Statement
    Marker : (number : ℕ) (pragma : Pragma) → Statement
    If : (test : Expr) (first : Statement) (at : ℕ) → Statement
    IfElse : (test : Expr) (first second : Statement) (at : ℕ) → Statement
    While : (number : ℕ) (bound : Option Pragma) (test : Expr) (body : Statement) (at : ℕ) → Statement
    Do : (number : ℕ) (bound : Option Pragma) (body : Statement) (test : Expr) (at : ℕ) → Statement
    For : (number : ℕ) (bound : Option Pragma) (start : ForStart) (test step : Option Expr) (body : Statement) (at : ℕ) → Statement
    Switch : (test : Expr) (items : Items) (at : ℕ) → Statement
    Break : (at : ℕ) → Statement
    Continue : (at : ℕ) → Statement
    Return : (value : Option Expr) (at : ℕ) → Statement

  pub data Items : Type 0 where
    NoItem : Items
    WithDeclaration : (declaration : Declaration) (rest : Items) → Items
    WithStatement : (statement : Statement) (rest : Items) → Items
    WithRestriction : (pragma : Pragma) (rest : Items) → Items
    WithLabel : (label : Label) (rest : Items) → Items

pub data Function : Type 0 where
  Defined : (specifiers : List Specifier) (name name_at : ℕ) (params : List Param) (first : ℕ) (body : Items) (body_at at : ℕ) → Function

-- the name of a function
abbrev pub function_name : Function → ℕ
function_name (Defined specifiers name name_at params first body body_at at) = name

pub data External : Type 0 where
  Restriction : (pragma : Pragma) → External
  Declaring : (declaration : Declaration) → External
  Defining : (function : ℕ) → External

-- a whole program: what stands at file level, and its functions and objects in the order of their numbers
pub record Program : Type 0 where
  pub items : List External
  pub functions : List Function
  pub variables : List Variable
  pub at : ℕ
