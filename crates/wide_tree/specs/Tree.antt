-- Syntax trees of wide C, with names by their bytes (C11 6.5 to 6.9). Where a form is the profile's, it has the same name there.
use Rattle.std.specs.Prelude.{ℕ, List, Option, Bool}
use Rattle.c_tree.specs.declared.token.Constant.{Constant}
use Rattle.c_tree.specs.declared.pragma.Pragma.{Pragma}
use Rattle.c_tree.specs.declared.expression.Specifier.{Specifier as Plain}
use Rattle.c_tree.specs.declared.expression.PostfixOperator.{PostfixOperator}
use Rattle.c_tree.specs.declared.expression.PrefixOperator.{PrefixOperator}
use Rattle.c_tree.specs.declared.expression.BinaryOperator.{BinaryOperator}
use Rattle.c_tree.specs.declared.expression.AssignOperator.{AssignOperator}
use Rattle.c_tree.specs.Tree.{Row}
use Rattle.wide_tree.specs.declared.word.Word.{Word}

abbrev pub Bytes : Type 0
Bytes = List ℕ

mutual
  -- an expression, with the place of its first token
  pub data Expr : Type 0 where
    Number : (constant : Constant) (at : ℕ) → Expr
    Character : (value at : ℕ) → Expr
    Name : (name : Bytes) (at : ℕ) → Expr
    Paren : (inner : Expr) (at : ℕ) → Expr
    Index : (array : Bytes) (index : Expr) (at : ℕ) → Expr
    Call : (function : Bytes) (arguments : Exprs) (at : ℕ) → Expr
    Postfix : (operator : PostfixOperator) (operand : Expr) (at : ℕ) → Expr
    Prefix : (operator : PrefixOperator) (operand : Expr) (at : ℕ) → Expr
    Cast : (specifiers : Specifiers) (operand : Expr) (at : ℕ) → Expr
    Binary : (operator : BinaryOperator) (left right : Expr) (at : ℕ) → Expr
    Conditional : (test first second : Expr) (at : ℕ) → Expr
    Assign : (operator : AssignOperator) (target value : Expr) (at : ℕ) → Expr
    -- the bytes of a value's type, or of a type, or what its address is a multiple of (6.5.3.4)
    SizeofValue : (operand : Expr) (at : ℕ) → Expr
    SizeofType : (specifiers : Specifiers) (at : ℕ) → Expr
    AlignofType : (specifiers : Specifiers) (at : ℕ) → Expr

  pub data Exprs : Type 0 where
    NoExpr : Exprs
    AndExpr : (front : Exprs) (last : Expr) → Exprs

  -- the words of a type and a storage class, in order (6.7)
  pub data Specifiers : Type 0 where
    NoSpecifier : Specifiers
    WithSpecifier : (first : Specifier) (others : Specifiers) → Specifiers

  -- a word of the profile, a keyword that it lacks, the name of a type (6.7.8), an enumeration by its tag, or with its list (6.7.2.2)
  pub data Specifier : Type 0 where
    Profile : (word : Plain) → Specifier
    Keyword : (word : Word) → Specifier
    TypeName : (name : Bytes) → Specifier
    Tagged : (tag : Bytes) → Specifier
    Enumeration : (tag : Option Bytes) (list : Enumerators) (comma : Bool) → Specifier

  -- the constants of an enumeration; of each with its value where one is written
  pub data Enumerators : Type 0 where
    NoEnumerator : Enumerators
    AndNext : (front : Enumerators) (name : Bytes) → Enumerators
    AndValued : (front : Enumerators) (name : Bytes) (value : Expr) → Enumerators

-- whether an object or parameter is an array, and its size where one is written
pub data Shape : Type 0 where
  Scalar : Shape
  Unsized : Shape
  Sized : (size : Expr) → Shape

-- an initial value, of a list with whether a comma ends it
pub data Initial : Type 0 where
  Absent : Initial
  Value : (value : Expr) → Initial
  Listed : (values : Exprs) (comma : Bool) → Initial

pub data Object : Type 0 where
  Declared : (name : Bytes) (shape : Shape) (initial : Initial) (at : ℕ) → Object

pub data Param : Type 0 where
  Parameter : (specifiers : Specifiers) (name : Option Bytes) (shape : Shape) (at : ℕ) → Param

-- what is declared: objects, or with `typedef` names of types, or none where the words alone declare an enumeration; a function; or
-- nothing, where it is asserted that a constant isn't 0 (6.7.10)
pub data Declaration : Type 0 where
  Objects : (specifiers : Specifiers) (objects : Row Object) (at : ℕ) → Declaration
  Prototype : (specifiers : Specifiers) (name : Bytes) (params : Row Param) (at : ℕ) → Declaration
  Asserted : (test : Expr) (message : Bytes) (at : ℕ) → Declaration

pub data Label : Type 0 where
  Case : (value : Expr) (at : ℕ) → Label
  Default : (at : ℕ) → Label

-- what stands first in the head of a `for`
pub data ForStart : Type 0 where
  NoStart : ForStart
  StartValue : (value : Expr) → ForStart
  StartDeclaration : (declaration : Declaration) → ForStart

mutual
  -- a statement, with the place of its first token, of a loop that of its keyword
  pub data Statement : Type 0 where
    Block : (items : Items) (at : ℕ) → Statement
    Empty : (at : ℕ) → Statement
    Evaluate : (value : Expr) (at : ℕ) → Statement
    Marker : (pragma : Pragma) → Statement
    If : (test : Expr) (first : Statement) (at : ℕ) → Statement
    IfElse : (test : Expr) (first second : Statement) (at : ℕ) → Statement
    While : (bound : Option Pragma) (test : Expr) (body : Statement) (at : ℕ) → Statement
    Do : (bound : Option Pragma) (body : Statement) (test : Expr) (at : ℕ) → Statement
    For : (bound : Option Pragma) (start : ForStart) (test step : Option Expr) (body : Statement) (at : ℕ) → Statement
    Switch : (test : Expr) (items : Items) (at : ℕ) → Statement
    Break : (at : ℕ) → Statement
    Continue : (at : ℕ) → Statement
    Return : (value : Option Expr) (at : ℕ) → Statement

  -- what stands in the braces of a block or a `switch`
  pub data Items : Type 0 where
    NoItem : Items
    AndDeclaration : (front : Items) (declaration : Declaration) → Items
    AndStatement : (front : Items) (statement : Statement) → Items
    AndRestriction : (front : Items) (pragma : Pragma) → Items
    AndLabel : (front : Items) (label : Label) → Items

-- what stands at file level
pub data External : Type 0 where
  Restriction : (pragma : Pragma) → External
  Declaring : (declaration : Declaration) → External
  Function : (specifiers : Specifiers) (name : Bytes) (name_at : ℕ) (params : Row Param) (body : Items) (body_at at : ℕ) → External

pub data TranslationUnit : Type 0 where
  Whole : (items : Row External) (at : ℕ) → TranslationUnit
