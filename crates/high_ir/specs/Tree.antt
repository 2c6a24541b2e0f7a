-- Programs in the high form, without where they lie in memory.
use Rattle.std.specs.Prelude.{ℕ, List, Option}
use Rattle.high_ir.specs.declared.object.Kind.{Kind}
use Rattle.high_ir.specs.declared.object.Storage.{Storage}
use Rattle.high_ir.specs.declared.object.Base.{Base}
use Rattle.high_ir.specs.declared.object.Array.{Array}
use Rattle.high_ir.specs.declared.expression.UnaryOperator.{UnaryOperator}
use Rattle.high_ir.specs.declared.expression.BinaryOperator.{BinaryOperator}

pub data Expr : Type 0 where
  Constant : (word : ℕ) → Expr
  Variable : (variable : ℕ) → Expr
  Element : (array : Array) (index : Expr) → Expr
  Unary : (operator : UnaryOperator) (operand : Expr) → Expr
  Binary : (operator : BinaryOperator) (left right : Expr) → Expr

mutual
  pub data Statement : Type 0 where
    Set : (variable : ℕ) (value : Expr) → Statement
    Put : (value : Expr) → Statement
    Get : (into : ℕ) → Statement
    Keep : (array : Array) (index value : Expr) → Statement
    Mark : (id : ℕ) → Statement
    Seq : (parts : Statements) → Statement
    If : (test : Expr) (first other : Statement) → Statement
    Loop : (id least most : ℕ) (body : Statement) → Statement
    Block : (body : Statement) → Statement
    Leave : (depth : ℕ) → Statement
    Call : (function : ℕ) (values : List Expr) (arrays : List Base) (into : Option ℕ) → Statement
    Return : (value : Expr) → Statement

  -- statements, one after another
  pub data Statements : Type 0 where
    End : Statements
    Then : (first : Statement) (rest : Statements) → Statements

-- an array that lives as long as the program
pub record Object : Type 0 where
  pub kind : Kind
  pub storage : Storage
  pub size : ℕ
  pub values : List ℕ

pub record Function : Type 0 where
  pub values : ℕ
  pub arrays : ℕ
  pub locals : ℕ
  pub rank : ℕ
  pub body : Statement

pub record Program : Type 0 where
  pub functions : List Function
  pub objects : List Object
  pub main : ℕ
  pub marks : ℕ
  pub loops : ℕ
