-- The programs of the code, without where they lie in memory.
use Rattle.std.specs.Prelude.{ℕ, List, [], ◌∷◌, map}
use Rattle.high_ir.specs.declared.object.Object as objects
use Rattle.high_ir.specs.declared.expression.Expr as exprs
use Rattle.high_ir.specs.declared.statement.Statement as statements
use Rattle.high_ir.specs.declared.high.Function as functions
use Rattle.high_ir.specs.Tree.{Expr, Constant, Variable, Element, Unary, Binary, Statement, Set, Put, Get, Keep, Mark, Seq, If, Loop, Block, Leave, Call, Return, Statements, End, Then, Object, Function, Program}

abbrev pub expr_of : exprs.Expr → Expr
expr_of (exprs.Constant word) = Constant word
expr_of (exprs.Variable variable) = Variable variable
expr_of (exprs.Element' array p index) = Element array (expr_of index)
expr_of (exprs.Unary' operator p operand) = Unary operator (expr_of operand)
expr_of (exprs.Binary' operator p left q right) = Binary operator (expr_of left) (expr_of right)

abbrev mutual
  pub statement_of : statements.Statement → Statement
  statement_of (statements.Set variable value) = Set variable (expr_of value)
  statement_of (statements.Put value) = Put (expr_of value)
  statement_of (statements.Get into) = Get into
  statement_of (statements.Keep array index value) = Keep array (expr_of index) (expr_of value)
  statement_of (statements.Mark id) = Mark id
  statement_of (statements.Seq' shape parts) = Seq (row_of parts)
  statement_of (statements.If' test p first q other) = If (expr_of test) (statement_of first) (statement_of other)
  statement_of (statements.Loop' id least most p body) = Loop id least most (statement_of body)
  statement_of (statements.Block' p body) = Block (statement_of body)
  statement_of (statements.Leave depth) = Leave depth
  statement_of (statements.Call function values arrays into) = Call function (map expr_of values.items) arrays.items into
  statement_of (statements.Return value) = Return (expr_of value)

  pub row_of : {m : _} → statements.Row_of-Statement m → Statements
  row_of statements.end_of-Statement = End
  row_of (statements.more_of-Statement statement rest) = Then (statement_of statement) (row_of rest)

abbrev pub statements_of : List statements.Statement → Statements
statements_of [] = End
statements_of (statement ∷ rest) = Then (statement_of statement) (statements_of rest)

abbrev pub object_of : objects.Object → Object
object_of object = record { kind = object.kind; storage = object.storage; size = object.length; values = object.values.items }

abbrev pub function_of : functions.Function → Function
function_of function = record { values = function.values; arrays = function.arrays; locals = function.locals; rank = function.rank; body = statement_of function.body }

-- a program of these parts
abbrev pub program : List functions.Function → List objects.Object → ℕ → ℕ → ℕ → Program
program functions objects main marks loops = record { functions = map function_of functions; objects = map object_of objects; main = main; marks = marks; loops = loops }
