-- Operations of lists, and that a program has no more operations than nodes.
use Rattle.std.proofs.Common.{◌≡◌, ◌+◌, ◌≤◌, List, [], ◌∷◌, length, refl, sym, ap, ◌∙◌, arith}
use Rattle.std.specs.Prelude.{Vec, sum_by}
use Rattle.std.specs.Global.{Global}
use Rattle.std.proofs.lemmas.List.Sums.{sum_by-cons}
use Rattle.high_ir.specs.declared.statement.Statement as statements
use Rattle.high_ir.specs.Size.{expr_nodes, expr_operations, function_nodes, nodes, nodes_all, operations, operations_all}
use Rattle.high_ir.specs.Tree.{Expr, Constant, Variable, Element, Unary, Binary, Statement, Set, Put, Get, Keep, Mark, Seq, If, Loop, Block, Leave, Call, Return, Statements, End, Then, Function}
use Rattle.high_ir.specs.View.{statement_of, statements_of}
use Rattle.high_ir.proofs.Rows.{statement_of-Seq}

operations_all-statements_of : (xs : List statements.Statement) → operations_all (statements_of xs) ≡ sum_by (λ s. operations (statement_of s)) xs
operations_all-statements_of [] = refl
operations_all-statements_of (x ∷ xs) = ap (λ n. operations (statement_of x) + n) (operations_all-statements_of xs) ∙ sym (sum_by-cons (λ s. operations (statement_of s)) x xs)

pub operations-Seq : (s : statements.Statement) (v : Vec statements.Statement Global) → s ≡ statements.Seq v → operations (statement_of s) ≡ sum_by (λ s. operations (statement_of s)) v.items + 1
operations-Seq s v same = ap (λ s. operations (statement_of s)) same ∙ ap operations (statement_of-Seq v) ∙ ap (λ n. n + 1) (operations_all-statements_of v.items)

expr_few : (e : Expr) → expr_operations e + 1 ≤ expr_nodes e
expr_few (Constant word) = omega arith
expr_few (Variable x) = omega arith
expr_few (Element array index) = omega (arith, expr_few index)
expr_few (Unary operator operand) = omega (arith, expr_few operand)
expr_few (Binary operator left right) = omega (arith, expr_few left, expr_few right)

exprs_few : (es : List Expr) → sum_by expr_operations es + length es ≤ sum_by expr_nodes es
exprs_few [] = omega arith
exprs_few (e ∷ es) = omega (arith, sum_by-cons expr_operations e es, sum_by-cons expr_nodes e es, expr_few e, exprs_few es)

mutual
  few : (s : Statement) → operations s ≤ nodes s
  few (Set x e) = omega (arith, expr_few e)
  few (Put e) = omega (arith, expr_few e)
  few (Get x) = omega arith
  few (Keep array i e) = omega (arith, expr_few i, expr_few e)
  few (Mark m) = omega arith
  few (Seq parts) = omega (arith, all_few parts)
  few (If test first other) = omega (arith, expr_few test, few first, few other)
  few (Loop id least most body) = omega (arith, few body)
  few (Block body) = omega (arith, few body)
  few (Leave d) = omega arith
  few (Call f values arrays into) = omega (arith, exprs_few values)
  few (Return e) = omega (arith, expr_few e)

  all_few : (ss : Statements) → operations_all ss ≤ nodes_all ss
  all_few End = omega arith
  all_few (Then first rest) = omega (arith, few first, all_few rest)

pub functions_few : (fs : List Function) → sum_by (λ f. operations f.body + 1) fs ≤ sum_by function_nodes fs
functions_few [] = omega arith
functions_few (f ∷ fs) = omega (arith, sum_by-cons (λ f. operations f.body + 1) f fs, sum_by-cons function_nodes f fs, few f.body, functions_few fs)
