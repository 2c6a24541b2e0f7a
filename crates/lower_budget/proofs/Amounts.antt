-- What pays for code: operations, and where quotients may be several instructions constants and variables as well.
use Rattle.std.proofs.Common.{ℕ, ◌+◌, ◌*◌, ◌≤◌, Bool, true, false, List, [], ◌∷◌, length, arith}
use Rattle.std.specs.Prelude.{sum_by}
use Rattle.std.proofs.lemmas.List.Sums.{sum_by-cons}
use Rattle.high_ir.specs.Size.{expr_nodes, expr_operations, nodes, nodes_all, operations, operations_all}
use Rattle.high_ir.specs.Tree as high

abbrev pub of_leaf : Bool → ℕ
of_leaf true = 1
of_leaf false = 0

module _ (shifts : Bool) where
  abbrev pub amount : high.Expr → ℕ
  amount (high.Constant w) = of_leaf shifts
  amount (high.Variable x) = of_leaf shifts
  amount (high.Element array index) = amount index + 1
  amount (high.Unary operator e) = amount e + 1
  amount (high.Binary operator left right) = amount left + amount right + 1

  abbrev mutual
    pub amounts : high.Statement → ℕ
    amounts (high.Set x e) = amount e + 1
    amounts (high.Put e) = amount e + 1
    amounts (high.Get x) = 1
    amounts (high.Keep array i e) = amount i + amount e + 1
    amounts (high.Mark m) = 1
    amounts (high.Seq parts) = amounts_all parts + 1
    amounts (high.If test first other) = amount test + amounts first + amounts other + 1
    amounts (high.Loop id least most body) = amounts body + 1
    amounts (high.Block body) = amounts body + 1
    amounts (high.Leave d) = 1
    amounts (high.Call f values arrays into) = sum_by amount values + length values + length arrays + 1
    amounts (high.Return e) = amount e + 1

    pub amounts_all : high.Statements → ℕ
    amounts_all high.End = 0
    amounts_all (high.Then first rest) = amounts first + amounts_all rest

leaf_less : (shifts : Bool) → of_leaf shifts ≤ 1
leaf_less true = omega arith
leaf_less false = omega arith

pub nodes_more : (shifts : Bool) (e : high.Expr) → amount shifts e ≤ expr_nodes e
nodes_more shifts (high.Constant w) = leaf_less shifts
nodes_more shifts (high.Variable x) = leaf_less shifts
nodes_more shifts (high.Element array index) = let h = nodes_more shifts index in omega (arith, h)
nodes_more shifts (high.Unary operator e) = let h = nodes_more shifts e in omega (arith, h)
nodes_more shifts (high.Binary operator left right) = let a = nodes_more shifts left in let b = nodes_more shifts right in omega (arith, a, b)

pub all_nodes_more : (shifts : Bool) (es : List high.Expr) → sum_by (amount shifts) es ≤ sum_by expr_nodes es
all_nodes_more shifts [] = omega arith
all_nodes_more shifts (e ∷ es) =
    let h = all_nodes_more shifts es in
    let k = nodes_more shifts e in
    let a = sum_by-cons (amount shifts) e es in
    let b = sum_by-cons expr_nodes e es in
    omega (arith, h, k, a, b)

-- without leaves these are the operations
few : (e : high.Expr) → amount false e ≤ expr_operations e
few (high.Constant w) = omega arith
few (high.Variable x) = omega arith
few (high.Element array index) = let h = few index in omega (arith, h)
few (high.Unary operator e) = let h = few e in omega (arith, h)
few (high.Binary operator left right) = let a = few left in let b = few right in omega (arith, a, b)

all_few : (es : List high.Expr) → sum_by (amount false) es ≤ sum_by expr_operations es
all_few [] = omega arith
all_few (e ∷ es) =
    let h = all_few es in
    let k = few e in
    let a = sum_by-cons (amount false) e es in
    let b = sum_by-cons expr_operations e es in
    omega (arith, h, k, a, b)

mutual
  pub statement_few : (s : high.Statement) → amounts false s ≤ operations s
  statement_few (high.Set x e) = let h = few e in omega (arith, h)
  statement_few (high.Put e) = let h = few e in omega (arith, h)
  statement_few (high.Get x) = omega arith
  statement_few (high.Keep array i e) = let h = few i in let k = few e in omega (arith, h, k)
  statement_few (high.Mark m) = omega arith
  statement_few (high.Seq parts) = let h = statements_few parts in omega (arith, h)
  statement_few (high.If test first other) = let h = few test in let a = statement_few first in let b = statement_few other in omega (arith, h, a, b)
  statement_few (high.Loop id least most body) = let h = statement_few body in omega (arith, h)
  statement_few (high.Block body) = let h = statement_few body in omega (arith, h)
  statement_few (high.Leave d) = omega arith
  statement_few (high.Call f values arrays into) = let h = all_few values in omega (arith, h)
  statement_few (high.Return e) = let h = few e in omega (arith, h)

  statements_few : (ss : high.Statements) → amounts_all false ss ≤ operations_all ss
  statements_few high.End = omega arith
  statements_few (high.Then first rest) = let a = statement_few first in let b = statements_few rest in omega (arith, a, b)

-- with them they are at most twice the nodes: a value that is passed counts once more
some_node : (e : high.Expr) → 1 ≤ expr_nodes e
some_node (high.Constant w) = omega arith
some_node (high.Variable x) = omega arith
some_node (high.Element array index) = omega arith
some_node (high.Unary operator e) = omega arith
some_node (high.Binary operator left right) = omega arith

each_node : (es : List high.Expr) → length es ≤ sum_by expr_nodes es
each_node [] = omega arith
each_node (e ∷ es) = let h = each_node es in let k = some_node e in let b = sum_by-cons expr_nodes e es in omega (arith, h, k, b)

mutual
  pub statement_nodes : (s : high.Statement) → amounts true s ≤ 2 * nodes s
  statement_nodes (high.Set x e) = let h = nodes_more true e in omega (arith, h)
  statement_nodes (high.Put e) = let h = nodes_more true e in omega (arith, h)
  statement_nodes (high.Get x) = omega arith
  statement_nodes (high.Keep array i e) = let h = nodes_more true i in let k = nodes_more true e in omega (arith, h, k)
  statement_nodes (high.Mark m) = omega arith
  statement_nodes (high.Seq parts) = let h = statements_nodes parts in omega (arith, h)
  statement_nodes (high.If test first other) = let h = nodes_more true test in let a = statement_nodes first in let b = statement_nodes other in omega (arith, h, a, b)
  statement_nodes (high.Loop id least most body) = let h = statement_nodes body in omega (arith, h)
  statement_nodes (high.Block body) = let h = statement_nodes body in omega (arith, h)
  statement_nodes (high.Leave d) = omega arith
  statement_nodes (high.Call f values arrays into) = let h = all_nodes_more true values in let k = each_node values in omega (arith, h, k)
  statement_nodes (high.Return e) = let h = nodes_more true e in omega (arith, h)

  statements_nodes : (ss : high.Statements) → amounts_all true ss ≤ 2 * nodes_all ss
  statements_nodes high.End = omega arith
  statements_nodes (high.Then first rest) = let a = statement_nodes first in let b = statements_nodes rest in omega (arith, a, b)
