-- Nodes, operations and the weight of code are no more than costs.
use Rattle.std.proofs.Common.{◌≡◌, ℕ, zero, suc, ◌+◌, ◌*◌, ◌≤◌, List, [], ◌∷◌, length, refl, arith}
use Rattle.std.specs.Prelude.{sum_by}
use Rattle.std.proofs.Math.Nat.{mul-le-mul_left}
use Rattle.std.proofs.lemmas.List.Sums.{sum_by-cons}
use Rattle.high_ir.specs.Size.{expr_nodes, expr_operations, nodes, nodes_all, operations, operations_all}
use Rattle.high_ir.specs.Tree.{Expr, Constant, Variable, Element, Unary, Binary, Statement, Set, Put, Get, Keep, Mark, Seq, If, Loop, Block, Leave, Call, Return, Statements, End, Then}
use Rattle.high_ir.specs.Weight.{most_starts, weight_of, weight_of_all}
use Rattle.plan_forms.specs.Costs.{all_passed, by_nodes, by_operations, by_weight, cost, cost_all, expr_cost, exprs_cost}

all_passed-is : (rate n : ℕ) → all_passed rate n ≡ rate * n
all_passed-is rate zero = omega arith
all_passed-is rate (suc n) = omega (arith, all_passed-is rate n)

-- nodes are a cost
expr_nodes-is : (e : Expr) → expr_nodes e ≡ expr_cost 1 e
expr_nodes-is (Constant word) = refl
expr_nodes-is (Variable x) = refl
expr_nodes-is (Element array index) = omega (arith, expr_nodes-is index)
expr_nodes-is (Unary operator operand) = omega (arith, expr_nodes-is operand)
expr_nodes-is (Binary operator left right) = omega (arith, expr_nodes-is left, expr_nodes-is right)

nodes_sum : (es : List Expr) → sum_by expr_nodes es ≡ exprs_cost 1 es
nodes_sum [] = refl
nodes_sum (e ∷ rest) = omega (arith, sum_by-cons expr_nodes e rest, expr_nodes-is e, nodes_sum rest)

mutual
  pub nodes_cost : (s : Statement) → nodes s ≤ cost by_nodes (λ f. 0) s
  nodes_cost (Set x e) = omega (arith, expr_nodes-is e)
  nodes_cost (Put e) = omega (arith, expr_nodes-is e)
  nodes_cost (Get x) = omega arith
  nodes_cost (Keep array i e) = omega (arith, expr_nodes-is i, expr_nodes-is e)
  nodes_cost (Mark m) = omega arith
  nodes_cost (Seq parts) = omega (arith, all_nodes_cost parts)
  nodes_cost (If test first other) = omega (arith, expr_nodes-is test, nodes_cost first, nodes_cost other)
  nodes_cost (Loop id least most body) = omega (arith, nodes_cost body)
  nodes_cost (Block body) = omega (arith, nodes_cost body)
  nodes_cost (Leave d) = omega arith
  nodes_cost (Call f values arrays into) = omega (arith, nodes_sum values)
  nodes_cost (Return e) = omega (arith, expr_nodes-is e)

  all_nodes_cost : (parts : Statements) → nodes_all parts ≤ cost_all by_nodes (λ f. 0) parts
  all_nodes_cost End = omega arith
  all_nodes_cost (Then first rest) = omega (arith, nodes_cost first, all_nodes_cost rest)

-- operations are a cost
expr_operations-is : (e : Expr) → expr_operations e ≡ expr_cost 0 e
expr_operations-is (Constant word) = refl
expr_operations-is (Variable x) = refl
expr_operations-is (Element array index) = omega (arith, expr_operations-is index)
expr_operations-is (Unary operator operand) = omega (arith, expr_operations-is operand)
expr_operations-is (Binary operator left right) = omega (arith, expr_operations-is left, expr_operations-is right)

operations_sum : (es : List Expr) → sum_by expr_operations es ≡ exprs_cost 0 es
operations_sum [] = refl
operations_sum (e ∷ rest) = omega (arith, sum_by-cons expr_operations e rest, expr_operations-is e, operations_sum rest)

mutual
  pub operations_cost : (s : Statement) → operations s ≤ cost by_operations (λ f. 0) s
  operations_cost (Set x e) = omega (arith, expr_operations-is e)
  operations_cost (Put e) = omega (arith, expr_operations-is e)
  operations_cost (Get x) = omega arith
  operations_cost (Keep array i e) = omega (arith, expr_operations-is i, expr_operations-is e)
  operations_cost (Mark m) = omega arith
  operations_cost (Seq parts) = omega (arith, all_operations_cost parts)
  operations_cost (If test first other) = omega (arith, expr_operations-is test, operations_cost first, operations_cost other)
  operations_cost (Loop id least most body) = omega (arith, operations_cost body)
  operations_cost (Block body) = omega (arith, operations_cost body)
  operations_cost (Leave d) = omega arith
  operations_cost (Call f values arrays into) = omega (arith, operations_sum values, all_passed-is 1 (length values))
  operations_cost (Return e) = omega (arith, expr_operations-is e)

  all_operations_cost : (parts : Statements) → operations_all parts ≤ cost_all by_operations (λ f. 0) parts
  all_operations_cost End = omega arith
  all_operations_cost (Then first rest) = omega (arith, operations_cost first, all_operations_cost rest)

-- the weight is a cost
module _ (callee : ℕ → ℕ) where
  mutual
    pub weight_cost : (s : Statement) → weight_of callee s ≤ cost by_weight callee s
    weight_cost (Set x e) = omega (arith, expr_nodes-is e)
    weight_cost (Put e) = omega (arith, expr_nodes-is e)
    weight_cost (Get x) = omega arith
    weight_cost (Keep array i e) = omega (arith, expr_nodes-is i, expr_nodes-is e)
    weight_cost (Mark m) = omega arith
    weight_cost (Seq parts) = omega (arith, all_weight_cost parts)
    weight_cost (If test first other) = omega (arith, expr_nodes-is test, weight_cost first, weight_cost other)
    weight_cost (Loop id least most body) = turns (most_starts most) (weight_of callee body) (cost by_weight callee body) (weight_cost body)
      where
        turns : (t x y : ℕ) → x ≤ y → 4 + t * (3 + x) ≤ 4 + t * (3 + y)
        turns t x y le =
            let more : t * (3 + x) ≤ t * (3 + y) = mul-le-mul_left t (omega (arith, le)) in
            omega (arith, more)
    weight_cost (Block body) = omega (arith, weight_cost body)
    weight_cost (Leave d) = omega arith
    weight_cost (Call f values arrays into) = omega (arith, nodes_sum values, all_passed-is 2 (length values), all_passed-is 2 (length arrays))
    weight_cost (Return e) = omega (arith, expr_nodes-is e)

    all_weight_cost : (parts : Statements) → weight_of_all callee parts ≤ cost_all by_weight callee parts
    all_weight_cost End = omega arith
    all_weight_cost (Then first rest) = omega (arith, weight_cost first, all_weight_cost rest)
