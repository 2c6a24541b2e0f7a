-- What code costs, by rates that make the cost its nodes, its operations or its weight.
use Rattle.std.specs.Prelude.{ℕ, zero, suc, ◌+◌, ◌*◌, List, [], ◌∷◌, length}
use Rattle.high_ir.specs.Tree.{Expr, Constant, Variable, Element, Unary, Binary, Statement, Set, Put, Get, Keep, Mark, Seq, If, Loop, Block, Leave, Call, Return, Statements, End, Then}
use Rattle.high_ir.specs.Weight.{most_starts}

pub record Rates : Type 0 where
  -- a constant or a variable, where each operation of a value counts once
  pub leaf : ℕ
  -- a loop, each of its turns, and how many turns are counted where it starts so often at most
  pub loop : ℕ
  pub turn : ℕ
  pub turns : ℕ → ℕ
  -- a return
  pub exit : ℕ
  -- a call, and each value or array that it passes
  pub call : ℕ
  pub passed : ℕ

abbrev pub all_passed : (rate : ℕ) → ℕ → ℕ
all_passed rate zero = 0
all_passed rate (suc n) = rate + all_passed rate n

abbrev pub expr_cost : (leaf : ℕ) → Expr → ℕ
expr_cost leaf (Constant word) = leaf
expr_cost leaf (Variable x) = leaf
expr_cost leaf (Element array index) = expr_cost leaf index + 1
expr_cost leaf (Unary operator operand) = expr_cost leaf operand + 1
expr_cost leaf (Binary operator left right) = expr_cost leaf left + expr_cost leaf right + 1

abbrev pub exprs_cost : (leaf : ℕ) → List Expr → ℕ
exprs_cost leaf [] = 0
exprs_cost leaf (e ∷ rest) = expr_cost leaf e + exprs_cost leaf rest

-- where the calls of functions cost so much
module _ (rates : Rates) (callee : ℕ → ℕ) where
  abbrev mutual
    pub cost : Statement → ℕ
    cost (Set x e) = 1 + expr_cost rates.leaf e
    cost (Put e) = 1 + expr_cost rates.leaf e
    cost (Get x) = 1
    cost (Keep array i e) = 1 + (expr_cost rates.leaf i + expr_cost rates.leaf e)
    cost (Mark m) = 1
    cost (Seq parts) = 1 + cost_all parts
    cost (If test first other) = 1 + (expr_cost rates.leaf test + (cost first + cost other))
    cost (Loop id least most body) = rates.loop + rates.turns most * (rates.turn + cost body)
    cost (Block body) = 1 + cost body
    cost (Leave d) = 1
    cost (Call f values arrays into) =
        rates.call + (all_passed rates.passed (length values) + all_passed rates.passed (length arrays)) + (exprs_cost rates.leaf values + length arrays) + callee f
    cost (Return e) = rates.exit + expr_cost rates.leaf e

    pub cost_all : Statements → ℕ
    cost_all End = 0
    cost_all (Then first rest) = cost first + cost_all rest

-- the rates that count nodes, those that count operations (of arrays that are passed more than one each), and those of the weight
abbrev pub by_nodes : Rates
by_nodes = record { leaf = 1; loop = 1; turn = 0; turns = λ most. 1; exit = 1; call = 1; passed = 0 }

abbrev pub by_operations : Rates
by_operations = record { leaf = 0; loop = 1; turn = 0; turns = λ most. 1; exit = 1; call = 1; passed = 1 }

abbrev pub by_weight : Rates
by_weight = record { leaf = 1; loop = 4; turn = 3; turns = most_starts; exit = 4; call = 6; passed = 2 }
