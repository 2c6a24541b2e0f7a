-- How much a program may do: its weight, and how often it may reach a mark.
use Rattle.std.specs.Prelude.{ℕ, zero, suc, ◌+◌, ◌*◌, ◌==◌, max, if◌then◌else◌, List, length, sum_by, Option, Some, None, slice_get}
use Rattle.high_ir.specs.Tree.{Statement, Set, Put, Get, Keep, Mark, Seq, If, Loop, Block, Leave, Call, Return, Statements, End, Then, Function, Program}
use Rattle.high_ir.specs.Size.{expr_nodes}
use Rattle.high_ir.specs.Runs.{rank_or}

-- a loop's body counts at least once
abbrev pub most_starts : ℕ → ℕ
most_starts most = max 1 most

-- what a statement may do, where the calls of functions weigh so much
module _ (callee : ℕ → ℕ) where
  abbrev mutual
    pub weight_of : Statement → ℕ
    weight_of (Set x e) = 1 + expr_nodes e
    weight_of (Put e) = 1 + expr_nodes e
    weight_of (Get x) = 1
    weight_of (Keep array i e) = 1 + expr_nodes i + expr_nodes e
    weight_of (Mark m) = 1
    weight_of (Seq parts) = 1 + weight_of_all parts
    weight_of (If test first other) = 1 + expr_nodes test + weight_of first + weight_of other
    weight_of (Loop id least most body) = 4 + most_starts most * (3 + weight_of body)
    weight_of (Block body) = 1 + weight_of body
    weight_of (Leave d) = 1
    weight_of (Call f values arrays into) = 6 + 2 * (length values + length arrays) + (sum_by expr_nodes values + length arrays) + callee f
    weight_of (Return e) = 4 + expr_nodes e

    pub weight_of_all : Statements → ℕ
    weight_of_all End = 0
    weight_of_all (Then first rest) = weight_of first + weight_of_all rest

-- how often a statement may reach a mark, where the calls of functions may reach it so often
module _ (callee : ℕ → ℕ) (mark : ℕ) where
  abbrev mutual
    pub reach_of : Statement → ℕ
    reach_of (Mark m) = if m == mark then 1 else 0
    reach_of (Seq parts) = reach_of_all parts
    reach_of (If test first other) = reach_of first + reach_of other
    reach_of (Loop id least most body) = most_starts most * reach_of body
    reach_of (Block body) = reach_of body
    reach_of (Call f values arrays into) = callee f
    reach_of (Set x e) = 0
    reach_of (Put e) = 0
    reach_of (Get x) = 0
    reach_of (Keep array i e) = 0
    reach_of (Leave d) = 0
    reach_of (Return e) = 0

    pub reach_of_all : Statements → ℕ
    reach_of_all End = 0
    reach_of_all (Then first rest) = reach_of first + reach_of_all rest

-- a call passes the opening mark and the body
abbrev pub body_weight : Option Function → (ℕ → ℕ) → ℕ
body_weight None callee = 0
body_weight (Some f) callee = 1 + weight_of callee f.body

abbrev pub weights : List Function → ℕ → ℕ → ℕ
weights fs zero f = 0
weights fs (suc n) f = body_weight (slice_get fs f) (weights fs n)

abbrev pub body_reach : ℕ → ℕ → Option Function → (ℕ → ℕ) → ℕ
body_reach mark n None callee = 0
body_reach mark n (Some f) callee = (if n == mark then 1 else 0) + reach_of callee mark f.body

abbrev pub reaches : List Function → ℕ → ℕ → ℕ → ℕ
reaches fs mark zero f = 0
reaches fs mark (suc n) f = body_reach mark f (slice_get fs f) (reaches fs mark n)

-- of a whole program, from main on
abbrev pub weight : Program → ℕ
weight p = weights p.functions (suc (rank_or p.functions p.main 0)) p.main

abbrev pub reach : Program → ℕ → ℕ
reach p mark = reaches p.functions mark (suc (rank_or p.functions p.main 0)) p.main
