-- How large statements are, by their operations and their nodes.
use Rattle.std.proofs.Common.{◌≡◌, ◌+◌, ◌*◌, ◌≤◌, Bool, true, false, ◌||◌, List, [], ◌∷◌, ◌++◌, length, refl, ap, ◌∙◌, arith}
use Rattle.std.specs.Prelude.{sum_by, if◌then◌else◌}
use Rattle.std.proofs.lemmas.List.Sums.{sum_by-cons}
use Rattle.high_ir.specs.Size.{depth, expr_nodes, expr_operations, nodes, nodes_all, operations, operations_all}
use Rattle.high_ir.specs.Standing.{loops_of, loops_of_all}
use Rattle.high_ir.specs.Tree.{Expr, Constant, Variable, Element, Unary, Binary, Statement, Set, Put, Get, Keep, Mark, Seq, If, Loop, Block, Leave, Call, Return, Statements, End, Then}
use Rattle.high_unrolled.specs.Factor.{has_loop, has_loop_any}
use Rattle.high_unrolled.specs.Programs.{busy, busy_all, is_idle}

or_first : (a b : Bool) → (a || b) ≡ false → a ≡ false
or_first true b e = e
or_first false b e = refl

or_other : (a b : Bool) → (a || b) ≡ false → b ≡ false
or_other true b e = let no_way : true ≡ false = e in cc
or_other false b e = e

true_is_false : true ≡ false → ⊥
true_is_false e = cc

-- a statement without a loop
mutual
  pub no_loops : (s : Statement) → has_loop s ≡ false → loops_of s ≡ []
  no_loops (Loop id least most body) e = absurd (true_is_false e)
  no_loops (Seq parts) e = no_loops_all parts e
  no_loops (If test first other) e = ap (λ l. l ++ loops_of other) (no_loops first (or_first (has_loop first) (has_loop other) e)) ∙ no_loops other (or_other (has_loop first) (has_loop other) e)
  no_loops (Block body) e = no_loops body e
  no_loops (Set x v) e = refl
  no_loops (Put v) e = refl
  no_loops (Get x) e = refl
  no_loops (Keep array i v) e = refl
  no_loops (Mark m) e = refl
  no_loops (Leave d) e = refl
  no_loops (Call f values arrays into) e = refl
  no_loops (Return v) e = refl

  no_loops_all : (parts : Statements) → has_loop_any parts ≡ false → loops_of_all parts ≡ []
  no_loops_all End e = refl
  no_loops_all (Then first rest) e = ap (λ l. l ++ loops_of_all rest) (no_loops first (or_first (has_loop first) (has_loop_any rest) e)) ∙ no_loops_all rest (or_other (has_loop first) (has_loop_any rest) e)

-- has no idle one
mutual
  pub busy_innermost : (s : Statement) → has_loop s ≡ false → busy s ≡ operations s
  busy_innermost (Loop id least most body) e = absurd (true_is_false e)
  busy_innermost (Seq parts) e = ap (λ n. n + 1) (all_busy_innermost parts e)
  busy_innermost (If test first other) e =
      let a = busy_innermost first (or_first (has_loop first) (has_loop other) e) in
      let b = busy_innermost other (or_other (has_loop first) (has_loop other) e) in
      omega (arith, a, b)
  busy_innermost (Block body) e = ap (λ n. n + 1) (busy_innermost body e)
  busy_innermost (Set x v) e = refl
  busy_innermost (Put v) e = refl
  busy_innermost (Get x) e = refl
  busy_innermost (Keep array i v) e = refl
  busy_innermost (Mark m) e = refl
  busy_innermost (Leave d) e = refl
  busy_innermost (Call f values arrays into) e = refl
  busy_innermost (Return v) e = refl

  all_busy_innermost : (parts : Statements) → has_loop_any parts ≡ false → busy_all parts ≡ operations_all parts
  all_busy_innermost End e = refl
  all_busy_innermost (Then first rest) e =
      let a = busy_innermost first (or_first (has_loop first) (has_loop_any rest) e) in
      let b = all_busy_innermost rest (or_other (has_loop first) (has_loop_any rest) e) in
      omega (arith, a, b)

pub some_work : (s : Statement) → 1 ≤ operations s
some_work (Set x v) = omega arith
some_work (Put v) = omega arith
some_work (Get x) = omega arith
some_work (Keep array i v) = omega arith
some_work (Mark m) = omega arith
some_work (Seq parts) = omega arith
some_work (If test first other) = omega arith
some_work (Loop id least most body) = omega arith
some_work (Block body) = omega arith
some_work (Leave d) = omega arith
some_work (Call f values arrays into) = omega arith
some_work (Return v) = omega arith

pub some_depth : (s : Statement) → 1 ≤ depth s
some_depth (Set x v) = omega arith
some_depth (Put v) = omega arith
some_depth (Get x) = omega arith
some_depth (Keep array i v) = omega arith
some_depth (Mark m) = omega arith
some_depth (Seq parts) = omega arith
some_depth (If test first other) = omega arith
some_depth (Loop id least most body) = omega arith
some_depth (Block body) = omega arith
some_depth (Leave d) = omega arith
some_depth (Call f values arrays into) = omega arith
some_depth (Return v) = omega arith

-- an expression's operators have one operand more than they are, at most
expr_few : (e : Expr) → expr_nodes e ≤ 2 * expr_operations e + 1
expr_few (Constant word) = omega arith
expr_few (Variable x) = omega arith
expr_few (Element array index) = let h = expr_few index in omega (arith, h)
expr_few (Unary operator operand) = let h = expr_few operand in omega (arith, h)
expr_few (Binary operator left right) = let h = expr_few left in let k = expr_few right in omega (arith, h, k)

exprs_few : (es : List Expr) → sum_by expr_nodes es ≤ 2 * sum_by expr_operations es + length es
exprs_few [] = omega arith
exprs_few (e ∷ es) =
    let a = sum_by-cons expr_nodes e es in
    let b = sum_by-cons expr_operations e es in
    let c = expr_few e in
    let d = exprs_few es in
    omega (arith, a, b, c, d)

mutual
  -- at most three nodes for each operation
  pub nodes_few : (s : Statement) → nodes s ≤ 3 * operations s
  nodes_few (Set x v) = let h = expr_few v in omega (arith, h)
  nodes_few (Put v) = let h = expr_few v in omega (arith, h)
  nodes_few (Get x) = omega arith
  nodes_few (Keep array i v) = let h = expr_few i in let k = expr_few v in omega (arith, h, k)
  nodes_few (Mark m) = omega arith
  nodes_few (Seq parts) = let h = all_nodes_few parts in omega (arith, h)
  nodes_few (If test first other) = let h = expr_few test in let k = nodes_few first in let l = nodes_few other in omega (arith, h, k, l)
  nodes_few (Loop id least most body) = let h = nodes_few body in omega (arith, h)
  nodes_few (Block body) = let h = nodes_few body in omega (arith, h)
  nodes_few (Leave d) = omega arith
  nodes_few (Call f values arrays into) = let h = exprs_few values in omega (arith, h)
  nodes_few (Return v) = let h = expr_few v in omega (arith, h)

  all_nodes_few : (parts : Statements) → nodes_all parts ≤ 3 * operations_all parts
  all_nodes_few End = omega arith
  all_nodes_few (Then first rest) = let h = nodes_few first in let k = all_nodes_few rest in omega (arith, h, k)

expr_fewer : (e : Expr) → expr_operations e + 1 ≤ expr_nodes e
expr_fewer (Constant word) = omega arith
expr_fewer (Variable x) = omega arith
expr_fewer (Element array index) = let h = expr_fewer index in omega (arith, h)
expr_fewer (Unary operator operand) = let h = expr_fewer operand in omega (arith, h)
expr_fewer (Binary operator left right) = let h = expr_fewer left in let k = expr_fewer right in omega (arith, h, k)

exprs_fewer : (es : List Expr) → sum_by expr_operations es + length es ≤ sum_by expr_nodes es
exprs_fewer [] = omega arith
exprs_fewer (e ∷ es) =
    let a = sum_by-cons expr_nodes e es in
    let b = sum_by-cons expr_operations e es in
    let c = expr_fewer e in
    let d = exprs_fewer es in
    omega (arith, a, b, c, d)

pub some_nodes : (s : Statement) → 1 ≤ nodes s
some_nodes (Set x v) = omega arith
some_nodes (Put v) = omega arith
some_nodes (Get x) = omega arith
some_nodes (Keep array i v) = omega arith
some_nodes (Mark m) = omega arith
some_nodes (Seq parts) = omega arith
some_nodes (If test first other) = omega arith
some_nodes (Loop id least most body) = omega arith
some_nodes (Block body) = omega arith
some_nodes (Leave d) = omega arith
some_nodes (Call f values arrays into) = omega arith
some_nodes (Return v) = omega arith

idle_or_busy : (b : Bool) (body : Statement) → busy body ≤ nodes body → (if b then 2 else busy body + 1) ≤ nodes body + 1
idle_or_busy true body h = let one = some_nodes body in omega (arith, one)
idle_or_busy false body h = omega (arith, h)

mutual
  pub busy_few : (s : Statement) → busy s ≤ nodes s
  busy_few (Set x v) = let h = expr_fewer v in omega (arith, h)
  busy_few (Put v) = let h = expr_fewer v in omega (arith, h)
  busy_few (Get x) = omega arith
  busy_few (Keep array i v) = let h = expr_fewer i in let k = expr_fewer v in omega (arith, h, k)
  busy_few (Mark m) = omega arith
  busy_few (Seq parts) = let h = all_busy_few parts in omega (arith, h)
  busy_few (If test first other) = let h = expr_fewer test in let k = busy_few first in let l = busy_few other in omega (arith, h, k, l)
  busy_few (Loop id least most body) = idle_or_busy (is_idle most body) body (busy_few body)
  busy_few (Block body) = let h = busy_few body in omega (arith, h)
  busy_few (Leave d) = omega arith
  busy_few (Call f values arrays into) = let h = exprs_fewer values in omega (arith, h)
  busy_few (Return v) = let h = expr_fewer v in omega (arith, h)

  all_busy_few : (parts : Statements) → busy_all parts ≤ nodes_all parts
  all_busy_few End = omega arith
  all_busy_few (Then first rest) = let h = busy_few first in let k = all_busy_few rest in omega (arith, h, k)

-- idle loops are no more operations than they are
mutual
  pub busy_most : (s : Statement) → busy s ≤ operations s
  busy_most (Loop id least most body) = less (is_idle most body) (busy_most body) (some_work body)
    where
      less : (b : Bool) → busy body ≤ operations body → 1 ≤ operations body → (if b then 2 else busy body + 1) ≤ operations body + 1
      less true h one = omega (arith, one)
      less false h one = omega (arith, h)
  busy_most (Seq parts) = let h = all_busy_most parts in omega (arith, h)
  busy_most (If test first other) = let k = busy_most first in let l = busy_most other in omega (arith, k, l)
  busy_most (Block body) = let h = busy_most body in omega (arith, h)
  busy_most (Set x v) = omega arith
  busy_most (Put v) = omega arith
  busy_most (Get x) = omega arith
  busy_most (Keep array i v) = omega arith
  busy_most (Mark m) = omega arith
  busy_most (Leave d) = omega arith
  busy_most (Call f values arrays into) = omega arith
  busy_most (Return v) = omega arith

  all_busy_most : (parts : Statements) → busy_all parts ≤ operations_all parts
  all_busy_most End = omega arith
  all_busy_most (Then first rest) = let h = busy_most first in let k = all_busy_most rest in omega (arith, h, k)
