-- How large a program is: its nodes, its operations, its depth, the bytes of its local objects.
use Rattle.std.specs.Prelude.{ℕ, ◌+◌, ◌*◌, max, List, [], ◌∷◌, length, sum_by}
use Rattle.wcc_base.specs.Sizes.{rounded}
use Rattle.high_ir.specs.declared.object.Storage.{Storage}
use Rattle.high_ir.specs.declared.object.Storage.TheVariants.{Constant as Fixed, Global, Local}
use Rattle.high_ir.specs.Tree.{Expr, Constant, Variable, Element, Unary, Binary, Statement, Set, Put, Get, Keep, Mark, Seq, If, Loop, Block, Leave, Call, Return, Statements, End, Then, Object, Function, Program}
use Rattle.high_ir.specs.Words.{kind_bytes}

-- the expressions within an expression, itself included
abbrev pub expr_nodes : Expr → ℕ
expr_nodes (Constant word) = 1
expr_nodes (Variable x) = 1
expr_nodes (Element array index) = expr_nodes index + 1
expr_nodes (Unary operator operand) = expr_nodes operand + 1
expr_nodes (Binary operator left right) = expr_nodes left + expr_nodes right + 1

-- the statements and expressions within a statement, itself included; an array that is passed is one
abbrev mutual
  pub nodes : Statement → ℕ
  nodes (Set x e) = expr_nodes e + 1
  nodes (Put e) = expr_nodes e + 1
  nodes (Get x) = 1
  nodes (Keep array i e) = expr_nodes i + expr_nodes e + 1
  nodes (Mark m) = 1
  nodes (Seq parts) = nodes_all parts + 1
  nodes (If test first other) = expr_nodes test + nodes first + nodes other + 1
  nodes (Loop id least most body) = nodes body + 1
  nodes (Block body) = nodes body + 1
  nodes (Leave d) = 1
  nodes (Call f values arrays into) = sum_by expr_nodes values + length arrays + 1
  nodes (Return e) = expr_nodes e + 1

  pub nodes_all : Statements → ℕ
  nodes_all End = 0
  nodes_all (Then first rest) = nodes first + nodes_all rest

-- the opening mark is a statement
abbrev pub function_nodes : Function → ℕ
function_nodes f = nodes f.body + 1

abbrev pub program_nodes : Program → ℕ
program_nodes p = sum_by function_nodes p.functions

-- the same without constants and variables, which are operands and no instructions of their own; a value that is passed is one more
abbrev pub expr_operations : Expr → ℕ
expr_operations (Constant word) = 0
expr_operations (Variable x) = 0
expr_operations (Element array index) = expr_operations index + 1
expr_operations (Unary operator operand) = expr_operations operand + 1
expr_operations (Binary operator left right) = expr_operations left + expr_operations right + 1

abbrev mutual
  pub operations : Statement → ℕ
  operations (Set x e) = expr_operations e + 1
  operations (Put e) = expr_operations e + 1
  operations (Get x) = 1
  operations (Keep array i e) = expr_operations i + expr_operations e + 1
  operations (Mark m) = 1
  operations (Seq parts) = operations_all parts + 1
  operations (If test first other) = expr_operations test + operations first + operations other + 1
  operations (Loop id least most body) = operations body + 1
  operations (Block body) = operations body + 1
  operations (Leave d) = 1
  operations (Call f values arrays into) = sum_by expr_operations values + length values + length arrays + 1
  operations (Return e) = expr_operations e + 1

  pub operations_all : Statements → ℕ
  operations_all End = 0
  operations_all (Then first rest) = operations first + operations_all rest

abbrev pub program_operations : Program → ℕ
program_operations p = sum_by (λ f. operations f.body + 1) p.functions

-- 1 for a leaf, else one more than the greatest depth of the parts
abbrev pub expr_depth : Expr → ℕ
expr_depth (Constant word) = 1
expr_depth (Variable x) = 1
expr_depth (Element array index) = expr_depth index + 1
expr_depth (Unary operator operand) = expr_depth operand + 1
expr_depth (Binary operator left right) = max (expr_depth left) (expr_depth right) + 1

abbrev pub greatest : {A : Type 0} → (A → ℕ) → List A → ℕ
greatest f [] = 0
greatest f (x ∷ xs) = max (f x) (greatest f xs)

abbrev mutual
  pub depth : Statement → ℕ
  depth (Set x e) = expr_depth e + 1
  depth (Put e) = expr_depth e + 1
  depth (Get x) = 1
  depth (Keep array i e) = max (expr_depth i) (expr_depth e) + 1
  depth (Mark m) = 1
  depth (Seq parts) = depth_all parts + 1
  depth (If test first other) = max (expr_depth test) (max (depth first) (depth other)) + 1
  depth (Loop id least most body) = depth body + 1
  depth (Block body) = depth body + 1
  depth (Leave d) = 1
  depth (Call f values arrays into) = max (greatest expr_depth values) (greatest (λ b. 1) arrays) + 1
  depth (Return e) = expr_depth e + 1

  pub depth_all : Statements → ℕ
  depth_all End = 0
  depth_all (Then first rest) = max (depth first) (depth_all rest)

abbrev pub program_depth : Program → ℕ
program_depth p = greatest (λ f. depth f.body) p.functions

-- the bytes of an array, rounded up to whole words
abbrev pub object_bytes : Object → ℕ
object_bytes o = rounded (o.size * kind_bytes o.kind)

abbrev pub local_object_bytes : Storage → Object → ℕ
local_object_bytes Fixed o = 0
local_object_bytes Global o = 0
local_object_bytes Local o = object_bytes o

-- each variable and each array parameter takes a word
abbrev pub frame_bytes : Function → ℕ
frame_bytes f = 4 * (f.values + f.arrays + f.locals)

-- the bytes of what is a function's own
abbrev pub local_bytes : Program → ℕ
local_bytes p = sum_by frame_bytes p.functions + sum_by (λ o. local_object_bytes o.storage o) p.objects
