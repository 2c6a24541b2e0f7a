-- Folding makes nothing larger or deeper.
use Rattle.std.proofs.Common.{◌≡◌, ℕ, ◌+◌, ◌≤◌, max, List, [], ◌∷◌, length, map, refl, arith}
use Rattle.std.specs.Prelude.{sum_by}
use Rattle.std.proofs.lemmas.List.{length-map}
use Rattle.std.proofs.lemmas.List.Sums.{sum_by-cons}
use Rattle.high_ir.specs.declared.object.Kind.{Kind}
use Rattle.high_ir.specs.declared.object.Kind.TheVariants.{Unsigned8}
use Rattle.high_ir.specs.Size.{depth, depth_all, expr_depth, expr_nodes, expr_operations, frame_bytes, function_nodes, greatest, nodes, nodes_all, operations, operations_all}
use Rattle.high_ir.specs.Standing.{blocks_needed, blocks_needed_all}
use Rattle.high_ir.specs.Tree.{Expr, Constant, Variable, Element, Unary, Binary, Statement, Set, Put, Get, Keep, Mark, Seq, If, Loop, Block, Leave, Call, Return, Statements, End, Then, Function}
use Rattle.high_folded.specs.Folded.{constant_of, folded, folded_all, folded_expr, folded_function, folded_functions, kept_loops, stored_expr}
use Rattle.high_folded.proofs.Cases.{binary_cases, decided_cases, stored_cases, unary_cases}

-- expressions
pub nodes-expr : (e : Expr) → expr_nodes (folded_expr e) ≤ expr_nodes e
nodes-expr (Constant word) = omega arith
nodes-expr (Variable x) = omega arith
nodes-expr (Element array index) = let h = nodes-expr index in omega (arith, h)
nodes-expr (Unary operator e) =
    let h = nodes-expr e in
    unary_cases (λ x. expr_nodes x ≤ expr_nodes e + 1) operator (folded_expr e) (λ word is. omega arith) (λ idle. omega (arith, h)) (λ none plain. omega (arith, h))
nodes-expr (Binary operator left right) =
    let h = nodes-expr left in
    let k = nodes-expr right in
    binary_cases (λ x. expr_nodes x ≤ expr_nodes left + expr_nodes right + 1) operator (folded_expr left) (folded_expr right)
    (λ u v is is'. omega arith) (λ v is t. omega (arith, h)) (λ u is t. omega (arith, k)) (λ plain. omega (arith, h, k))

operations-expr : (e : Expr) → expr_operations (folded_expr e) ≤ expr_operations e
operations-expr (Constant word) = omega arith
operations-expr (Variable x) = omega arith
operations-expr (Element array index) = let h = operations-expr index in omega (arith, h)
operations-expr (Unary operator e) =
    let h = operations-expr e in
    unary_cases (λ x. expr_operations x ≤ expr_operations e + 1) operator (folded_expr e) (λ word is. omega arith) (λ idle. omega (arith, h)) (λ none plain. omega (arith, h))
operations-expr (Binary operator left right) =
    let h = operations-expr left in
    let k = operations-expr right in
    binary_cases (λ x. expr_operations x ≤ expr_operations left + expr_operations right + 1) operator (folded_expr left) (folded_expr right)
    (λ u v is is'. omega arith) (λ v is t. omega (arith, h)) (λ u is t. omega (arith, k)) (λ plain. omega (arith, h, k))

-- the greatest of two
two_less : (a b c d : ℕ) → a ≤ c → b ≤ d → max a b + 1 ≤ max c d + 1
two_less a b c d h k = omega (arith, h, k)

left_less : (a c d : ℕ) → a ≤ c → a ≤ max c d + 1
left_less a c d h = omega (arith, h)

right_less : (b c d : ℕ) → b ≤ d → b ≤ max c d + 1
right_less b c d h = omega (arith, h)

both_less : (a b c d : ℕ) → a ≤ c → b ≤ d → max a b ≤ max c d
both_less a b c d h k = omega (arith, h, k)

depth-expr : (e : Expr) → expr_depth (folded_expr e) ≤ expr_depth e
depth-expr (Constant word) = omega arith
depth-expr (Variable x) = omega arith
depth-expr (Element array index) = let h = depth-expr index in omega (arith, h)
depth-expr (Unary operator e) =
    let h = depth-expr e in
    unary_cases (λ x. expr_depth x ≤ expr_depth e + 1) operator (folded_expr e) (λ word is. omega arith) (λ idle. omega (arith, h)) (λ none plain. omega (arith, h))
depth-expr (Binary operator left right) =
    let h = depth-expr left in
    let k = depth-expr right in
    binary_cases (λ x. expr_depth x ≤ max (expr_depth left) (expr_depth right) + 1) operator (folded_expr left) (folded_expr right) (λ u v is is'. omega arith)
    (λ v is t. left_less (expr_depth (folded_expr left)) (expr_depth left) (expr_depth right) h) (λ u is t. right_less (expr_depth (folded_expr right)) (expr_depth left) (expr_depth right) k)
    (λ plain. two_less (expr_depth (folded_expr left)) (expr_depth (folded_expr right)) (expr_depth left) (expr_depth right) h k)

-- what is stored
pub nodes-stored : (kind : Kind) (e : Expr) → expr_nodes (stored_expr kind e) ≤ expr_nodes e
nodes-stored kind e = stored_cases (λ old new. expr_nodes new ≤ expr_nodes old) kind nodes-expr (λ operator e new h. omega (arith, h)) e

operations-stored : (kind : Kind) (e : Expr) → expr_operations (stored_expr kind e) ≤ expr_operations e
operations-stored kind e = stored_cases (λ old new. expr_operations new ≤ expr_operations old) kind operations-expr (λ operator e new h. omega (arith, h)) e

depth-stored : (kind : Kind) (e : Expr) → expr_depth (stored_expr kind e) ≤ expr_depth e
depth-stored kind e = stored_cases (λ old new. expr_depth new ≤ expr_depth old) kind depth-expr (λ operator e new h. omega (arith, h)) e

-- lists of expressions
pub all_nodes-exprs : (es : List Expr) → sum_by expr_nodes (map folded_expr es) ≤ sum_by expr_nodes es
all_nodes-exprs [] = omega arith
all_nodes-exprs (e ∷ es) =
    let h = nodes-expr e in
    let k = all_nodes-exprs es in
    let a = sum_by-cons expr_nodes (folded_expr e) (map folded_expr es) in
    let b = sum_by-cons expr_nodes e es in
    omega (arith, h, k, a, b)

all_operations-exprs : (es : List Expr) → sum_by expr_operations (map folded_expr es) ≤ sum_by expr_operations es
all_operations-exprs [] = omega arith
all_operations-exprs (e ∷ es) =
    let h = operations-expr e in
    let k = all_operations-exprs es in
    let a = sum_by-cons expr_operations (folded_expr e) (map folded_expr es) in
    let b = sum_by-cons expr_operations e es in
    omega (arith, h, k, a, b)

greatest-exprs : (es : List Expr) → greatest expr_depth (map folded_expr es) ≤ greatest expr_depth es
greatest-exprs [] = omega arith
greatest-exprs (e ∷ es) =
    both_less (expr_depth (folded_expr e)) (greatest expr_depth (map folded_expr es)) (expr_depth e) (greatest expr_depth es) (depth-expr e) (greatest-exprs es)

-- statements
mutual
  pub nodes-folded : (s : Statement) (n : ℕ) → nodes (folded n s) ≤ nodes s
  nodes-folded (Set x e) n = let h = nodes-expr e in omega (arith, h)
  nodes-folded (Put e) n = let h = nodes-stored Unsigned8 e in omega (arith, h)
  nodes-folded (Get x) n = omega arith
  nodes-folded (Keep array i e) n = let h = nodes-expr i in let k = nodes-stored array.kind e in omega (arith, h, k)
  nodes-folded (Mark m) n = omega arith
  nodes-folded (Seq parts) n = let h = nodes_all-folded parts n in omega (arith, h)
  nodes-folded (If test first other) n =
      let m = n + length (kept_loops first) in
      let t = nodes-expr test in
      let f = nodes-folded first n in
      let o = nodes-folded other n in
      let p = nodes-folded other m in
      decided_cases (λ s. nodes s ≤ expr_nodes test + nodes first + nodes other + 1) (constant_of (folded_expr test)) (folded n first) (folded n other) (If (folded_expr test) (folded n first) (folded m other))
      (omega (arith, f)) (omega (arith, o)) (λ none. omega (arith, t, f, p))
  nodes-folded (Loop id least most body) n = let h = nodes-folded body (n + 1) in omega (arith, h)
  nodes-folded (Block body) n = let h = nodes-folded body n in omega (arith, h)
  nodes-folded (Leave d) n = omega arith
  nodes-folded (Call f values arrays into) n = let h = all_nodes-exprs values in omega (arith, h)
  nodes-folded (Return e) n = let h = nodes-expr e in omega (arith, h)

  nodes_all-folded : (parts : Statements) (n : ℕ) → nodes_all (folded_all n parts) ≤ nodes_all parts
  nodes_all-folded End n = omega arith
  nodes_all-folded (Then first rest) n =
      let h = nodes-folded first n in
      let k = nodes_all-folded rest (n + length (kept_loops first)) in
      omega (arith, h, k)

mutual
  pub operations-folded : (s : Statement) (n : ℕ) → operations (folded n s) ≤ operations s
  operations-folded (Set x e) n = let h = operations-expr e in omega (arith, h)
  operations-folded (Put e) n = let h = operations-stored Unsigned8 e in omega (arith, h)
  operations-folded (Get x) n = omega arith
  operations-folded (Keep array i e) n = let h = operations-expr i in let k = operations-stored array.kind e in omega (arith, h, k)
  operations-folded (Mark m) n = omega arith
  operations-folded (Seq parts) n = let h = operations_all-folded parts n in omega (arith, h)
  operations-folded (If test first other) n =
      let m = n + length (kept_loops first) in
      let t = operations-expr test in
      let f = operations-folded first n in
      let o = operations-folded other n in
      let p = operations-folded other m in
      decided_cases (λ s. operations s ≤ expr_operations test + operations first + operations other + 1) (constant_of (folded_expr test)) (folded n first) (folded n other) (If (folded_expr test) (folded n first) (folded m other))
      (omega (arith, f)) (omega (arith, o)) (λ none. omega (arith, t, f, p))
  operations-folded (Loop id least most body) n = let h = operations-folded body (n + 1) in omega (arith, h)
  operations-folded (Block body) n = let h = operations-folded body n in omega (arith, h)
  operations-folded (Leave d) n = omega arith
  operations-folded (Call f values arrays into) n = let h = all_operations-exprs values in let k = length-map values folded_expr in omega (arith, h, k)
  operations-folded (Return e) n = let h = operations-expr e in omega (arith, h)

  operations_all-folded : (parts : Statements) (n : ℕ) → operations_all (folded_all n parts) ≤ operations_all parts
  operations_all-folded End n = omega arith
  operations_all-folded (Then first rest) n =
      let h = operations-folded first n in
      let k = operations_all-folded rest (n + length (kept_loops first)) in
      omega (arith, h, k)

-- the depth of a choice, and of one of its ways
ways_less : (t f o t' f' o' : ℕ) → t ≤ t' → f ≤ f' → o ≤ o' → max t (max f o) + 1 ≤ max t' (max f' o') + 1
ways_less t f o t' f' o' h k l = omega (arith, h, k, l)

first_way : (f t' f' o' : ℕ) → f ≤ f' → f ≤ max t' (max f' o') + 1
first_way f t' f' o' h = omega (arith, h)

other_way : (o t' f' o' : ℕ) → o ≤ o' → o ≤ max t' (max f' o') + 1
other_way o t' f' o' h = omega (arith, h)

mutual
  pub depth-folded : (s : Statement) (n : ℕ) → depth (folded n s) ≤ depth s
  depth-folded (Set x e) n = let h = depth-expr e in omega (arith, h)
  depth-folded (Put e) n = let h = depth-stored Unsigned8 e in omega (arith, h)
  depth-folded (Get x) n = omega arith
  depth-folded (Keep array i e) n = two_less (expr_depth (folded_expr i)) (expr_depth (stored_expr array.kind e)) (expr_depth i) (expr_depth e) (depth-expr i) (depth-stored array.kind e)
  depth-folded (Mark m) n = omega arith
  depth-folded (Seq parts) n = let h = depth_all-folded parts n in omega (arith, h)
  depth-folded (If test first other) n =
      let m = n + length (kept_loops first) in
      decided_cases (λ s. depth s ≤ max (expr_depth test) (max (depth first) (depth other)) + 1) (constant_of (folded_expr test)) (folded n first) (folded n other) (If (folded_expr test) (folded n first) (folded m other))
      (first_way (depth (folded n first)) (expr_depth test) (depth first) (depth other) (depth-folded first n))
      (other_way (depth (folded n other)) (expr_depth test) (depth first) (depth other) (depth-folded other n))
      (λ none. ways_less (expr_depth (folded_expr test)) (depth (folded n first)) (depth (folded m other)) (expr_depth test) (depth first) (depth other) (depth-expr test) (depth-folded first n) (depth-folded other m))
  depth-folded (Loop id least most body) n = let h = depth-folded body (n + 1) in omega (arith, h)
  depth-folded (Block body) n = let h = depth-folded body n in omega (arith, h)
  depth-folded (Leave d) n = omega arith
  depth-folded (Call f values arrays into) n =
      two_less (greatest expr_depth (map folded_expr values)) (greatest (λ b. 1) arrays) (greatest expr_depth values) (greatest (λ b. 1) arrays) (greatest-exprs values) (omega arith)
  depth-folded (Return e) n = let h = depth-expr e in omega (arith, h)

  depth_all-folded : (parts : Statements) (n : ℕ) → depth_all (folded_all n parts) ≤ depth_all parts
  depth_all-folded End n = omega arith
  depth_all-folded (Then first rest) n =
      let m = n + length (kept_loops first) in
      both_less (depth (folded n first)) (depth_all (folded_all m rest)) (depth first) (depth_all rest) (depth-folded first n) (depth_all-folded rest m)

-- one of two ways needs no more blocks than both
one_of_two : (a b c : ℕ) → a ≤ b → a ≤ max b c
one_of_two a b c h = omega (arith, h)

other_of_two : (a b c : ℕ) → a ≤ c → a ≤ max b c
other_of_two a b c h = omega (arith, h)

mutual
  pub blocks-folded : (s : Statement) (n : ℕ) → blocks_needed (folded n s) ≤ blocks_needed s
  blocks-folded (Set x e) n = omega arith
  blocks-folded (Put e) n = omega arith
  blocks-folded (Get x) n = omega arith
  blocks-folded (Keep array i e) n = omega arith
  blocks-folded (Mark m) n = omega arith
  blocks-folded (Seq parts) n = blocks_all-folded parts n
  blocks-folded (If test first other) n =
      let m = n + length (kept_loops first) in
      decided_cases (λ s. blocks_needed s ≤ max (blocks_needed first) (blocks_needed other)) (constant_of (folded_expr test)) (folded n first) (folded n other) (If (folded_expr test) (folded n first) (folded m other))
      (one_of_two (blocks_needed (folded n first)) (blocks_needed first) (blocks_needed other) (blocks-folded first n))
      (other_of_two (blocks_needed (folded n other)) (blocks_needed first) (blocks_needed other) (blocks-folded other n))
      (λ none. both_less (blocks_needed (folded n first)) (blocks_needed (folded m other)) (blocks_needed first) (blocks_needed other) (blocks-folded first n) (blocks-folded other m))
  blocks-folded (Loop id least most body) n = blocks-folded body (n + 1)
  blocks-folded (Block body) n = let h = blocks-folded body n in omega (arith, h)
  blocks-folded (Leave d) n = omega arith
  blocks-folded (Call f values arrays into) n = omega arith
  blocks-folded (Return e) n = omega arith

  blocks_all-folded : (parts : Statements) (n : ℕ) → blocks_needed_all (folded_all n parts) ≤ blocks_needed_all parts
  blocks_all-folded End n = omega arith
  blocks_all-folded (Then first rest) n =
      let m = n + length (kept_loops first) in
      both_less (blocks_needed (folded n first)) (blocks_needed_all (folded_all m rest)) (blocks_needed first) (blocks_needed_all rest) (blocks-folded first n) (blocks_all-folded rest m)

-- functions
pub all_nodes : (fs : List Function) (n : ℕ) → sum_by function_nodes (folded_functions n fs) ≤ sum_by function_nodes fs
all_nodes [] n = omega arith
all_nodes (f ∷ fs) n =
    let m = n + length (kept_loops f.body) in
    let h = nodes-folded f.body n in
    let k = all_nodes fs m in
    let a = sum_by-cons function_nodes (folded_function n f) (folded_functions m fs) in
    let b = sum_by-cons function_nodes f fs in
    omega (arith, h, k, a, b)

abbrev function_operations : Function → ℕ
function_operations f = operations f.body + 1

pub all_operations : (fs : List Function) (n : ℕ) → sum_by (λ f. operations f.body + 1) (folded_functions n fs) ≤ sum_by (λ f. operations f.body + 1) fs
all_operations [] n = omega arith
all_operations (f ∷ fs) n =
    let m = n + length (kept_loops f.body) in
    let h = operations-folded f.body n in
    let k = all_operations fs m in
    let a = sum_by-cons function_operations (folded_function n f) (folded_functions m fs) in
    let b = sum_by-cons function_operations f fs in
    omega (arith, h, k, a, b)

pub all_depths : (fs : List Function) (n : ℕ) → greatest (λ f. depth f.body) (folded_functions n fs) ≤ greatest (λ f. depth f.body) fs
all_depths [] n = omega arith
all_depths (f ∷ fs) n =
    let m = n + length (kept_loops f.body) in
    both_less (depth (folded n f.body)) (greatest (λ f. depth f.body) (folded_functions m fs)) (depth f.body) (greatest (λ f. depth f.body) fs) (depth-folded f.body n) (all_depths fs m)

pub all_frames : (fs : List Function) (n : ℕ) → sum_by frame_bytes (folded_functions n fs) ≡ sum_by frame_bytes fs
all_frames [] n = refl
all_frames (f ∷ fs) n =
    let m = n + length (kept_loops f.body) in
    let k = all_frames fs m in
    let a = sum_by-cons frame_bytes (folded_function n f) (folded_functions m fs) in
    let b = sum_by-cons frame_bytes f fs in
    omega (arith, k, a, b)
