-- How large bodies are where they are moved, and where calls are opened.
use Rattle.std.proofs.Common.{◌≡◌, ℕ, ◌+◌, ◌*◌, ◌≤◌, max, Bool, true, false, List, [], ◌∷◌, length, map, Option, Some, None, refl, ap, ◌∙◌, arith}
use Rattle.std.specs.Prelude.{nat_le, slice_get, sum_by, ◌&&◌}
use Rattle.std.proofs.lemmas.Bool.{leb-true}
use Rattle.std.proofs.lemmas.List.{length-map}
use Rattle.std.proofs.lemmas.List.Sums.{sum_by-cons}
use Rattle.wcc_base.specs.Budgets.{most_depth, most_locals, most_operations}
use Rattle.high_ir.specs.declared.object.Base.{Base}
use Rattle.high_ir.specs.Size.{depth, depth_all, expr_depth, expr_nodes, expr_operations, function_nodes, greatest, nodes, nodes_all, operations, operations_all}
use Rattle.high_ir.specs.Tree.{Expr, Constant, Variable, Element, Unary, Binary, Statement, Set, Put, Get, Keep, Mark, Seq, If, Loop, Block, Leave, Call, Return, Statements, End, Then, Function}
use Rattle.inliner.specs.declared.measuring.Returns.TheVariants.{Kept}
use Rattle.inliner.specs.declared.used.Used.{Used}
use Rattle.inliner.specs.Budgets.{fits, variables}
use Rattle.inliner.specs.Measures.{measured, measured_all, returns_into}
use Rattle.inliner.specs.Moving.{Place, ended, moved, moved_all, moved_base, moved_expr}
use Rattle.inliner.specs.Opening.{Site, assigned, call_of, opening}
use Rattle.inliner.specs.Walking.{at_call, opened, opened_all, opened_if}

-- a body where it stands
mutual
  pub nodes_kept : (s : Statement) → (measured Kept s).nodes ≡ nodes s
  nodes_kept (Set x e) = refl
  nodes_kept (Put e) = refl
  nodes_kept (Get x) = refl
  nodes_kept (Keep array i e) = refl
  nodes_kept (Mark m) = refl
  nodes_kept (Seq parts) = omega (arith, nodes_kept_all parts)
  nodes_kept (If test a b) = omega (arith, nodes_kept a, nodes_kept b)
  nodes_kept (Loop id least most body) = omega (arith, nodes_kept body)
  nodes_kept (Block body) = omega (arith, nodes_kept body)
  nodes_kept (Leave j) = refl
  nodes_kept (Call f values arrays into) = omega arith
  nodes_kept (Return e) = refl

  nodes_kept_all : (ss : Statements) → (measured_all Kept ss).nodes ≡ nodes_all ss
  nodes_kept_all End = refl
  nodes_kept_all (Then s rest) = omega (arith, nodes_kept s, nodes_kept_all rest)

mutual
  pub operations_kept : (s : Statement) → (measured Kept s).operations ≡ operations s
  operations_kept (Set x e) = refl
  operations_kept (Put e) = refl
  operations_kept (Get x) = refl
  operations_kept (Keep array i e) = refl
  operations_kept (Mark m) = refl
  operations_kept (Seq parts) = omega (arith, operations_kept_all parts)
  operations_kept (If test a b) = omega (arith, operations_kept a, operations_kept b)
  operations_kept (Loop id least most body) = omega (arith, operations_kept body)
  operations_kept (Block body) = omega (arith, operations_kept body)
  operations_kept (Leave j) = refl
  operations_kept (Call f values arrays into) = omega arith
  operations_kept (Return e) = refl

  operations_kept_all : (ss : Statements) → (measured_all Kept ss).operations ≡ operations_all ss
  operations_kept_all End = refl
  operations_kept_all (Then s rest) = omega (arith, operations_kept s, operations_kept_all rest)

-- expressions where they are moved
module _ (p : Place) where
  expr_operations-moved : (e : Expr) → expr_operations (moved_expr p e) ≡ expr_operations e
  expr_operations-moved (Constant word) = refl
  expr_operations-moved (Variable x) = refl
  expr_operations-moved (Element array index) = ap (λ n. n + 1) (expr_operations-moved index)
  expr_operations-moved (Unary operator operand) = ap (λ n. n + 1) (expr_operations-moved operand)
  expr_operations-moved (Binary operator a b) = omega (arith, expr_operations-moved a, expr_operations-moved b)

  values_operations-moved : (es : List Expr) → sum_by expr_operations (map (moved_expr p) es) ≡ sum_by expr_operations es
  values_operations-moved [] = refl
  values_operations-moved (e ∷ es) =
      omega (arith, sum_by-cons expr_operations (moved_expr p e) (map (moved_expr p) es), sum_by-cons expr_operations e es, expr_operations-moved e, values_operations-moved es)

  expr_depth-moved : (e : Expr) → expr_depth (moved_expr p e) ≡ expr_depth e
  expr_depth-moved (Constant word) = refl
  expr_depth-moved (Variable x) = refl
  expr_depth-moved (Element array index) = ap (λ n. n + 1) (expr_depth-moved index)
  expr_depth-moved (Unary operator operand) = ap (λ n. n + 1) (expr_depth-moved operand)
  expr_depth-moved (Binary operator a b) = ap (λ n. max n (expr_depth (moved_expr p b)) + 1) (expr_depth-moved a) ∙ ap (λ n. max (expr_depth a) n + 1) (expr_depth-moved b)

  values_depth-moved : (es : List Expr) → greatest expr_depth (map (moved_expr p) es) ≡ greatest expr_depth es
  values_depth-moved [] = refl
  values_depth-moved (e ∷ es) = ap (λ n. max n (greatest expr_depth (map (moved_expr p) es))) (expr_depth-moved e) ∙ ap (λ n. max (expr_depth e) n) (values_depth-moved es)

  arrays_depth-moved : (bs : List Base) → greatest (λ b. 1) (map (moved_base p.arrays) bs) ≡ greatest (λ b. 1) bs
  arrays_depth-moved [] = refl
  arrays_depth-moved (b ∷ bs) = ap (λ n. max 1 n) (arrays_depth-moved bs)

  ended_operations : (into : Option ℕ) (j : ℕ) (e : Expr) → operations (ended into j (moved_expr p e)) ≡ (measured (returns_into into) (Return e)).operations
  ended_operations None j e = refl
  ended_operations (Some x) j e = omega (arith, expr_operations-moved e)

  ended_depth : (into : Option ℕ) (j : ℕ) (e : Expr) → depth (ended into j (moved_expr p e)) ≡ (measured (returns_into into) (Return e)).depth
  ended_depth None j e = refl
  ended_depth (Some x) j e = omega (arith, expr_depth-moved e)

  mutual
    pub operations-moved : (j : ℕ) (s : Statement) → operations (moved p j s) ≡ (measured (returns_into p.into) s).operations
    operations-moved j (Set x e) = omega (arith, expr_operations-moved e)
    operations-moved j (Put e) = omega (arith, expr_operations-moved e)
    operations-moved j (Get x) = refl
    operations-moved j (Keep array i e) = omega (arith, expr_operations-moved i, expr_operations-moved e)
    operations-moved j (Mark m) = refl
    operations-moved j (Seq parts) = omega (arith, operations-moved_all j parts)
    operations-moved j (If test a b) = omega (arith, expr_operations-moved test, operations-moved j a, operations-moved j b)
    operations-moved j (Loop id least most body) = omega (arith, operations-moved j body)
    operations-moved j (Block body) = omega (arith, operations-moved (j + 1) body)
    operations-moved j (Leave k) = refl
    operations-moved j (Call f values arrays into) = omega (arith, values_operations-moved values, length-map values (moved_expr p), length-map arrays (moved_base p.arrays))
    operations-moved j (Return e) = ended_operations p.into j e

    operations-moved_all : (j : ℕ) (ss : Statements) → operations_all (moved_all p j ss) ≡ (measured_all (returns_into p.into) ss).operations
    operations-moved_all j End = refl
    operations-moved_all j (Then s rest) = omega (arith, operations-moved j s, operations-moved_all j rest)

  mutual
    pub depth-moved : (j : ℕ) (s : Statement) → depth (moved p j s) ≡ (measured (returns_into p.into) s).depth
    depth-moved j (Set x e) = omega (arith, expr_depth-moved e)
    depth-moved j (Put e) = omega (arith, expr_depth-moved e)
    depth-moved j (Get x) = refl
    depth-moved j (Keep array i e) = omega (arith, expr_depth-moved i, expr_depth-moved e)
    depth-moved j (Mark m) = refl
    depth-moved j (Seq parts) = omega (arith, depth-moved_all j parts)
    depth-moved j (If test a b) = omega (arith, expr_depth-moved test, depth-moved j a, depth-moved j b)
    depth-moved j (Loop id least most body) = omega (arith, depth-moved j body)
    depth-moved j (Block body) = omega (arith, depth-moved (j + 1) body)
    depth-moved j (Leave k) = refl
    depth-moved j (Call f values arrays into) = omega (arith, values_depth-moved values, arrays_depth-moved arrays)
    depth-moved j (Return e) = ended_depth p.into j e

    depth-moved_all : (j : ℕ) (ss : Statements) → depth_all (moved_all p j ss) ≡ (measured_all (returns_into p.into) ss).depth
    depth-moved_all j End = refl
    depth-moved_all j (Then s rest) = omega (arith, depth-moved j s, depth-moved_all j rest)

-- an opened call, beside the call
assigned_operations : (x : ℕ) (es : List Expr) (after : Statements) → operations_all (assigned x es after) ≡ sum_by expr_operations es + length es + operations_all after
assigned_operations x [] after = omega arith
assigned_operations x (e ∷ es) after = omega (arith, sum_by-cons expr_operations e es, assigned_operations (x + 1) es after)

pub opening_operations : (s : Site) (n : ℕ) (body : Statement) → operations (opening s n body) + length s.arrays ≡ operations (call_of s) + 2 + (measured (returns_into s.into) body).operations
opening_operations s n body =
    let p : Place = record { base = n; arrays = s.arrays; into = s.into } in
    omega (arith, assigned_operations n s.values (Then (Block (moved p 0 body)) End), operations-moved p 0 body)

assigned_depth : (x : ℕ) (es : List Expr) (b : Statement) → depth_all (assigned x es (Then (Block b) End)) ≡ max (greatest expr_depth es) (depth b) + 1
assigned_depth x [] b = omega arith
assigned_depth x (e ∷ es) b = omega (arith, assigned_depth (x + 1) es b)

pub opening_depth : (s : Site) (n : ℕ) (body : Statement) → depth (opening s n body) ≡ max (greatest expr_depth s.values) (measured (returns_into s.into) body).depth + 2
opening_depth s n body =
    let p : Place = record { base = n; arrays = s.arrays; into = s.into } in
    omega (arith, assigned_depth n s.values (moved p 0 body), depth-moved p 0 body)

-- the numbers do not go by where the variables stand
pub opening_operations-anywhere : (s : Site) (n m : ℕ) (body : Statement) → operations (opening s n body) ≡ operations (opening s m body)
opening_operations-anywhere s n m body = omega (arith, opening_operations s n body, opening_operations s m body)

pub opening_depth-anywhere : (s : Site) (n m : ℕ) (body : Statement) → depth (opening s n body) ≡ depth (opening s m body)
opening_depth-anywhere s n m body = omega (arith, opening_depth s n body, opening_depth s m body)

-- what a call that is opened keeps to
pub record Fitting (limit : ℕ) (used : Used) (around : ℕ) (s : Site) (h : Function) : Type 0 where
  pub nodes : function_nodes h ≤ limit
  pub operations : used.operations + operations (opening s used.next h.body) ≤ most_operations + operations (call_of s)
  pub bytes : used.bytes + 4 * variables h ≤ most_locals
  pub depth : around + depth (opening s used.next h.body) ≤ most_depth

pub first_true : (a b : Bool) → (a && b) ≡ true → a ≡ true
first_true true b e = refl
first_true false b e = cc

pub second_true : (a b : Bool) → (a && b) ≡ true → b ≡ true
second_true true b e = e
second_true false b e = cc

pub fitting : (limit : ℕ) (used : Used) (around : ℕ) (s : Site) (h : Function) → fits limit used around s h ≡ true → Fitting limit used around s h
fitting limit used around s h is =
    let small = nat_le (function_nodes h) limit in
    let few = nat_le (used.operations + operations (opening s used.next h.body)) (most_operations + operations (call_of s)) in
    let short = nat_le (used.bytes + 4 * variables h) most_locals in
    let flat = nat_le (around + depth (opening s used.next h.body)) most_depth in
    let second = second_true small (few && (short && flat)) is in
    let third = second_true few (short && flat) second in
    record {
      nodes = leb-true (function_nodes h) limit (first_true small (few && (short && flat)) is);
      operations = leb-true (used.operations + operations (opening s used.next h.body)) (most_operations + operations (call_of s)) (first_true few (short && flat) second);
      bytes = leb-true (used.bytes + 4 * variables h) most_locals (first_true short flat third);
      depth = leb-true (around + depth (opening s used.next h.body)) most_depth (second_true short flat third);
    }

-- what is used is counted exactly, and passes no budget that it had not passed before
pub record Counts (used : Used) (size : ℕ) (w : Used) (made : ℕ) : Type 0 where
  pub operations : w.operations + size ≡ used.operations + made
  pub within : w.operations ≤ max used.operations most_operations
  pub bytes : w.bytes + 4 * used.next ≡ used.bytes + 4 * w.next
  pub small : w.bytes ≤ max used.bytes most_locals

counts_none : (used : Used) (size : ℕ) → Counts used size used size
counts_none used size = record { operations = refl; within = omega arith; bytes = refl; small = omega arith }

counts_both : (a b c : Used) (n m k l q : ℕ) → Counts a n b m → Counts b k c l → Counts a (q + n + k) c (q + m + l)
counts_both a b c n m k l q h g = record {
  operations = omega (arith, h.operations, g.operations);
  within = omega (arith, h.within, g.within);
  bytes = omega (arith, h.bytes, g.bytes);
  small = omega (arith, h.small, g.small);
}

counts_pair : (a b c : Used) (n m k l : ℕ) → Counts a n b m → Counts b k c l → Counts a (n + k) c (m + l)
counts_pair a b c n m k l h g = record {
  operations = omega (arith, h.operations, g.operations);
  within = omega (arith, h.within, g.within);
  bytes = omega (arith, h.bytes, g.bytes);
  small = omega (arith, h.small, g.small);
}

counts_more : (a b : Used) (n m q : ℕ) → Counts a n b m → Counts a (n + q) b (m + q)
counts_more a b n m q h = record { operations = omega (arith, h.operations); within = h.within; bytes = h.bytes; small = h.small }

module _ (limit : ℕ) (fs : List Function) where
  if_counts : (b : Bool) (used : Used) (around : ℕ) (s : Site) (h : Function) → (b ≡ true → Fitting limit used around s h) → operations (call_of s) ≤ used.operations →
      Counts used (operations (call_of s)) (opened_if b used s h).used (operations (opened_if b used s h).statement)
  if_counts false used around s h fit le = counts_none used (operations (call_of s))
  if_counts true used around s h fit le =
      let f = fit refl in
      record {
        operations = omega (arith, le);
        within = omega (arith, f.operations);
        bytes = omega arith;
        small = omega (arith, f.bytes);
      }

  call_counts : (used : Used) (around : ℕ) (s : Site) (o : Option Function) → operations (call_of s) ≤ used.operations →
      Counts used (operations (call_of s)) (at_call limit used around s o).used (operations (at_call limit used around s o).statement)
  call_counts used around s None le = counts_none used (operations (call_of s))
  call_counts used around s (Some h) le =
      if_counts (fits limit used around s h) used around s h (λ e. fitting limit used around s h e) le

  mutual
    pub opened_counts : (around : ℕ) (s : Statement) (used : Used) → operations s ≤ used.operations → Counts used (operations s) (opened limit fs around s used).used (operations (opened limit fs around s used).statement)
    opened_counts around (Set x e) used le = counts_none used _
    opened_counts around (Put e) used le = counts_none used _
    opened_counts around (Get x) used le = counts_none used _
    opened_counts around (Keep array i e) used le = counts_none used _
    opened_counts around (Mark m) used le = counts_none used _
    opened_counts around (Seq parts) used le = counts_more _ _ _ _ 1 (opened_counts_all (around + 1) parts used (omega (arith, le)))
    opened_counts around (If test a b) used le =
        let first = opened limit fs (around + 1) a used in
        let one = opened_counts (around + 1) a used (omega (arith, le)) in
        let two = opened_counts (around + 1) b first.used (omega (arith, le, one.operations)) in
        counts_more _ _ _ _ 1 (counts_both used first.used (opened limit fs (around + 1) b first.used).used (operations a) (operations first.statement) (operations b) _ (expr_operations test) one two)
    opened_counts around (Loop id least most body) used le = counts_more _ _ _ _ 1 (opened_counts (around + 1) body used (omega (arith, le)))
    opened_counts around (Block body) used le = counts_more _ _ _ _ 1 (opened_counts (around + 1) body used (omega (arith, le)))
    opened_counts around (Leave j) used le = counts_none used _
    opened_counts around (Call f values arrays into) used le = call_counts used around (record { function = f; values = values; arrays = arrays; into = into }) (slice_get fs f) le
    opened_counts around (Return e) used le = counts_none used _

    opened_counts_all : (around : ℕ) (ss : Statements) (used : Used) → operations_all ss ≤ used.operations → Counts used (operations_all ss) (opened_all limit fs around ss used).used (operations_all (opened_all limit fs around ss used).parts)
    opened_counts_all around End used le = counts_none used 0
    opened_counts_all around (Then s rest) used le =
        let first = opened limit fs around s used in
        let one = opened_counts around s used (omega (arith, le)) in
        let two = opened_counts_all around rest first.used (omega (arith, le, one.operations)) in
        counts_pair used first.used (opened_all limit fs around rest first.used).used (operations s) (operations first.statement) (operations_all rest) _ one two

  -- nothing gets too deep
  if_depth : (b : Bool) (used : Used) (around : ℕ) (s : Site) (h : Function) → (b ≡ true → Fitting limit used around s h) → around + depth (call_of s) ≤ most_depth → around + depth (opened_if b used s h).statement ≤ most_depth
  if_depth false used around s h fit le = le
  if_depth true used around s h fit le = (fit refl).depth

  call_depth : (used : Used) (around : ℕ) (s : Site) (o : Option Function) → around + depth (call_of s) ≤ most_depth → around + depth (at_call limit used around s o).statement ≤ most_depth
  call_depth used around s None le = le
  call_depth used around s (Some h) le =
      if_depth (fits limit used around s h) used around s h (λ e. fitting limit used around s h e) le

  mutual
    pub opened_depth : (around : ℕ) (s : Statement) (used : Used) → around + depth s ≤ most_depth → around + depth (opened limit fs around s used).statement ≤ most_depth
    opened_depth around (Set x e) used le = le
    opened_depth around (Put e) used le = le
    opened_depth around (Get x) used le = le
    opened_depth around (Keep array i e) used le = le
    opened_depth around (Mark m) used le = le
    opened_depth around (Seq parts) used le = omega (arith, opened_depth_all (around + 1) parts used (omega (arith, le)))
    opened_depth around (If test a b) used le =
        let first = opened limit fs (around + 1) a used in
        omega (arith, le, opened_depth (around + 1) a used (omega (arith, le)), opened_depth (around + 1) b first.used (omega (arith, le)))
    opened_depth around (Loop id least most body) used le = omega (arith, opened_depth (around + 1) body used (omega (arith, le)))
    opened_depth around (Block body) used le = omega (arith, opened_depth (around + 1) body used (omega (arith, le)))
    opened_depth around (Leave j) used le = le
    opened_depth around (Call f values arrays into) used le = call_depth used around (record { function = f; values = values; arrays = arrays; into = into }) (slice_get fs f) le
    opened_depth around (Return e) used le = le

    opened_depth_all : (around : ℕ) (ss : Statements) (used : Used) → around + depth_all ss ≤ most_depth → around + depth_all (opened_all limit fs around ss used).parts ≤ most_depth
    opened_depth_all around End used le = le
    opened_depth_all around (Then s rest) used le =
        let first = opened limit fs around s used in
        omega (arith, opened_depth around s used (omega (arith, le)), opened_depth_all around rest first.used (omega (arith, le)))

-- nodes are at most three for each operation
expr_nodes-le : (e : Expr) → expr_nodes e ≤ 2 * expr_operations e + 1
expr_nodes-le (Constant word) = omega arith
expr_nodes-le (Variable x) = omega arith
expr_nodes-le (Element array index) = omega (arith, expr_nodes-le index)
expr_nodes-le (Unary operator operand) = omega (arith, expr_nodes-le operand)
expr_nodes-le (Binary operator a b) = omega (arith, expr_nodes-le a, expr_nodes-le b)

values_nodes-le : (es : List Expr) → sum_by expr_nodes es ≤ 2 * sum_by expr_operations es + length es
values_nodes-le [] = omega arith
values_nodes-le (e ∷ es) = omega (arith, sum_by-cons expr_nodes e es, sum_by-cons expr_operations e es, expr_nodes-le e, values_nodes-le es)

mutual
  pub nodes-le : (s : Statement) → nodes s ≤ 3 * operations s
  nodes-le (Set x e) = omega (arith, expr_nodes-le e)
  nodes-le (Put e) = omega (arith, expr_nodes-le e)
  nodes-le (Get x) = omega arith
  nodes-le (Keep array i e) = omega (arith, expr_nodes-le i, expr_nodes-le e)
  nodes-le (Mark m) = omega arith
  nodes-le (Seq parts) = omega (arith, nodes_all-le parts)
  nodes-le (If test a b) = omega (arith, expr_nodes-le test, nodes-le a, nodes-le b)
  nodes-le (Loop id least most body) = omega (arith, nodes-le body)
  nodes-le (Block body) = omega (arith, nodes-le body)
  nodes-le (Leave j) = omega arith
  nodes-le (Call f values arrays into) = omega (arith, values_nodes-le values)
  nodes-le (Return e) = omega (arith, expr_nodes-le e)

  nodes_all-le : (ss : Statements) → nodes_all ss ≤ 3 * operations_all ss
  nodes_all-le End = omega arith
  nodes_all-le (Then s rest) = omega (arith, nodes-le s, nodes_all-le rest)

pub program_nodes-le : (fs : List Function) → sum_by function_nodes fs ≤ 3 * sum_by (λ f. operations f.body + 1) fs
program_nodes-le [] = omega arith
program_nodes-le (f ∷ fs) = omega (arith, sum_by-cons function_nodes f fs, sum_by-cons (λ g. operations g.body + 1) f fs, nodes-le f.body, program_nodes-le fs)
