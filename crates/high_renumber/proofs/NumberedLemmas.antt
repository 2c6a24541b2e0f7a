-- What stands in a statement whose marks and loops are numbered, and how large it is.
use Rattle.std.proofs.Common.{◌≡◌, ℕ, zero, suc, ◌+◌, ◌-◌, ◌*◌, max, List, [], ◌∷◌, ◌++◌, length, refl, sym, ap, ◌∙◌, arith, length-append}
use Rattle.std.specs.List.{range_with_len}
use Rattle.high_ir.specs.Size.{depth, depth_all, expr_depth, expr_nodes, expr_operations, nodes, nodes_all, operations, operations_all}
use Rattle.high_ir.specs.Standing.{Bounded, blocks_needed, blocks_needed_all, callees_of, callees_of_all, loops_of, loops_of_all, marks_of, marks_of_all}
use Rattle.high_ir.specs.Tree.{Statement, Set, Put, Get, Keep, Mark, Seq, If, Loop, Block, Leave, Call, Return, Statements, End, Then}
use Rattle.high_ir.specs.Weight.{most_starts, weight_of, weight_of_all}
use Rattle.high_ir.specs.Whole.{AllHaveWords, HasWords}
use Rattle.high_renumber.specs.Numbered.{numbered, numbered_all}

-- rows of numbers
pub range_append : (a m n : ℕ) → range_with_len a (m + n) ≡ range_with_len a m ++ range_with_len (a + m) n
range_append a zero n =
    let z : zero + n ≡ n = omega arith in
    let y : a + zero ≡ a = omega arith in
    ap (range_with_len a) z ∙ ap (λ b. range_with_len b n) (sym y)
range_append a (suc m) n =
    let z : suc m + n ≡ suc (m + n) = omega arith in
    let y : a + 1 + m ≡ a + suc m = omega arith in
    ap (range_with_len a) z ∙ ap (λ l. a ∷ l) (range_append (a + 1) m n ∙ ap (λ b. range_with_len (a + 1) m ++ range_with_len b n) y)

-- the same loops with other numbers
abbrev pub with_ids : ℕ → List Bounded → List Bounded
with_ids n [] = []
with_ids n (l ∷ ls) = (record { id = n; bounds = l.bounds }) ∷ with_ids (n + 1) ls

pub with_ids_append : (n : ℕ) (xs ys : List Bounded) → with_ids n (xs ++ ys) ≡ with_ids n xs ++ with_ids (n + length xs) ys
with_ids_append n [] ys = let z : n ≡ n + 0 = omega arith in ap (λ k. with_ids k ys) z
with_ids_append n (x ∷ xs) ys =
    let z : n + 1 + length xs ≡ n + length (x ∷ xs) = omega arith in
    ap (λ l. (record { id = n; bounds = x.bounds }) ∷ l) (with_ids_append (n + 1) xs ys ∙ ap (λ k. with_ids (n + 1) xs ++ with_ids k ys) z)

-- marks and loops have the numbers from the given ones on
mutual
  pub marks-numbered : (m l : ℕ) (s : Statement) → marks_of (numbered m l s) ≡ range_with_len m (length (marks_of s))
  marks-numbered m l (Mark k) = refl
  marks-numbered m l (Seq parts) = marks-numbered_all m l parts
  marks-numbered m l (If test a b) =
      let n = length (marks_of a) in
      ap (λ x. x ++ marks_of (numbered (m + n) (l + length (loops_of a)) b)) (marks-numbered m l a)
      ∙ ap (λ x. range_with_len m n ++ x) (marks-numbered (m + n) (l + length (loops_of a)) b)
      ∙ sym (range_append m n (length (marks_of b)))
      ∙ ap (range_with_len m) (sym (length-append (marks_of a) (marks_of b)))
  marks-numbered m l (Loop id least most body) = marks-numbered m (l + 1) body
  marks-numbered m l (Block body) = marks-numbered m l body
  marks-numbered m l (Set x e) = refl
  marks-numbered m l (Put e) = refl
  marks-numbered m l (Get x) = refl
  marks-numbered m l (Keep array i e) = refl
  marks-numbered m l (Leave j) = refl
  marks-numbered m l (Call f values arrays into) = refl
  marks-numbered m l (Return e) = refl

  pub marks-numbered_all : (m l : ℕ) (ss : Statements) → marks_of_all (numbered_all m l ss) ≡ range_with_len m (length (marks_of_all ss))
  marks-numbered_all m l End = refl
  marks-numbered_all m l (Then s rest) =
      let n = length (marks_of s) in
      ap (λ x. x ++ marks_of_all (numbered_all (m + n) (l + length (loops_of s)) rest)) (marks-numbered m l s)
      ∙ ap (λ x. range_with_len m n ++ x) (marks-numbered_all (m + n) (l + length (loops_of s)) rest)
      ∙ sym (range_append m n (length (marks_of_all rest)))
      ∙ ap (range_with_len m) (sym (length-append (marks_of s) (marks_of_all rest)))

mutual
  pub loops-numbered : (m l : ℕ) (s : Statement) → loops_of (numbered m l s) ≡ with_ids l (loops_of s)
  loops-numbered m l (Mark k) = refl
  loops-numbered m l (Seq parts) = loops-numbered_all m l parts
  loops-numbered m l (If test a b) =
      let n = length (loops_of a) in
      ap (λ x. x ++ loops_of (numbered (m + length (marks_of a)) (l + n) b)) (loops-numbered m l a)
      ∙ ap (λ x. with_ids l (loops_of a) ++ x) (loops-numbered (m + length (marks_of a)) (l + n) b)
      ∙ sym (with_ids_append l (loops_of a) (loops_of b))
  loops-numbered m l (Loop id least most body) = ap (λ x. (record { id = l; bounds = record { least = least; most = most } }) ∷ x) (loops-numbered m (l + 1) body)
  loops-numbered m l (Block body) = loops-numbered m l body
  loops-numbered m l (Set x e) = refl
  loops-numbered m l (Put e) = refl
  loops-numbered m l (Get x) = refl
  loops-numbered m l (Keep array i e) = refl
  loops-numbered m l (Leave j) = refl
  loops-numbered m l (Call f values arrays into) = refl
  loops-numbered m l (Return e) = refl

  pub loops-numbered_all : (m l : ℕ) (ss : Statements) → loops_of_all (numbered_all m l ss) ≡ with_ids l (loops_of_all ss)
  loops-numbered_all m l End = refl
  loops-numbered_all m l (Then s rest) =
      let n = length (loops_of s) in
      ap (λ x. x ++ loops_of_all (numbered_all (m + length (marks_of s)) (l + n) rest)) (loops-numbered m l s)
      ∙ ap (λ x. with_ids l (loops_of s) ++ x) (loops-numbered_all (m + length (marks_of s)) (l + n) rest)
      ∙ sym (with_ids_append l (loops_of s) (loops_of_all rest))

mutual
  pub callees-numbered : (m l : ℕ) (s : Statement) → callees_of (numbered m l s) ≡ callees_of s
  callees-numbered m l (Mark k) = refl
  callees-numbered m l (Seq parts) = callees-numbered_all m l parts
  callees-numbered m l (If test a b) =
      ap (λ n. n ++ callees_of (numbered (m + length (marks_of a)) (l + length (loops_of a)) b)) (callees-numbered m l a) ∙ ap (λ n. callees_of a ++ n) (callees-numbered (m + length (marks_of a)) (l + length (loops_of a)) b)
  callees-numbered m l (Loop id least most body) = callees-numbered m (l + 1) body
  callees-numbered m l (Block body) = callees-numbered m l body
  callees-numbered m l (Set x e) = refl
  callees-numbered m l (Put e) = refl
  callees-numbered m l (Get x) = refl
  callees-numbered m l (Keep array i e) = refl
  callees-numbered m l (Leave j) = refl
  callees-numbered m l (Call f values arrays into) = refl
  callees-numbered m l (Return e) = refl

  pub callees-numbered_all : (m l : ℕ) (ss : Statements) → callees_of_all (numbered_all m l ss) ≡ callees_of_all ss
  callees-numbered_all m l End = refl
  callees-numbered_all m l (Then s rest) =
      ap (λ n. n ++ callees_of_all (numbered_all (m + length (marks_of s)) (l + length (loops_of s)) rest)) (callees-numbered m l s) ∙ ap (λ n. callees_of s ++ n) (callees-numbered_all (m + length (marks_of s)) (l + length (loops_of s)) rest)

mutual
  pub leaves-numbered : (m l : ℕ) (s : Statement) → blocks_needed (numbered m l s) ≡ blocks_needed s
  leaves-numbered m l (Mark k) = refl
  leaves-numbered m l (Seq parts) = leaves-numbered_all m l parts
  leaves-numbered m l (If test a b) =
      ap (λ n. max n (blocks_needed (numbered (m + length (marks_of a)) (l + length (loops_of a)) b))) (leaves-numbered m l a) ∙ ap (λ n. max (blocks_needed a) n) (leaves-numbered (m + length (marks_of a)) (l + length (loops_of a)) b)
  leaves-numbered m l (Loop id least most body) = leaves-numbered m (l + 1) body
  leaves-numbered m l (Block body) = ap (λ n. n - 1) (leaves-numbered m l body)
  leaves-numbered m l (Set x e) = refl
  leaves-numbered m l (Put e) = refl
  leaves-numbered m l (Get x) = refl
  leaves-numbered m l (Keep array i e) = refl
  leaves-numbered m l (Leave j) = refl
  leaves-numbered m l (Call f values arrays into) = refl
  leaves-numbered m l (Return e) = refl

  pub leaves-numbered_all : (m l : ℕ) (ss : Statements) → blocks_needed_all (numbered_all m l ss) ≡ blocks_needed_all ss
  leaves-numbered_all m l End = refl
  leaves-numbered_all m l (Then s rest) =
      ap (λ n. max n (blocks_needed_all (numbered_all (m + length (marks_of s)) (l + length (loops_of s)) rest))) (leaves-numbered m l s) ∙ ap (λ n. max (blocks_needed s) n) (leaves-numbered_all (m + length (marks_of s)) (l + length (loops_of s)) rest)

mutual
  pub nodes-numbered : (m l : ℕ) (s : Statement) → nodes (numbered m l s) ≡ nodes s
  nodes-numbered m l (Mark k) = refl
  nodes-numbered m l (Seq parts) = ap (λ n. n + 1) (nodes-numbered_all m l parts)
  nodes-numbered m l (If test a b) =
      ap (λ n. expr_nodes test + n + nodes (numbered (m + length (marks_of a)) (l + length (loops_of a)) b) + 1) (nodes-numbered m l a) ∙ ap (λ n. expr_nodes test + nodes a + n + 1) (nodes-numbered (m + length (marks_of a)) (l + length (loops_of a)) b)
  nodes-numbered m l (Loop id least most body) = ap (λ n. n + 1) (nodes-numbered m (l + 1) body)
  nodes-numbered m l (Block body) = ap (λ n. n + 1) (nodes-numbered m l body)
  nodes-numbered m l (Set x e) = refl
  nodes-numbered m l (Put e) = refl
  nodes-numbered m l (Get x) = refl
  nodes-numbered m l (Keep array i e) = refl
  nodes-numbered m l (Leave j) = refl
  nodes-numbered m l (Call f values arrays into) = refl
  nodes-numbered m l (Return e) = refl

  pub nodes-numbered_all : (m l : ℕ) (ss : Statements) → nodes_all (numbered_all m l ss) ≡ nodes_all ss
  nodes-numbered_all m l End = refl
  nodes-numbered_all m l (Then s rest) =
      ap (λ n. n + nodes_all (numbered_all (m + length (marks_of s)) (l + length (loops_of s)) rest)) (nodes-numbered m l s) ∙ ap (λ n. nodes s + n) (nodes-numbered_all (m + length (marks_of s)) (l + length (loops_of s)) rest)

mutual
  pub operations-numbered : (m l : ℕ) (s : Statement) → operations (numbered m l s) ≡ operations s
  operations-numbered m l (Mark k) = refl
  operations-numbered m l (Seq parts) = ap (λ n. n + 1) (operations-numbered_all m l parts)
  operations-numbered m l (If test a b) =
      ap (λ n. expr_operations test + n + operations (numbered (m + length (marks_of a)) (l + length (loops_of a)) b) + 1) (operations-numbered m l a) ∙ ap (λ n. expr_operations test + operations a + n + 1) (operations-numbered (m + length (marks_of a)) (l + length (loops_of a)) b)
  operations-numbered m l (Loop id least most body) = ap (λ n. n + 1) (operations-numbered m (l + 1) body)
  operations-numbered m l (Block body) = ap (λ n. n + 1) (operations-numbered m l body)
  operations-numbered m l (Set x e) = refl
  operations-numbered m l (Put e) = refl
  operations-numbered m l (Get x) = refl
  operations-numbered m l (Keep array i e) = refl
  operations-numbered m l (Leave j) = refl
  operations-numbered m l (Call f values arrays into) = refl
  operations-numbered m l (Return e) = refl

  pub operations-numbered_all : (m l : ℕ) (ss : Statements) → operations_all (numbered_all m l ss) ≡ operations_all ss
  operations-numbered_all m l End = refl
  operations-numbered_all m l (Then s rest) =
      ap (λ n. n + operations_all (numbered_all (m + length (marks_of s)) (l + length (loops_of s)) rest)) (operations-numbered m l s) ∙ ap (λ n. operations s + n) (operations-numbered_all (m + length (marks_of s)) (l + length (loops_of s)) rest)

mutual
  pub depth-numbered : (m l : ℕ) (s : Statement) → depth (numbered m l s) ≡ depth s
  depth-numbered m l (Mark k) = refl
  depth-numbered m l (Seq parts) = ap (λ n. n + 1) (depth-numbered_all m l parts)
  depth-numbered m l (If test a b) =
      ap (λ n. max (expr_depth test) (max n (depth (numbered (m + length (marks_of a)) (l + length (loops_of a)) b))) + 1) (depth-numbered m l a) ∙ ap (λ n. max (expr_depth test) (max (depth a) n) + 1) (depth-numbered (m + length (marks_of a)) (l + length (loops_of a)) b)
  depth-numbered m l (Loop id least most body) = ap (λ n. n + 1) (depth-numbered m (l + 1) body)
  depth-numbered m l (Block body) = ap (λ n. n + 1) (depth-numbered m l body)
  depth-numbered m l (Set x e) = refl
  depth-numbered m l (Put e) = refl
  depth-numbered m l (Get x) = refl
  depth-numbered m l (Keep array i e) = refl
  depth-numbered m l (Leave j) = refl
  depth-numbered m l (Call f values arrays into) = refl
  depth-numbered m l (Return e) = refl

  pub depth-numbered_all : (m l : ℕ) (ss : Statements) → depth_all (numbered_all m l ss) ≡ depth_all ss
  depth-numbered_all m l End = refl
  depth-numbered_all m l (Then s rest) =
      ap (λ n. max n (depth_all (numbered_all (m + length (marks_of s)) (l + length (loops_of s)) rest))) (depth-numbered m l s) ∙ ap (λ n. max (depth s) n) (depth-numbered_all (m + length (marks_of s)) (l + length (loops_of s)) rest)

mutual
  pub weight-numbered : (c : ℕ → ℕ) (m l : ℕ) (s : Statement) → weight_of c (numbered m l s) ≡ weight_of c s
  weight-numbered c m l (Mark k) = refl
  weight-numbered c m l (Seq parts) = ap (λ n. 1 + n) (weight-numbered_all c m l parts)
  weight-numbered c m l (If test a b) =
      ap (λ n. 1 + expr_nodes test + n + weight_of c (numbered (m + length (marks_of a)) (l + length (loops_of a)) b)) (weight-numbered c m l a) ∙ ap (λ n. 1 + expr_nodes test + weight_of c a + n) (weight-numbered c (m + length (marks_of a)) (l + length (loops_of a)) b)
  weight-numbered c m l (Loop id least most body) = ap (λ n. 4 + most_starts most * (3 + n)) (weight-numbered c m (l + 1) body)
  weight-numbered c m l (Block body) = ap (λ n. 1 + n) (weight-numbered c m l body)
  weight-numbered c m l (Set x e) = refl
  weight-numbered c m l (Put e) = refl
  weight-numbered c m l (Get x) = refl
  weight-numbered c m l (Keep array i e) = refl
  weight-numbered c m l (Leave j) = refl
  weight-numbered c m l (Call f values arrays into) = refl
  weight-numbered c m l (Return e) = refl

  pub weight-numbered_all : (c : ℕ → ℕ) (m l : ℕ) (ss : Statements) → weight_of_all c (numbered_all m l ss) ≡ weight_of_all c ss
  weight-numbered_all c m l End = refl
  weight-numbered_all c m l (Then s rest) =
      ap (λ n. n + weight_of_all c (numbered_all (m + length (marks_of s)) (l + length (loops_of s)) rest)) (weight-numbered c m l s) ∙ ap (λ n. weight_of c s + n) (weight-numbered_all c (m + length (marks_of s)) (l + length (loops_of s)) rest)

mutual
  pub words-numbered : (m l : ℕ) (s : Statement) → HasWords s → HasWords (numbered m l s)
  words-numbered m l (Mark k) h = h
  words-numbered m l (Seq parts) h = words-numbered_all m l parts h
  words-numbered m l (If test a b) h = (h.0, (words-numbered m l a h.1.0, words-numbered (m + length (marks_of a)) (l + length (loops_of a)) b h.1.1))
  words-numbered m l (Loop id least most body) h = words-numbered m (l + 1) body h
  words-numbered m l (Block body) h = words-numbered m l body h
  words-numbered m l (Set x e) h = h
  words-numbered m l (Put e) h = h
  words-numbered m l (Get x) h = h
  words-numbered m l (Keep array i e) h = h
  words-numbered m l (Leave j) h = h
  words-numbered m l (Call f values arrays into) h = h
  words-numbered m l (Return e) h = h

  pub words-numbered_all : (m l : ℕ) (ss : Statements) → AllHaveWords ss → AllHaveWords (numbered_all m l ss)
  words-numbered_all m l End h = h
  words-numbered_all m l (Then s rest) h = (words-numbered m l s h.0, words-numbered_all (m + length (marks_of s)) (l + length (loops_of s)) rest h.1)
