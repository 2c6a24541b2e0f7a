-- A copy of a statement is as large as the statement, and has its loops, its calls and its leaves.
use Rattle.std.proofs.Common.{◌≡◌, ℕ, zero, suc, ◌+◌, ◌-◌, ◌*◌, ◌≤◌, [], ◌∷◌, ◌++◌, max, refl, sym, ap, ◌∙◌, subst, arith, All}
use Rattle.std.proofs.lemmas.List.Elements.{All-append, All-same}
use Rattle.high_ir.specs.Size.{depth, depth_all, expr_depth, expr_nodes, expr_operations, nodes, nodes_all, operations, operations_all}
use Rattle.high_ir.specs.Standing.{blocks_needed, blocks_needed_all, callees_of, callees_of_all, loops_of, loops_of_all}
use Rattle.high_ir.specs.Tree.{Statement, Set, Put, Get, Keep, Mark, Seq, If, Loop, Block, Leave, Call, Return, Statements, End, Then}
use Rattle.high_ir.specs.Weight.{most_starts, weight_of, weight_of_all}
use Rattle.high_unrolled.specs.Starts.{mark_count, remarked, remarked_all, starts}

pub record Alike (s t : Statement) : Type 0 where
  pub work : operations t ≡ operations s
  pub size : nodes t ≡ nodes s
  pub deep : depth t ≡ depth s
  pub turning : loops_of t ≡ loops_of s
  pub calling : callees_of t ≡ callees_of s
  pub leaving : blocks_needed t ≡ blocks_needed s
  pub weighing : (callee : ℕ → ℕ) → weight_of callee t ≡ weight_of callee s

pub record AllAlike (a b : Statements) : Type 0 where
  pub work : operations_all b ≡ operations_all a
  pub size : nodes_all b ≡ nodes_all a
  pub deep : depth_all b ≡ depth_all a
  pub turning : loops_of_all b ≡ loops_of_all a
  pub calling : callees_of_all b ≡ callees_of_all a
  pub leaving : blocks_needed_all b ≡ blocks_needed_all a
  pub weighing : (callee : ℕ → ℕ) → weight_of_all callee b ≡ weight_of_all callee a

two : {A B C : Type 0} (f : A → B → C) (a b : A) (c d : B) → a ≡ b → c ≡ d → f a c ≡ f b d
two f a b c d h k = ap (λ x. f x c) h ∙ ap (f b) k

mutual
  pub alike-remarked : (m : ℕ) (s : Statement) → Alike s (remarked m s)
  alike-remarked m (Seq parts) =
      let h = all_alike-remarked m parts in
      record {
        work = ap (λ n. n + 1) h.work;
        size = ap (λ n. n + 1) h.size;
        deep = ap (λ n. n + 1) h.deep;
        turning = h.turning;
        calling = h.calling;
        leaving = h.leaving;
        weighing = λ callee. ap (λ n. 1 + n) (h.weighing callee);
      }
  alike-remarked m (If test first other) =
      let h = alike-remarked m first in
      let k = alike-remarked (m + mark_count first) other in
      record {
        work = two (λ a b. expr_operations test + a + b + 1) (operations (remarked m first)) (operations first) (operations (remarked (m + mark_count first) other)) (operations other) h.work k.work;
        size = two (λ a b. expr_nodes test + a + b + 1) (nodes (remarked m first)) (nodes first) (nodes (remarked (m + mark_count first) other)) (nodes other) h.size k.size;
        deep = two (λ a b. max (expr_depth test) (max a b) + 1) (depth (remarked m first)) (depth first) (depth (remarked (m + mark_count first) other)) (depth other) h.deep k.deep;
        turning = two (λ a b. a ++ b) (loops_of (remarked m first)) (loops_of first) (loops_of (remarked (m + mark_count first) other)) (loops_of other) h.turning k.turning;
        calling = two (λ a b. a ++ b) (callees_of (remarked m first)) (callees_of first) (callees_of (remarked (m + mark_count first) other)) (callees_of other) h.calling k.calling;
        leaving = two max (blocks_needed (remarked m first)) (blocks_needed first) (blocks_needed (remarked (m + mark_count first) other)) (blocks_needed other) h.leaving k.leaving;
        weighing = λ callee. two (λ a b. 1 + expr_nodes test + a + b) (weight_of callee (remarked m first)) (weight_of callee first) (weight_of callee (remarked (m + mark_count first) other)) (weight_of callee other) (h.weighing callee) (k.weighing callee);
      }
  alike-remarked m (Loop id least most body) =
      let h = alike-remarked m body in
      record {
        work = ap (λ n. n + 1) h.work;
        size = ap (λ n. n + 1) h.size;
        deep = ap (λ n. n + 1) h.deep;
        turning = ap (λ l. (record { id = id; bounds = record { least = least; most = most } }) ∷ l) h.turning;
        calling = h.calling;
        leaving = h.leaving;
        weighing = λ callee. ap (λ n. 4 + most_starts most * (3 + n)) (h.weighing callee);
      }
  alike-remarked m (Block body) =
      let h = alike-remarked m body in
      record {
        work = ap (λ n. n + 1) h.work;
        size = ap (λ n. n + 1) h.size;
        deep = ap (λ n. n + 1) h.deep;
        turning = h.turning;
        calling = h.calling;
        leaving = ap (λ n. n - 1) h.leaving;
        weighing = λ callee. ap (λ n. 1 + n) (h.weighing callee);
      }
  alike-remarked m (Set x e) = record { work = refl; size = refl; deep = refl; turning = refl; calling = refl; leaving = refl; weighing = λ callee. refl }
  alike-remarked m (Put e) = record { work = refl; size = refl; deep = refl; turning = refl; calling = refl; leaving = refl; weighing = λ callee. refl }
  alike-remarked m (Get x) = record { work = refl; size = refl; deep = refl; turning = refl; calling = refl; leaving = refl; weighing = λ callee. refl }
  alike-remarked m (Keep array i e) = record { work = refl; size = refl; deep = refl; turning = refl; calling = refl; leaving = refl; weighing = λ callee. refl }
  alike-remarked m (Mark k) = record { work = refl; size = refl; deep = refl; turning = refl; calling = refl; leaving = refl; weighing = λ callee. refl }
  alike-remarked m (Leave d) = record { work = refl; size = refl; deep = refl; turning = refl; calling = refl; leaving = refl; weighing = λ callee. refl }
  alike-remarked m (Call f values arrays into) = record { work = refl; size = refl; deep = refl; turning = refl; calling = refl; leaving = refl; weighing = λ callee. refl }
  alike-remarked m (Return e) = record { work = refl; size = refl; deep = refl; turning = refl; calling = refl; leaving = refl; weighing = λ callee. refl }

  all_alike-remarked : (m : ℕ) (parts : Statements) → AllAlike parts (remarked_all m parts)
  all_alike-remarked m End = record { work = refl; size = refl; deep = refl; turning = refl; calling = refl; leaving = refl; weighing = λ callee. refl }
  all_alike-remarked m (Then first rest) =
      let h = alike-remarked m first in
      let k = all_alike-remarked (m + mark_count first) rest in
      record {
        work = two (λ a b. a + b) (operations (remarked m first)) (operations first) (operations_all (remarked_all (m + mark_count first) rest)) (operations_all rest) h.work k.work;
        size = two (λ a b. a + b) (nodes (remarked m first)) (nodes first) (nodes_all (remarked_all (m + mark_count first) rest)) (nodes_all rest) h.size k.size;
        deep = two max (depth (remarked m first)) (depth first) (depth_all (remarked_all (m + mark_count first) rest)) (depth_all rest) h.deep k.deep;
        turning = two (λ a b. a ++ b) (loops_of (remarked m first)) (loops_of first) (loops_of_all (remarked_all (m + mark_count first) rest)) (loops_of_all rest) h.turning k.turning;
        calling = two (λ a b. a ++ b) (callees_of (remarked m first)) (callees_of first) (callees_of_all (remarked_all (m + mark_count first) rest)) (callees_of_all rest) h.calling k.calling;
        leaving = two max (blocks_needed (remarked m first)) (blocks_needed first) (blocks_needed_all (remarked_all (m + mark_count first) rest)) (blocks_needed_all rest) h.leaving k.leaving;
        weighing = λ callee. two (λ a b. a + b) (weight_of callee (remarked m first)) (weight_of callee first) (weight_of_all callee (remarked_all (m + mark_count first) rest)) (weight_of_all callee rest) (h.weighing callee) (k.weighing callee);
      }

-- starts of a body, and then other statements
pub record Started (n : ℕ) (body : Statement) (after whole : Statements) : Type 1 where
  pub work : operations_all whole ≡ n * operations body + operations_all after
  pub size : nodes_all whole ≡ n * nodes body + nodes_all after
  pub deep : depth_all whole ≤ max (depth body) (depth_all after)
  pub turning : loops_of body ≡ [] → loops_of_all whole ≡ loops_of_all after
  pub calling : (P : ℕ → Type 0) → All P (callees_of body) → All P (callees_of_all after) → All P (callees_of_all whole)
  pub leaving : blocks_needed_all whole ≤ max (blocks_needed body) (blocks_needed_all after)
  pub weighing : (callee : ℕ → ℕ) → weight_of_all callee whole ≡ n * weight_of callee body + weight_of_all callee after

one_more : (n a b w : ℕ) → w ≡ n * a + b → a + w ≡ suc n * a + b
one_more n a b w h = let e : suc n * a ≡ a + n * a = omega arith in omega (arith, h, e)

deeper : (a b w : ℕ) → w ≤ max a b → max a w ≤ max a b
deeper a b w h = omega (arith, h)

pub starts_are : (n m : ℕ) (body : Statement) (after : Statements) → Started n body after (starts n m body after)
starts_are zero m body after = record {
  work = none (operations body) (operations_all after);
  size = none (nodes body) (nodes_all after);
  deep = omega arith;
  turning = λ e. refl;
  calling = λ P one rest. rest;
  leaving = omega arith;
  weighing = λ callee. none (weight_of callee body) (weight_of_all callee after);
}
  where
    none : (a b : ℕ) → b ≡ zero * a + b
    none a b = omega arith
starts_are (suc n) m body after =
    let h = alike-remarked m body in
    let k = starts_are n (m + mark_count body) body after in
    let rest : Statements = starts n (m + mark_count body) body after in
    record {
      work = ap (λ a. a + operations_all rest) h.work ∙ one_more n (operations body) (operations_all after) (operations_all rest) k.work;
      size = ap (λ a. a + nodes_all rest) h.size ∙ one_more n (nodes body) (nodes_all after) (nodes_all rest) k.size;
      deep = subst (λ a. max a (depth_all rest) ≤ max (depth body) (depth_all after)) (sym h.deep) (deeper (depth body) (depth_all after) (depth_all rest) k.deep);
      turning = λ e. ap (λ l. l ++ loops_of_all rest) (h.turning ∙ e) ∙ k.turning e;
      calling = λ P one behind. All-append P (callees_of (remarked m body)) (callees_of_all rest) (All-same P (callees_of (remarked m body)) (callees_of body) h.calling one) (k.calling P one behind);
      leaving = subst (λ a. max a (blocks_needed_all rest) ≤ max (blocks_needed body) (blocks_needed_all after)) (sym h.leaving) (deeper (blocks_needed body) (blocks_needed_all after) (blocks_needed_all rest) k.leaving);
      weighing = λ callee. ap (λ a. a + weight_of_all callee rest) (h.weighing callee) ∙ one_more n (weight_of callee body) (weight_of_all callee after) (weight_of_all callee rest) (k.weighing callee);
    }
