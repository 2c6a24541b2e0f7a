-- A folded program does no more than it did.
use Rattle.std.proofs.Common.{ℕ, zero, suc, ◌+◌, ◌*◌, ◌≤◌, List, [], ◌∷◌, length, sym, subst, arith, le_refl}
use Rattle.std.specs.Prelude.{◌==◌, if◌then◌else◌, slice_get}
use Rattle.std.proofs.Math.Nat.{mul-le-mul_left}
use Rattle.std.proofs.lemmas.List.{length-map}
use Rattle.high_ir.specs.declared.object.Kind.TheVariants.{Unsigned8}
use Rattle.high_ir.specs.Runs.{rank_or}
use Rattle.high_ir.specs.Size.{expr_nodes}
use Rattle.high_ir.specs.Tree.{Statement, Set, Put, Get, Keep, Mark, Seq, If, Loop, Block, Leave, Call, Return, Statements, End, Then, Function, Program}
use Rattle.high_ir.specs.Weight.{body_reach, body_weight, most_starts, reach, reach_of, reach_of_all, reaches, weight, weight_of, weight_of_all, weights}
use Rattle.high_folded.specs.Folded.{constant_of, folded, folded_all, folded_expr, folded_functions, folded_program, kept_loops}
use Rattle.high_folded.proofs.Cases.{decided_cases}
use Rattle.high_folded.proofs.Measures.{all_nodes-exprs, nodes-expr, nodes-stored}
use Rattle.high_folded.proofs.Running.{rank_or-folded}

turns_less : (k a b : ℕ) → a ≤ b → 4 + k * (3 + a) ≤ 4 + k * (3 + b)
turns_less k a b le =
    let m : k * (3 + a) ≤ k * (3 + b) = mul-le-mul_left k (omega (arith, le)) in
    omega (arith, m)

-- where calls weigh no more
module _ (now before : ℕ → ℕ) (less : (f : ℕ) → now f ≤ before f) where
  mutual
    weight-folded : (s : Statement) (n : ℕ) → weight_of now (folded n s) ≤ weight_of before s
    weight-folded (Set x e) n = let h = nodes-expr e in omega (arith, h)
    weight-folded (Put e) n = let h = nodes-stored Unsigned8 e in omega (arith, h)
    weight-folded (Get x) n = omega arith
    weight-folded (Keep array i e) n = let h = nodes-expr i in let k = nodes-stored array.kind e in omega (arith, h, k)
    weight-folded (Mark m) n = omega arith
    weight-folded (Seq parts) n = let h = weight_all-folded parts n in omega (arith, h)
    weight-folded (If test first other) n =
        let m = n + length (kept_loops first) in
        let t = nodes-expr test in
        let f = weight-folded first n in
        let o = weight-folded other n in
        let p = weight-folded other m in
        decided_cases (λ s. weight_of now s ≤ 1 + expr_nodes test + weight_of before first + weight_of before other) (constant_of (folded_expr test)) (folded n first) (folded n other) (If (folded_expr test) (folded n first) (folded m other))
        (omega (arith, f)) (omega (arith, o)) (λ none. omega (arith, t, f, p))
    weight-folded (Loop id least most body) n = turns_less (most_starts most) (weight_of now (folded (n + 1) body)) (weight_of before body) (weight-folded body (n + 1))
    weight-folded (Block body) n = let h = weight-folded body n in omega (arith, h)
    weight-folded (Leave d) n = omega arith
    weight-folded (Call f values arrays into) n =
        let h = all_nodes-exprs values in
        let k = length-map values folded_expr in
        let l = less f in
        omega (arith, h, k, l)
    weight-folded (Return e) n = let h = nodes-expr e in omega (arith, h)

    weight_all-folded : (parts : Statements) (n : ℕ) → weight_of_all now (folded_all n parts) ≤ weight_of_all before parts
    weight_all-folded End n = omega arith
    weight_all-folded (Then first rest) n =
        let h = weight-folded first n in
        let k = weight_all-folded rest (n + length (kept_loops first)) in
        omega (arith, h, k)

  body_weight-folded : (fs : List Function) (n f : ℕ) → body_weight (slice_get (folded_functions n fs) f) now ≤ body_weight (slice_get fs f) before
  body_weight-folded [] n f = omega arith
  body_weight-folded (h ∷ fs) n zero = let w = weight-folded h.body n in omega (arith, w)
  body_weight-folded (h ∷ fs) n (suc f) = body_weight-folded fs (n + length (kept_loops h.body)) f

  module _ (mark : ℕ) where
    mutual
      reach-folded : (s : Statement) (n : ℕ) → reach_of now mark (folded n s) ≤ reach_of before mark s
      reach-folded (Set x e) n = omega arith
      reach-folded (Put e) n = omega arith
      reach-folded (Get x) n = omega arith
      reach-folded (Keep array i e) n = omega arith
      reach-folded (Mark m) n = le_refl (if m == mark then 1 else 0)
      reach-folded (Seq parts) n = reach_all-folded parts n
      reach-folded (If test first other) n =
          let m = n + length (kept_loops first) in
          let f = reach-folded first n in
          let o = reach-folded other n in
          let p = reach-folded other m in
          decided_cases (λ s. reach_of now mark s ≤ reach_of before mark first + reach_of before mark other) (constant_of (folded_expr test)) (folded n first) (folded n other) (If (folded_expr test) (folded n first) (folded m other))
          (omega (arith, f)) (omega (arith, o)) (λ none. omega (arith, f, p))
      reach-folded (Loop id least most body) n = mul-le-mul_left (most_starts most) (reach-folded body (n + 1))
      reach-folded (Block body) n = reach-folded body n
      reach-folded (Leave d) n = omega arith
      reach-folded (Call f values arrays into) n = less f
      reach-folded (Return e) n = omega arith

      reach_all-folded : (parts : Statements) (n : ℕ) → reach_of_all now mark (folded_all n parts) ≤ reach_of_all before mark parts
      reach_all-folded End n = omega arith
      reach_all-folded (Then first rest) n =
          let h = reach-folded first n in
          let k = reach_all-folded rest (n + length (kept_loops first)) in
          omega (arith, h, k)

    body_reach-folded : (fs : List Function) (n f own : ℕ) → body_reach mark own (slice_get (folded_functions n fs) f) now ≤ body_reach mark own (slice_get fs f) before
    body_reach-folded [] n f own = omega arith
    body_reach-folded (h ∷ fs) n zero own = one_more (if own == mark then 1 else 0) (reach_of now mark (folded n h.body)) (reach_of before mark h.body) (reach-folded h.body n)
      where
        one_more : (k a b : ℕ) → a ≤ b → k + a ≤ k + b
        one_more k a b le = omega (arith, le)
    body_reach-folded (h ∷ fs) n (suc f) own = body_reach-folded fs (n + length (kept_loops h.body)) f own

weights-folded : (fs : List Function) (depth f : ℕ) → weights (folded_functions 0 fs) depth f ≤ weights fs depth f
weights-folded fs zero f = omega arith
weights-folded fs (suc depth) f = body_weight-folded (weights (folded_functions 0 fs) depth) (weights fs depth) (λ g. weights-folded fs depth g) fs 0 f

reaches-folded : (fs : List Function) (mark depth f : ℕ) → reaches (folded_functions 0 fs) mark depth f ≤ reaches fs mark depth f
reaches-folded fs mark zero f = omega arith
reaches-folded fs mark (suc depth) f = body_reach-folded (reaches (folded_functions 0 fs) mark depth) (reaches fs mark depth) (λ g. reaches-folded fs mark depth g) mark fs 0 f f

pub weight_less : (p : Program) → weight (folded_program p) ≤ weight p
weight_less p =
    subst (λ r. weights (folded_functions 0 p.functions) (suc r) p.main ≤ weight p) (sym (rank_or-folded p.functions p.main 0)) (weights-folded p.functions (suc (rank_or p.functions p.main 0)) p.main)

pub reach_less : (p : Program) (mark : ℕ) → reach (folded_program p) mark ≤ reach p mark
reach_less p mark =
    subst (λ r. reaches (folded_functions 0 p.functions) mark (suc r) p.main ≤ reach p mark) (sym (rank_or-folded p.functions p.main 0)) (reaches-folded p.functions mark (suc (rank_or p.functions p.main 0)) p.main)
