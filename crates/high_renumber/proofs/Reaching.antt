-- A renumbered program weighs as much, and reaches the copies of a mark together as often as the mark was reached.
use Rattle.std.proofs.Common.{◌≡◌, ℕ, zero, suc, ◌+◌, ◌*◌, List, [], ◌∷◌, length, Some, refl, ap, ◌∙◌, subst, arith}
use Rattle.std.specs.Prelude.{if◌then◌else◌, slice_get, sum_by, ◌==◌}
use Rattle.std.proofs.lemmas.Option.{slice_get_within}
use Rattle.std.proofs.lemmas.List.Concat.{flat_map-cons}
use Rattle.std.proofs.lemmas.List.Sums.{sum_by-cons}
use Rattle.high_ir.specs.Runs.{rank_or}
use Rattle.high_ir.specs.Standing.{loops_of, marks_in, marks_of, marks_of_all}
use Rattle.high_ir.specs.Tree.{Statement, Set, Put, Get, Keep, Mark, Seq, If, Loop, Block, Leave, Call, Return, Statements, End, Then, Function, Program}
use Rattle.high_ir.specs.Weight.{body_reach, body_weight, most_starts, reach, reach_of, reach_of_all, reaches, weight, weight_of, weight_of_all, weights}
use Rattle.high_renumber.specs.Numbered.{functions_numbered, mark_origins, numbered, numbered_all, places, renumbered}
use Rattle.high_renumber.proofs.Counting.{one_place, sum_by-plus, sum_by-zero}
use Rattle.high_renumber.proofs.NumberedLemmas.{weight-numbered}
use Rattle.high_renumber.proofs.Origins.{by_origin, labels_of, opening_origin, rank_or-numbered}
use Rattle.high_renumber.proofs.Running.{Labelled, labelled_back, labelled_front}

-- where callees weigh as much
module _ (c d : ℕ → ℕ) (same : (g : ℕ) → c g ≡ d g) where
  mutual
    weight_same : (s : Statement) → weight_of c s ≡ weight_of d s
    weight_same (Set x e) = refl
    weight_same (Put e) = refl
    weight_same (Get x) = refl
    weight_same (Keep array i e) = refl
    weight_same (Mark m) = refl
    weight_same (Seq parts) = ap (λ n. 1 + n) (weight_same_all parts)
    weight_same (If test a b) = omega (arith, weight_same a, weight_same b)
    weight_same (Loop id least most body) = ap (λ n. 4 + most_starts most * (3 + n)) (weight_same body)
    weight_same (Block body) = ap (λ n. 1 + n) (weight_same body)
    weight_same (Leave j) = refl
    weight_same (Call f values arrays into) = omega (arith, same f)
    weight_same (Return e) = refl

    weight_same_all : (ss : Statements) → weight_of_all c ss ≡ weight_of_all d ss
    weight_same_all End = refl
    weight_same_all (Then s rest) = omega (arith, weight_same s, weight_same_all rest)

body_weight-numbered : (c d : ℕ → ℕ) → ((g : ℕ) → c g ≡ d g) → (m n : ℕ) (fs : List Function) (f : ℕ) → body_weight (slice_get (functions_numbered m n fs) f) c ≡ body_weight (slice_get fs f) d
body_weight-numbered c d same m n [] f = refl
body_weight-numbered c d same m n (h ∷ fs) zero = omega (arith, weight-numbered c m n h.body, weight_same c d same h.body)
body_weight-numbered c d same m n (h ∷ fs) (suc f) = body_weight-numbered c d same (m + length (marks_of h.body)) (n + length (loops_of h.body)) fs f

weights-numbered : (m n : ℕ) (fs : List Function) (depth f : ℕ) → weights (functions_numbered m n fs) depth f ≡ weights fs depth f
weights-numbered m n fs zero f = refl
weights-numbered m n fs (suc depth) f = body_weight-numbered (weights (functions_numbered m n fs) depth) (weights fs depth) (weights-numbered m n fs depth) m n fs f

pub weight-renumbered : (p : Program) → weight (renumbered p) ≡ weight p
weight-renumbered p =
    ap (λ r. weights (functions_numbered (length p.functions) 0 p.functions) (suc r) p.main) (rank_or-numbered (length p.functions) 0 p.functions p.main 0)
    ∙ weights-numbered (length p.functions) 0 p.functions (suc (rank_or p.functions p.main 0)) p.main

sum_by-times : (k : ℕ) (f : ℕ → ℕ) (xs : List ℕ) → sum_by (λ x. k * f x) xs ≡ k * sum_by f xs
sum_by-times k f [] = omega arith
sum_by-times k f (x ∷ xs) =
    let more : k * sum_by f (x ∷ xs) ≡ k * (f x + sum_by f xs) = ap (λ n. k * n) (sum_by-cons f x xs) in
    omega (arith, sum_by-cons (λ y. k * f y) x xs, more, sum_by-times k f xs)

-- the copies of one mark, among origins
module _ (os : List ℕ) (x : ℕ) where
  abbrev copies : List ℕ
  copies = places 0 os x

  abbrev total : (ℕ → ℕ) → ℕ
  total f = sum_by f copies

  none : total (λ j. 0) ≡ 0
  none = sum_by-zero (λ j. 0) copies (λ j. refl)

  -- a mark with a number of its own
  own_mark : (m k : ℕ) → slice_get os m ≡ Some k → total (λ j. if m == j then 1 else 0) ≡ (if k == x then 1 else 0)
  own_mark m k at = let z : m ≡ 0 + m = omega arith in one_place 0 m m os x k z at

  module _ (c : ℕ → ℕ → ℕ) (d : ℕ → ℕ) (same : (g : ℕ) → total (λ j. c j g) ≡ d g) where
    mutual
      reach-numbered : (m n : ℕ) (s : Statement) → Labelled Some (by_origin os) m (marks_of s) → total (λ j. reach_of (c j) j (numbered m n s)) ≡ reach_of d x s
      reach-numbered m n (Mark k) h = own_mark m k h.0
      reach-numbered m n (Seq parts) h = reach-numbered_all m n parts h
      reach-numbered m n (If test a b) h =
          let second = numbered (m + length (marks_of a)) (n + length (loops_of a)) b in
          omega (
            arith,
            sum_by-plus (λ j. reach_of (c j) j (numbered m n a)) (λ j. reach_of (c j) j second) (λ j. reach_of (c j) j (numbered m n a) + reach_of (c j) j second) copies (λ j. refl),
            reach-numbered m n a (labelled_front Some (by_origin os) m (marks_of a) (marks_of b) h),
            reach-numbered (m + length (marks_of a)) (n + length (loops_of a)) b (labelled_back Some (by_origin os) m (marks_of a) (marks_of b) h),
          )
      reach-numbered m n (Loop id least most body) h =
          sum_by-times (most_starts most) (λ j. reach_of (c j) j (numbered m (n + 1) body)) copies ∙ ap (λ k. most_starts most * k) (reach-numbered m (n + 1) body h)
      reach-numbered m n (Block body) h = reach-numbered m n body h
      reach-numbered m n (Call f values arrays into) h = same f
      reach-numbered m n (Set y e) h = none
      reach-numbered m n (Put e) h = none
      reach-numbered m n (Get y) h = none
      reach-numbered m n (Keep array i e) h = none
      reach-numbered m n (Leave j) h = none
      reach-numbered m n (Return e) h = none

      reach-numbered_all : (m n : ℕ) (ss : Statements) → Labelled Some (by_origin os) m (marks_of_all ss) → total (λ j. reach_of_all (c j) j (numbered_all m n ss)) ≡ reach_of_all d x ss
      reach-numbered_all m n End h = none
      reach-numbered_all m n (Then s rest) h =
          let second = numbered_all (m + length (marks_of s)) (n + length (loops_of s)) rest in
          omega (
            arith,
            sum_by-plus (λ j. reach_of (c j) j (numbered m n s)) (λ j. reach_of_all (c j) j second) (λ j. reach_of (c j) j (numbered m n s) + reach_of_all (c j) j second) copies (λ j. refl),
            reach-numbered m n s (labelled_front Some (by_origin os) m (marks_of s) (marks_of_all rest) h),
            reach-numbered_all (m + length (marks_of s)) (n + length (loops_of s)) rest (labelled_back Some (by_origin os) m (marks_of s) (marks_of_all rest) h),
          )

    body_reach-numbered : (m n : ℕ) (fs : List Function) → Labelled Some (by_origin os) m (marks_in fs) → (g f : ℕ) → ((h : Function) → slice_get fs g ≡ Some h → slice_get os f ≡ Some f) →
        total (λ j. body_reach j f (slice_get (functions_numbered m n fs) g) (c j)) ≡ body_reach x f (slice_get fs g) d
    body_reach-numbered m n [] h g f own = none
    body_reach-numbered m n (k ∷ fs) h zero f own =
        let marks = subst (Labelled Some (by_origin os) m) (flat_map-cons (λ q. marks_of q.body) k fs) h in
        omega (
          arith,
          sum_by-plus (λ j. if f == j then 1 else 0) (λ j. reach_of (c j) j (numbered m n k.body)) (λ j. (if f == j then 1 else 0) + reach_of (c j) j (numbered m n k.body)) copies (λ j. refl),
          own_mark f f (own k refl),
          reach-numbered m n k.body (labelled_front Some (by_origin os) m (marks_of k.body) (marks_in fs) marks),
        )
    body_reach-numbered m n (k ∷ fs) h (suc g) f own =
        let marks = subst (Labelled Some (by_origin os) m) (flat_map-cons (λ q. marks_of q.body) k fs) h in
        body_reach-numbered (m + length (marks_of k.body)) (n + length (loops_of k.body)) fs (labelled_back Some (by_origin os) m (marks_of k.body) (marks_in fs) marks) g f own

  reaches-numbered : (fs : List Function) (m n : ℕ) → Labelled Some (by_origin os) m (marks_in fs) → ((f : ℕ) (h : Function) → slice_get fs f ≡ Some h → slice_get os f ≡ Some f) → (depth f : ℕ) → total (λ j. reaches (functions_numbered m n fs) j depth f) ≡ reaches fs x depth f
  reaches-numbered fs m n h own zero f = none
  reaches-numbered fs m n h own (suc depth) f =
      body_reach-numbered (λ j g. reaches (functions_numbered m n fs) j depth g) (reaches fs x depth) (reaches-numbered fs m n h own depth) m n fs h f f (own f)

pub reach-renumbered : (p : Program) (x : ℕ) → sum_by (reach (renumbered p)) (places 0 (mark_origins p.functions) x) ≡ reach p x
reach-renumbered p x =
    let fs = p.functions in
    let made = functions_numbered (length fs) 0 fs in
    ap (λ r. sum_by (λ j. reaches made j (suc r) p.main) (places 0 (mark_origins fs) x)) (rank_or-numbered (length fs) 0 fs p.main 0)
    ∙ reaches-numbered (mark_origins fs) x fs (length fs) 0 (labels_of fs) (λ f h found. opening_origin fs f (slice_get_within fs f h found)) (suc (rank_or fs p.main 0)) p.main
