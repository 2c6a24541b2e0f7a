-- The loops of a function are those of its source, and its marks are no more.
use Rattle.std.proofs.Common.{◌≡◌, ℕ, suc, ◌+◌, ◌*◌, ◌≤◌, List, [], ◌∷◌, ◌++◌, length, map, Option, Some, None, refl, ap, ◌∙◌, arith, length-append}
use Rattle.std.specs.Prelude.{sum_by}
use Rattle.std.proofs.lemmas.List.{append-nil, map-append}
use Rattle.std.proofs.lemmas.List.Sums.{sum_by-cons}
use Rattle.high_ir.specs.Standing.{Bounded, loops_of, loops_of_all, marks_of, marks_of_all}
use Rattle.high_ir.specs.Tree as high
use Rattle.low_ir.specs.Code.{Block, Constant, Loop, Note, Return}
use Rattle.low_ir.specs.Formed.{only_jump}
use Rattle.lower_definition.specs.Values.{Scope, Coded, first_free}
use Rattle.lower_definition.specs.Statements.{before, before_by, block, call_code, get_code, keep_code, kept_value, landed, marked_by, one_block, piece, pieces, put_code, set_code}
use Rattle.lower_definition.specs.Programs.{body_piece, lowered_function, turned, turned_loop}
use Rattle.lower_nesting.proofs.Free.{landed_loops}
use Rattle.lower_budget.specs.Costs.{bounded, marks_at}
use Rattle.lower_budget.proofs.Pieces.{Measure, cost, costs, pieces_cost}
use Rattle.lower_budget.proofs.Rooms.{once, repeats_once}
use Rattle.lower_budget.proofs.Sums.{repeats, weighted}

before_none : (n : ℕ) (k : Block ℕ Note) (c : Coded) → map bounded (before n k c).loops ≡ []
before_none n k c = by_mark k.mark
  where
    by_mark : (m : Option ℕ) → map bounded (before_by m c.code n k c.free).loops ≡ []
    by_mark None = refl
    by_mark (Some m) = refl

marked_none : (o : Option ℕ) (m n t : ℕ) (k : Block ℕ Note) → map bounded (marked_by o m n k t).loops ≡ []
marked_none None m n t k = refl
marked_none (Some l) m n t k = refl

module _ (scope : Scope) where
  mutual
    piece_loops : (s : high.Statement) (exits : List ℕ) (n t : ℕ) (k : Block ℕ Note) → map bounded (piece scope s exits n t k).loops ≡ loops_of s
    piece_loops (high.Set x e) exits n t k = before_none n k (set_code scope x e t)
    piece_loops (high.Put e) exits n t k = before_none n k (put_code scope e t)
    piece_loops (high.Get x) exits n t k = before_none n k (get_code scope x t)
    piece_loops (high.Keep array i e) exits n t k = before_none n k (keep_code scope array i (kept_value array.kind e) t)
    piece_loops (high.Mark m) exits n t k = marked_none k.mark m n t k
    piece_loops (high.Seq parts) exits n t k = all_loops parts exits n t k
    piece_loops (high.If test first other) exits n t k =
        let join = landed n (one_block k t) in
        let m = n + length join.new in
        let p = piece scope other exits m t (only_jump join.goal) in
        let b = landed m p in
        let m2 = m + length b.new in
        let r = piece scope first exits m2 b.free (only_jump join.goal) in
        let a = landed m2 r in
        map-append bounded a.loops b.loops
        ∙ ap (λ ls. map bounded ls ++ map bounded b.loops) (landed_loops m2 r)
        ∙ ap (λ ls. map bounded r.loops ++ map bounded ls) (landed_loops m p)
        ∙ ap (λ xs. xs ++ map bounded p.loops) (piece_loops first exits m2 b.free (only_jump join.goal))
        ∙ ap (λ xs. loops_of first ++ xs) (piece_loops other exits m t (only_jump join.goal))
    piece_loops (high.Loop id least starts body) exits n t k = ap (λ (xs : List Bounded). (record { id = id; bounds = record { least = least; most = starts } }) ∷ xs) (piece_loops body exits (suc n) t (only_jump n))
    piece_loops (high.Block body) exits n t k =
        let join = landed n (one_block k t) in
        piece_loops body (join.goal ∷ exits) (n + length join.new) t (only_jump join.goal)
    piece_loops (high.Leave d) exits n t k = refl
    piece_loops (high.Call f values arrays into) exits n t k = before_none n k (call_code scope f values arrays into t)
    piece_loops (high.Return e) exits n t k = refl

    all_loops : (ss : high.Statements) (exits : List ℕ) (n t : ℕ) (k : Block ℕ Note) → map bounded (pieces scope ss exits n t k).loops ≡ loops_of_all ss
    all_loops high.End exits n t k = refl
    all_loops (high.Then first rest) exits n t k =
        let r = pieces scope rest exits n t k in
        let p = piece scope first exits (n + length r.new) r.free r.first in
        map-append bounded p.loops r.loops
        ∙ ap (λ xs. xs ++ map bounded r.loops) (piece_loops first exits (n + length r.new) r.free r.first)
        ∙ ap (λ xs. loops_of first ++ xs) (all_loops rest exits n t k)

  turned_same : (last : ℕ) (ls : List Loop) → map bounded (map (turned_loop last) ls) ≡ map bounded ls
  turned_same last [] = refl
  turned_same last (l ∷ ls) = ap (λ xs. bounded l ∷ xs) (turned_same last ls)

  pub loops_kept : (f : ℕ) (h : high.Function) → map bounded (lowered_function scope f h).loops ≡ loops_of h.body
  loops_kept f h =
      let p = body_piece scope f h.body in
      turned_same (length p.new) p.loops ∙ all_loops (high.Then (high.Mark f) (high.Then h.body high.End)) [] 0 (first_free scope) (block [] (Return (Constant 0))) ∙ append-nil (loops_of h.body)

  -- blocks with marks
  abbrev marks : Measure scope
  marks = record {
    of_block = λ b. marks_at b;
    of_code = λ c. 0;
    jump = 0;
    branch = 0;
    return = 0;
    mark = λ m. 1;
    of_statement = λ s. 0;
    of_test = λ e. 0;
    joined = λ code k e. omega arith;
    jumping = λ code n. omega arith;
    bare = λ n. omega arith;
    marked = λ m k e. omega arith;
    marked_jump = λ m n. omega arith;
    branching = λ code c x y a b. omega arith;
    returning = λ code x. omega arith;
    set = λ x e t. omega arith;
    put = λ e t. omega arith;
    get = λ x t. omega arith;
    keep = λ array i e t. omega arith;
    call = λ f es bs into t. omega arith;
    test = λ e t. omega arith;
    returned = λ e t. omega arith;
  }

  mutual
    marks_cost : (s : high.Statement) → cost once scope marks s ≤ length (marks_of s)
    marks_cost (high.Set x e) = omega arith
    marks_cost (high.Put e) = omega arith
    marks_cost (high.Get x) = omega arith
    marks_cost (high.Keep array i e) = omega arith
    marks_cost (high.Mark m) = omega arith
    marks_cost (high.Seq parts) = all_marks_cost parts
    marks_cost (high.If test first other) = let a = marks_cost first in let b = marks_cost other in let e = length-append (marks_of first) (marks_of other) in omega (arith, a, b, e)
    marks_cost (high.Loop id least starts body) = let a = marks_cost body in omega (arith, a)
    marks_cost (high.Block body) = let a = marks_cost body in omega (arith, a)
    marks_cost (high.Leave d) = omega arith
    marks_cost (high.Call f values arrays into) = omega arith
    marks_cost (high.Return e) = omega arith

    all_marks_cost : (ss : high.Statements) → costs once scope marks ss ≤ length (marks_of_all ss)
    all_marks_cost high.End = omega arith
    all_marks_cost (high.Then first rest) = let a = marks_cost first in let b = all_marks_cost rest in let e = length-append (marks_of first) (marks_of_all rest) in omega (arith, a, b, e)

  blocks_marks : (last : ℕ) (ls : List Loop) (n : ℕ) (bs : List (Block ℕ Note)) → sum_by marks_at (map (turned last) bs) ≡ weighted once (λ b. marks_at b) ls n bs
  blocks_marks last ls n [] = refl
  blocks_marks last ls n (b ∷ bs) =
      let h = blocks_marks last ls n bs in
      let c = sum_by-cons marks_at (turned last b) (map (turned last) bs) in
      let r : repeats once ls (n + length bs) * marks_at b ≡ 1 * marks_at b = ap (λ x. x * marks_at b) (repeats_once scope ls (n + length bs)) in
      omega (arith, h, c, r)

  pub marks_few : (f : ℕ) (h : high.Function) → sum_by marks_at (lowered_function scope f h).blocks ≤ length (marks_of h.body) + 1
  marks_few f h =
      let p = body_piece scope f h.body in
      let a = blocks_marks (length p.new) p.loops 0 (p.first ∷ p.new) in
      let r : repeats once p.loops (0 + length p.new) * marks_at p.first ≡ 1 * marks_at p.first = ap (λ x. x * marks_at p.first) (repeats_once scope p.loops (0 + length p.new)) in
      let b = pieces_cost once scope marks (high.Then (high.Mark f) (high.Then h.body high.End)) [] 0 (first_free scope) (block [] (Return (Constant 0))) in
      let c = marks_cost h.body in
      omega (arith, a, r, b, c)
