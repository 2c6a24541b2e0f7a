-- Loops nest.
use Rattle.std.proofs.Common.{ℕ, suc, ◌+◌, ◌≤◌, List, [], ◌∷◌, ◌++◌, length, Option, Some, None, sym, subst, arith}
use Rattle.high_ir.specs.Tree as high
use Rattle.low_ir.specs.Code.{Block, Loop, Note}
use Rattle.low_ir.specs.Formed.{only_jump}
use Rattle.lower_definition.specs.Values.{Scope, Coded}
use Rattle.lower_definition.specs.Statements.{before, before_by, landed, marked_by, one_block, set_code, put_code, get_code, keep_code, call_code, kept_value, piece, pieces}
use Rattle.lower_nesting.specs.Segments.{AllInside, Inside}
use Rattle.lower_nesting.specs.Blocks.{AllNest, Nest}
use Rattle.lower_nesting.proofs.Free.{landed_length, landed_loops}
use Rattle.lower_nesting.proofs.Loops.{all_loops_inside, loops_inside}
use Rattle.lower_nesting.proofs.Numbered.{loops_all, loops_append}

-- loops that stand behind others
apart_nest : (n m n2 m2 : ℕ) (k l : Loop) → n2 + m2 ≤ n → Inside n m k → Inside n2 m2 l → Nest k l
apart_nest n m n2 m2 k l behind a b =
    let a1 = a.latch in
    let a2 = a.order in
    let b2 = b.order in
    let b3 = b.header in
    (λ x y. absurd (omega (arith, behind, a1, b3, x)), λ x y. absurd (omega (arith, behind, a1, a2, b3, y)))

nest_append : (n m n2 m2 : ℕ) (xs ys : List Loop) → n2 + m2 ≤ n → AllInside n m xs → AllInside n2 m2 ys → AllNest xs → AllNest ys → AllNest (xs ++ ys)
nest_append n m n2 m2 [] ys behind a b h k = k
nest_append n m n2 m2 (x ∷ xs) ys behind a b h k =
    (loops_append (Nest x) xs ys h.0 (loops_all (Nest x) n2 m2 ys b (λ l inside. apart_nest n m n2 m2 x l behind a.0 inside)), nest_append n m n2 m2 xs ys behind a.1 b h.1 k)

before_nest : (n : ℕ) (k : Block ℕ Note) (c : Coded) → AllNest (before n k c).loops
before_nest n k c = by_mark k.mark
  where
    by_mark : (m : Option ℕ) → AllNest (before_by m c.code n k c.free).loops
    by_mark None = tt
    by_mark (Some m) = tt

marked_nest : (o : Option ℕ) (m n t : ℕ) (k : Block ℕ Note) → AllNest (marked_by o m n k t).loops
marked_nest None m n t k = tt
marked_nest (Some l) m n t k = tt

module _ (scope : Scope) where
  mutual
    pub piece_nest : (s : high.Statement) (exits : List ℕ) (n t : ℕ) (k : Block ℕ Note) → AllNest (piece scope s exits n t k).loops
    piece_nest (high.Set x e) exits n t k = before_nest n k (set_code scope x e t)
    piece_nest (high.Put e) exits n t k = before_nest n k (put_code scope e t)
    piece_nest (high.Get x) exits n t k = before_nest n k (get_code scope x t)
    piece_nest (high.Keep array i e) exits n t k = before_nest n k (keep_code scope array i (kept_value array.kind e) t)
    piece_nest (high.Mark m) exits n t k = marked_nest k.mark m n t k
    piece_nest (high.Seq parts) exits n t k = all_nest parts exits n t k
    piece_nest (high.If test first other) exits n t k =
        let join = landed n (one_block k t) in
        let m = n + length join.new in
        let p = piece scope other exits m t (only_jump join.goal) in
        let b = landed m p in
        let m2 = m + length b.new in
        let r = piece scope first exits m2 b.free (only_jump join.goal) in
        let a = landed m2 r in
        let long = landed_length m p in
        let h : AllNest (r.loops ++ p.loops) =
        nest_append m2 (length r.new) m (length p.new) r.loops p.loops (omega (arith, long)) (loops_inside scope first exits m2 b.free (only_jump join.goal)) (loops_inside scope other exits m t (only_jump join.goal))
        (piece_nest first exits m2 b.free (only_jump join.goal)) (piece_nest other exits m t (only_jump join.goal)) in
        subst (λ ls. AllNest (a.loops ++ ls)) (sym (landed_loops m p)) (subst (λ ls. AllNest (ls ++ p.loops)) (sym (landed_loops m2 r)) h)
    piece_nest (high.Loop id least most body) exits n t k =
        let b = piece scope body exits (suc n) t (only_jump n) in
        let header = suc n + length b.new in
        let own : Loop = record { id = id; least = least; most = most; header = header; latch = n } in (
          loops_all (Nest own) (suc n) (length b.new) b.loops (loops_inside scope body exits (suc n) t (only_jump n))
              (λ l inside.
              let low = inside.latch in
              let high = inside.header in
              (λ x y. (high, omega (arith, low)), λ x y. absurd (omega (arith, high, y)))),
          piece_nest body exits (suc n) t (only_jump n),
        )
    piece_nest (high.Block body) exits n t k =
        let join = landed n (one_block k t) in
        piece_nest body (join.goal ∷ exits) (n + length join.new) t (only_jump join.goal)
    piece_nest (high.Leave d) exits n t k = tt
    piece_nest (high.Call f values arrays into) exits n t k = before_nest n k (call_code scope f values arrays into t)
    piece_nest (high.Return e) exits n t k = tt

    pub all_nest : (ss : high.Statements) (exits : List ℕ) (n t : ℕ) (k : Block ℕ Note) → AllNest (pieces scope ss exits n t k).loops
    all_nest high.End exits n t k = tt
    all_nest (high.Then first rest) exits n t k =
        let r = pieces scope rest exits n t k in
        let m = n + length r.new in
        let p = piece scope first exits m r.free r.first in
        nest_append m (length p.new) n (length r.new) p.loops r.loops (omega arith) (loops_inside scope first exits m r.free r.first) (all_loops_inside scope rest exits n t k) (piece_nest first exits m r.free r.first) (all_nest rest exits n t k)
