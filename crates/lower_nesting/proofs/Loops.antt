-- Each loop of a statement stands among the blocks of the statement.
use Rattle.std.proofs.Common.{ℕ, suc, ◌+◌, ◌≤◌, List, [], ◌∷◌, ◌++◌, length, Option, Some, None, arith, length-append}
use Rattle.high_ir.specs.Tree as high
use Rattle.low_ir.specs.Code.{Block, End, Jump, Branch, Return, Loop, Note}
use Rattle.low_ir.specs.Formed.{only_jump}
use Rattle.lower_definition.specs.Operators.{Code}
use Rattle.lower_definition.specs.Values.{Scope, Coded}
use Rattle.lower_definition.specs.Statements.{Piece, before, before_by, landed, landed_by, marked_by, one_block, set_code, put_code, get_code, keep_code, call_code, kept_value, piece, pieces}
use Rattle.lower_nesting.specs.Segments.{AllInside}

pub inside_wider : (n m n2 m2 : ℕ) (ls : List Loop) → n2 ≤ n → n + m ≤ n2 + m2 → AllInside n m ls → AllInside n2 m2 ls
inside_wider n m n2 m2 [] a b h = tt
inside_wider n m n2 m2 (l ∷ ls) a b h =
    let h1 = h.0.latch in
    let h3 = h.0.header in
    (record { latch = omega (arith, a, h1); order = h.0.order; header = omega (arith, b, h3) }, inside_wider n m n2 m2 ls a b h.1)

pub inside_append : (n m : ℕ) (xs ys : List Loop) → AllInside n m xs → AllInside n m ys → AllInside n m (xs ++ ys)
inside_append n m [] ys h k = k
inside_append n m (x ∷ xs) ys h k = (h.0, inside_append n m xs ys h.1 k)

before_inside : (n : ℕ) (k : Block ℕ Note) (c : Coded) → AllInside n (length (before n k c).new) (before n k c).loops
before_inside n k c = by_mark k.mark
  where
    by_mark : (m : Option ℕ) → AllInside n (length (before_by m c.code n k c.free).new) (before_by m c.code n k c.free).loops
    by_mark None = tt
    by_mark (Some m) = tt

marked_inside : (o : Option ℕ) (m n t : ℕ) (k : Block ℕ Note) → AllInside n (length (marked_by o m n k t).new) (marked_by o m n k t).loops
marked_inside None m n t k = tt
marked_inside (Some l) m n t k = tt

pub landed_inside : (n : ℕ) (p : Piece) → AllInside n (length p.new) p.loops → AllInside n (length (landed n p).new) (landed n p).loops
landed_inside n p h = by_first p.first.mark p.first.code p.first.end
  where
    more : AllInside n (length (p.first ∷ p.new)) p.loops
    more = inside_wider n (length p.new) n (length (p.first ∷ p.new)) p.loops (omega arith) (omega arith) h

    by_first : (m : Option ℕ) (c : Code) (e : End ℕ) → AllInside n (length (landed_by m c e n p).new) (landed_by m c e n p).loops
    by_first (Some m) c e = more
    by_first None (i ∷ is) e = more
    by_first None [] (Branch c x y taken other) = more
    by_first None [] (Return x) = more
    by_first None [] (Jump b) = h

module _ (scope : Scope) where
  mutual
    pub loops_inside : (s : high.Statement) (exits : List ℕ) (n t : ℕ) (k : Block ℕ Note) → AllInside n (length (piece scope s exits n t k).new) (piece scope s exits n t k).loops
    loops_inside (high.Set x e) exits n t k = before_inside n k (set_code scope x e t)
    loops_inside (high.Put e) exits n t k = before_inside n k (put_code scope e t)
    loops_inside (high.Get x) exits n t k = before_inside n k (get_code scope x t)
    loops_inside (high.Keep array i e) exits n t k = before_inside n k (keep_code scope array i (kept_value array.kind e) t)
    loops_inside (high.Mark m) exits n t k = marked_inside k.mark m n t k
    loops_inside (high.Seq parts) exits n t k = all_loops_inside parts exits n t k
    loops_inside (high.If test first other) exits n t k =
        let join = landed n (one_block k t) in
        let m = n + length join.new in
        let p = piece scope other exits m t (only_jump join.goal) in
        let b = landed m p in
        let r = piece scope first exits (m + length b.new) b.free (only_jump join.goal) in
        let a = landed (m + length b.new) r in
        let h_b = landed_inside m p (loops_inside other exits m t (only_jump join.goal)) in
        let h_a = landed_inside (m + length b.new) r (loops_inside first exits (m + length b.new) b.free (only_jump join.goal)) in
        let total = length-append b.new join.new in
        let all = length-append a.new (b.new ++ join.new) in
        let size = length (a.new ++ (b.new ++ join.new)) in
        inside_append n size a.loops b.loops
        (inside_wider (m + length b.new) (length a.new) n size a.loops (omega arith) (omega (arith, total, all)) h_a)
        (inside_wider m (length b.new) n size b.loops (omega arith) (omega (arith, total, all)) h_b)
    loops_inside (high.Loop id least most body) exits n t k =
        let b = piece scope body exits (suc n) t (only_jump n) in
        let h = loops_inside body exits (suc n) t (only_jump n) in
        let header = suc n + length b.new in
        let total = length-append b.new (only_jump header ∷ []) in
        let size = length (b.first ∷ (b.new ++ only_jump header ∷ [])) in
        (record { latch = omega arith; order = omega arith; header = omega (arith, total) }, inside_wider (suc n) (length b.new) n size b.loops (omega arith) (omega (arith, total)) h)
    loops_inside (high.Block body) exits n t k =
        let join = landed n (one_block k t) in
        let p = piece scope body (join.goal ∷ exits) (n + length join.new) t (only_jump join.goal) in
        let total = length-append p.new join.new in
        inside_wider (n + length join.new) (length p.new) n (length (p.new ++ join.new)) p.loops (omega arith) (omega (arith, total)) (loops_inside body (join.goal ∷ exits) (n + length join.new) t (only_jump join.goal))
    loops_inside (high.Leave d) exits n t k = tt
    loops_inside (high.Call f values arrays into) exits n t k = before_inside n k (call_code scope f values arrays into t)
    loops_inside (high.Return e) exits n t k = tt

    pub all_loops_inside : (ss : high.Statements) (exits : List ℕ) (n t : ℕ) (k : Block ℕ Note) → AllInside n (length (pieces scope ss exits n t k).new) (pieces scope ss exits n t k).loops
    all_loops_inside high.End exits n t k = tt
    all_loops_inside (high.Then first rest) exits n t k =
        let r = pieces scope rest exits n t k in
        let p = piece scope first exits (n + length r.new) r.free r.first in
        let total = length-append p.new r.new in
        let size = length (p.new ++ r.new) in
        inside_append n size p.loops r.loops
        (inside_wider (n + length r.new) (length p.new) n size p.loops (omega arith) (omega (arith, total)) (loops_inside first exits (n + length r.new) r.free r.first))
        (inside_wider n (length r.new) n size r.loops (omega arith) (omega (arith, total)) (all_loops_inside rest exits n t k))
