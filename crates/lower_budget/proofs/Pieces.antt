-- What the blocks of a statement cost, each as often as loops start it.
use Rattle.std.proofs.Common.{◌≡◌, ℕ, suc, ◌+◌, ◌*◌, ◌≤◌, List, [], ◌∷◌, ◌++◌, length, Option, Some, None, refl, ap, ◌∙◌, arith, length-append}
use Rattle.std.specs.Prelude.{slice_index_or}
use Rattle.std.proofs.Math.Nat.{mul-le-mul_left}
use Rattle.rv_core.specs.declared.row.Condition.{Condition}
use Rattle.high_ir.specs.declared.object.Array.{Array}
use Rattle.high_ir.specs.declared.object.Base.{Base as HighBase}
use Rattle.high_ir.specs.Tree as high
use Rattle.low_ir.specs.Code.{Block, Jump, Branch, Return, Loop, Note, Operand}
use Rattle.low_ir.specs.Formed.{only_jump}
use Rattle.lower_definition.specs.Operators.{Code}
use Rattle.lower_definition.specs.Values.{Scope, Coded, operand, scaled_in, shares_from}
use Rattle.lower_definition.specs.Statements.{Piece, before, before_by, block, call_code, get_code, keep_code, kept_value, landed, marked_by, one_block, piece, pieces, put_code, return_block, set_code, test_code}
use Rattle.lower_nesting.specs.Segments.{AllInside}
use Rattle.lower_nesting.proofs.Free.{landed_loops}
use Rattle.lower_nesting.proofs.Loops.{all_loops_inside, inside_append, inside_wider, landed_inside, loops_inside}
use Rattle.lower_budget.proofs.Sums.{inside_one, repeats, repeats-append, repeats_before, repeats_behind, weighted, weighted-append, weighted_landed, weighted_same, weighted_times}

-- a measure of blocks, and what it is at most for code, jumps, branches, returns, marks and single statements
pub record Measure (scope : Scope) : Type 0 where
  pub of_block : Block ℕ Note → ℕ
  pub of_code : Code → ℕ
  pub jump : ℕ
  pub branch : ℕ
  pub return : ℕ
  pub mark : ℕ → ℕ
  pub of_statement : high.Statement → ℕ
  pub of_test : high.Expr → ℕ
  pub joined : (code : Code) (k : Block ℕ Note) → k.mark ≡ None → of_block (block (code ++ k.code) k.end) ≤ of_code code + of_block k
  pub jumping : (code : Code) (n : ℕ) → of_block (block code (Jump n)) ≤ of_code code + jump
  pub bare : (n : ℕ) → of_block (only_jump n) ≤ jump
  pub marked : (m : ℕ) (k : Block ℕ Note) → k.mark ≡ None → of_block (record { mark = Some m; code = k.code; end = k.end }) ≤ mark m + of_block k
  pub marked_jump : (m n : ℕ) → of_block (record { mark = Some m; code = []; end = Jump n }) ≤ mark m + jump
  pub branching : (code : Code) (c : Condition) (x y : Operand ℕ) (a b : ℕ) → of_block (block code (Branch c x y a b)) ≤ of_code code + branch
  pub returning : (code : Code) (x : Operand ℕ) → of_block (block code (Return x)) ≤ of_code code + return
  pub set : (x : ℕ) (e : high.Expr) (t : ℕ) → of_code (set_code scope x e t).code ≤ of_statement (high.Set x e)
  pub put : (e : high.Expr) (t : ℕ) → of_code (put_code scope e t).code ≤ of_statement (high.Put e)
  pub get : (x t : ℕ) → of_code (get_code scope x t).code ≤ of_statement (high.Get x)
  pub keep : (array : Array) (i e : high.Expr) (t : ℕ) → of_code (keep_code scope array i (kept_value array.kind e) t).code ≤ of_statement (high.Keep array i e)
  pub call : (f : ℕ) (es : List high.Expr) (bs : List HighBase) (into : Option ℕ) (t : ℕ) → of_code (call_code scope f es bs into t).code ≤ of_statement (high.Call f es bs into)
  pub test : (e : high.Expr) (t : ℕ) → of_code (test_code scope e t).code ≤ of_test e
  pub returned : (e : high.Expr) (t : ℕ) → of_code (return_block scope e t).first.code ≤ of_test e

module _ (mult : ℕ → ℕ) (scope : Scope) (m : Measure scope) where
  -- what a statement costs at most
  abbrev mutual
    pub cost : high.Statement → ℕ
    cost (high.Set x e) = m.of_statement (high.Set x e)
    cost (high.Put e) = m.of_statement (high.Put e)
    cost (high.Get x) = m.of_statement (high.Get x)
    cost (high.Keep array i e) = m.of_statement (high.Keep array i e)
    cost (high.Mark n) = m.mark n + 2 * m.jump
    cost (high.Seq parts) = costs parts
    cost (high.If test first other) = m.of_test test + m.branch + 2 * m.jump + cost first + cost other
    cost (high.Loop id least most body) = m.jump + mult most * (cost body + 2 * m.jump)
    cost (high.Block body) = cost body + m.jump
    cost (high.Leave d) = m.jump
    cost (high.Call f values arrays into) = m.of_statement (high.Call f values arrays into)
    cost (high.Return e) = m.of_test e + m.return

    pub costs : high.Statements → ℕ
    costs high.End = 0
    costs (high.Then first rest) = cost first + costs rest

  abbrev W : Block ℕ Note → ℕ
  W b = m.of_block b

  -- a block with a mark may have to be jumped to
  abbrev pub owed : Option ℕ → ℕ
  owed None = 0
  owed (Some l) = m.jump

  -- the blocks of a piece
  abbrev pub total : ℕ → Piece → ℕ
  total n p = W p.first + weighted mult W p.loops n p.new + owed p.first.mark

  before_cost : (n : ℕ) (k : Block ℕ Note) (c : Coded) (limit : ℕ) → m.of_code c.code ≤ limit → total n (before n k c) ≤ limit + (W k + owed k.mark)
  before_cost n k c limit h = by_mark k.mark refl
    where
      by_mark : (o : Option ℕ) → k.mark ≡ o → total n (before_by o c.code n k c.free) ≤ limit + (W k + owed o)
      by_mark None e = let a = m.joined c.code k e in omega (arith, a, h)
      by_mark (Some l) e = let a = m.jumping c.code n in omega (arith, a, h)

  marked_cost : (o : Option ℕ) (l n t : ℕ) (k : Block ℕ Note) → k.mark ≡ o → total n (marked_by o l n k t) ≤ m.mark l + 2 * m.jump + (W k + owed o)
  marked_cost None l n t k e = let a = m.marked l k e in omega (arith, a)
  marked_cost (Some x) l n t k e = let a = m.marked_jump l n in omega (arith, a)

  -- what is behind a statement, beside loops that stand before it
  join_cost : (n t : ℕ) (k : Block ℕ Note) (n2 m2 : ℕ) (ls : List Loop) → AllInside n2 m2 ls → n + length (landed n (one_block k t)).new ≤ n2 → weighted mult W ls n (landed n (one_block k t)).new ≤ W k
  join_cost n t k n2 m2 ls inside low =
      let new = (landed n (one_block k t)).new in
      let same = weighted_same mult W ls [] n new (λ i a b. repeats_behind mult n2 m2 i ls inside (omega (arith, b, low))) in
      let h = weighted_landed mult W n (one_block k t) tt in
      omega (arith, same, h)

  -- loops that stand apart change nothing
  front_same : (ls more : List Loop) (n n2 m2 : ℕ) (bs : List (Block ℕ Note)) → AllInside n2 m2 more → n2 + m2 ≤ n → weighted mult W (ls ++ more) n bs ≡ weighted mult W ls n bs
  front_same ls more n n2 m2 bs inside low =
      weighted_same mult W (ls ++ more) ls n bs (λ i a b. repeats-append mult ls more i ∙ ap (λ x. repeats mult ls i * x) (repeats_before mult n2 m2 i more inside (omega (arith, a, low))) ∙ times_one (repeats mult ls i))
    where
      times_one : (x : ℕ) → x * 1 ≡ x
      times_one x = omega arith

  back_same : (ls more : List Loop) (n n2 m2 : ℕ) (bs : List (Block ℕ Note)) → AllInside n2 m2 more → n + length bs ≤ n2 → weighted mult W (more ++ ls) n bs ≡ weighted mult W ls n bs
  back_same ls more n n2 m2 bs inside low =
      weighted_same mult W (more ++ ls) ls n bs (λ i a b. repeats-append mult more ls i ∙ ap (λ x. x * repeats mult ls i) (repeats_behind mult n2 m2 i more inside (omega (arith, b, low))) ∙ one_times (repeats mult ls i))
    where
      one_times : (x : ℕ) → 1 * x ≡ x
      one_times x = omega arith

  mutual
    pub piece_cost : (s : high.Statement) (exits : List ℕ) (n t : ℕ) (k : Block ℕ Note) → total n (piece scope s exits n t k) ≤ cost s + (W k + owed k.mark)
    piece_cost (high.Set x e) exits n t k = before_cost n k (set_code scope x e t) (m.of_statement (high.Set x e)) (m.set x e t)
    piece_cost (high.Put e) exits n t k = before_cost n k (put_code scope e t) (m.of_statement (high.Put e)) (m.put e t)
    piece_cost (high.Get x) exits n t k = before_cost n k (get_code scope x t) (m.of_statement (high.Get x)) (m.get x t)
    piece_cost (high.Keep array i e) exits n t k = before_cost n k (keep_code scope array i (kept_value array.kind e) t) (m.of_statement (high.Keep array i e)) (m.keep array i e t)
    piece_cost (high.Mark l) exits n t k = marked_cost k.mark l n t k refl
    piece_cost (high.Seq parts) exits n t k = pieces_cost parts exits n t k
    piece_cost (high.If test first other) exits n t k =
        let join = landed n (one_block k t) in
        let m1 = n + length join.new in
        let p = piece scope other exits m1 t (only_jump join.goal) in
        let b = landed m1 p in
        let m2 = m1 + length b.new in
        let r = piece scope first exits m2 b.free (only_jump join.goal) in
        let a = landed m2 r in
        let ls = a.loops ++ b.loops in
        let in_p = loops_inside scope other exits m1 t (only_jump join.goal) in
        let in_r = loops_inside scope first exits m2 b.free (only_jump join.goal) in
        let in_b = landed_inside m1 p in_p in
        let in_a = landed_inside m2 r in_r in
        let size = length b.new + length a.new in
        let in_ls : AllInside m1 size ls = inside_append m1 size a.loops b.loops (inside_wider m2 (length a.new) m1 size a.loops (omega arith) (omega arith) in_a) (inside_wider m1 (length b.new) m1 size b.loops (omega arith) (omega arith) in_b) in
        let total_tail = length-append b.new join.new in
        let at : n + length (b.new ++ join.new) ≡ m2 = omega (arith, total_tail) in
        let split : weighted mult W ls n (a.new ++ (b.new ++ join.new)) ≡ weighted mult W ls (n + length (b.new ++ join.new)) a.new + weighted mult W ls n (b.new ++ join.new) = weighted-append mult W ls n a.new (b.new ++ join.new) in
        let split2 : weighted mult W ls n (b.new ++ join.new) ≡ weighted mult W ls m1 b.new + weighted mult W ls n join.new = weighted-append mult W ls n b.new join.new in
        let move : weighted mult W ls (n + length (b.new ++ join.new)) a.new ≡ weighted mult W ls m2 a.new = ap (λ i. weighted mult W ls i a.new) at in
        let same_a : weighted mult W ls m2 a.new ≡ weighted mult W a.loops m2 a.new = front_same a.loops b.loops m2 m1 (length b.new) a.new in_b (omega arith) in
        let same_b : weighted mult W ls m1 b.new ≡ weighted mult W b.loops m1 b.new = back_same b.loops a.loops m1 m2 (length a.new) b.new in_a (omega arith) in
        let loops_a : weighted mult W a.loops m2 a.new ≡ weighted mult W r.loops m2 a.new = ap (λ x. weighted mult W x m2 a.new) (landed_loops m2 r) in
        let loops_b : weighted mult W b.loops m1 b.new ≡ weighted mult W p.loops m1 b.new = ap (λ x. weighted mult W x m1 b.new) (landed_loops m1 p) in
        let la = weighted_landed mult W m2 r in_r in
        let lb = weighted_landed mult W m1 p in_p in
        let ja = join_cost n t k m1 size ls in_ls (omega arith) in
        let ca = piece_cost first exits m2 b.free (only_jump join.goal) in
        let cb = piece_cost other exits m1 t (only_jump join.goal) in
        let jump = m.bare join.goal in
        let tc = test_code scope test a.free in
        let branch = m.branching tc.code tc.condition tc.left tc.right a.goal b.goal in
        let tested = m.test test a.free in
        omega (arith, split, split2, move, same_a, same_b, loops_a, loops_b, la, lb, ja, ca, cb, jump, branch, tested)
    piece_cost (high.Loop id least most body) exits n t k =
        let b = piece scope body exits (suc n) t (only_jump n) in
        let header = suc n + length b.new in
        let l : Loop = record { id = id; least = least; most = most; header = header; latch = n } in
        let latch = only_jump header ∷ [] in
        let new = b.first ∷ (b.new ++ latch) in
        let inside = loops_inside scope body exits (suc n) t (only_jump n) in
        let sizes = length-append b.new latch in
        let times : weighted mult W (l ∷ b.loops) n new ≡ mult most * weighted mult W b.loops n new = weighted_times mult W (mult most) (l ∷ b.loops) b.loops n new (λ i low high. ap (λ x. x * repeats mult b.loops i) (inside_one mult l i low (omega (arith, high, sizes)))) in
        let head_one = repeats_before mult (suc n) (length b.new) (n + length (b.new ++ latch)) b.loops inside (omega (arith, sizes)) in
        let head : repeats mult b.loops (n + length (b.new ++ latch)) * W b.first ≡ 1 * W b.first = ap (λ x. x * W b.first) head_one in
        let split : weighted mult W b.loops n (b.new ++ latch) ≡ weighted mult W b.loops (n + length latch) b.new + weighted mult W b.loops n latch = weighted-append mult W b.loops n b.new latch in
        let one : n + length latch ≡ suc n = omega arith in
        let move : weighted mult W b.loops (n + length latch) b.new ≡ weighted mult W b.loops (suc n) b.new = ap (λ i. weighted mult W b.loops i b.new) one in
        let last_one = repeats_behind mult (suc n) (length b.new) (n + 0) b.loops inside (omega arith) in
        let last : repeats mult b.loops (n + 0) * W (only_jump header) ≡ 1 * W (only_jump header) = ap (λ x. x * W (only_jump header)) last_one in
        let c = piece_cost body exits (suc n) t (only_jump n) in
        let j1 = m.bare n in
        let j2 = m.bare header in
        let once : weighted mult W b.loops n new ≤ cost body + 2 * m.jump = omega (arith, head, split, move, last, c, j1, j2) in
        let all : mult most * weighted mult W b.loops n new ≤ mult most * (cost body + 2 * m.jump) = mul-le-mul_left (mult most) once in
        omega (arith, times, all, j2)
    piece_cost (high.Block body) exits n t k =
        let join = landed n (one_block k t) in
        let m1 = n + length join.new in
        let p = piece scope body (join.goal ∷ exits) m1 t (only_jump join.goal) in
        let inside = loops_inside scope body (join.goal ∷ exits) m1 t (only_jump join.goal) in
        let split : weighted mult W p.loops n (p.new ++ join.new) ≡ weighted mult W p.loops m1 p.new + weighted mult W p.loops n join.new = weighted-append mult W p.loops n p.new join.new in
        let ja = join_cost n t k m1 (length p.new) p.loops inside (omega arith) in
        let c = piece_cost body (join.goal ∷ exits) m1 t (only_jump join.goal) in
        let j = m.bare join.goal in
        omega (arith, split, ja, c, j)
    piece_cost (high.Leave d) exits n t k = let j = m.bare (slice_index_or exits d 0) in omega (arith, j)
    piece_cost (high.Call f values arrays into) exits n t k = before_cost n k (call_code scope f values arrays into t) (m.of_statement (high.Call f values arrays into)) (m.call f values arrays into t)
    piece_cost (high.Return e) exits n t k =
        let p = return_block scope e t in
        let a = m.returned e t in
        let v = operand scope (shares_from t [] (scaled_in scope e)) e (t + length (shares_from t [] (scaled_in scope e))) in
        let b = m.returning p.first.code v.value in
        omega (arith, a, b)

    pub pieces_cost : (ss : high.Statements) (exits : List ℕ) (n t : ℕ) (k : Block ℕ Note) → total n (pieces scope ss exits n t k) ≤ costs ss + (W k + owed k.mark)
    pieces_cost high.End exits n t k = omega arith
    pieces_cost (high.Then first rest) exits n t k =
        let r = pieces scope rest exits n t k in
        let m1 = n + length r.new in
        let p = piece scope first exits m1 r.free r.first in
        let ls = p.loops ++ r.loops in
        let in_p = loops_inside scope first exits m1 r.free r.first in
        let in_r = all_loops_inside scope rest exits n t k in
        let split : weighted mult W ls n (p.new ++ r.new) ≡ weighted mult W ls m1 p.new + weighted mult W ls n r.new = weighted-append mult W ls n p.new r.new in
        let same_p : weighted mult W ls m1 p.new ≡ weighted mult W p.loops m1 p.new = front_same p.loops r.loops m1 n (length r.new) p.new in_r (omega arith) in
        let same_r : weighted mult W ls n r.new ≡ weighted mult W r.loops n r.new = back_same r.loops p.loops n m1 (length p.new) r.new in_p (omega arith) in
        let a = piece_cost first exits m1 r.free r.first in
        let b = pieces_cost rest exits n t k in
        omega (arith, split, same_p, same_r, a, b)
