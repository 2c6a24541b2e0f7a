-- The marks of blocks are those of the statement.
use Rattle.std.proofs.Common.{ℕ, suc, ◌+◌, List, [], ◌∷◌, ◌++◌, length, Option, Some, None}
use Rattle.high_ir.specs.Standing.{marks_of, marks_of_all}
use Rattle.high_ir.specs.Tree as high
use Rattle.low_ir.specs.Code.{Block, End, Jump, Branch, Return, Note}
use Rattle.low_ir.specs.Formed.{only_jump}
use Rattle.lower_definition.specs.Operators.{Code}
use Rattle.lower_definition.specs.Values.{Scope, Coded}
use Rattle.lower_definition.specs.Statements.{Piece, before, before_by, landed, landed_by, marked_by, one_block, set_code, put_code, get_code, keep_code, call_code, kept_value, piece, pieces}
use Rattle.lower_nesting.specs.Blocks.{AllMarked, AllOf, Marked}

module _ (P : ℕ → Type 0) where
  pub of_front : (xs ys : List ℕ) → AllOf P (xs ++ ys) → AllOf P xs
  of_front [] ys h = tt
  of_front (x ∷ xs) ys h = (h.0, of_front xs ys h.1)

  pub of_back : (xs ys : List ℕ) → AllOf P (xs ++ ys) → AllOf P ys
  of_back [] ys h = h
  of_back (x ∷ xs) ys h = of_back xs ys h.1

  marked_append : (xs ys : List (Block ℕ Note)) → AllMarked P xs → AllMarked P ys → AllMarked P (xs ++ ys)
  marked_append [] ys h k = k
  marked_append (x ∷ xs) ys h k = (h.0, marked_append xs ys h.1 k)

  -- the marks of a piece
  abbrev pub HasMarks : Piece → Type 0
  HasMarks p = Marked P p.first.mark × AllMarked P p.new

  landed_marks : (n : ℕ) (p : Piece) → HasMarks p → AllMarked P (landed n p).new
  landed_marks n p h = by_first p.first.mark p.first.code p.first.end
    where
      by_first : (m : Option ℕ) (c : Code) (e : End ℕ) → AllMarked P (landed_by m c e n p).new
      by_first (Some m) c e = h
      by_first None (i ∷ is) e = h
      by_first None [] (Branch c x y taken other) = h
      by_first None [] (Return x) = h
      by_first None [] (Jump b) = h.1

  before_marks : (n : ℕ) (k : Block ℕ Note) (c : Coded) → Marked P k.mark → HasMarks (before n k c)
  before_marks n k c h = by_mark k.mark h
    where
      by_mark : (m : Option ℕ) → Marked P m → HasMarks (before_by m c.code n k c.free)
      by_mark None g = (tt, tt)
      by_mark (Some m) g = (tt, (h, tt))

  marked_marks : (o : Option ℕ) (m n t : ℕ) (k : Block ℕ Note) → P m → Marked P k.mark → HasMarks (marked_by o m n k t)
  marked_marks None m n t k g h = (g, tt)
  marked_marks (Some l) m n t k g h = (g, (h, tt))

  module _ (scope : Scope) where
    mutual
      pub piece_marks : (s : high.Statement) (exits : List ℕ) (n t : ℕ) (k : Block ℕ Note) → AllOf P (marks_of s) → Marked P k.mark → HasMarks (piece scope s exits n t k)
      piece_marks (high.Set x e) exits n t k h g = before_marks n k (set_code scope x e t) g
      piece_marks (high.Put e) exits n t k h g = before_marks n k (put_code scope e t) g
      piece_marks (high.Get x) exits n t k h g = before_marks n k (get_code scope x t) g
      piece_marks (high.Keep array i e) exits n t k h g = before_marks n k (keep_code scope array i (kept_value array.kind e) t) g
      piece_marks (high.Mark m) exits n t k h g = marked_marks k.mark m n t k h.0 g
      piece_marks (high.Seq parts) exits n t k h g = all_marks parts exits n t k h g
      piece_marks (high.If test first other) exits n t k h g =
          let join = landed n (one_block k t) in
          let m = n + length join.new in
          let p = piece scope other exits m t (only_jump join.goal) in
          let b = landed m p in
          let r = piece scope first exits (m + length b.new) b.free (only_jump join.goal) in
          let a = landed (m + length b.new) r in
          let hp = piece_marks other exits m t (only_jump join.goal) (of_back (marks_of first) (marks_of other) h) tt in
          let hr = piece_marks first exits (m + length b.new) b.free (only_jump join.goal) (of_front (marks_of first) (marks_of other) h) tt in
          (tt, marked_append a.new (b.new ++ join.new) (landed_marks (m + length b.new) r hr) (marked_append b.new join.new (landed_marks m p hp) (landed_marks n (one_block k t) (g, tt))))
      piece_marks (high.Loop id least most body) exits n t k h g =
          let b = piece scope body exits (suc n) t (only_jump n) in
          let header = suc n + length b.new in
          let hb = piece_marks body exits (suc n) t (only_jump n) h tt in
          (tt, (hb.0, marked_append b.new (only_jump header ∷ []) hb.1 (tt, tt)))
      piece_marks (high.Block body) exits n t k h g =
          let join = landed n (one_block k t) in
          let p = piece scope body (join.goal ∷ exits) (n + length join.new) t (only_jump join.goal) in
          let hp = piece_marks body (join.goal ∷ exits) (n + length join.new) t (only_jump join.goal) h tt in
          (hp.0, marked_append p.new join.new hp.1 (landed_marks n (one_block k t) (g, tt)))
      piece_marks (high.Leave d) exits n t k h g = (tt, tt)
      piece_marks (high.Call f values arrays into) exits n t k h g = before_marks n k (call_code scope f values arrays into t) g
      piece_marks (high.Return e) exits n t k h g = (tt, tt)

      pub all_marks : (ss : high.Statements) (exits : List ℕ) (n t : ℕ) (k : Block ℕ Note) → AllOf P (marks_of_all ss) → Marked P k.mark → HasMarks (pieces scope ss exits n t k)
      all_marks high.End exits n t k h g = (g, tt)
      all_marks (high.Then first rest) exits n t k h g =
          let r = pieces scope rest exits n t k in
          let p = piece scope first exits (n + length r.new) r.free r.first in
          let hr = all_marks rest exits n t k (of_back (marks_of first) (marks_of_all rest) h) g in
          let hp = piece_marks first exits (n + length r.new) r.free r.first (of_front (marks_of first) (marks_of_all rest) h) hr.0 in
          (hp.0, marked_append p.new r.new hp.1 hr.1)
