-- Free registers behind the code of statements.
use Rattle.std.proofs.Common.{◌≡◌, ℕ, suc, ◌+◌, ◌≤◌, Bool, true, false, List, [], ◌∷◌, ◌++◌, length, Option, Some, None, refl, arith}
use Rattle.std.specs.Prelude.{nat_lt}
use Rattle.high_ir.specs.declared.object.Kind.{Kind as HighKind}
use Rattle.high_ir.specs.declared.object.Array.{Array}
use Rattle.high_ir.specs.declared.object.Base.{Base as HighBase}
use Rattle.high_ir.specs.Tree as high
use Rattle.low_ir.specs.Code.{Base, End, Jump, Branch, Return, Block, Note}
use Rattle.low_ir.specs.Formed.{only_jump}
use Rattle.lower_definition.specs.Objects.{scale_of}
use Rattle.lower_definition.specs.Operators.{Code}
use Rattle.lower_definition.specs.Values.{Scope, Coded, Valued, Offset, base_of, operand, offset_of, index_of, scaled_in, scaled_in_all, value_into}
use Rattle.lower_definition.specs.Statements.{Piece, landed, landed_by, before, before_by, marked_by, one_block, only_if, sharing, shares_of, store_by, set_code, put_code, get_code, keep_code, call_code, test_code, return_block, kept_value, piece, pieces}
use Rattle.lower_values.proofs.Values.{grows, operand_free, offset_grows}
use Rattle.lower_values.proofs.Tests.{tested_free}
use Rattle.lower_values.proofs.Passing.{values_free}

pub before_free : (n : ℕ) (k : Block ℕ Note) (c : Coded) → (before n k c).free ≡ c.free
before_free n k c = by_mark k.mark
  where
    by_mark : (m : Option ℕ) → (before_by m c.code n k c.free).free ≡ c.free
    by_mark None = refl
    by_mark (Some m) = refl

pub marked_free : (o : Option ℕ) (m n : ℕ) (k : Block ℕ Note) (t : ℕ) → (marked_by o m n k t).free ≡ t
marked_free None m n k t = refl
marked_free (Some l) m n k t = refl

pub landed_free : (n : ℕ) (p : Piece) → (landed n p).free ≡ p.free
landed_free n p = by_first p.first.mark p.first.code p.first.end
  where
    by_first : (m : Option ℕ) (c : Code) (e : End ℕ) → (landed_by m c e n p).free ≡ p.free
    by_first (Some m) c e = refl
    by_first None (i ∷ is) e = refl
    by_first None [] (Branch c x y taken other) = refl
    by_first None [] (Return x) = refl
    by_first None [] (Jump b) = refl

pub landed_loops : (n : ℕ) (p : Piece) → (landed n p).loops ≡ p.loops
landed_loops n p = by_first p.first.mark p.first.code p.first.end
  where
    by_first : (m : Option ℕ) (c : Code) (e : End ℕ) → (landed_by m c e n p).loops ≡ p.loops
    by_first (Some m) c e = refl
    by_first None (i ∷ is) e = refl
    by_first None [] (Branch c x y taken other) = refl
    by_first None [] (Return x) = refl
    by_first None [] (Jump b) = refl

-- what has landed has the blocks that it had
pub landed_length : (n : ℕ) (p : Piece) → length p.new ≤ length (landed n p).new
landed_length n p = by_first p.first.mark p.first.code p.first.end
  where
    by_first : (m : Option ℕ) (c : Code) (e : End ℕ) → length p.new ≤ length (landed_by m c e n p).new
    by_first (Some m) c e = omega arith
    by_first None (i ∷ is) e = omega arith
    by_first None [] (Branch c x y taken other) = omega arith
    by_first None [] (Return x) = omega arith
    by_first None [] (Jump b) = omega arith

only_if_free : (b : Bool) (t : ℕ) (c : Coded) → t ≤ c.free → t ≤ (only_if b t c).free
only_if_free true t c h = h
only_if_free false t c h = omega arith

store_free : (b : Option (Base ℕ)) (kind : HighKind) (t : ℕ) (o : Offset) (v : Valued) → t ≤ o.free → o.free ≤ v.free → t ≤ (store_by b kind t o v).free
store_free None kind t o v h k = omega arith
store_free (Some b) kind t o v h k = omega (arith, h, k)

module _ (scope : Scope) where
  pub set_free : (x : ℕ) (e : high.Expr) (t : ℕ) → t ≤ (set_code scope x e t).free
  set_free x e t =
      let shares = shares_of scope (scaled_in scope e) t in
      let g = grows scope shares e in
      let a = g.into x (t + length shares) in
      only_if_free (nat_lt x scope.variables) t (sharing scope t shares (λ ss u. value_into scope ss e x u)) (omega (arith, a))

  pub put_free : (e : high.Expr) (t : ℕ) → t ≤ (put_code scope e t).free
  put_free e t =
      let shares = shares_of scope (scaled_in scope e) t in
      let a = operand_free scope shares e (t + length shares) in
      omega (arith, a)

  pub get_free : (x t : ℕ) → t ≤ (get_code scope x t).free
  get_free x t = only_if_free (nat_lt x scope.variables) t _ (omega arith)

  pub call_free : (f : ℕ) (es : List high.Expr) (bs : List HighBase) (into : Option ℕ) (t : ℕ) → t ≤ (call_code scope f es bs into t).free
  call_free f es bs into t =
      let shares = shares_of scope (scaled_in_all scope es) t in
      let a = values_free scope shares es bs (t + length shares) in
      omega (arith, a)

  pub test_free : (e : high.Expr) (t : ℕ) → t ≤ (test_code scope e t).free
  test_free e t =
      let shares = shares_of scope (scaled_in scope e) t in
      let a = tested_free scope shares e (t + length shares) in
      omega (arith, a)

  pub return_free : (e : high.Expr) (t : ℕ) → t ≤ (return_block scope e t).free
  return_free e t =
      let shares = shares_of scope (scaled_in scope e) t in
      let a = operand_free scope shares e (t + length shares) in
      omega (arith, a)

  pub keep_free : (array : Array) (i e : high.Expr) (t : ℕ) → t ≤ (keep_code scope array i e t).free
  keep_free array i e t =
      let shares = shares_of scope (scaled_in scope (high.Element array i) ++ scaled_in scope e) t in
      let u = t + length shares in
      let ix = index_of scope shares i u in
      let o = offset_of shares (scale_of array.kind) ix in
      let g = grows scope shares i in
      let a = g.index u in
      let b = offset_grows scope shares (scale_of array.kind) ix.part.value ix in
      let c = operand_free scope shares e o.free in
      let d = store_free (base_of scope array.base) array.kind u o (operand scope shares e o.free) (omega (arith, a, b)) c in
      omega (arith, d)

  mutual
    pub piece_free : (s : high.Statement) (exits : List ℕ) (n t : ℕ) (k : Block ℕ Note) → t ≤ (piece scope s exits n t k).free
    piece_free (high.Set x e) exits n t k = let a = set_free x e t in omega (arith, a, before_free n k (set_code scope x e t))
    piece_free (high.Put e) exits n t k = let a = put_free e t in omega (arith, a, before_free n k (put_code scope e t))
    piece_free (high.Get x) exits n t k = let a = get_free x t in omega (arith, a, before_free n k (get_code scope x t))
    piece_free (high.Keep array i e) exits n t k = let a = keep_free array i (kept_value array.kind e) t in omega (arith, a, before_free n k (keep_code scope array i (kept_value array.kind e) t))
    piece_free (high.Mark m) exits n t k = omega (arith, marked_free k.mark m n k t)
    piece_free (high.Seq parts) exits n t k = pieces_free parts exits n t k
    piece_free (high.If test first other) exits n t k =
        let join = landed n (one_block k t) in
        let m = n + length join.new in
        let p = piece scope other exits m t (only_jump join.goal) in
        let b = landed m p in
        let r = piece scope first exits (m + length b.new) b.free (only_jump join.goal) in
        let a = landed (m + length b.new) r in
        let e1 = piece_free other exits m t (only_jump join.goal) in
        let e2 = piece_free first exits (m + length b.new) b.free (only_jump join.goal) in
        let e3 = test_free test a.free in
        omega (arith, e1, e2, e3, landed_free m p, landed_free (m + length b.new) r)
    piece_free (high.Loop id least most body) exits n t k = piece_free body exits (suc n) t (only_jump n)
    piece_free (high.Block body) exits n t k =
        let join = landed n (one_block k t) in
        piece_free body (join.goal ∷ exits) (n + length join.new) t (only_jump join.goal)
    piece_free (high.Leave d) exits n t k = omega arith
    piece_free (high.Call f values arrays into) exits n t k = let a = call_free f values arrays into t in omega (arith, a, before_free n k (call_code scope f values arrays into t))
    piece_free (high.Return e) exits n t k = return_free e t

    pub pieces_free : (ss : high.Statements) (exits : List ℕ) (n t : ℕ) (k : Block ℕ Note) → t ≤ (pieces scope ss exits n t k).free
    pieces_free high.End exits n t k = omega arith
    pieces_free (high.Then first rest) exits n t k =
        let r = pieces scope rest exits n t k in
        let a = pieces_free rest exits n t k in
        let b = piece_free first exits (n + length r.new) r.free r.first in
        omega (arith, a, b)
