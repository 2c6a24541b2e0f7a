-- What statements become: the code that runs them and then what follows. Blocks are numbered from the end of the function, so that
-- those behind a statement have their numbers before it.
use Rattle.std.specs.Prelude.{ℕ, suc, ◌+◌, Bool, true, false, nat_lt, if◌then◌else◌, List, [], ◌∷◌, ◌++◌, length, Option, Some, None, slice_index_or}
use Rattle.high_ir.specs.declared.object.Kind.{Kind as HighKind}
use Rattle.high_ir.specs.declared.object.Array.{Array}
use Rattle.high_ir.specs.declared.object.Base.{Base as HighBase}
use Rattle.high_ir.specs.declared.expression.UnaryOperator.{UnaryOperator}
use Rattle.high_ir.specs.declared.expression.UnaryOperator.TheVariants.{Negate, Complement, IsZero, Convert}
use Rattle.high_ir.specs.Tree as high
use Rattle.high_ir.specs.Words.{same_kind}
use Rattle.low_ir.specs.Code.{Base, Put, Get, Store, Do, Call, End, Jump, Branch, Return, Block, Loop, Note}
use Rattle.low_ir.specs.Formed.{only_jump}
use Rattle.lower_definition.specs.Objects.{kind_of, scale_of}
use Rattle.lower_definition.specs.Operators.{Code, only}
use Rattle.lower_definition.specs.Values.{Scope, Share, Coded, Valued, Offset, Tested, Passing, coded, behind, value_into, operand, index_of, tested, values_passed, base_of, offset_of, address, Scaled, scaled_in, scaled_in_all, shares_from, share_code}
use Rattle.lower_definition.specs.Calls.{place_in}

-- code: the block that begins it, which has no number yet, and the blocks that stand before those that were there, the first one first;
-- the loops among them; and the next free register
pub record Piece : Type 0 where
  pub first : Block ℕ Note
  pub new : List (Block ℕ Note)
  pub loops : List Loop
  pub free : ℕ

-- where one jumps to come to code
pub record Landed : Type 0 where
  pub goal : ℕ
  pub new : List (Block ℕ Note)
  pub loops : List Loop
  pub free : ℕ

abbrev pub one_block : Block ℕ Note → ℕ → Piece
one_block block t = record { first = block; new = []; loops = []; free = t }

abbrev pub block : Code → End ℕ → Block ℕ Note
block code end = record { mark = None; code = code; end = end }

abbrev pub landed_at : (goal : ℕ) → List (Block ℕ Note) → Piece → Landed
landed_at goal new p = record { goal = goal; new = new; loops = p.loops; free = p.free }

-- a block that only jumps is left out; one with a mark stays
abbrev pub landed_by : Option ℕ → Code → End ℕ → ℕ → Piece → Landed
landed_by None [] (Jump b) n p = landed_at b p.new p
landed_by mark code end n p = landed_at (n + length p.new) (p.first ∷ p.new) p

-- a piece before n blocks
abbrev pub landed : ℕ → Piece → Landed
landed n p = landed_by p.first.mark p.first.code p.first.end n p

-- instructions before a block that has no mark, or before one that has
abbrev pub before_by : Option ℕ → Code → ℕ → Block ℕ Note → ℕ → Piece
before_by None code n k t = one_block (block (code ++ k.code) k.end) t
before_by (Some m) code n k t = record { first = block code (Jump n); new = k ∷ []; loops = []; free = t }

abbrev pub before : ℕ → Block ℕ Note → Coded → Piece
before n k c = before_by k.mark c.code n k c.free

-- a mark before a block without one, or before one that has one
abbrev pub marked_by : Option ℕ → ℕ → ℕ → Block ℕ Note → ℕ → Piece
marked_by None m n k t = one_block (record { mark = Some m; code = k.code; end = k.end }) t
marked_by (Some l) m n k t = record { first = record { mark = Some m; code = []; end = Jump n }; new = k ∷ []; loops = []; free = t }

-- one piece and then another, which stands behind it
abbrev pub joined : Piece → Piece → Piece
joined p rest = record { first = p.first; new = p.new ++ rest.new; loops = p.loops ++ rest.loops; free = p.free }

-- a branch to one of two places
abbrev pub parted : Tested → (first other join : Landed) → Piece
parted b first other join = record {
  first = block b.code (Branch b.condition b.left b.right first.goal other.goal);
  new = first.new ++ (other.new ++ join.new);
  loops = first.loops ++ other.loops;
  free = b.free;
}

-- a piece in a block that is left to a place behind it
abbrev pub before_landed : Piece → Landed → Piece
before_landed p join = record { first = p.first; new = p.new ++ join.new; loops = p.loops; free = p.free }

-- a loop: its body, from its header on, and its latch of number n
abbrev pub looped : (id least most : ℕ) → ℕ → Piece → Piece
looped id least most n body =
    let header = suc n + length body.new in
    record {
      first = only_jump header;
      new = body.first ∷ (body.new ++ only_jump header ∷ []);
      loops = record { id = id; least = least; most = most; header = header; latch = n } ∷ body.loops;
      free = body.free;
    }

-- instructions behind those of shared registers
abbrev pub with_shares : List Share → Coded → Coded
with_shares shares c = record { code = share_code shares ++ c.code; free = c.free }

abbrev pub nothing : ℕ → Coded
nothing t = record { code = []; free = t }

abbrev pub only_if : Bool → ℕ → Coded → Coded
only_if false t c = nothing t
only_if true t c = c

-- what the elements of a kind keep of a value they keep also of what it is converted from
abbrev pub unconverted : Bool → high.Expr → high.Expr → high.Expr
unconverted false e inner = e
unconverted true e inner = inner

abbrev pub kept_of_unary : HighKind → UnaryOperator → high.Expr → high.Expr → high.Expr
kept_of_unary kind (Convert to) e inner = unconverted (same_kind to kind) e inner
kept_of_unary kind Negate e inner = e
kept_of_unary kind Complement e inner = e
kept_of_unary kind IsZero e inner = e

abbrev pub kept_value : HighKind → high.Expr → high.Expr
kept_value kind (high.Unary operator e) = kept_of_unary kind operator (high.Unary operator e) e
kept_value kind e = e

abbrev pub store_by : Option (Base ℕ) → HighKind → ℕ → Offset → Valued → Coded
store_by None kind t o v = nothing t
store_by (Some b) kind t o v = record { code = o.code ++ (v.code ++ only (Do (Store (kind_of kind) (address b o) v.value))); free = v.free }

abbrev pub store_at : Option (Base ℕ) → HighKind → ℕ → Offset → (ℕ → Valued) → Coded
store_at b kind t o value = store_by b kind t o (value o.free)

abbrev pub returned : Valued → Code → Block ℕ Note
returned v shares = block (shares ++ v.code) (Return v.value)

abbrev pub called : ℕ → Option ℕ → Passing → Coded
called f into p = record { code = p.code ++ only (Call into f p.arguments tt); free = p.free }

module _ (scope : Scope) where
  -- the registers of a statement's expressions: first those that its accesses share
  abbrev pub shares_of : List Scaled → ℕ → List Share
  shares_of scaled t = shares_from t [] scaled

  abbrev pub sharing : ℕ → List Share → (List Share → ℕ → Coded) → Coded
  sharing t shares code = with_shares shares (code shares (t + length shares))

  abbrev pub set_code : ℕ → high.Expr → ℕ → Coded
  set_code x e t = only_if (nat_lt x scope.variables) t (sharing t (shares_of (scaled_in scope e) t) (λ shares u. value_into scope shares e x u))

  abbrev pub put_code : high.Expr → ℕ → Coded
  put_code e t = sharing t (shares_of (scaled_in scope e) t) (λ shares u. let v = operand scope shares e u in behind v (only (Do (Put v.value))) v.free)

  abbrev pub get_code : ℕ → ℕ → Coded
  get_code x t = only_if (nat_lt x scope.variables) t (coded (Do (Get x)) t)

  abbrev pub keep_code : Array → high.Expr → high.Expr → ℕ → Coded
  keep_code array i e t =
      sharing t (shares_of (scaled_in scope (high.Element array i) ++ scaled_in scope e) t)
      (λ shares u. store_at (base_of scope array.base) array.kind u (offset_of shares (scale_of array.kind) (index_of scope shares i u)) (operand scope shares e))

  abbrev pub into_there : Option ℕ → Option ℕ
  into_there None = None
  into_there (Some x) = if nat_lt x scope.variables then Some x else None

  abbrev pub call_code : ℕ → List high.Expr → List HighBase → Option ℕ → ℕ → Coded
  call_code f values arrays into t =
      sharing t (shares_of (scaled_in_all scope values) t) (λ shares u. called (place_in scope.order f) (into_there into) (values_passed scope shares values arrays u))

  abbrev pub test_code : high.Expr → ℕ → Tested
  test_code e t =
      let shares = shares_of (scaled_in scope e) t in
      let b = tested scope shares e (t + length shares) in
      record { code = share_code shares ++ b.code; condition = b.condition; left = b.left; right = b.right; free = b.free }

  abbrev pub return_block : high.Expr → ℕ → Piece
  return_block e t =
      let shares = shares_of (scaled_in scope e) t in
      let v = operand scope shares e (t + length shares) in
      one_block (returned v (share_code shares)) v.free

  -- a statement within blocks that are left to these places, before n blocks, and with the code k behind it
  abbrev mutual
    pub piece : high.Statement → (exits : List ℕ) → (n t : ℕ) → (k : Block ℕ Note) → Piece
    piece (high.Set x e) exits n t k = before n k (set_code x e t)
    piece (high.Put e) exits n t k = before n k (put_code e t)
    piece (high.Get x) exits n t k = before n k (get_code x t)
    piece (high.Keep array i e) exits n t k = before n k (keep_code array i (kept_value array.kind e) t)
    piece (high.Mark m) exits n t k = marked_by k.mark m n k t
    piece (high.Seq parts) exits n t k = pieces parts exits n t k
    piece (high.If test first other) exits n t k =
        let join = landed n (one_block k t) in
        let m = n + length join.new in
        let b = landed m (piece other exits m t (only_jump join.goal)) in
        let a = landed (m + length b.new) (piece first exits (m + length b.new) b.free (only_jump join.goal)) in
        parted (test_code test a.free) a b join
    piece (high.Loop id least most body) exits n t k = looped id least most n (piece body exits (suc n) t (only_jump n))
    piece (high.Block body) exits n t k =
        let join = landed n (one_block k t) in
        before_landed (piece body (join.goal ∷ exits) (n + length join.new) t (only_jump join.goal)) join
    piece (high.Leave d) exits n t k = one_block (only_jump (slice_index_or exits d 0)) t
    piece (high.Call f values arrays into) exits n t k = before n k (call_code f values arrays into t)
    piece (high.Return e) exits n t k = return_block e t

    pub pieces : high.Statements → (exits : List ℕ) → (n t : ℕ) → (k : Block ℕ Note) → Piece
    pieces high.End exits n t k = one_block k t
    pieces (high.Then first rest) exits n t k =
        let r = pieces rest exits n t k in
        joined (piece first exits (n + length r.new) r.free r.first) r
