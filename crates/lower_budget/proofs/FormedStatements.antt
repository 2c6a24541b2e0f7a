-- What the code of statements names.
use Rattle.std.proofs.Common.{◌≡◌, ℕ, suc, ◌+◌, ◌<◌, ◌≤◌, Bool, true, false, List, [], ◌∷◌, ◌++◌, length, Option, Some, None, refl, arith}
use Rattle.std.specs.Prelude.{if◌then◌else◌, nat_lt}
use Rattle.std.proofs.lemmas.Bool.{ltb-true}
use Rattle.high_ir.specs.declared.object.Array.{Array}
use Rattle.high_ir.specs.declared.object.Base.{Base as HighBase}
use Rattle.high_ir.specs.declared.object.Kind.{Kind as HighKind}
use Rattle.high_ir.specs.Standing.{callees_of, callees_of_all}
use Rattle.high_ir.specs.Tree as high
use Rattle.low_ir.specs.Code.{Base, Block, Do, End, Get, Jump, Branch, Return, Note}
use Rattle.low_ir.specs.Formed.{only_jump}
use Rattle.lower_definition.specs.Objects.{scale_of}
use Rattle.lower_definition.specs.Operators.{Code}
use Rattle.lower_definition.specs.Calls.{place_in}
use Rattle.lower_definition.specs.Values.{Scope, Share, Coded, Offset, Scaled, Valued, base_of, coded, index_of, offset_of, operand, scaled_in, scaled_in_all, share_code, shares_from, tested, value_into, values_passed}
use Rattle.lower_definition.specs.Statements.{Piece, before, before_by, call_code, get_code, into_there, keep_code, kept_value, landed, landed_by, marked_by, one_block, only_if, piece, pieces, put_code, set_code, sharing, store_at, store_by}
use Rattle.lower_values.proofs.Values.{grows, offset_grows, operand_free}
use Rattle.lower_values.proofs.Passing.{values_free}
use Rattle.lower_values.proofs.Tests.{tested_free}
use Rattle.lower_nesting.specs.Blocks.{AllOf}
use Rattle.lower_nesting.proofs.Free.{before_free, landed_free, piece_free, test_free}
use Rattle.lower_nesting.proofs.Marks.{of_back, of_front}
use Rattle.lower_budget.specs.Names.{BaseOk, BlockOk, BlocksOk, OperandOk, RegisterOk}
use Rattle.lower_budget.proofs.FormedOperators.{code_append}
use Rattle.lower_budget.proofs.FormedValues.{Codes, ScaledBelow, ScopeOk, SharesBelow, all_scaled_below, base_ok, begun_ok, found_ok, index_ok, offset_ok, passing_ok, scaled_below, shares_ok, tested_ok, two_below, value_ok}

module _ (size claims f : ℕ) (scope : Scope) (ok : ScopeOk size claims scope) where
  abbrev pub Fine : Coded → Type 0
  Fine c = c.free ≤ size → Codes size claims f scope ok c.code

  abbrev Sharing : List Share → Type 0
  Sharing ss = SharesBelow size size ss

  append : (xs ys : Code) → Codes size claims f scope ok xs → Codes size claims f scope ok ys → Codes size claims f scope ok (xs ++ ys)
  append xs ys h k = code_append size scope.objects claims f xs ys h k

  -- code behind that of shares
  sharing_ok : (xs : List Scaled) (t : ℕ) (code : List Share → ℕ → Coded) → ScaledBelow scope.variables xs → t + length (shares_from t [] xs) ≤ (code (shares_from t [] xs) (t + length (shares_from t [] xs))).free → (Sharing (shares_from t [] xs) → Fine (code (shares_from t [] xs) (t + length (shares_from t [] xs)))) → Fine (sharing scope t (shares_from t [] xs) code)
  sharing_ok xs t code small up go room =
      let ss = shares_from t [] xs in
      let h = begun_ok size claims f scope ok xs t small (omega (arith, up, room)) in
      append (share_code ss) (code ss (t + length ss)).code (shares_ok size claims f scope ok ss h) (go h room)

  set_ok : (x : ℕ) (e : high.Expr) (t : ℕ) → Fine (set_code scope x e t)
  set_ok x e t = by_test (nat_lt x scope.variables) refl
    where
      inner : Coded
      inner = sharing scope t (shares_from t [] (scaled_in scope e)) (λ shares u. value_into scope shares e x u)

      by_test : (b : Bool) → nat_lt x scope.variables ≡ b → Fine (only_if b t inner)
      by_test false is room = tt
      by_test true is room =
          let low = ltb-true x scope.variables is in
          let registers = ok.registers in
          let ss = shares_from t [] (scaled_in scope e) in
          let g = grows scope ss e in
          let up = g.into x (t + length ss) in
          sharing_ok (scaled_in scope e) t (λ shares u. value_into scope shares e x u) (scaled_below scope e) up
          (λ h fits. value_ok size claims f scope ok ss h e x (t + length ss) (omega (arith, low, registers)) fits) room

  put_ok : (e : high.Expr) (t : ℕ) → Fine (put_code scope e t)
  put_ok e t room =
      let ss = shares_from t [] (scaled_in scope e) in
      let u = t + length ss in
      let v = operand scope ss e u in
      let up = operand_free scope ss e u in
      let h = begun_ok size claims f scope ok (scaled_in scope e) t (scaled_below scope e) (omega (arith, up, room)) in
      let k = found_ok size claims f scope ok ss h e u room in
      append (share_code ss) _ (shares_ok size claims f scope ok ss h) (append v.code _ k.0 (k.1, tt))

  get_ok : (x t : ℕ) → Fine (get_code scope x t)
  get_ok x t = by_test (nat_lt x scope.variables) refl
    where
      by_test : (b : Bool) → nat_lt x scope.variables ≡ b → Fine (only_if b t (coded (Do (Get x)) t))
      by_test false is room = tt
      by_test true is room = let low = ltb-true x scope.variables is in let registers = ok.registers in (omega (arith, low, registers), tt)

  store_ok : (b : Option (Base ℕ)) (kind : HighKind) (u : ℕ) (o : Offset) (v : Valued) → ((c : Base ℕ) → b ≡ Some c → BaseOk size scope.objects claims f c) → (Codes size claims f scope ok o.code × RegisterOk size scope.objects claims f o.register) → (Codes size claims f scope ok v.code × OperandOk size scope.objects claims f v.value) → Codes size claims f scope ok (store_by b kind u o v).code
  store_ok None kind u o v base h k = tt
  store_ok (Some b) kind u o v base h k = append o.code _ h.0 (append v.code _ k.0 (((base b refl, h.1), k.1), tt))

  keep_ok : (array : Array) (i e : high.Expr) (t : ℕ) → Fine (keep_code scope array i e t)
  keep_ok array i e t = by_base (base_of scope array.base) (λ c is. base_ok size claims f scope ok array.base c is)
    where
      xs : List Scaled
      xs = scaled_in scope (high.Element array i) ++ scaled_in scope e

      ss : List Share
      ss = shares_from t [] xs

      u : ℕ
      u = t + length ss

      o : Offset
      o = offset_of ss (scale_of array.kind) (index_of scope ss i u)

      small : ScaledBelow scope.variables xs
      small = two_below scope (scaled_in scope (high.Element array i)) (scaled_in scope e) (scaled_below scope (high.Element array i)) (scaled_below scope e)

      by_base : (b : Option (Base ℕ)) → ((c : Base ℕ) → b ≡ Some c → BaseOk size scope.objects claims f c) → Fine (sharing scope t ss (λ shares n. store_at b array.kind n (offset_of shares (scale_of array.kind) (index_of scope shares i n)) (operand scope shares e)))
      by_base None base room = append (share_code ss) [] (shares_ok size claims f scope ok ss (begun_ok size claims f scope ok xs t small room)) tt
      by_base (Some b) base room =
          let g = grows scope ss i in
          let up = g.index u in
          let up2 = offset_grows scope ss (scale_of array.kind) (index_of scope ss i u).part.value (index_of scope ss i u) in
          let v = operand scope ss e o.free in
          let up3 = operand_free scope ss e o.free in
          let h = begun_ok size claims f scope ok xs t small (omega (arith, up, up2, up3, room)) in
          let ho = offset_ok size claims f scope ok ss h (scale_of array.kind) (index_of scope ss i u) (index_ok size claims f scope ok ss h i u) (omega (arith, up3, room)) in
          let hv = found_ok size claims f scope ok ss h e o.free room in
          append (share_code ss) _ (shares_ok size claims f scope ok ss h) (store_ok (Some b) array.kind u o v base ho hv)

  into_ok : (into : Option ℕ) → RegisterOk size scope.objects claims f (into_there scope into)
  into_ok None = tt
  into_ok (Some x) = by_test (nat_lt x scope.variables) refl
    where
      by_test : (b : Bool) → nat_lt x scope.variables ≡ b → RegisterOk size scope.objects claims f (if b then Some x else None)
      by_test false is = tt
      by_test true is = let low = ltb-true x scope.variables is in let registers = ok.registers in omega (arith, low, registers)

  call_ok : (g : ℕ) (es : List high.Expr) (bs : List HighBase) (into : Option ℕ) (t : ℕ) → place_in scope.order g < f → Fine (call_code scope g es bs into t)
  call_ok g es bs into t lower room =
      let ss = shares_from t [] (scaled_in_all scope es) in
      let u = t + length ss in
      let p = values_passed scope ss es bs u in
      let up = values_free scope ss es bs u in
      let h = begun_ok size claims f scope ok (scaled_in_all scope es) t (all_scaled_below scope es) (omega (arith, up, room)) in
      let k = passing_ok size claims f scope ok ss h es bs u room in
      append (share_code ss) _ (shares_ok size claims f scope ok ss h) (append p.code _ k.0 ((into_ok into, (k.1, lower)), tt))

  abbrev pub BlockIs : Block ℕ Note → Type 0
  BlockIs b = BlockOk size scope.objects claims f b

  abbrev pub BlocksAre : List (Block ℕ Note) → Type 0
  BlocksAre bs = BlocksOk size scope.objects claims f bs

  abbrev pub PieceIs : Piece → Type 0
  PieceIs p = BlockIs p.first × BlocksAre p.new

  blocks_append : (xs ys : List (Block ℕ Note)) → BlocksAre xs → BlocksAre ys → BlocksAre (xs ++ ys)
  blocks_append [] ys h k = k
  blocks_append (x ∷ xs) ys h k = (h.0, blocks_append xs ys h.1 k)

  landed_ok : (n : ℕ) (p : Piece) → PieceIs p → BlocksAre (landed n p).new
  landed_ok n p h = by_first p.first.mark p.first.code p.first.end
    where
      by_first : (m : Option ℕ) (c : Code) (e : End ℕ) → BlocksAre (landed_by m c e n p).new
      by_first (Some m) c e = h
      by_first None (i ∷ is) e = h
      by_first None [] (Branch c x y taken other) = h
      by_first None [] (Return x) = h
      by_first None [] (Jump b) = h.1

  before_ok : (n : ℕ) (k : Block ℕ Note) (c : Coded) → Fine c → (before n k c).free ≤ size → BlockIs k → PieceIs (before n k c)
  before_ok n k c h room g = let same = before_free n k c in by_mark k.mark (h (omega (arith, same, room)))
    where
      by_mark : (m : Option ℕ) → Codes size claims f scope ok c.code → PieceIs (before_by m c.code n k c.free)
      by_mark None code = ((append c.code k.code code g.0, g.1), tt)
      by_mark (Some m) code = ((code, tt), (g, tt))

  marked_ok : (o : Option ℕ) (m n t : ℕ) (k : Block ℕ Note) → BlockIs k → PieceIs (marked_by o m n k t)
  marked_ok None m n t k g = (g, tt)
  marked_ok (Some l) m n t k g = ((tt, tt), (g, tt))

  -- the functions that are called have lower numbers
  abbrev Lower : ℕ → Type 0
  Lower g = place_in scope.order g < f

  mutual
    pub piece_ok : (s : high.Statement) (exits : List ℕ) (n t : ℕ) (k : Block ℕ Note) → (piece scope s exits n t k).free ≤ size → AllOf (λ g. place_in scope.order g < f) (callees_of s) → BlockIs k → PieceIs (piece scope s exits n t k)
    piece_ok (high.Set x e) exits n t k room calls h = before_ok n k (set_code scope x e t) (set_ok x e t) room h
    piece_ok (high.Put e) exits n t k room calls h = before_ok n k (put_code scope e t) (put_ok e t) room h
    piece_ok (high.Get x) exits n t k room calls h = before_ok n k (get_code scope x t) (get_ok x t) room h
    piece_ok (high.Keep array i e) exits n t k room calls h = before_ok n k (keep_code scope array i (kept_value array.kind e) t) (keep_ok array i (kept_value array.kind e) t) room h
    piece_ok (high.Mark m) exits n t k room calls h = marked_ok k.mark m n t k h
    piece_ok (high.Seq parts) exits n t k room calls h = all_ok parts exits n t k room calls h
    piece_ok (high.If test first other) exits n t k room calls h =
        let join = landed n (one_block k t) in
        let m = n + length join.new in
        let p = piece scope other exits m t (only_jump join.goal) in
        let b = landed m p in
        let m2 = m + length b.new in
        let r = piece scope first exits m2 b.free (only_jump join.goal) in
        let a = landed m2 r in
        let ep = landed_free m p in
        let er = landed_free m2 r in
        let up_r = piece_free scope first exits m2 b.free (only_jump join.goal) in
        let up_t = test_free scope test a.free in
        let ss = shares_from a.free [] (scaled_in scope test) in
        let u = a.free + length ss in
        let d = tested scope ss test u in
        let up_d = tested_free scope ss test u in
        let hs = begun_ok size claims f scope ok (scaled_in scope test) a.free (scaled_below scope test) (omega (arith, up_d, room)) in
        let ht = tested_ok size claims f scope ok ss hs test u room in
        let hp = piece_ok other exits m t (only_jump join.goal) (omega (arith, room, up_t, er, up_r, ep)) (of_back Lower (callees_of first) (callees_of other) calls) (tt, tt) in
        let hr = piece_ok first exits m2 b.free (only_jump join.goal) (omega (arith, room, up_t, er)) (of_front Lower (callees_of first) (callees_of other) calls) (tt, tt) in
        ((append (share_code ss) d.code (shares_ok size claims f scope ok ss hs) ht.0, ht.1), blocks_append a.new (b.new ++ join.new) (landed_ok m2 r hr) (blocks_append b.new join.new (landed_ok m p hp) (landed_ok n (one_block k t) (h, tt))))
    piece_ok (high.Loop id least most body) exits n t k room calls h =
        let b = piece scope body exits (suc n) t (only_jump n) in
        let header = suc n + length b.new in
        let g = piece_ok body exits (suc n) t (only_jump n) room calls (tt, tt) in
        ((tt, tt), (g.0, blocks_append b.new (only_jump header ∷ []) g.1 ((tt, tt), tt)))
    piece_ok (high.Block body) exits n t k room calls h =
        let join = landed n (one_block k t) in
        let p = piece scope body (join.goal ∷ exits) (n + length join.new) t (only_jump join.goal) in
        let g = piece_ok body (join.goal ∷ exits) (n + length join.new) t (only_jump join.goal) room calls (tt, tt) in
        (g.0, blocks_append p.new join.new g.1 (landed_ok n (one_block k t) (h, tt)))
    piece_ok (high.Leave d) exits n t k room calls h = ((tt, tt), tt)
    piece_ok (high.Call g values arrays into) exits n t k room calls h = before_ok n k (call_code scope g values arrays into t) (call_ok g values arrays into t calls.0) room h
    piece_ok (high.Return e) exits n t k room calls h =
        let ss = shares_from t [] (scaled_in scope e) in
        let u = t + length ss in
        let v = operand scope ss e u in
        let up = operand_free scope ss e u in
        let hs = begun_ok size claims f scope ok (scaled_in scope e) t (scaled_below scope e) (omega (arith, up, room)) in
        let g = found_ok size claims f scope ok ss hs e u room in
        ((append (share_code ss) v.code (shares_ok size claims f scope ok ss hs) g.0, g.1), tt)

    pub all_ok : (ss : high.Statements) (exits : List ℕ) (n t : ℕ) (k : Block ℕ Note) → (pieces scope ss exits n t k).free ≤ size → AllOf (λ g. place_in scope.order g < f) (callees_of_all ss) → BlockIs k → PieceIs (pieces scope ss exits n t k)
    all_ok high.End exits n t k room calls h = (h, tt)
    all_ok (high.Then first rest) exits n t k room calls h =
        let r = pieces scope rest exits n t k in
        let p = piece scope first exits (n + length r.new) r.free r.first in
        let up = piece_free scope first exits (n + length r.new) r.free r.first in
        let hr = all_ok rest exits n t k (omega (arith, room, up)) (of_back Lower (callees_of first) (callees_of_all rest) calls) h in
        let hp = piece_ok first exits (n + length r.new) r.free r.first room (of_front Lower (callees_of first) (callees_of_all rest) calls) hr.0 in
        (hp.0, blocks_append p.new r.new hp.1 hr.1)
