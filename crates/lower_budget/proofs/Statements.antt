-- What the code of statements costs.
use Rattle.std.proofs.Common.{◌≡◌, ℕ, suc, ◌+◌, ◌*◌, ◌≤◌, Bool, true, false, List, [], ◌∷◌, ◌++◌, length, Option, Some, None, refl, arith, length-append}
use Rattle.std.specs.Prelude.{if◌then◌else◌, nat_lt, sum_by}
use Rattle.std.proofs.lemmas.List.Sums.{sum_by-cons}
use Rattle.rv_core.specs.declared.row.Condition.{Condition}
use Rattle.high_ir.specs.declared.object.Array.{Array}
use Rattle.high_ir.specs.declared.object.Base.{Base as HighBase}
use Rattle.high_ir.specs.declared.object.Base.TheVariants.{Object, Parameter}
use Rattle.high_ir.specs.declared.object.Kind.{Kind as HighKind}
use Rattle.high_ir.specs.declared.expression.UnaryOperator.{UnaryOperator}
use Rattle.high_ir.specs.declared.expression.UnaryOperator.TheVariants.{Negate, Complement, IsZero, Convert}
use Rattle.high_ir.specs.Size.{expr_operations}
use Rattle.high_ir.specs.Tree as high
use Rattle.high_ir.specs.Words.{same_kind}
use Rattle.low_ir.specs.Code.{Base, Call, Constant, Do, Fixed, Get, Point, Put, Register, Store, Through}
use Rattle.low_ir.specs.Room.{far_room, offset_room}
use Rattle.lower_definition.specs.Calls.{place_in}
use Rattle.lower_definition.specs.Objects.{kind_of, scale_of}
use Rattle.lower_definition.specs.Operators.{condition_of, only}
use Rattle.lower_definition.specs.Values.{Scope, Share, Scaled, Coded, Valued, Offset, Passing, Tested, address, arrays_passed, base_of, coded, compared, index_of, index_register, leaf, negated_or, offset_of, operand, passed_array, scaled_as, scaled_in, scaled_in_all, share_code, shares_from, tested, unless_zero, value_into, values_passed}
use Rattle.lower_definition.specs.Statements.{call_code, get_code, into_there, keep_code, kept_of_unary, kept_value, only_if, put_code, return_block, set_code, sharing, store_at, store_by, test_code, unconverted}
use Rattle.lower_budget.specs.Costs.{code_worth}
use Rattle.lower_budget.proofs.Covers.{Covers, covers_back, covers_front, from_count, from_covers}
use Rattle.lower_budget.proofs.Operators.{code_worth-append}
use Rattle.lower_budget.proofs.Amounts.{amount}
use Rattle.lower_budget.proofs.Values.{access_most, as_most, asked, costs, far, moved, operand_cost, slack}

module _ (worth : ℕ → ℕ) (scope : Scope) where
  -- code that so much pays for, with more, and so many operations for its registers
  pub record Cost (n m more t : ℕ) (c : Coded) : Type 0 where
    pub room : code_worth worth c.code ≤ 16 * n + more
    pub free : c.free ≤ t + 2 * m

  share_room : (ss : List Share) → code_worth worth (share_code ss) ≡ 7 * length ss
  share_room [] = refl
  share_room (s ∷ ss) = let h = share_room ss in omega (arith, h)

  pub nothing_cost : (n m t : ℕ) → Cost n m 0 t (record { code = []; free = t })
  nothing_cost n m t = record { room = omega arith; free = omega arith }

  -- the shares of a statement
  abbrev pub shares_at : List Scaled → ℕ → List Share
  shares_at xs t = shares_from t [] xs

  abbrev after_shares : List Scaled → ℕ → ℕ
  after_shares xs t = t + length (shares_at xs t)

  -- code behind that of shares
  shared_cost : (xs : List Scaled) (n m more t : ℕ) (code : List Share → ℕ → Coded) → code_worth worth (code (shares_at xs t) (after_shares xs t)).code + 7 * length xs ≤ 16 * n + more → (code (shares_at xs t) (after_shares xs t)).free + length xs ≤ after_shares xs t + 2 * m → Cost n m more t (sharing scope t (shares_at xs t) code)
  shared_cost xs n m more t code a b =
      let ss = shares_at xs t in
      let e = code_worth-append worth (share_code ss) (code ss (t + length ss)).code in
      let k = share_room ss in
      let c = from_count t xs [] in
      record { room = omega (arith, a, e, k, c); free = omega (arith, b, c) }

  pub set_cost : (x : ℕ) (e : high.Expr) (t : ℕ) → Cost (amount scope.shifts e + 1) (expr_operations e + 1) 0 t (set_code scope x e t)
  set_cost x e t = by_test (nat_lt x scope.variables)
    where
      xs : List Scaled
      xs = scaled_in scope e

      inner : Coded
      inner = sharing scope t (shares_at xs t) (λ shares u. value_into scope shares e x u)

      small : (o : _) → slack o ≤ 4
      small None = omega arith
      small (Some y) = omega arith

      by_test : (b : Bool) → Cost (amount scope.shifts e + 1) (expr_operations e + 1) 0 t (only_if b t inner)
      by_test false = nothing_cost (amount scope.shifts e + 1) (expr_operations e + 1) t
      by_test true =
          let c = costs worth scope (shares_at xs t) e (from_covers t xs []) in
          let a = c.into_room x (after_shares xs t) in
          let b = c.into_free x (after_shares xs t) in
          let s = small (leaf scope e) in
          shared_cost xs (amount scope.shifts e + 1) (expr_operations e + 1) 0 t (λ shares u. value_into scope shares e x u) (omega (arith, a, s)) (omega (arith, b))

  pub put_cost : (e : high.Expr) (t : ℕ) → Cost (amount scope.shifts e + 1) (expr_operations e + 1) 0 t (put_code scope e t)
  put_cost e t =
      let xs = scaled_in scope e in
      let ss = shares_at xs t in
      let u = after_shares xs t in
      let v = operand scope ss e u in
      let c = operand_cost worth scope ss e u (from_covers t xs []) in
      let a = c.room in
      let b = c.free in
      let p = code_worth-append worth (share_code ss) (v.code ++ only (Do (Put v.value))) in
      let p2 = code_worth-append worth v.code (only (Do (Put v.value))) in
      let k = share_room ss in
      let m = from_count t xs [] in
      record { room = omega (arith, a, p, p2, k, m); free = omega (arith, b, m) }

  pub get_cost : (x t : ℕ) → Cost 1 1 0 t (get_code scope x t)
  get_cost x t = by_test (nat_lt x scope.variables)
    where
      by_test : (b : Bool) → Cost 1 1 0 t (only_if b t (coded (Do (Get x)) t))
      by_test false = nothing_cost 1 1 t
      by_test true = record { room = omega arith; free = omega arith }

  store_room : (b : Base ℕ) (kind : HighKind) (o : Offset) (v : Valued) (c : ℕ) → offset_room o.register + far_room o.displacement ≤ 3 + far c → code_worth worth (o.code ++ (v.code ++ only (Do (Store (kind_of kind) (address b o) v.value)))) ≤ code_worth worth o.code + code_worth worth v.code + 8 + far c
  store_room (Fixed n) kind o v c h =
      let own_code = only (Do (Store (kind_of kind) (address (Fixed n) o) v.value)) in
      let e = code_worth-append worth o.code (v.code ++ own_code) in
      let e2 = code_worth-append worth v.code own_code in
      let f = access_most n o.register o.displacement in
      omega (arith, e, e2, f)
  store_room (Through r n) kind o v c h =
      let own_code = only (Do (Store (kind_of kind) (address (Through r n) o) v.value)) in
      let e = code_worth-append worth o.code (v.code ++ own_code) in
      let e2 = code_worth-append worth v.code own_code in
      omega (arith, e, e2, h)

  pub keep_cost : (array : Array) (i e : high.Expr) (t : ℕ) → Cost (amount scope.shifts i + amount scope.shifts e + 1) (expr_operations i + expr_operations e + 1) 0 t (keep_code scope array i e t)
  keep_cost array i e t = by_base (base_of scope array.base)
    where
      k : ℕ
      k = scale_of array.kind

      entries : List Scaled
      entries = scaled_as k (index_register scope i)

      xs : List Scaled
      xs = (entries ++ scaled_in scope i) ++ scaled_in scope e

      n : ℕ
      n = amount scope.shifts i + amount scope.shifts e + 1

      m : ℕ
      m = expr_operations i + expr_operations e + 1

      ss : List Share
      ss = shares_at xs t

      u : ℕ
      u = after_shares xs t

      covers : Covers ss xs
      covers = from_covers t xs []

      total : length xs ≡ length entries + length (scaled_in scope i) + length (scaled_in scope e)
      total = let a = length-append (entries ++ scaled_in scope i) (scaled_in scope e) in let b = length-append entries (scaled_in scope i) in omega (arith, a, b)

      by_base : (b : Option (Base ℕ)) → Cost n m 0 t (sharing scope t ss (λ shares w. store_at b array.kind w (offset_of shares k (index_of scope shares i w)) (operand scope shares e)))
      by_base b =
          let both = covers_front ss (entries ++ scaled_in scope i) (scaled_in scope e) covers in
          let ci = costs worth scope ss i (covers_back ss entries (scaled_in scope i) both) in
          let ix = index_of scope ss i u in
          let mv = moved worth scope ss k ix.part.value ix (index_register scope i) (ci.known u) (covers_front ss entries (scaled_in scope i) both) in
          let o = offset_of ss k ix in
          let v = operand scope ss e o.free in
          let f = operand_cost worth scope ss e o.free (covers_back ss (entries ++ scaled_in scope i) (scaled_in scope e) covers) in
          let a = ci.index_room u in
          let a2 = ci.index_free u in
          let b1 = mv.room in
          let b2 = mv.free in
          let d1 = f.room in
          let d2 = f.free in
          let few = ci.index_free 0 in
          let ce = costs worth scope ss e (covers_back ss (entries ++ scaled_in scope i) (scaled_in scope e) covers) in
          let few2 = ce.index_free 0 in
          let few3 = as_most k (index_register scope i) in
          shared_cost xs n m 0 t (λ shares w. store_at b array.kind w (offset_of shares k (index_of scope shares i w)) (operand scope shares e))
          (store_fits b array.kind u o v (far ix.constant) (16 * n + 0) (λ c. store_room c array.kind o v ix.constant mv.address) (omega (arith, a, b1, d1, total)) (omega (arith, a, b1, d1, total)))
          (store_free b array.kind u o v (u + 2 * m) (omega (arith, a2, b2, d2, total)) (omega (arith, few, few2, few3, total)))
        where
          store_fits : (b : Option (Base ℕ)) (kind : HighKind) (u : ℕ) (o : Offset) (v : Valued) (c limit : ℕ) → ((b : Base ℕ) → code_worth worth (o.code ++ (v.code ++ only (Do (Store (kind_of kind) (address b o) v.value)))) ≤ code_worth worth o.code + code_worth worth v.code + 8 + c) → code_worth worth o.code + code_worth worth v.code + 8 + c + 7 * length xs ≤ limit → 7 * length xs ≤ limit → code_worth worth (store_by b kind u o v).code + 7 * length xs ≤ limit
          store_fits None kind u o v c limit h j z = omega (arith, z)
          store_fits (Some b) kind u o v c limit h j z = let x = h b in omega (arith, x, j)

          store_free : (b : Option (Base ℕ)) (kind : HighKind) (u : ℕ) (o : Offset) (v : Valued) (limit : ℕ) → v.free + length xs ≤ limit → u + length xs ≤ limit → (store_by b kind u o v).free + length xs ≤ limit
          store_free None kind u o v limit h z = z
          store_free (Some b) kind u o v limit h z = h

  -- a value that is kept costs no more than the one it stands for
  kept_less : (kind : HighKind) (e : high.Expr) → expr_operations (kept_value kind e) ≤ expr_operations e
  kept_less kind (high.Constant w) = omega arith
  kept_less kind (high.Variable x) = omega arith
  kept_less kind (high.Element array i) = omega arith
  kept_less kind (high.Unary operator e) = by_operator operator
    where
      by_same : (b : Bool) (to : _) → expr_operations (unconverted b (high.Unary (Convert to) e) e) ≤ expr_operations e + 1
      by_same true to = omega arith
      by_same false to = omega arith

      by_operator : (operator : UnaryOperator) → expr_operations (kept_of_unary kind operator (high.Unary operator e) e) ≤ expr_operations e + 1
      by_operator Negate = omega arith
      by_operator Complement = omega arith
      by_operator IsZero = omega arith
      by_operator (Convert to) = by_same (same_kind to kind) to
  kept_less kind (high.Binary operator left right) = omega arith

  kept_lighter : (kind : HighKind) (e : high.Expr) → amount scope.shifts (kept_value kind e) ≤ amount scope.shifts e
  kept_lighter kind (high.Constant w) = omega arith
  kept_lighter kind (high.Variable x) = omega arith
  kept_lighter kind (high.Element array i) = omega arith
  kept_lighter kind (high.Unary operator e) = by_operator operator
    where
      by_same : (b : Bool) (to : _) → amount scope.shifts (unconverted b (high.Unary (Convert to) e) e) ≤ amount scope.shifts e + 1
      by_same true to = omega arith
      by_same false to = omega arith

      by_operator : (operator : UnaryOperator) → amount scope.shifts (kept_of_unary kind operator (high.Unary operator e) e) ≤ amount scope.shifts e + 1
      by_operator Negate = omega arith
      by_operator Complement = omega arith
      by_operator IsZero = omega arith
      by_operator (Convert to) = by_same (same_kind to kind) to
  kept_lighter kind (high.Binary operator left right) = omega arith

  pub kept_cost : (array : Array) (i e : high.Expr) (t : ℕ) → Cost (amount scope.shifts i + amount scope.shifts e + 1) (expr_operations i + expr_operations e + 1) 0 t (keep_code scope array i (kept_value array.kind e) t)
  kept_cost array i e t =
      let c = keep_cost array i (kept_value array.kind e) t in
      let a = c.room in
      let b = c.free in
      let k = kept_lighter array.kind e in
      let l = kept_less array.kind e in
      record { room = omega (arith, a, k); free = omega (arith, b, l) }

  -- what a call is given
  record Passed (n m asks t : ℕ) (p : Passing) : Type 0 where
    room : code_worth worth p.code + 10 * length p.arguments + 7 * asks ≤ 16 * n
    free : p.free + asks ≤ t + 2 * m

  -- an array that is passed
  record Pointed (t : ℕ) (v : Valued) : Type 0 where
    room : code_worth worth v.code ≤ 4
    free : v.free ≤ suc t

  array_cost : (b : HighBase) (t : ℕ) → Pointed t (passed_array scope b t)
  array_cost (Object o) t = by_test (nat_lt o scope.objects)
    where
      by_test : (b : Bool) → Pointed t (if b then record { code = only (Do (Point t (record { base = Fixed o; offset = None; displacement = 0 }))); value = Register t; free = suc t } else record { code = []; value = Constant 0; free = t })
      by_test true = record { room = omega arith; free = omega arith }
      by_test false = record { room = omega arith; free = omega arith }
  array_cost (Parameter j) t = record { room = omega arith; free = omega arith }

  arrays_cost : (bs : List HighBase) (t : ℕ) → Passed (length bs) (length bs) 0 t (arrays_passed scope bs t)
  arrays_cost [] t = record { room = omega arith; free = omega arith }
  arrays_cost (b ∷ bs) t =
      let v = passed_array scope b t in
      let one = array_cost b t in
      let h = arrays_cost bs v.free in
      let a = one.room in
      let a2 = one.free in
      let c = h.room in
      let c2 = h.free in
      let e = code_worth-append worth v.code (arrays_passed scope bs v.free).code in
      record { room = omega (arith, a, c, e); free = omega (arith, a2, c2) }

  values_cost : (ss : List Share) (es : List high.Expr) (bs : List HighBase) (t : ℕ) → Covers ss (scaled_in_all scope es) → Passed (sum_by (amount scope.shifts) es + length es + length bs) (sum_by expr_operations es + length es + length bs) (length (scaled_in_all scope es)) t (values_passed scope ss es bs t)
  values_cost ss [] bs t covers =
      let h = arrays_cost bs t in
      let a = h.room in
      let b = h.free in
      record { room = omega (arith, a); free = omega (arith, b) }
  values_cost ss (e ∷ es) bs t covers =
      let v = operand scope ss e t in
      let f = operand_cost worth scope ss e t (covers_front ss (scaled_in scope e) (scaled_in_all scope es) covers) in
      let h = values_cost ss es bs v.free (covers_back ss (scaled_in scope e) (scaled_in_all scope es) covers) in
      let a = f.room in
      let a2 = f.free in
      let c = h.room in
      let c2 = h.free in
      let x = code_worth-append worth v.code (values_passed scope ss es bs v.free).code in
      let sum = sum_by-cons expr_operations e es in
      let pays = sum_by-cons (amount scope.shifts) e es in
      let total = length-append (scaled_in scope e) (scaled_in_all scope es) in
      record { room = omega (arith, a, c, x, pays, total); free = omega (arith, a2, c2, sum, total) }

  pub call_cost : (g : ℕ) (es : List high.Expr) (bs : List HighBase) (into : Option ℕ) (t : ℕ) → Cost (sum_by (amount scope.shifts) es + length es + length bs + 1) (sum_by expr_operations es + length es + length bs + 1) (worth (place_in scope.order g)) t (call_code scope g es bs into t)
  call_cost g es bs into t =
      let xs = scaled_in_all scope es in
      let ss = shares_at xs t in
      let u = after_shares xs t in
      let p = values_passed scope ss es bs u in
      let h = values_cost ss es bs u (from_covers t xs []) in
      let a = h.room in
      let b = h.free in
      let own_code = only (Call (into_there scope into) (place_in scope.order g) p.arguments tt) in
      let e = code_worth-append worth (share_code ss) (p.code ++ own_code) in
      let e2 = code_worth-append worth p.code own_code in
      let k = share_room ss in
      let m = from_count t xs [] in
      record { room = omega (arith, a, e, e2, k, m); free = omega (arith, b, m) }

  -- tests
  record Tests (e : high.Expr) (t : ℕ) (b : Tested) : Type 0 where
    room : code_worth worth b.code + 7 * asked worth scope e ≤ 16 * amount scope.shifts e
    free : b.free + asked worth scope e ≤ t + 2 * expr_operations e

  unless_cost : (e : high.Expr) (t : ℕ) (v : Valued) → code_worth worth v.code + 7 * asked worth scope e ≤ 16 * amount scope.shifts e → v.free + asked worth scope e ≤ t + 2 * expr_operations e → Tests e t (unless_zero v)
  unless_cost e t v a b = record { room = a; free = b }

  negated_cost : (operator : UnaryOperator) (e : high.Expr) (t : ℕ) (inner whole : Tested) → Tests e t inner → Tests (high.Unary operator e) t whole → Tests (high.Unary operator e) t (negated_or operator inner whole)
  negated_cost IsZero e t inner whole h k = let a = h.room in let b = h.free in record { room = omega (arith, a); free = omega (arith, b) }
  negated_cost Negate e t inner whole h k = k
  negated_cost Complement e t inner whole h k = k
  negated_cost (Convert kind) e t inner whole h k = k

  module _ (ss : List Share) where
    by_value : (e : high.Expr) (t : ℕ) → Covers ss (scaled_in scope e) → Tests e t (unless_zero (operand scope ss e t))
    by_value e t covers = let f = operand_cost worth scope ss e t covers in unless_cost e t (operand scope ss e t) f.room f.free

    compared_cost : (o : Option Condition) (left right : high.Expr) (t : ℕ) (whole : Valued) (n m asks : ℕ) → Covers ss (scaled_in scope left) → Covers ss (scaled_in scope right) → amount scope.shifts left + amount scope.shifts right ≤ n → expr_operations left + expr_operations right ≤ m → asks ≡ asked worth scope left + asked worth scope right → code_worth worth whole.code + 7 * asks ≤ 16 * n → whole.free + asks ≤ t + 2 * m
        → (code_worth worth (compared o (operand scope ss left t) (operand scope ss right) whole).code + 7 * asks ≤ 16 * n) × ((compared o (operand scope ss left t) (operand scope ss right) whole).free + asks ≤ t + 2 * m)
    compared_cost None left right t whole n m asks cl cr low few same a b = (a, b)
    compared_cost (Some c) left right t whole n m asks cl cr low few same a b =
        let x = operand scope ss left t in
        let y = operand scope ss right x.free in
        let f = operand_cost worth scope ss left t cl in
        let g = operand_cost worth scope ss right x.free cr in
        let a1 = f.room in
        let a2 = f.free in
        let b1 = g.room in
        let b2 = g.free in
        let e = code_worth-append worth x.code y.code in
        (omega (arith, a1, b1, e, low, same), omega (arith, a2, b2, few, same))

    tests_cost : (e : high.Expr) (t : ℕ) → Covers ss (scaled_in scope e) → Tests e t (tested scope ss e t)
    tests_cost (high.Constant w) t covers = by_value (high.Constant w) t covers
    tests_cost (high.Variable x) t covers = by_value (high.Variable x) t covers
    tests_cost (high.Element array index) t covers = by_value (high.Element array index) t covers
    tests_cost (high.Unary operator e) t covers = negated_cost operator e t (tested scope ss e t) (unless_zero (operand scope ss (high.Unary operator e) t)) (tests_cost e t covers) (by_value (high.Unary operator e) t covers)
    tests_cost (high.Binary operator left right) t covers =
        let h = by_value (high.Binary operator left right) t covers in
        let total = length-append (scaled_in scope left) (scaled_in scope right) in
        let k = compared_cost (condition_of operator) left right t (operand scope ss (high.Binary operator left right) t) (amount scope.shifts left + amount scope.shifts right + 1) (expr_operations left + expr_operations right + 1) (asked worth scope (high.Binary operator left right))
        (covers_front ss (scaled_in scope left) (scaled_in scope right) covers) (covers_back ss (scaled_in scope left) (scaled_in scope right) covers) (omega arith) (omega arith) total h.room h.free in
        record { room = k.0; free = k.1 }

  pub record TestCost (e : high.Expr) (t : ℕ) (b : Tested) : Type 0 where
    pub room : code_worth worth b.code ≤ 16 * amount scope.shifts e
    pub free : b.free ≤ t + 2 * expr_operations e

  pub test_cost : (e : high.Expr) (t : ℕ) → TestCost e t (test_code scope e t)
  test_cost e t =
      let xs = scaled_in scope e in
      let ss = shares_at xs t in
      let u = after_shares xs t in
      let h = tests_cost ss e u (from_covers t xs []) in
      let a = h.room in
      let b = h.free in
      let x = code_worth-append worth (share_code ss) (tested scope ss e u).code in
      let k = share_room ss in
      let m = from_count t xs [] in
      record { room = omega (arith, a, x, k, m); free = omega (arith, b, m) }

  pub return_cost : (e : high.Expr) (t : ℕ) → (code_worth worth (return_block scope e t).first.code ≤ 16 * amount scope.shifts e) × ((return_block scope e t).free ≤ t + 2 * expr_operations e)
  return_cost e t =
      let xs = scaled_in scope e in
      let ss = shares_at xs t in
      let u = after_shares xs t in
      let v = operand scope ss e u in
      let c = operand_cost worth scope ss e u (from_covers t xs []) in
      let a = c.room in
      let b = c.free in
      let p = code_worth-append worth (share_code ss) v.code in
      let k = share_room ss in
      let m = from_count t xs [] in
      (omega (arith, a, p, k, m), omega (arith, b, m))
