-- What the addresses in the code of a function begin at: what its arrays are found at.
use Rattle.std.proofs.Common.{◌≡◌, ℕ, zero, suc, ◌+◌, Bool, true, false, List, [], ◌∷◌, ◌++◌, length, map, Option, Some, None, refl, ap}
use Rattle.std.specs.Prelude.{All, if◌then◌else◌, nat_lt}
use Rattle.std.proofs.lemmas.List.Elements.{All-cons, All-nil}
use Rattle.rv_core.specs.declared.row.Alu.{Alu}
use Rattle.rv_core.specs.declared.row.Alu.TheVariants as alu
use Rattle.rv_core.specs.declared.row.Condition.{Condition}
use Rattle.high_ir.specs.declared.object.Array.{Array}
use Rattle.high_ir.specs.declared.object.Base.{Base as HighBase}
use Rattle.high_ir.specs.declared.object.Base.TheVariants.{Object, Parameter}
use Rattle.high_ir.specs.declared.object.Kind.{Kind as HighKind}
use Rattle.high_ir.specs.declared.object.Kind.TheVariants.{Unsigned8, Signed8, Unsigned16, Signed16, Word}
use Rattle.high_ir.specs.declared.expression.UnaryOperator.{UnaryOperator}
use Rattle.high_ir.specs.declared.expression.UnaryOperator.TheVariants.{Negate, Complement, IsZero, Convert}
use Rattle.high_ir.specs.declared.expression.BinaryOperator.{BinaryOperator}
use Rattle.high_ir.specs.declared.expression.BinaryOperator.TheVariants.{Add, Subtract, Multiply, Divide, DivideUnsigned, Remainder, RemainderUnsigned, And, Or, Xor, ShiftLeft, ShiftRight, ShiftRightUnsigned, Equal, NotEqual, Less, LessUnsigned, AtLeast, AtLeastUnsigned}
use Rattle.high_ir.specs.Tree as high
use Rattle.low_ir.specs.declared.object.Kind.{Kind}
use Rattle.low_ir.specs.Code.{Address, Operand, Register, Constant, Base, Fixed, Set, Operate, Point, Load, Store, Put, Get, Instr, Do, Call, End, Jump, Branch, Return, Block, Note}
use Rattle.low_ir.specs.Formed.{addresses, only_jump}
use Rattle.lower_definition.specs.Objects.{kind_of, scale_of}
use Rattle.lower_definition.specs.Operators.{Code, binary_code, condition_of, convert_code, difference, divided, divisor_exponent, exponent_of, in_order, masked, only, product, quotient, quotient_unsigned, remainder_unsigned, shifted, times, unary_code}
use Rattle.lower_definition.specs.Values.{Scope, Share, Coded, Valued, Index, Offset, Tested, arrays_passed, base_of, coded, compared, element_into, first_free, forms, in_register, index_of, leaf, load_into, minus, negated_or, offset_by, offset_of, operand, operand_by, passed_array, plain_index, plus, scaled, scaled_by, scaled_in, scaled_in_all, share_code, shared, shares_from, sides_into, split, tested, unary_into, unless_zero, value_into, values_passed}
use Rattle.lower_definition.specs.Statements.{Piece, before, before_by, block, call_code, get_code, keep_code, kept_value, landed, landed_by, marked_by, one_block, only_if, piece, pieces, put_code, set_code, store_by}
use Rattle.lower_definition.specs.Programs.{body_piece, lowered_function, turned}

module _ (P : Base ℕ → Type 0) where
  abbrev pub InstrBegins : Instr ℕ Note → Type 0
  InstrBegins (Do (Set d x)) = Unit {0}
  InstrBegins (Do (Operate operator d x y)) = Unit {0}
  InstrBegins (Do (Point d a)) = P a.base
  InstrBegins (Do (Load kind d a)) = P a.base
  InstrBegins (Do (Store kind a x)) = P a.base
  InstrBegins (Do (Put x)) = Unit {0}
  InstrBegins (Do (Get d)) = Unit {0}
  InstrBegins (Call into f args note) = Unit {0}

  abbrev pub CodeBegins : Code → Type 0
  CodeBegins [] = Unit {0}
  CodeBegins (i ∷ is) = InstrBegins i × CodeBegins is

  append : (xs ys : Code) → CodeBegins xs → CodeBegins ys → CodeBegins (xs ++ ys)
  append [] ys h k = k
  append (x ∷ xs) ys h k = (h.0, append xs ys h.1 k)

  -- operators have no addresses
  in_order_begins : (operator : Alu) (d : ℕ) (x y : Operand ℕ) → InstrBegins (in_order operator d x y)
  in_order_begins operator d (Register r) y = tt
  in_order_begins operator d (Constant w) y = tt

  difference_begins : (d : ℕ) (x y : Operand ℕ) → InstrBegins (difference d x y)
  difference_begins d x (Register r) = tt
  difference_begins d x (Constant w) = tt

  shifted_begins : (operator shift : Alu) (d : ℕ) (x : Operand ℕ) (w : ℕ) (o : Option ℕ) → InstrBegins (shifted operator shift d x w o)
  shifted_begins operator shift d x w None = tt
  shifted_begins operator shift d x w (Some k) = tt

  masked_begins : (d : ℕ) (x : Operand ℕ) (w : ℕ) (o : Option ℕ) → InstrBegins (masked d x w o)
  masked_begins d x w None = tt
  masked_begins d x w (Some k) = tt

  times_begins : (d : ℕ) (x : Operand ℕ) (w : ℕ) → InstrBegins (times d x w)
  times_begins d x w = shifted_begins alu.Product alu.ShiftLeft d x w (exponent_of w)

  product_begins : (d : ℕ) (x y : Operand ℕ) → InstrBegins (product d x y)
  product_begins d (Register r) (Register s) = tt
  product_begins d (Register r) (Constant w) = times_begins d (Register r) w
  product_begins d (Constant w) y = times_begins d y w

  quotient_begins : (d : ℕ) (x y : Operand ℕ) → InstrBegins (quotient_unsigned d x y)
  quotient_begins d x (Register r) = tt
  quotient_begins d x (Constant w) = shifted_begins alu.QuotientUnsigned alu.ShiftRight d x w (exponent_of w)

  remainder_begins : (d : ℕ) (x y : Operand ℕ) → InstrBegins (remainder_unsigned d x y)
  remainder_begins d x (Register r) = tt
  remainder_begins d x (Constant w) = masked_begins d x w (exponent_of w)

  divided_begins : (d t : ℕ) (x : Operand ℕ) (w : ℕ) (o : Option ℕ) → CodeBegins (divided d t x w o)
  divided_begins d t x w None = (tt, tt)
  divided_begins d t x w (Some k) = (tt, (tt, (tt, (tt, tt))))

  signed_begins : (shifts : Bool) (d t : ℕ) (x y : Operand ℕ) → CodeBegins (quotient shifts d t x y)
  signed_begins false d t x y = (tt, tt)
  signed_begins true d t x (Register r) = (tt, tt)
  signed_begins true d t x (Constant w) = divided_begins d t x w (divisor_exponent w)

  binary_begins : (shifts : Bool) (operator : BinaryOperator) (d t : ℕ) (x y : Operand ℕ) → CodeBegins (binary_code shifts operator d t x y)
  binary_begins shifts Add d t x y = (in_order_begins alu.Sum d x y, tt)
  binary_begins shifts Subtract d t x y = (difference_begins d x y, tt)
  binary_begins shifts Multiply d t x y = (product_begins d x y, tt)
  binary_begins shifts Divide d t x y = signed_begins shifts d t x y
  binary_begins shifts DivideUnsigned d t x y = (quotient_begins d x y, tt)
  binary_begins shifts Remainder d t x y = (tt, tt)
  binary_begins shifts RemainderUnsigned d t x y = (remainder_begins d x y, tt)
  binary_begins shifts And d t x y = (in_order_begins alu.BitAnd d x y, tt)
  binary_begins shifts Or d t x y = (in_order_begins alu.BitOr d x y, tt)
  binary_begins shifts Xor d t x y = (in_order_begins alu.BitXor d x y, tt)
  binary_begins shifts ShiftLeft d t x y = (tt, tt)
  binary_begins shifts ShiftRight d t x y = (tt, tt)
  binary_begins shifts ShiftRightUnsigned d t x y = (tt, tt)
  binary_begins shifts Equal d t x y = (in_order_begins alu.BitXor t x y, (tt, tt))
  binary_begins shifts NotEqual d t x y = (in_order_begins alu.BitXor t x y, (tt, tt))
  binary_begins shifts Less d t x y = (tt, tt)
  binary_begins shifts LessUnsigned d t x y = (tt, tt)
  binary_begins shifts AtLeast d t x y = (tt, (tt, tt))
  binary_begins shifts AtLeastUnsigned d t x y = (tt, (tt, tt))

  convert_begins : (kind : HighKind) (d t : ℕ) (x : Operand ℕ) → CodeBegins (convert_code kind d t x)
  convert_begins Unsigned8 d t x = (tt, tt)
  convert_begins Signed8 d t x = (tt, (tt, tt))
  convert_begins Unsigned16 d t x = (tt, (tt, tt))
  convert_begins Signed16 d t x = (tt, (tt, tt))
  convert_begins Word d t x = (tt, tt)

  unary_begins : (operator : UnaryOperator) (d t : ℕ) (x : Operand ℕ) → CodeBegins (unary_code operator d t x)
  unary_begins Negate d t x = (tt, tt)
  unary_begins Complement d t x = (tt, tt)
  unary_begins IsZero d t x = (tt, tt)
  unary_begins (Convert kind) d t x = convert_begins kind d t x

  shares_begin : (ss : List Share) → CodeBegins (share_code ss)
  shares_begin [] = tt
  shares_begin (s ∷ ss) = (tt, shares_begin ss)

  module _ (scope : Scope) (named : (b : HighBase) (c : Base ℕ) → base_of scope b ≡ Some c → P c) where
    module _ (shares : List Share) where
      scaled_by_begins : (o : Option ℕ) (scale r : ℕ) (i : Index) → CodeBegins i.part.code → CodeBegins (scaled_by o scale r i).code
      scaled_by_begins (Some s) scale r i h = h
      scaled_by_begins None scale r i h = append i.part.code _ h (tt, tt)

      scaled_begins : (scale r : ℕ) (i : Index) → CodeBegins i.part.code → CodeBegins (scaled shares scale r i).code
      scaled_begins zero r i h = h
      scaled_begins (suc k) r i h = scaled_by_begins (shared shares r (suc k)) (suc k) r i h

      offset_by_begins : (scale : ℕ) (x : Operand ℕ) (i : Index) → CodeBegins i.part.code → CodeBegins (offset_by shares scale x i).code
      offset_by_begins scale (Constant w) i h = h
      offset_by_begins scale (Register r) i h = scaled_begins scale r i h

      offset_begins : (scale : ℕ) (i : Index) → CodeBegins i.part.code → CodeBegins (offset_of shares scale i).code
      offset_begins scale i h = offset_by_begins scale i.part.value i h

      load_begins : (kind : Kind) (d : ℕ) (b : Option (Base ℕ)) (o : Offset) → ((c : Base ℕ) → b ≡ Some c → P c) → CodeBegins o.code → CodeBegins (load_into kind d b o).code
      load_begins kind d None o base h = (tt, tt)
      load_begins kind d (Some b) o base h = append o.code _ h (base b refl, tt)

      element_begins : (array : Array) (d : ℕ) (i : Index) → CodeBegins i.part.code → CodeBegins (element_into scope shares array d i).code
      element_begins array d i h = load_begins (kind_of array.kind) d (base_of scope array.base) (offset_of shares (scale_of array.kind) i) (λ c e. named array.base c e) (offset_begins (scale_of array.kind) i h)

      record FormBegins (e : high.Expr) : Type 0 where
        into : (d t : ℕ) → CodeBegins ((forms scope shares e).into d t).code
        index : (t : ℕ) → CodeBegins ((forms scope shares e).index t).part.code

      operand_begins : (e : high.Expr) (t : ℕ) → FormBegins e → CodeBegins (operand scope shares e t).code
      operand_begins e t h = by_leaf (leaf scope e)
        where
          by_leaf : (o : Option (Operand ℕ)) → CodeBegins (operand_by o (forms scope shares e).into t).code
          by_leaf (Some x) = tt
          by_leaf None = h.into t (suc t)

      unary_form : (operator : UnaryOperator) (d : ℕ) (x : Valued) → CodeBegins x.code → CodeBegins (unary_into operator d x).code
      unary_form operator d x h = append x.code _ h (unary_begins operator d x.free x.value)

      sides_form : (operator : BinaryOperator) (d t : ℕ) (left right : high.Expr) → FormBegins left → FormBegins right → CodeBegins (sides_into scope.shifts operator d (operand scope shares left t) (operand scope shares right)).code
      sides_form operator d t left right h k =
          let x = operand scope shares left t in
          let y = operand scope shares right x.free in
          append x.code _ (operand_begins left t h) (append y.code _ (operand_begins right x.free k) (binary_begins scope.shifts operator d y.free x.value y.value))

      plus_begins : (v : Valued) (o : Option (Operand ℕ)) (other : Index) → CodeBegins v.code → CodeBegins other.part.code → CodeBegins (plus v o other).part.code
      plus_begins v (Some (Constant w)) other h k = h
      plus_begins v (Some (Register r)) other h k = k
      plus_begins v None other h k = k

      minus_begins : (v : Valued) (o : Option (Operand ℕ)) (other : Index) → CodeBegins v.code → CodeBegins other.part.code → CodeBegins (minus v o other).part.code
      minus_begins v (Some (Constant w)) other h k = h
      minus_begins v (Some (Register r)) other h k = k
      minus_begins v None other h k = k

      split_begins : (operator : BinaryOperator) (left right : Option (Operand ℕ)) (l r : Valued) (whole : Index) → CodeBegins l.code → CodeBegins r.code → CodeBegins whole.part.code → CodeBegins (split operator left right l r whole).part.code
      split_begins Add left right l r whole a b c = plus_begins l right (plus r left whole) a (plus_begins r left whole b c)
      split_begins Subtract left right l r whole a b c = minus_begins l right whole a c
      split_begins Multiply left right l r whole a b c = c
      split_begins Divide left right l r whole a b c = c
      split_begins DivideUnsigned left right l r whole a b c = c
      split_begins Remainder left right l r whole a b c = c
      split_begins RemainderUnsigned left right l r whole a b c = c
      split_begins And left right l r whole a b c = c
      split_begins Or left right l r whole a b c = c
      split_begins Xor left right l r whole a b c = c
      split_begins ShiftLeft left right l r whole a b c = c
      split_begins ShiftRight left right l r whole a b c = c
      split_begins ShiftRightUnsigned left right l r whole a b c = c
      split_begins Equal left right l r whole a b c = c
      split_begins NotEqual left right l r whole a b c = c
      split_begins Less left right l r whole a b c = c
      split_begins LessUnsigned left right l r whole a b c = c
      split_begins AtLeast left right l r whole a b c = c
      split_begins AtLeastUnsigned left right l r whole a b c = c

      form_begins : (e : high.Expr) → FormBegins e
      form_begins (high.Constant w) = record { into = λ d t. (tt, tt); index = λ t. tt }
      form_begins (high.Variable x) = record { into = λ d t. (tt, tt); index = λ t. tt }
      form_begins (high.Element array index) =
          let h = form_begins index in
          record {
            into = λ d t. element_begins array d ((forms scope shares index).index t) (h.index t);
            index = λ t. element_begins array t ((forms scope shares index).index (suc t)) (h.index (suc t));
          }
      form_begins (high.Unary operator e) =
          let h = form_begins e in
          record {
            into = λ d t. unary_form operator d (operand scope shares e t) (operand_begins e t h);
            index = λ t. unary_form operator t (operand scope shares e (suc t)) (operand_begins e (suc t) h);
          }
      form_begins (high.Binary operator left right) =
          let h = form_begins left in
          let k = form_begins right in
          record {
            into = λ d t. sides_form operator d t left right h k;
            index = λ t. split_begins operator (leaf scope left) (leaf scope right) (operand scope shares left t) (operand scope shares right t)
                (plain_index (in_register t (sides_into scope.shifts operator t (operand scope shares left (suc t)) (operand scope shares right)))) (operand_begins left t h) (operand_begins right t k)
                (sides_form operator t (suc t) left right h k);
          }

      value_begins : (e : high.Expr) (d t : ℕ) → CodeBegins (value_into scope shares e d t).code
      value_begins e d t = let h = form_begins e in h.into d t

      found_begins : (e : high.Expr) (t : ℕ) → CodeBegins (operand scope shares e t).code
      found_begins e t = operand_begins e t (form_begins e)

      index_begins : (e : high.Expr) (t : ℕ) → CodeBegins (index_of scope shares e t).part.code
      index_begins e t = let h = form_begins e in h.index t

      compared_begins : (o : Option Condition) (left right : high.Expr) (t : ℕ) (whole : Valued) → CodeBegins whole.code → CodeBegins (compared o (operand scope shares left t) (operand scope shares right) whole).code
      compared_begins None left right t whole h = h
      compared_begins (Some c) left right t whole h =
          let x = operand scope shares left t in
          let y = operand scope shares right x.free in
          append x.code y.code (found_begins left t) (found_begins right x.free)

      negated_begins : (operator : UnaryOperator) (inner whole : Tested) → CodeBegins inner.code → CodeBegins whole.code → CodeBegins (negated_or operator inner whole).code
      negated_begins IsZero inner whole h k = h
      negated_begins Negate inner whole h k = k
      negated_begins Complement inner whole h k = k
      negated_begins (Convert kind) inner whole h k = k

      tested_begins : (e : high.Expr) (t : ℕ) → CodeBegins (tested scope shares e t).code
      tested_begins (high.Constant w) t = found_begins (high.Constant w) t
      tested_begins (high.Variable x) t = found_begins (high.Variable x) t
      tested_begins (high.Element array index) t = found_begins (high.Element array index) t
      tested_begins (high.Unary operator e) t = negated_begins operator (tested scope shares e t) (unless_zero (operand scope shares (high.Unary operator e) t)) (tested_begins e t) (found_begins (high.Unary operator e) t)
      tested_begins (high.Binary operator left right) t = compared_begins (condition_of operator) left right t (operand scope shares (high.Binary operator left right) t) (found_begins (high.Binary operator left right) t)

      abbrev Found : Valued → Type 0
      Found v = CodeBegins v.code

      array_begins : (b : HighBase) (t : ℕ) → CodeBegins (passed_array scope b t).code
      array_begins (Object o) t = by_test (nat_lt o scope.objects) refl
        where
          by_test : (c : Bool) → nat_lt o scope.objects ≡ c → Found (if c then record { code = only (Do (Point t (record { base = Fixed o; offset = None; displacement = 0 }))); value = Register t; free = suc t } else record { code = []; value = Constant 0; free = t })
          by_test true e = (named (Object o) (Fixed o) (ap (λ c. if c then Some (Fixed o) else None) e), tt)
          by_test false e = tt
      array_begins (Parameter j) t = tt

      arrays_begin : (bs : List HighBase) (t : ℕ) → CodeBegins (arrays_passed scope bs t).code
      arrays_begin [] t = tt
      arrays_begin (b ∷ bs) t = let v = passed_array scope b t in append v.code _ (array_begins b t) (arrays_begin bs v.free)

      passing_begins : (es : List high.Expr) (bs : List HighBase) (t : ℕ) → CodeBegins (values_passed scope shares es bs t).code
      passing_begins [] bs t = arrays_begin bs t
      passing_begins (e ∷ es) bs t = let v = operand scope shares e t in append v.code _ (found_begins e t) (passing_begins es bs v.free)

    -- the code of statements, which begins with that of their shares
    set_begins : (x : ℕ) (e : high.Expr) (t : ℕ) → CodeBegins (set_code scope x e t).code
    set_begins x e t = by_test (nat_lt x scope.variables)
      where
        ss : List Share
        ss = shares_from t [] (scaled_in scope e)

        inner : Coded
        inner = let v = value_into scope ss e x (t + length ss) in record { code = share_code ss ++ v.code; free = v.free }

        by_test : (b : Bool) → CodeBegins (only_if b t inner).code
        by_test false = tt
        by_test true = append (share_code ss) _ (shares_begin ss) (value_begins ss e x (t + length ss))

    put_begins : (e : high.Expr) (t : ℕ) → CodeBegins (put_code scope e t).code
    put_begins e t =
        let ss = shares_from t [] (scaled_in scope e) in
        let v = operand scope ss e (t + length ss) in
        append (share_code ss) _ (shares_begin ss) (append v.code _ (found_begins ss e (t + length ss)) (tt, tt))

    get_begins : (x t : ℕ) → CodeBegins (get_code scope x t).code
    get_begins x t = by_test (nat_lt x scope.variables)
      where
        by_test : (b : Bool) → CodeBegins (only_if b t (coded (Do (Get x)) t)).code
        by_test false = tt
        by_test true = (tt, tt)

    store_begins : (b : Option (Base ℕ)) (kind : HighKind) (u : ℕ) (o : Offset) (v : Valued) → ((c : Base ℕ) → b ≡ Some c → P c) → CodeBegins o.code → CodeBegins v.code → CodeBegins (store_by b kind u o v).code
    store_begins None kind u o v base h k = tt
    store_begins (Some b) kind u o v base h k = append o.code _ h (append v.code _ k (base b refl, tt))

    keep_begins : (array : Array) (i e : high.Expr) (t : ℕ) → CodeBegins (keep_code scope array i e t).code
    keep_begins array i e t =
        let ss = shares_from t [] (scaled_in scope (high.Element array i) ++ scaled_in scope e) in
        let u = t + length ss in
        let index = index_of scope ss i u in
        let o = offset_of ss (scale_of array.kind) index in
        append (share_code ss) _ (shares_begin ss)
        (store_begins (base_of scope array.base) array.kind u o (operand scope ss e o.free) (λ c is. named array.base c is) (offset_begins ss (scale_of array.kind) index (index_begins ss i u)) (found_begins ss e o.free))

    call_begins : (g : ℕ) (es : List high.Expr) (bs : List HighBase) (into : Option ℕ) (t : ℕ) → CodeBegins (call_code scope g es bs into t).code
    call_begins g es bs into t =
        let ss = shares_from t [] (scaled_in_all scope es) in
        let p = values_passed scope ss es bs (t + length ss) in
        append (share_code ss) _ (shares_begin ss) (append p.code _ (passing_begins ss es bs (t + length ss)) (tt, tt))

    abbrev BlockBegins : Block ℕ Note → Type 0
    BlockBegins b = CodeBegins b.code

    abbrev BlocksBegin : List (Block ℕ Note) → Type 0
    BlocksBegin [] = Unit {0}
    BlocksBegin (b ∷ bs) = BlockBegins b × BlocksBegin bs

    abbrev PieceBegins : Piece → Type 0
    PieceBegins p = BlockBegins p.first × BlocksBegin p.new

    blocks_append : (xs ys : List (Block ℕ Note)) → BlocksBegin xs → BlocksBegin ys → BlocksBegin (xs ++ ys)
    blocks_append [] ys h k = k
    blocks_append (x ∷ xs) ys h k = (h.0, blocks_append xs ys h.1 k)

    landed_begins : (n : ℕ) (p : Piece) → PieceBegins p → BlocksBegin (landed n p).new
    landed_begins n p h = by_first p.first.mark p.first.code p.first.end
      where
        by_first : (m : Option ℕ) (c : Code) (e : End ℕ) → BlocksBegin (landed_by m c e n p).new
        by_first (Some m) c e = h
        by_first None (i ∷ is) e = h
        by_first None [] (Branch c x y taken other) = h
        by_first None [] (Return x) = h
        by_first None [] (Jump b) = h.1

    before_begins : (n : ℕ) (k : Block ℕ Note) (c : Coded) → CodeBegins c.code → BlockBegins k → PieceBegins (before n k c)
    before_begins n k c h g = by_mark k.mark
      where
        by_mark : (m : Option ℕ) → PieceBegins (before_by m c.code n k c.free)
        by_mark None = (append c.code k.code h g, tt)
        by_mark (Some m) = (h, (g, tt))

    marked_begins : (o : Option ℕ) (m n t : ℕ) (k : Block ℕ Note) → BlockBegins k → PieceBegins (marked_by o m n k t)
    marked_begins None m n t k g = (g, tt)
    marked_begins (Some l) m n t k g = (tt, (g, tt))

    mutual
      piece_begins : (s : high.Statement) (exits : List ℕ) (n t : ℕ) (k : Block ℕ Note) → BlockBegins k → PieceBegins (piece scope s exits n t k)
      piece_begins (high.Set x e) exits n t k h = before_begins n k (set_code scope x e t) (set_begins x e t) h
      piece_begins (high.Put e) exits n t k h = before_begins n k (put_code scope e t) (put_begins e t) h
      piece_begins (high.Get x) exits n t k h = before_begins n k (get_code scope x t) (get_begins x t) h
      piece_begins (high.Keep array i e) exits n t k h = before_begins n k (keep_code scope array i (kept_value array.kind e) t) (keep_begins array i (kept_value array.kind e) t) h
      piece_begins (high.Mark m) exits n t k h = marked_begins k.mark m n t k h
      piece_begins (high.Seq parts) exits n t k h = all_begin parts exits n t k h
      piece_begins (high.If test first other) exits n t k h =
          let join = landed n (one_block k t) in
          let m = n + length join.new in
          let p = piece scope other exits m t (only_jump join.goal) in
          let b = landed m p in
          let m2 = m + length b.new in
          let r = piece scope first exits m2 b.free (only_jump join.goal) in
          let a = landed m2 r in
          let ss = shares_from a.free [] (scaled_in scope test) in
          let d = tested scope ss test (a.free + length ss) in (
            append (share_code ss) d.code (shares_begin ss) (tested_begins ss test (a.free + length ss)),
            blocks_append a.new (b.new ++ join.new) (landed_begins m2 r (piece_begins first exits m2 b.free (only_jump join.goal) tt)) (blocks_append b.new join.new (landed_begins m p (piece_begins other exits m t (only_jump join.goal) tt)) (landed_begins n (one_block k t) (h, tt))),
          )
      piece_begins (high.Loop id least most body) exits n t k h =
          let b = piece scope body exits (suc n) t (only_jump n) in
          let g = piece_begins body exits (suc n) t (only_jump n) tt in
          (tt, (g.0, blocks_append b.new (only_jump (suc n + length b.new) ∷ []) g.1 (tt, tt)))
      piece_begins (high.Block body) exits n t k h =
          let join = landed n (one_block k t) in
          let p = piece scope body (join.goal ∷ exits) (n + length join.new) t (only_jump join.goal) in
          let g = piece_begins body (join.goal ∷ exits) (n + length join.new) t (only_jump join.goal) tt in
          (g.0, blocks_append p.new join.new g.1 (landed_begins n (one_block k t) (h, tt)))
      piece_begins (high.Leave d) exits n t k h = (tt, tt)
      piece_begins (high.Call g values arrays into) exits n t k h = before_begins n k (call_code scope g values arrays into t) (call_begins g values arrays into t) h
      piece_begins (high.Return e) exits n t k h =
          let ss = shares_from t [] (scaled_in scope e) in
          let v = operand scope ss e (t + length ss) in
          (append (share_code ss) v.code (shares_begin ss) (found_begins ss e (t + length ss)), tt)

      all_begin : (ss : high.Statements) (exits : List ℕ) (n t : ℕ) (k : Block ℕ Note) → BlockBegins k → PieceBegins (pieces scope ss exits n t k)
      all_begin high.End exits n t k h = (h, tt)
      all_begin (high.Then first rest) exits n t k h =
          let r = pieces scope rest exits n t k in
          let p = piece scope first exits (n + length r.new) r.free r.first in
          let hr = all_begin rest exits n t k h in
          let hp = piece_begins first exits (n + length r.new) r.free r.first hr.0 in
          (hp.0, blocks_append p.new r.new hp.1 hr.1)

    -- each address of an instruction, of a block, of a function
    abbrev Begins : Address ℕ → Type 0
    Begins a = P a.base

    one_begins : (a : Address ℕ) → P a.base → All Begins (a ∷ [])
    one_begins a h = All-cons Begins a [] h (All-nil Begins)

    instr_begins : (i : Instr ℕ Note) → InstrBegins i → All Begins (addresses i)
    instr_begins (Do (Set d x)) h = All-nil Begins
    instr_begins (Do (Operate operator d x y)) h = All-nil Begins
    instr_begins (Do (Point d a)) h = one_begins a h
    instr_begins (Do (Load kind d a)) h = one_begins a h
    instr_begins (Do (Store kind a x)) h = one_begins a h
    instr_begins (Do (Put x)) h = All-nil Begins
    instr_begins (Do (Get d)) h = All-nil Begins
    instr_begins (Call into f args note) h = All-nil Begins

    abbrev pub CodeAt : Block ℕ Note → Type 0
    CodeAt b = All (λ (i : Instr ℕ Note). All (λ (a : Address ℕ). P a.base) (addresses i)) b.code

    code_at : (is : Code) → CodeBegins is → All (λ (i : Instr ℕ Note). All (λ (a : Address ℕ). P a.base) (addresses i)) is
    code_at [] h = All-nil (λ (i : Instr ℕ Note). All (λ (a : Address ℕ). P a.base) (addresses i))
    code_at (i ∷ is) h = All-cons (λ (i : Instr ℕ Note). All (λ (a : Address ℕ). P a.base) (addresses i)) i is (instr_begins i h.0) (code_at is h.1)

    blocks_at : (last : ℕ) (bs : List (Block ℕ Note)) → BlocksBegin bs → All CodeAt (map (turned last) bs)
    blocks_at last [] h = All-nil CodeAt
    blocks_at last (b ∷ bs) h = All-cons CodeAt (turned last b) (map (turned last) bs) (code_at b.code h.0) (blocks_at last bs h.1)

    pub function_begins : (f : ℕ) (h : high.Function) → All CodeAt (lowered_function scope f h).blocks
    function_begins f h =
        let p = body_piece scope f h.body in
        blocks_at (length p.new) (p.first ∷ p.new) (all_begin (high.Then (high.Mark f) (high.Then h.body high.End)) [] 0 (first_free scope) (block [] (Return (Constant 0))) tt)
