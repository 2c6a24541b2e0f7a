-- What the code of expressions names.
use Rattle.std.proofs.Common.{◌≡◌, ℕ, zero, suc, ◌+◌, ◌<◌, ◌≤◌, Bool, true, false, List, [], ◌∷◌, ◌++◌, length, Option, Some, None, refl, subst, arith, length-append}
use Rattle.std.specs.Prelude.{◌==◌, ◌&&◌, if◌then◌else◌, nat_lt, slice_get}
use Rattle.std.proofs.lemmas.Bool.{ltb-true}
use Rattle.std.proofs.lemmas.Option.{same_Some, slice_get_within}
use Rattle.rv_core.specs.declared.row.Condition.{Condition}
use Rattle.high_ir.specs.declared.object.Array.{Array}
use Rattle.high_ir.specs.declared.object.Base.{Base as HighBase}
use Rattle.high_ir.specs.declared.object.Base.TheVariants.{Object, Parameter}
use Rattle.high_ir.specs.declared.expression.UnaryOperator.{UnaryOperator}
use Rattle.high_ir.specs.declared.expression.UnaryOperator.TheVariants.{Negate, Complement, IsZero, Convert}
use Rattle.high_ir.specs.declared.expression.BinaryOperator.{BinaryOperator}
use Rattle.high_ir.specs.declared.expression.BinaryOperator.TheVariants.{Add, Subtract, Multiply, Divide, DivideUnsigned, Remainder, RemainderUnsigned, And, Or, Xor, ShiftLeft, ShiftRight, ShiftRightUnsigned, Equal, NotEqual, Less, LessUnsigned, AtLeast, AtLeastUnsigned}
use Rattle.high_ir.specs.Tree as high
use Rattle.low_ir.specs.Code.{Operand, Register, Constant, Base, Fixed, Through, Point, Do}
use Rattle.low_ir.specs.declared.object.Kind.{Kind}
use Rattle.lower_definition.specs.Objects.{kind_of, scale_of}
use Rattle.lower_definition.specs.Operators.{Code, condition_of, only, unary_code}
use Rattle.lower_definition.specs.Values.{Scope, Share, Coded, Valued, Index, Offset, Tested, Passing, arrays_passed, base_of, compared, element_into, first_free, forms, in_register, index_of, index_register, is_constant, leaf, load_into, minus, negated_or, offset_by, offset_of, operand, operand_by, passed_array, plain_index, plus, pointer, register_of, Scaled, scaled, scaled_as, scaled_by, scaled_in, scaled_in_all, share_code, shared, shares_from, sides_into, split, split_register, tested, then_passed, through, unary_into, unless_zero, value_into, values_passed, variable, with_share}
use Rattle.lower_values.proofs.Values.{grows, offset_grows, operand_free}
use Rattle.lower_values.proofs.Passing.{values_free}
use Rattle.lower_budget.specs.Names.{BaseOk, CodeOk, OperandOk, OperandsOk, RegisterOk}
use Rattle.lower_budget.proofs.FormedOperators.{binary_ok, code_append, unary_ok}

-- the registers of shares, and the variables that they hold
abbrev pub SharesBelow : (variables registers : ℕ) → List Share → Type 0
SharesBelow v n [] = Unit {0}
SharesBelow v n (s ∷ ss) = ((s.variable < v) × (s.register < n)) × SharesBelow v n ss

abbrev pub ScaledBelow : ℕ → List Scaled → Type 0
ScaledBelow v [] = Unit {0}
ScaledBelow v (x ∷ xs) = (x.variable < v) × ScaledBelow v xs

shares_wider : (v n m : ℕ) (ss : List Share) → n ≤ m → SharesBelow v n ss → SharesBelow v m ss
shares_wider v n m [] low h = tt
shares_wider v n m (s ∷ ss) low h = let k = h.0.1 in ((h.0.0, omega (arith, low, k)), shares_wider v n m ss low h.1)

shares_append : (v n : ℕ) (xs ys : List Share) → SharesBelow v n xs → SharesBelow v n ys → SharesBelow v n (xs ++ ys)
shares_append v n [] ys h k = k
shares_append v n (x ∷ xs) ys h k = (h.0, shares_append v n xs ys h.1 k)

pub from_below : (v t : ℕ) (xs : List Scaled) (ss : List Share) → ScaledBelow v xs → SharesBelow v (t + length ss) ss → SharesBelow v (t + length (shares_from t ss xs)) (shares_from t ss xs)
from_below v t [] ss h k = k
from_below v t (x ∷ xs) ss h k = by_share (shared ss x.variable x.scale) (λ ss2 k2. from_below v t xs ss2 h.1 k2)
  where
    by_share : (o : Option ℕ) → ((ss2 : List Share) → SharesBelow v (t + length ss2) ss2 → SharesBelow v (t + length (shares_from t ss2 xs)) (shares_from t ss2 xs)) → SharesBelow v (t + length (shares_from t (with_share o x t ss) xs)) (shares_from t (with_share o x t ss) xs)
    by_share (Some r) go = go ss k
    by_share None go =
        let n : Share = record { variable = x.variable; scale = x.scale; register = t + length ss } in
        let total = length-append ss (n ∷ []) in
        go (ss ++ n ∷ []) (shares_append v (t + length (ss ++ n ∷ [])) ss (n ∷ []) (shares_wider v (t + length ss) (t + length (ss ++ n ∷ [])) ss (omega (arith, total)) k) ((h.0, omega (arith, total)), tt))

scaled_append : (v : ℕ) (xs ys : List Scaled) → ScaledBelow v xs → ScaledBelow v ys → ScaledBelow v (xs ++ ys)
scaled_append v [] ys h k = k
scaled_append v (x ∷ xs) ys h k = (h.0, scaled_append v xs ys h.1 k)

module _ (scope : Scope) where
  abbrev Small : Option ℕ → Type 0
  Small None = Unit {0}
  Small (Some r) = r < scope.variables

  variable_small : (x : ℕ) → Small (register_of (Some (variable scope x)))
  variable_small x = by_test (nat_lt x scope.variables) refl
    where
      by_test : (b : Bool) → nat_lt x scope.variables ≡ b → Small (register_of (Some (if b then Register x else Constant 0)))
      by_test true t = ltb-true x scope.variables t
      by_test false t = tt

  leaf_small : (e : high.Expr) → Small (register_of (leaf scope e))
  leaf_small (high.Constant w) = tt
  leaf_small (high.Variable x) = variable_small x
  leaf_small (high.Element array index) = tt
  leaf_small (high.Unary operator e) = tt
  leaf_small (high.Binary operator left right) = tt

  small_if : (b : Bool) (x y : Option ℕ) → Small x → Small y → Small (if b then x else y)
  small_if true x y h k = h
  small_if false x y h k = k

  split_small : (operator : BinaryOperator) (left right : Option (Operand ℕ)) → Small (register_of left) → Small (register_of right) → Small (split_register operator left right)
  split_small Add left right h k = small_if (is_constant right) (register_of left) (if is_constant left then register_of right else None) h (small_if (is_constant left) (register_of right) None k tt)
  split_small Subtract left right h k = small_if (is_constant right) (register_of left) None h tt
  split_small Multiply left right h k = tt
  split_small Divide left right h k = tt
  split_small DivideUnsigned left right h k = tt
  split_small Remainder left right h k = tt
  split_small RemainderUnsigned left right h k = tt
  split_small And left right h k = tt
  split_small Or left right h k = tt
  split_small Xor left right h k = tt
  split_small ShiftLeft left right h k = tt
  split_small ShiftRight left right h k = tt
  split_small ShiftRightUnsigned left right h k = tt
  split_small Equal left right h k = tt
  split_small NotEqual left right h k = tt
  split_small Less left right h k = tt
  split_small LessUnsigned left right h k = tt
  split_small AtLeast left right h k = tt
  split_small AtLeastUnsigned left right h k = tt

  index_small : (e : high.Expr) → Small (index_register scope e)
  index_small (high.Constant w) = tt
  index_small (high.Variable x) = variable_small x
  index_small (high.Element array index) = tt
  index_small (high.Unary operator e) = tt
  index_small (high.Binary operator left right) = split_small operator (leaf scope left) (leaf scope right) (leaf_small left) (leaf_small right)

  as_small : (k : ℕ) (o : Option ℕ) → Small o → ScaledBelow scope.variables (scaled_as k o)
  as_small zero o h = tt
  as_small (suc k) None h = tt
  as_small (suc k) (Some x) h = (h, tt)

  pub scaled_below : (e : high.Expr) → ScaledBelow scope.variables (scaled_in scope e)
  scaled_below (high.Constant w) = tt
  scaled_below (high.Variable x) = tt
  scaled_below (high.Element array index) =
      scaled_append scope.variables (scaled_as (scale_of array.kind) (index_register scope index)) (scaled_in scope index) (as_small (scale_of array.kind) (index_register scope index) (index_small index)) (scaled_below index)
  scaled_below (high.Unary operator e) = scaled_below e
  scaled_below (high.Binary operator left right) = scaled_append scope.variables (scaled_in scope left) (scaled_in scope right) (scaled_below left) (scaled_below right)

  pub two_below : (xs ys : List Scaled) → ScaledBelow scope.variables xs → ScaledBelow scope.variables ys → ScaledBelow scope.variables (xs ++ ys)
  two_below xs ys h k = scaled_append scope.variables xs ys h k

  pub all_scaled_below : (es : List high.Expr) → ScaledBelow scope.variables (scaled_in_all scope es)
  all_scaled_below [] = tt
  all_scaled_below (e ∷ es) = scaled_append scope.variables (scaled_in scope e) (scaled_in_all scope es) (scaled_below e) (all_scaled_below es)

-- the scope of a function, where there are so many registers and claims
pub record ScopeOk (size claims : ℕ) (scope : Scope) : Type 0 where
  pub registers : first_free scope ≤ size
  pub claimed : (j c : ℕ) → slice_get scope.claims j ≡ Some (Some c) → c < claims

module _ (size claims f : ℕ) (scope : Scope) (ok : ScopeOk size claims scope) where
  abbrev pub Is : Operand ℕ → Type 0
  Is x = OperandOk size scope.objects claims f x

  abbrev pub Codes : Code → Type 0
  Codes c = CodeOk size scope.objects claims f c

  -- code and its operand
  abbrev pub Finds : Valued → Type 0
  Finds v = v.free ≤ size → Codes v.code × Is v.value

  append : (xs ys : Code) → Codes xs → Codes ys → Codes (xs ++ ys)
  append xs ys h k = code_append size scope.objects claims f xs ys h k

  pub variable_ok : (x : ℕ) → Is (variable scope x)
  variable_ok x = by_test (nat_lt x scope.variables) refl
    where
      by_test : (b : Bool) → nat_lt x scope.variables ≡ b → Is (if b then Register x else Constant 0)
      by_test true t = let h = ltb-true x scope.variables t in let k = ok.registers in omega (arith, h, k)
      by_test false t = tt

  pub base_ok : (b : HighBase) (c : Base ℕ) → base_of scope b ≡ Some c → BaseOk size scope.objects claims f c
  base_ok (Object o) c e = by_test (nat_lt o scope.objects) refl e
    where
      by_test : (t : Bool) → nat_lt o scope.objects ≡ t → (if t then Some (Fixed o) else None) ≡ Some c → BaseOk size scope.objects claims f c
      by_test true t e = subst (BaseOk size scope.objects claims f) (same_Some (Fixed o) c e) (ltb-true o scope.objects t)
      by_test false t e = cc
  base_ok (Parameter j) c e = by_claim (slice_get scope.claims j) refl e
    where
      by_claim : (o : Option (Option ℕ)) → slice_get scope.claims j ≡ o → through (pointer scope j) o ≡ Some c → BaseOk size scope.objects claims f c
      by_claim None is e = cc
      by_claim (Some None) is e = cc
      by_claim (Some (Some claim)) is e =
          let low = slice_get_within scope.claims j (Some claim) is in
          let k = ok.registers in
          subst (BaseOk size scope.objects claims f) (same_Some (Through (pointer scope j) claim) c e) (omega (arith, low, k), ok.claimed j claim is)

  module _ (shares : List Share) (sharing : SharesBelow size size shares) where
    shared_ok : (x k : ℕ) → RegisterOk size scope.objects claims f (shared shares x k)
    shared_ok x k = among shares sharing
      where
        among : (ss : List Share) → SharesBelow size size ss → RegisterOk size scope.objects claims f (shared ss x k)
        among [] h = tt
        among (s ∷ ss) h = by_test ((s.variable == x) && (s.scale == k)) (among ss h.1)
          where
            by_test : (b : Bool) → RegisterOk size scope.objects claims f (shared ss x k) → RegisterOk size scope.objects claims f (if b then Some s.register else shared ss x k)
            by_test true g = h.0.1
            by_test false g = g

    abbrev Moves : Offset → Type 0
    Moves o = o.free ≤ size → Codes o.code × RegisterOk size scope.objects claims f o.register

    scaled_by_ok : (o : Option ℕ) (scale r : ℕ) (i : Index) → RegisterOk size scope.objects claims f o → r < size → Codes i.part.code → Moves (scaled_by o scale r i)
    scaled_by_ok (Some s) scale r i h a c room = (c, h)
    scaled_by_ok None scale r i h a c room = (append i.part.code _ c ((room, (a, tt)), tt), room)

    scaled_ok : (scale r : ℕ) (i : Index) → r < size → Codes i.part.code → Moves (scaled shares scale r i)
    scaled_ok zero r i a c room = (c, a)
    scaled_ok (suc k) r i a c room = scaled_by_ok (shared shares r (suc k)) (suc k) r i (shared_ok r (suc k)) a c room

    offset_by_ok : (scale : ℕ) (x : Operand ℕ) (i : Index) → Is x → Codes i.part.code → Moves (offset_by shares scale x i)
    offset_by_ok scale (Constant w) i a c room = (c, tt)
    offset_by_ok scale (Register r) i a c room = scaled_ok scale r i a c room

    pub offset_ok : (scale : ℕ) (i : Index) → Finds i.part → Moves (offset_of shares scale i)
    offset_ok scale i h room =
        let up = offset_grows scope shares scale i.part.value i in
        let k = h (omega (arith, up, room)) in
        offset_by_ok scale i.part.value i k.1 k.0 room

    load_free : (kind : Kind) (d : ℕ) (b : Option (Base ℕ)) (o : Offset) → (load_into kind d b o).free ≡ o.free
    load_free kind d None o = refl
    load_free kind d (Some b) o = refl

    load_ok : (kind : Kind) (d : ℕ) (b : Option (Base ℕ)) (o : Offset) → d < size → ((c : Base ℕ) → b ≡ Some c → BaseOk size scope.objects claims f c) → Codes o.code × RegisterOk size scope.objects claims f o.register → Codes (load_into kind d b o).code
    load_ok kind d None o a base h = ((a, tt), tt)
    load_ok kind d (Some b) o a base h = append o.code _ h.0 ((a, (base b refl, h.1)), tt)

    element_ok : (array : Array) (d : ℕ) (i : Index) → d < size → Finds i.part → (element_into scope shares array d i).free ≤ size → Codes (element_into scope shares array d i).code
    element_ok array d i a h room =
        let o = offset_of shares (scale_of array.kind) i in
        let same = load_free (kind_of array.kind) d (base_of scope array.base) o in
        load_ok (kind_of array.kind) d (base_of scope array.base) o a (λ c e. base_ok array.base c e) (offset_ok (scale_of array.kind) i h (omega (arith, same, room)))

    -- an expression: its value in a register, and what it is as an index
    pub record FormOk (e : high.Expr) : Type 0 where
      pub into : (d t : ℕ) → d < size → ((forms scope shares e).into d t).free ≤ size → Codes ((forms scope shares e).into d t).code
      pub index : (t : ℕ) → Finds ((forms scope shares e).index t).part

    leaf_ok : (e : high.Expr) (x : Operand ℕ) → leaf scope e ≡ Some x → Is x
    leaf_ok (high.Constant w) x e = subst Is (same_Some (Constant w) x e) tt
    leaf_ok (high.Variable y) x e = subst Is (same_Some (variable scope y) x e) (variable_ok y)
    leaf_ok (high.Element array index) x e = cc
    leaf_ok (high.Unary operator e2) x e = cc
    leaf_ok (high.Binary operator left right) x e = cc

    operand_ok : (e : high.Expr) (t : ℕ) → FormOk e → Finds (operand scope shares e t)
    operand_ok e t h = by_leaf (leaf scope e) (λ x is. leaf_ok e x is)
      where
        by_leaf : (o : Option (Operand ℕ)) → ((x : Operand ℕ) → o ≡ Some x → Is x) → Finds (operand_by o (forms scope shares e).into t)
        by_leaf (Some x) is room = (tt, is x refl)
        by_leaf None is room =
            let g = grows scope shares e in
            let up = g.into t (suc t) in
            (h.into t (suc t) (omega (arith, up, room)) room, omega (arith, up, room))

    unary_form : (operator : UnaryOperator) (d : ℕ) (x : Valued) → d < size → Finds x → (unary_into operator d x).free ≤ size → Codes (unary_into operator d x).code
    unary_form operator d x a h room =
        let k = h (omega (arith, room)) in
        append x.code (unary_code operator d x.free x.value) k.0 (unary_ok size scope.objects claims f operator d x.free x.value a k.1 room)

    sides_form : (operator : BinaryOperator) (d t : ℕ) (left right : high.Expr) → d < size → FormOk left → FormOk right → (sides_into scope.shifts operator d (operand scope shares left t) (operand scope shares right)).free ≤ size → Codes (sides_into scope.shifts operator d (operand scope shares left t) (operand scope shares right)).code
    sides_form operator d t left right a h k room =
        let x = operand scope shares left t in
        let y = operand scope shares right x.free in
        let up = operand_free scope shares right x.free in
        let hx = operand_ok left t h (omega (arith, up, room)) in
        let hy = operand_ok right x.free k (omega (arith, room)) in
        append x.code _ hx.0 (append y.code _ hy.0 (binary_ok size scope.objects claims f scope.shifts operator d y.free x.value y.value a hx.1 hy.1 room))

    plus_ok : (v : Valued) (o : Option (Operand ℕ)) (other : Index) → Finds v → Finds other.part → Finds (plus v o other).part
    plus_ok v (Some (Constant w)) other h k = h
    plus_ok v (Some (Register r)) other h k = k
    plus_ok v None other h k = k

    minus_ok : (v : Valued) (o : Option (Operand ℕ)) (other : Index) → Finds v → Finds other.part → Finds (minus v o other).part
    minus_ok v (Some (Constant w)) other h k = h
    minus_ok v (Some (Register r)) other h k = k
    minus_ok v None other h k = k

    split_ok : (operator : BinaryOperator) (left right : Option (Operand ℕ)) (l r : Valued) (whole : Index) → Finds l → Finds r → Finds whole.part → Finds (split operator left right l r whole).part
    split_ok Add left right l r whole a b c = plus_ok l right (plus r left whole) a (plus_ok r left whole b c)
    split_ok Subtract left right l r whole a b c = minus_ok l right whole a c
    split_ok Multiply left right l r whole a b c = c
    split_ok Divide left right l r whole a b c = c
    split_ok DivideUnsigned left right l r whole a b c = c
    split_ok Remainder left right l r whole a b c = c
    split_ok RemainderUnsigned left right l r whole a b c = c
    split_ok And left right l r whole a b c = c
    split_ok Or left right l r whole a b c = c
    split_ok Xor left right l r whole a b c = c
    split_ok ShiftLeft left right l r whole a b c = c
    split_ok ShiftRight left right l r whole a b c = c
    split_ok ShiftRightUnsigned left right l r whole a b c = c
    split_ok Equal left right l r whole a b c = c
    split_ok NotEqual left right l r whole a b c = c
    split_ok Less left right l r whole a b c = c
    split_ok LessUnsigned left right l r whole a b c = c
    split_ok AtLeast left right l r whole a b c = c
    split_ok AtLeastUnsigned left right l r whole a b c = c

    -- what is put into the register t, behind which registers are free
    in_own : (t : ℕ) (c : Coded) → suc t ≤ c.free → (t < size → c.free ≤ size → Codes c.code) → Finds (in_register t c)
    in_own t c up h room = (h (omega (arith, up, room)) room, omega (arith, up, room))

    pub form_ok : (e : high.Expr) → FormOk e
    form_ok (high.Constant w) = record { into = λ d t a room. ((a, tt), tt); index = λ t room. (tt, tt) }
    form_ok (high.Variable x) = record { into = λ d t a room. ((a, variable_ok x), tt); index = λ t room. (tt, variable_ok x) }
    form_ok (high.Element array index) =
        let h = form_ok index in
        let g = grows scope shares (high.Element array index) in
        record {
          into = λ d t a room. element_ok array d ((forms scope shares index).index t) a (h.index t) room;
          index = λ t. in_own t (element_into scope shares array t ((forms scope shares index).index (suc t))) (g.into t (suc t)) (λ a room. element_ok array t ((forms scope shares index).index (suc t)) a (h.index (suc t)) room);
        }
    form_ok (high.Unary operator e) =
        let h = form_ok e in
        let g = grows scope shares (high.Unary operator e) in
        record {
          into = λ d t a room. unary_form operator d (operand scope shares e t) a (operand_ok e t h) room;
          index = λ t. in_own t (unary_into operator t (operand scope shares e (suc t))) (g.into t (suc t)) (λ a room. unary_form operator t (operand scope shares e (suc t)) a (operand_ok e (suc t) h) room);
        }
    form_ok (high.Binary operator left right) =
        let h = form_ok left in
        let k = form_ok right in
        let g = grows scope shares (high.Binary operator left right) in
        record {
          into = λ d t a room. sides_form operator d t left right a h k room;
          index = λ t. split_ok operator (leaf scope left) (leaf scope right) (operand scope shares left t) (operand scope shares right t)
              (plain_index (in_register t (sides_into scope.shifts operator t (operand scope shares left (suc t)) (operand scope shares right)))) (operand_ok left t h) (operand_ok right t k)
              (in_own t (sides_into scope.shifts operator t (operand scope shares left (suc t)) (operand scope shares right)) (g.into t (suc t)) (λ a room. sides_form operator t (suc t) left right a h k room));
        }

    pub value_ok : (e : high.Expr) (d t : ℕ) → d < size → (value_into scope shares e d t).free ≤ size → Codes (value_into scope shares e d t).code
    value_ok e d t a room = let h = form_ok e in h.into d t a room

    pub found_ok : (e : high.Expr) (t : ℕ) → Finds (operand scope shares e t)
    found_ok e t = operand_ok e t (form_ok e)

    pub index_ok : (e : high.Expr) (t : ℕ) → Finds (index_of scope shares e t).part
    index_ok e t = let h = form_ok e in h.index t

    -- a test
    abbrev pub TestOk : Tested → Type 0
    TestOk b = b.free ≤ size → Codes b.code × (Is b.left × Is b.right)

    unless_ok : (v : Valued) → Finds v → TestOk (unless_zero v)
    unless_ok v h room = let k = h room in (k.0, (k.1, tt))

    compared_ok : (o : Option Condition) (left right : high.Expr) (t : ℕ) (whole : Valued) → Finds whole → TestOk (compared o (operand scope shares left t) (operand scope shares right) whole)
    compared_ok None left right t whole h room = unless_ok whole h room
    compared_ok (Some c) left right t whole h room =
        let x = operand scope shares left t in
        let y = operand scope shares right x.free in
        let up = operand_free scope shares right x.free in
        let hx = found_ok left t (omega (arith, up, room)) in
        let hy = found_ok right x.free room in
        (append x.code y.code hx.0 hy.0, (hx.1, hy.1))

    negated_ok : (operator : UnaryOperator) (inner whole : Tested) → TestOk inner → TestOk whole → TestOk (negated_or operator inner whole)
    negated_ok IsZero inner whole h k = h
    negated_ok Negate inner whole h k = k
    negated_ok Complement inner whole h k = k
    negated_ok (Convert kind) inner whole h k = k

    pub tested_ok : (e : high.Expr) (t : ℕ) → TestOk (tested scope shares e t)
    tested_ok (high.Constant w) t = unless_ok (operand scope shares (high.Constant w) t) (found_ok (high.Constant w) t)
    tested_ok (high.Variable x) t = unless_ok (operand scope shares (high.Variable x) t) (found_ok (high.Variable x) t)
    tested_ok (high.Element array index) t = unless_ok (operand scope shares (high.Element array index) t) (found_ok (high.Element array index) t)
    tested_ok (high.Unary operator e) t = negated_ok operator (tested scope shares e t) (unless_zero (operand scope shares (high.Unary operator e) t)) (tested_ok e t) (unless_ok (operand scope shares (high.Unary operator e) t) (found_ok (high.Unary operator e) t))
    tested_ok (high.Binary operator left right) t = compared_ok (condition_of operator) left right t (operand scope shares (high.Binary operator left right) t) (found_ok (high.Binary operator left right) t)

    -- what a call is given
    abbrev pub PassOk : Passing → Type 0
    PassOk p = p.free ≤ size → Codes p.code × OperandsOk size scope.objects claims f p.arguments

    array_ok : (b : HighBase) (t : ℕ) → Finds (passed_array scope b t)
    array_ok (Object o) t = by_test (nat_lt o scope.objects) refl
      where
        by_test : (c : Bool) → nat_lt o scope.objects ≡ c → Finds (if c then record { code = only (Do (Point t (record { base = Fixed o; offset = None; displacement = 0 }))); value = Register t; free = suc t } else record { code = []; value = Constant 0; free = t })
        by_test true e room = (((room, (ltb-true o scope.objects e, tt)), tt), room)
        by_test false e room = (tt, tt)
    array_ok (Parameter j) t = by_test (nat_lt j (length scope.claims)) refl
      where
        by_test : (c : Bool) → nat_lt j (length scope.claims) ≡ c → Finds (record { code = []; value = if c then Register (pointer scope j) else Constant 0; free = t })
        by_test true e room = let h = ltb-true j (length scope.claims) e in let k = ok.registers in (tt, omega (arith, h, k))
        by_test false e room = (tt, tt)

    then_ok : (v : Valued) (rest : ℕ → Passing) → v.free ≤ (rest v.free).free → Finds v → PassOk (rest v.free) → PassOk (then_passed v rest)
    then_ok v rest up h k room =
        let a = h (omega (arith, up, room)) in
        let b = k room in
        (append v.code (rest v.free).code a.0 b.0, (a.1, b.1))

    arrays_ok : (bs : List HighBase) (t : ℕ) → PassOk (arrays_passed scope bs t)
    arrays_ok [] t = λ room. (tt, tt)
    arrays_ok (b ∷ bs) t = then_ok (passed_array scope b t) (arrays_passed scope bs) (values_free scope shares [] bs (passed_array scope b t).free) (array_ok b t) (arrays_ok bs (passed_array scope b t).free)

    pub passing_ok : (es : List high.Expr) (bs : List HighBase) (t : ℕ) → PassOk (values_passed scope shares es bs t)
    passing_ok [] bs t = arrays_ok bs t
    passing_ok (e ∷ es) bs t = then_ok (operand scope shares e t) (values_passed scope shares es bs) (values_free scope shares es bs (operand scope shares e t).free) (found_ok e t) (passing_ok es bs (operand scope shares e t).free)

  -- the code of shares
  pub shares_ok : (ss : List Share) → SharesBelow size size ss → Codes (share_code ss)
  shares_ok [] h = tt
  shares_ok (s ∷ ss) h = ((h.0.1, (h.0.0, tt)), shares_ok ss h.1)

  -- shares whose registers begin at t
  pub begun_ok : (xs : List Scaled) (t : ℕ) → ScaledBelow scope.variables xs → t + length (shares_from t [] xs) ≤ size → SharesBelow size size (shares_from t [] xs)
  begun_ok xs t h room = let k = ok.registers in larger (shares_from t [] xs) (omega (arith, k)) (from_below scope.variables t xs [] h tt)
    where
      larger : (ss : List Share) → scope.variables ≤ size → SharesBelow scope.variables (t + length (shares_from t [] xs)) ss → SharesBelow size size ss
      larger [] low g = tt
      larger (s ∷ ss) low g = let a = g.0.0 in let b = g.0.1 in ((omega (arith, a, low), omega (arith, b, room)), larger ss low g.1)
