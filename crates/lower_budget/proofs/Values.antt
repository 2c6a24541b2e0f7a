-- What the code of expressions costs: instructions, and registers. Beside them stand those of the shares that an expression asks for.
use Rattle.std.proofs.Common.{◌≡◌, ℕ, zero, suc, ◌+◌, ◌*◌, ◌%◌, ◌^◌, ◌≤◌, Bool, true, false, List, ◌++◌, length, Option, Some, None, refl, sym, ap, subst, ⊎_elim, inl, inr, arith, length-append}
use Rattle.std.specs.Prelude.{◌⊎◌, if◌then◌else◌}
use Rattle.std.proofs.lemmas.Option.{same_Some}
use Rattle.rv_core.specs.declared.row.Alu.TheVariants as alu
use Rattle.high_ir.specs.declared.object.Array.{Array}
use Rattle.high_ir.specs.declared.expression.UnaryOperator.{UnaryOperator}
use Rattle.high_ir.specs.declared.expression.BinaryOperator.{BinaryOperator}
use Rattle.high_ir.specs.declared.expression.BinaryOperator.TheVariants.{Add, Subtract, Multiply, Divide, DivideUnsigned, Remainder, RemainderUnsigned, And, Or, Xor, ShiftLeft, ShiftRight, ShiftRightUnsigned, Equal, NotEqual, Less, LessUnsigned, AtLeast, AtLeastUnsigned}
use Rattle.high_ir.specs.Size.{expr_operations}
use Rattle.high_ir.specs.Tree as high
use Rattle.low_ir.specs.declared.object.Kind.{Kind}
use Rattle.low_ir.specs.Code.{Operand, Register, Constant, Base, Fixed, Through, Load, Do}
use Rattle.low_ir.specs.Room.{access_room, far_room, is_near, offset_room}
use Rattle.lower_definition.specs.Objects.{kind_of, scale_of}
use Rattle.lower_definition.specs.Operators.{binary_code, only, operate, unary_code}
use Rattle.lower_definition.specs.Values.{Scope, Share, Coded, Valued, Index, Offset, address, base_of, bytes, element_into, forms, in_register, index_register, is_constant, leaf, load_into, minus, offset_by, offset_of, operand, operand_by, plain_index, plus, register_of, scaled, scaled_as, scaled_by, scaled_in, shared, sides_into, split, split_register, unary_into, variable}
use Rattle.lower_budget.specs.Costs.{code_worth}
use Rattle.lower_budget.proofs.Amounts.{amount, of_leaf}
use Rattle.lower_budget.proofs.Covers.{Covers, Has, covers_back, covers_front}
use Rattle.lower_budget.proofs.Operators.{binary_few, binary_room, code_worth-append, spared, unary_few, unary_room}

-- a constant part that isn't 0 may be too large for an instruction
abbrev pub far : ℕ → ℕ
far zero = 0
far (suc c) = 2

far_most : (c : ℕ) → far c ≤ 2
far_most zero = omega arith
far_most (suc c) = omega arith

room_most : (n : ℕ) → far_room n ≤ 2
room_most n = by_test (is_near n)
  where
    by_test : (b : Bool) → (if b then 0 else 2) ≤ 2
    by_test true = omega arith
    by_test false = omega arith

far_plain : (c : ℕ) → far_room c ≤ far c
far_plain zero = omega arith
far_plain (suc c) = room_most (suc c)

far_bytes : (k c : ℕ) → far_room (bytes k c) ≤ far c
far_bytes k zero =
    let nothing : bytes k 0 ≡ 0 = zero_bytes (2 ^ k) in
    subst (λ n. far_room n ≤ 0) (sym nothing) (omega arith)
  where
    zero_bytes : (n : ℕ) → n * 0 % 2 ^ 32 ≡ 0
    zero_bytes n = let e : n * 0 ≡ 0 = omega arith in ap (λ m. m % 2 ^ 32) e
far_bytes k (suc c) = room_most (bytes k (suc c))

-- a leaf needs no register of its own, and one instruction to be in one
abbrev pub own : Option (Operand ℕ) → ℕ
own None = 1
own (Some x) = 0

abbrev pub slack : Option (Operand ℕ) → ℕ
slack None = 0
slack (Some x) = 4

leaf_spares : (shifts : Bool) (x : Operand ℕ) → spared shifts x ≤ 16 * of_leaf shifts
leaf_spares shifts (Register r) = omega arith
leaf_spares shifts (Constant w) = omega arith

-- the register of an operand is that of a leaf, or its own
abbrev pub Known : Operand ℕ → Option ℕ → Type 0
Known (Register r) o = (o ≡ Some r) ⊎ (o ≡ None)
Known (Constant w) o = Unit {0}

known_leaf : (x : Operand ℕ) → Known x (register_of (Some x))
known_leaf (Register r) = inl refl
known_leaf (Constant w) = tt

known_operand : (o : Option (Operand ℕ)) (into : ℕ → ℕ → Coded) (t : ℕ) → Known (operand_by o into t).value (register_of o)
known_operand (Some x) into t = known_leaf x
known_operand None into t = inr refl

known_plus : (v : Valued) (o : Option (Operand ℕ)) (other : Index) (a b : Option ℕ) → Known v.value a → Known other.part.value b → Known (plus v o other).part.value (if is_constant o then a else b)
known_plus v (Some (Constant w)) other a b h k = h
known_plus v (Some (Register r)) other a b h k = k
known_plus v None other a b h k = k

known_minus : (v : Valued) (o : Option (Operand ℕ)) (other : Index) (a : Option ℕ) → Known v.value a → Known other.part.value None → Known (minus v o other).part.value (if is_constant o then a else None)
known_minus v (Some (Constant w)) other a h k = h
known_minus v (Some (Register r)) other a h k = k
known_minus v None other a h k = k

known_split : (operator : BinaryOperator) (left right : Option (Operand ℕ)) (l r : Valued) (whole : Index) → Known l.value (register_of left) → Known r.value (register_of right) → Known whole.part.value None → Known (split operator left right l r whole).part.value (split_register operator left right)
known_split Add left right l r whole a b c =
    known_plus l right (plus r left whole) (register_of left) (if is_constant left then register_of right else None) a (known_plus r left whole (register_of right) None b c)
known_split Subtract left right l r whole a b c = known_minus l right whole (register_of left) a c
known_split Multiply left right l r whole a b c = c
known_split Divide left right l r whole a b c = c
known_split DivideUnsigned left right l r whole a b c = c
known_split Remainder left right l r whole a b c = c
known_split RemainderUnsigned left right l r whole a b c = c
known_split And left right l r whole a b c = c
known_split Or left right l r whole a b c = c
known_split Xor left right l r whole a b c = c
known_split ShiftLeft left right l r whole a b c = c
known_split ShiftRight left right l r whole a b c = c
known_split ShiftRightUnsigned left right l r whole a b c = c
known_split Equal left right l r whole a b c = c
known_split NotEqual left right l r whole a b c = c
known_split Less left right l r whole a b c = c
known_split LessUnsigned left right l r whole a b c = c
known_split AtLeast left right l r whole a b c = c
known_split AtLeastUnsigned left right l r whole a b c = c

-- a load or a store of an array
pub access_most : (n : ℕ) (offset : Option ℕ) (d : ℕ) → access_room {R = ℕ} (Fixed n) offset d ≤ 5
access_most n None d = omega arith
access_most n (Some r) d = omega arith

pub as_most : (k : ℕ) (o : Option ℕ) → length (scaled_as k o) ≤ 1
as_most zero o = omega arith
as_most (suc k) None = omega arith
as_most (suc k) (Some x) = omega arith

load_free : (kind : Kind) (d : ℕ) (b : Option (Base ℕ)) (o : Offset) → (load_into kind d b o).free ≡ o.free
load_free kind d None o = refl
load_free kind d (Some b) o = refl

module _ (worth : ℕ → ℕ) (scope : Scope) where
  -- the shares that an expression asks for
  abbrev pub asked : high.Expr → ℕ
  asked e = length (scaled_in scope e)

  module _ (shares : List Share) where
    -- an offset from an index: what it costs beside the index, one register and one instruction, be it shared or not
    pub record Moved (i : Index) (asks : ℕ) (o : Offset) : Type 0 where
      pub room : code_worth worth o.code + 7 * asks ≤ code_worth worth i.part.code + 7
      pub free : o.free + asks ≤ i.part.free + 1
      pub address : offset_room o.register + far_room o.displacement ≤ 3 + far i.constant

    shared_moved : (k r : ℕ) (i : Index) (o : Option ℕ) → Has o → Moved i 1 (scaled_by o (suc k) r i)
    shared_moved k r i None h = absurd h
    shared_moved k r i (Some s) h = let f = far_bytes (suc k) i.constant in record { room = omega arith; free = omega arith; address = omega (arith, f) }

    own_moved : (k r : ℕ) (i : Index) (o : Option ℕ) → Moved i 0 (scaled_by o (suc k) r i)
    own_moved k r i (Some s) = let f = far_bytes (suc k) i.constant in record { room = omega arith; free = omega arith; address = omega (arith, f) }
    own_moved k r i None =
        let f = far_bytes (suc k) i.constant in
        let e = code_worth-append worth i.part.code (only (operate alu.ShiftLeft i.part.free (Register r) (Constant (suc k)))) in
        record { room = omega (arith, e); free = omega arith; address = omega (arith, f) }

    scaled_moved : (k r : ℕ) (i : Index) (o : Option ℕ) → Known (Register r) o → Covers shares (scaled_as k o) → Moved i (length (scaled_as k o)) (scaled shares k r i)
    scaled_moved zero r i o known covers = let f = far_plain i.constant in record { room = omega arith; free = omega arith; address = omega (arith, f) }
    scaled_moved (suc k) r i None known covers = own_moved k r i (shared shares r (suc k))
    scaled_moved (suc k) r i (Some x) known covers =
        ⊎_elim (λ (e : Some x ≡ Some r). shared_moved k r i (shared shares r (suc k)) (subst (λ y. Has (shared shares y (suc k))) (same_Some x r e) covers.0))
        (λ (e : Some x ≡ None). cc) known

    pub moved : (k : ℕ) (x : Operand ℕ) (i : Index) (o : Option ℕ) → Known x o → Covers shares (scaled_as k o) → Moved i (length (scaled_as k o)) (offset_by shares k x i)
    moved k (Constant w) i o known covers = let m = as_most k o in let f = room_most (bytes k (w + i.constant)) in record { room = omega (arith, m); free = omega (arith, m); address = omega (arith, f) }
    moved k (Register r) i o known covers = scaled_moved k r i o known covers

    load_room : (kind : Kind) (d : ℕ) (b : Option (Base ℕ)) (o : Offset) (c : ℕ) → offset_room o.register + far_room o.displacement ≤ 3 + far c → code_worth worth (load_into kind d b o).code ≤ code_worth worth o.code + 8 + far c
    load_room kind d None o c h = omega arith
    load_room kind d (Some b) o c h = let e = code_worth-append worth o.code (only (Do (Load kind d (address b o)))) in by_base b e
      where
        by_base : (b : Base ℕ) → code_worth worth (o.code ++ only (Do (Load kind d (address b o)))) ≡ code_worth worth o.code + code_worth worth (only (Do (Load kind d (address b o)))) → code_worth worth (o.code ++ only (Do (Load kind d (address b o)))) ≤ code_worth worth o.code + 8 + far c
        by_base (Fixed n) e = let f = access_most n o.register o.displacement in omega (arith, e, f)
        by_base (Through r n) e = omega (arith, e, h)

    -- an expression in a register, and as an index
    pub record Costs (e : high.Expr) : Type 0 where
      pub into_room : (d t : ℕ) → code_worth worth ((forms scope shares e).into d t).code + 7 * asked e ≤ 16 * amount scope.shifts e + slack (leaf scope e)
      pub into_free : (d t : ℕ) → ((forms scope shares e).into d t).free + asked e + own (leaf scope e) ≤ t + 2 * expr_operations e
      pub index_room : (t : ℕ) → code_worth worth ((forms scope shares e).index t).part.code + 7 * asked e + far ((forms scope shares e).index t).constant ≤ 16 * amount scope.shifts e
      pub index_free : (t : ℕ) → ((forms scope shares e).index t).part.free + asked e ≤ t + 2 * expr_operations e
      pub known : (t : ℕ) → Known ((forms scope shares e).index t).part.value (index_register scope e)

    -- an expression as an operand
    pub record Found (e : high.Expr) (t : ℕ) : Type 0 where
      pub room : code_worth worth (operand scope shares e t).code + 7 * asked e ≤ 16 * amount scope.shifts e
      pub spare : code_worth worth (operand scope shares e t).code + 7 * asked e + spared scope.shifts (operand scope shares e t).value ≤ 16 * amount scope.shifts e
      pub free : (operand scope shares e t).free + asked e ≤ t + 2 * expr_operations e

    found : (e : high.Expr) (t : ℕ) → Costs e → Found e t
    found (high.Constant w) t h = record { room = omega arith; spare = let s = leaf_spares scope.shifts (Constant w) in omega (arith, s); free = omega arith }
    found (high.Variable x) t h = record { room = omega arith; spare = let s = leaf_spares scope.shifts (variable scope x) in omega (arith, s); free = omega arith }
    found (high.Element array index) t h = let a = h.into_room t (suc t) in let b = h.into_free t (suc t) in record { room = omega (arith, a); spare = omega (arith, a); free = omega (arith, b) }
    found (high.Unary operator e) t h = let a = h.into_room t (suc t) in let b = h.into_free t (suc t) in record { room = omega (arith, a); spare = omega (arith, a); free = omega (arith, b) }
    found (high.Binary operator left right) t h = let a = h.into_room t (suc t) in let b = h.into_free t (suc t) in record { room = omega (arith, a); spare = omega (arith, a); free = omega (arith, b) }

    -- an access, for an index that costs so much
    record Element (array : Array) (index : high.Expr) (d t : ℕ) (i : Index) : Type 0 where
      room : code_worth worth (element_into scope shares array d i).code + 7 * (length (scaled_as (scale_of array.kind) (index_register scope index)) + asked index) ≤ 16 * amount scope.shifts index + 15
      free : (element_into scope shares array d i).free + (length (scaled_as (scale_of array.kind) (index_register scope index)) + asked index) ≤ t + 2 * expr_operations index + 1

    element : (array : Array) (index : high.Expr) (d t : ℕ) → Costs index → Covers shares (scaled_as (scale_of array.kind) (index_register scope index)) → Element array index d t ((forms scope shares index).index t)
    element array index d t h covers =
        let i = (forms scope shares index).index t in
        let k = scale_of array.kind in
        let m = moved k i.part.value i (index_register scope index) (h.known t) covers in
        let o = offset_of shares k i in
        let a = m.room in
        let b = m.free in
        let c = load_room (kind_of array.kind) d (base_of scope array.base) o i.constant m.address in
        let f = load_free (kind_of array.kind) d (base_of scope array.base) o in
        let x = h.index_room t in
        let y = h.index_free t in
        record { room = omega (arith, a, c, x); free = omega (arith, b, f, y) }

    -- an operation whose parts cost so much
    record Computed (n m : ℕ) (asks t : ℕ) (c : Coded) : Type 0 where
      room : code_worth worth c.code + 7 * asks ≤ 16 * n + 14
      free : c.free + asks ≤ t + 2 * m + 1

    unary_cost : (operator : UnaryOperator) (d t : ℕ) (e : high.Expr) → Costs e → Computed (amount scope.shifts e) (expr_operations e) (asked e) t (unary_into operator d (operand scope shares e t))
    unary_cost operator d t e h =
        let x = operand scope shares e t in
        let f = found e t h in
        let a = f.room in
        let b = f.free in
        let c = unary_room worth operator d x.free x.value in
        let m = unary_few operator in
        let s = code_worth-append worth x.code (unary_code operator d x.free x.value) in
        record { room = omega (arith, a, c, s); free = omega (arith, b, m) }

    binary_cost : (operator : BinaryOperator) (d t : ℕ) (left right : high.Expr) → Costs left → Costs right → Computed (amount scope.shifts left + amount scope.shifts right) (expr_operations left + expr_operations right) (asked left + asked right) t (sides_into scope.shifts operator d (operand scope shares left t) (operand scope shares right))
    binary_cost operator d t left right h k =
        let x = operand scope shares left t in
        let y = operand scope shares right x.free in
        let f = found left t h in
        let g = found right x.free k in
        let a = f.room in
        let b = f.free in
        let a2 = g.spare in
        let b2 = g.free in
        let own_code = binary_code scope.shifts operator d y.free x.value y.value in
        let c = binary_room worth scope.shifts operator d y.free x.value y.value in
        let m = binary_few operator in
        let s = code_worth-append worth x.code (y.code ++ own_code) in
        let s2 = code_worth-append worth y.code own_code in
        record { room = omega (arith, a, a2, c, s, s2); free = omega (arith, b, b2, m) }

    -- an index that is one of these
    record Indexed (n m asks t : ℕ) (i : Index) : Type 0 where
      room : code_worth worth i.part.code + 7 * asks + far i.constant ≤ 16 * n
      free : i.part.free + asks ≤ t + 2 * m

    plus_cost : (n m asks t : ℕ) (v : Valued) (o : Option (Operand ℕ)) (other : Index) → code_worth worth v.code + 7 * asks + 2 ≤ 16 * n → v.free + asks ≤ t + 2 * m → Indexed n m asks t other → Indexed n m asks t (plus v o other)
    plus_cost n m asks t v (Some (Constant w)) other a b h = let f = far_most w in record { room = omega (arith, a, f); free = b }
    plus_cost n m asks t v (Some (Register r)) other a b h = h
    plus_cost n m asks t v None other a b h = h

    minus_cost : (n m asks t : ℕ) (v : Valued) (o : Option (Operand ℕ)) (other : Index) → code_worth worth v.code + 7 * asks + 2 ≤ 16 * n → v.free + asks ≤ t + 2 * m → Indexed n m asks t other → Indexed n m asks t (minus v o other)
    minus_cost n m asks t v (Some (Constant w)) other a b h = let f = far_most (minus v (Some (Constant w)) other).constant in record { room = omega (arith, a, f); free = b }
    minus_cost n m asks t v (Some (Register r)) other a b h = h
    minus_cost n m asks t v None other a b h = h

    split_cost : (operator : BinaryOperator) (n m asks t : ℕ) (left right : Option (Operand ℕ)) (l r : Valued) (whole : Index) → code_worth worth l.code + 7 * asks + 2 ≤ 16 * n → l.free + asks ≤ t + 2 * m → code_worth worth r.code + 7 * asks + 2 ≤ 16 * n → r.free + asks ≤ t + 2 * m → Indexed n m asks t whole → Indexed n m asks t (split operator left right l r whole)
    split_cost Add n m asks t left right l r whole a b c d h = plus_cost n m asks t l right (plus r left whole) a b (plus_cost n m asks t r left whole c d h)
    split_cost Subtract n m asks t left right l r whole a b c d h = minus_cost n m asks t l right whole a b h
    split_cost Multiply n m asks t left right l r whole a b c d h = h
    split_cost Divide n m asks t left right l r whole a b c d h = h
    split_cost DivideUnsigned n m asks t left right l r whole a b c d h = h
    split_cost Remainder n m asks t left right l r whole a b c d h = h
    split_cost RemainderUnsigned n m asks t left right l r whole a b c d h = h
    split_cost And n m asks t left right l r whole a b c d h = h
    split_cost Or n m asks t left right l r whole a b c d h = h
    split_cost Xor n m asks t left right l r whole a b c d h = h
    split_cost ShiftLeft n m asks t left right l r whole a b c d h = h
    split_cost ShiftRight n m asks t left right l r whole a b c d h = h
    split_cost ShiftRightUnsigned n m asks t left right l r whole a b c d h = h
    split_cost Equal n m asks t left right l r whole a b c d h = h
    split_cost NotEqual n m asks t left right l r whole a b c d h = h
    split_cost Less n m asks t left right l r whole a b c d h = h
    split_cost LessUnsigned n m asks t left right l r whole a b c d h = h
    split_cost AtLeast n m asks t left right l r whole a b c d h = h
    split_cost AtLeastUnsigned n m asks t left right l r whole a b c d h = h

    known_variable : (x : ℕ) → Known (variable scope x) (register_of (Some (variable scope x)))
    known_variable x = known_leaf (variable scope x)

    pub costs : (e : high.Expr) → Covers shares (scaled_in scope e) → Costs e
    costs (high.Constant w) covers = record { into_room = λ d t. omega arith; into_free = λ d t. omega arith; index_room = λ t. omega arith; index_free = λ t. omega arith; known = λ t. tt }
    costs (high.Variable x) covers = record { into_room = λ d t. omega arith; into_free = λ d t. omega arith; index_room = λ t. omega arith; index_free = λ t. omega arith; known = λ t. known_variable x }
    costs (high.Element array index) covers =
        let entries = scaled_as (scale_of array.kind) (index_register scope index) in
        let h = costs index (covers_back shares entries (scaled_in scope index) covers) in
        let c = covers_front shares entries (scaled_in scope index) covers in
        let total = length-append entries (scaled_in scope index) in
        record {
          into_room = λ d t. let e = element array index d t h c in let a = e.room in omega (arith, a, total);
          into_free = λ d t. let e = element array index d t h c in let a = e.free in omega (arith, a, total);
          index_room = λ t. let e = element array index t (suc t) h c in let a = e.room in omega (arith, a, total);
          index_free = λ t. let e = element array index t (suc t) h c in let a = e.free in omega (arith, a, total);
          known = λ t. inr refl;
        }
    costs (high.Unary operator e) covers =
        let h = costs e covers in
        record {
          into_room = λ d t. let k = unary_cost operator d t e h in let a = k.room in omega (arith, a);
          into_free = λ d t. let k = unary_cost operator d t e h in let a = k.free in omega (arith, a);
          index_room = λ t. let k = unary_cost operator t (suc t) e h in let a = k.room in omega (arith, a);
          index_free = λ t. let k = unary_cost operator t (suc t) e h in let a = k.free in omega (arith, a);
          known = λ t. inr refl;
        }
    costs (high.Binary operator left right) covers =
        let h = costs left (covers_front shares (scaled_in scope left) (scaled_in scope right) covers) in
        let k = costs right (covers_back shares (scaled_in scope left) (scaled_in scope right) covers) in
        let total = length-append (scaled_in scope left) (scaled_in scope right) in
        let n = amount scope.shifts left + amount scope.shifts right + 1 in
        let m = expr_operations left + expr_operations right + 1 in
        let asks = asked left + asked right in
        let index : (t : ℕ) → Indexed n m asks t ((forms scope shares (high.Binary operator left right)).index t) =
        λ t.
        let l = operand scope shares left t in
        let r = operand scope shares right t in
        let fl = found left t h in
        let fr = found right t k in
        let a = fl.room in
        let b = fl.free in
        let a2 = fr.room in
        let b2 = fr.free in
        let sl = asked_few left h in
        let sr = asked_few right k in
        let sl2 = asked_less left h in
        let sr2 = asked_less right k in
        let c = binary_cost operator t (suc t) left right h k in
        let whole = plain_index (in_register t (sides_into scope.shifts operator t (operand scope shares left (suc t)) (operand scope shares right))) in
        let c1 = c.room in
        let c2 = c.free in
        split_cost operator n m asks t (leaf scope left) (leaf scope right) l r whole (omega (arith, a, sr)) (omega (arith, b, sr2)) (omega (arith, a2, sl)) (omega (arith, b2, sl2)) (record { room = omega (arith, c1); free = omega (arith, c2) }) in
        record {
          into_room = λ d t. let c = binary_cost operator d t left right h k in let a = c.room in omega (arith, a, total);
          into_free = λ d t. let c = binary_cost operator d t left right h k in let a = c.free in omega (arith, a, total);
          index_room = λ t. let i = index t in let a = i.room in omega (arith, a, total);
          index_free = λ t. let i = index t in let a = i.free in omega (arith, a, total);
          known = λ t.
              known_split operator (leaf scope left) (leaf scope right) (operand scope shares left t) (operand scope shares right t)
              (plain_index (in_register t (sides_into scope.shifts operator t (operand scope shares left (suc t)) (operand scope shares right)))) (known_operand (leaf scope left) (forms scope shares left).into t) (known_operand (leaf scope right) (forms scope shares right).into t) (inr refl);
        }
      where
        asked_few : (e : high.Expr) → Costs e → 7 * asked e ≤ 16 * amount scope.shifts e
        asked_few e h = let a = h.index_room 0 in omega (arith, a)

        asked_less : (e : high.Expr) → Costs e → asked e ≤ 2 * expr_operations e
        asked_less e h = let a = h.index_free 0 in omega (arith, a)

    pub operand_cost : (e : high.Expr) (t : ℕ) → Covers shares (scaled_in scope e) → Found e t
    operand_cost e t covers = found e t (costs e covers)
