-- Expressions: their code finds their values.
use Rattle.std.proofs.Common.{◌≡◌, ℕ, zero, suc, ◌+◌, ◌*◌, ◌-◌, ◌%◌, ◌^◌, ◌<◌, ◌≤◌, true, List, [], ◌++◌, length, Option, Some, None, refl, sym, ap, ◌∙◌, subst, arith, get_or-set_same, get_or-set_other, length-set}
use Rattle.std.specs.Prelude.{slice_index_or, slice_set, nat_lt, if◌then◌else◌}
use Rattle.std.proofs.lemmas.Bool.Decides.{nat_tests}
use Rattle.std.proofs.lemmas.Option.{same_Some}
use Rattle.rv_core.specs.declared.row.Alu.TheVariants as alu
use Rattle.high_ir.specs.declared.object.Kind.{Kind as HighKind}
use Rattle.high_ir.specs.declared.object.Array.{Array}
use Rattle.high_ir.specs.declared.expression.UnaryOperator.{UnaryOperator}
use Rattle.high_ir.specs.declared.expression.BinaryOperator.{BinaryOperator}
use Rattle.high_ir.specs.declared.expression.BinaryOperator.TheVariants.{Add, Subtract, Multiply, Divide, DivideUnsigned, Remainder, RemainderUnsigned, And, Or, Xor, ShiftLeft, ShiftRight, ShiftRightUnsigned, Equal, NotEqual, Less, LessUnsigned, AtLeast, AtLeastUnsigned}
use Rattle.high_ir.specs.Meaning as high
use Rattle.high_ir.specs.Tree.{Expr, Constant, Variable, Element, Unary, Binary}
use Rattle.high_ir.specs.Words.{unary_word, binary_word}
use Rattle.high_ir.specs.Whole.{IsWordy}
use Rattle.high_ir.proofs.Words.{binary_below, unary_below}
use Rattle.low_ir.specs.Code.{Operand, Register, Base, Set, Load, Do, Constant as Literal}
use Rattle.low_ir.specs.declared.run.Value.TheVariants.{Word}
use Rattle.low_ir.specs.Effects.{World, Did, there, resolved, loaded, gives}
use Rattle.low_ir.specs.Runs.{Bank, virtual, write_to}
use Rattle.lower_definition.specs.Objects.{kind_of, scale_of}
use Rattle.lower_definition.specs.Operators.{Code, only, operate, negated, binary_code, unary_code}
use Rattle.lower_definition.specs.Values.{Scope, Share, Coded, Valued, Index, Offset, shared, variable, leaf, in_register, operand_by, set_to, unary_into, sides_into, plain_index, plus, minus, split, bytes, scaled, scaled_by, offset_by, offset_of, base_of, address, load_into, element_into, forms, operand}
use Rattle.lower_values.specs.Computing.{after_instr, computed, Has, Puts}
use Rattle.lower_values.proofs.Words.{sum-negated, negated_below}
use Rattle.lower_values.proofs.Writing.{has_word, write_inside, puts_one, set_after}
use Rattle.lower_values.proofs.Operators.{binary_puts, unary_puts}
use Rattle.lower_values.specs.Meeting.{AreWords, MeetsWorld, Stands, IsBelow, Finds}
use Rattle.lower_values.proofs.Elements.{from_value, Reads, reads, loaded_is, index_within}
use Rattle.lower_values.proofs.Widths.{bytes_sum, bytes_whole, scale_small}
use Rattle.lower_values.proofs.Reading.{OffsetBelow, Means, IsOffset, leads}
use Rattle.lower_values.proofs.Standing.{stands_after, Based, based, computed_then, shift_after}

-- code may use registers from t on, and leaves those from its end on free
module _ (scope : Scope) (shares : List Share) where
  operand_grows : (o : Option (Operand ℕ)) (into : ℕ → ℕ → Coded) (t : ℕ) → ((d t : ℕ) → t ≤ (into d t).free) → t ≤ (operand_by o into t).free
  operand_grows None into t grows = let h = grows t (suc t) in omega (arith, h)
  operand_grows (Some x) into t grows = omega arith

  scaled_grows : (scale r : ℕ) (i : Index) → i.part.free ≤ (scaled shares scale r i).free
  scaled_grows zero r i = omega arith
  scaled_grows (suc k) r i = by_share (shared shares r (suc k))
    where
      by_share : (o : Option ℕ) → i.part.free ≤ (scaled_by o (suc k) r i).free
      by_share None = omega arith
      by_share (Some q) = omega arith

  pub offset_grows : (scale : ℕ) (x : Operand ℕ) (i : Index) → i.part.free ≤ (offset_by shares scale x i).free
  offset_grows scale (Literal w) i = omega arith
  offset_grows scale (Register r) i = scaled_grows scale r i

  load_grows : (kind : HighKind) (d : ℕ) (b : Option (Base ℕ)) (o : Offset) → o.free ≤ (load_into (kind_of kind) d b o).free
  load_grows kind d None o = omega arith
  load_grows kind d (Some b) o = omega arith

  element_grows : (array : Array) (d : ℕ) (i : Index) → i.part.free ≤ (element_into scope shares array d i).free
  element_grows array d i =
      let o = offset_of shares (scale_of array.kind) i in
      let a = offset_grows (scale_of array.kind) i.part.value i in
      let b = load_grows array.kind d (base_of scope array.base) o in
      omega (arith, a, b)

  plus_grows : (t : ℕ) (v : Valued) (o : Option (Operand ℕ)) (other : Index) → t ≤ v.free → t ≤ other.part.free → t ≤ (plus v o other).part.free
  plus_grows t v None other h k = k
  plus_grows t v (Some (Register r)) other h k = k
  plus_grows t v (Some (Literal w)) other h k = h

  minus_grows : (t : ℕ) (v : Valued) (o : Option (Operand ℕ)) (other : Index) → t ≤ v.free → t ≤ other.part.free → t ≤ (minus v o other).part.free
  minus_grows t v None other h k = k
  minus_grows t v (Some (Register r)) other h k = k
  minus_grows t v (Some (Literal w)) other h k = h

  split_grows : (t : ℕ) (operator : BinaryOperator) (left right : Option (Operand ℕ)) (l r : Valued) (whole : Index) → t ≤ l.free → t ≤ r.free → t ≤ whole.part.free → t ≤ (split operator left right l r whole).part.free
  split_grows t Add left right l r whole a b c = plus_grows t l right (plus r left whole) a (plus_grows t r left whole b c)
  split_grows t Subtract left right l r whole a b c = minus_grows t l right whole a c
  split_grows t Multiply left right l r whole a b c = c
  split_grows t Divide left right l r whole a b c = c
  split_grows t DivideUnsigned left right l r whole a b c = c
  split_grows t Remainder left right l r whole a b c = c
  split_grows t RemainderUnsigned left right l r whole a b c = c
  split_grows t And left right l r whole a b c = c
  split_grows t Or left right l r whole a b c = c
  split_grows t Xor left right l r whole a b c = c
  split_grows t ShiftLeft left right l r whole a b c = c
  split_grows t ShiftRight left right l r whole a b c = c
  split_grows t ShiftRightUnsigned left right l r whole a b c = c
  split_grows t Equal left right l r whole a b c = c
  split_grows t NotEqual left right l r whole a b c = c
  split_grows t Less left right l r whole a b c = c
  split_grows t LessUnsigned left right l r whole a b c = c
  split_grows t AtLeast left right l r whole a b c = c
  split_grows t AtLeastUnsigned left right l r whole a b c = c

  pub record Grows (e : Expr) : Type 0 where
    pub into : (d t : ℕ) → t ≤ ((forms scope shares e).into d t).free
    pub index : (t : ℕ) → t ≤ ((forms scope shares e).index t).part.free

  sides_grow : (operator : BinaryOperator) (d t : ℕ) (left right : Expr) → Grows left → Grows right → t ≤ (sides_into scope.shifts operator d (operand scope shares left t) (operand scope shares right)).free
  sides_grow operator d t left right a b =
      let l = operand_grows (leaf scope left) (forms scope shares left).into t a.into in
      let r = operand_grows (leaf scope right) (forms scope shares right).into (operand scope shares left t).free b.into in
      omega (arith, l, r)

  pub grows : (e : Expr) → Grows e
  grows (Constant w) = record { into = λ d t. omega arith; index = λ t. omega arith }
  grows (Variable x) = record { into = λ d t. omega arith; index = λ t. omega arith }
  grows (Element array index) =
      let g = grows index in
      record {
        into = λ d t. let a = g.index t in let b = element_grows array d ((forms scope shares index).index t) in omega (arith, a, b);
        index = λ t. let a = g.index (suc t) in let b = element_grows array t ((forms scope shares index).index (suc t)) in omega (arith, a, b);
      }
  grows (Unary operator e) =
      let g = grows e in
      record {
        into = λ d t. let a = operand_grows (leaf scope e) (forms scope shares e).into t g.into in omega (arith, a);
        index = λ t. let a = operand_grows (leaf scope e) (forms scope shares e).into (suc t) g.into in omega (arith, a);
      }
  grows (Binary operator left right) =
      let g = grows left in
      let h = grows right in
      record {
        into = λ d t. sides_grow operator d t left right g h;
        index = λ t. split_grows t operator (leaf scope left) (leaf scope right) (operand scope shares left t) (operand scope shares right t)
            (plain_index (in_register t (sides_into scope.shifts operator t (operand scope shares left (suc t)) (operand scope shares right))))
            (operand_grows (leaf scope left) (forms scope shares left).into t g.into)
            (operand_grows (leaf scope right) (forms scope shares right).into t h.into)
            (let a = sides_grow operator t (suc t) left right g h in omega (arith, a));
      }

  pub operand_free : (e : Expr) (t : ℕ) → t ≤ (operand scope shares e t).free
  operand_free e t = let g = grows e in operand_grows (leaf scope e) (forms scope shares e).into t g.into

module _ (scope : Scope) (shares : List Share) (claims : List (List ℕ)) (u : World) (passed : List ℕ) (vars : high.Variables) (w : high.World) (meets : MeetsWorld scope w u) where
  abbrev Ready : Bank → ℕ → Type 0
  Ready s t = Stands scope claims passed vars shares s t

  -- a value that code finds in an operand below its free registers
  pub record Found (code : Code) (free : ℕ) (s : Bank) (t : ℕ) (x : Operand ℕ) (v : ℕ) : Type 0 where
    pub finds : Finds claims u code s t x v
    pub below : IsBelow free x

  abbrev FoundBy : Valued → Bank → ℕ → ℕ → Type 0
  FoundBy x s t v = Found x.code x.free s t x.value v

  -- an index that code finds in two parts
  pub record FoundIndex (i : Index) (s : Bank) (t v : ℕ) : Type 0 where
    pub part : ℕ
    pub small : part < 2 ^ 32
    pub little : i.constant < 2 ^ 32
    pub found : FoundBy i.part s t part
    pub sum : (part + i.constant) % 2 ^ 32 ≡ v

  -- what is proved of an expression
  pub record Works (e : Expr) (v : ℕ) : Type 0 where
    pub small : v < 2 ^ 32
    pub into : (s : Bank) (d t : ℕ) → Ready s t → d < t → ((forms scope shares e).into d t).free ≤ length s → Puts claims u ((forms scope shares e).into d t).code s t d v
    pub index : (s : Bank) (t : ℕ) → Ready s t → ((forms scope shares e).index t).part.free ≤ length s → FoundIndex ((forms scope shares e).index t) s t v

  -- a leaf has its value already
  pub record IsLeaf (s : Bank) (t : ℕ) (x : Operand ℕ) (v : ℕ) : Type 0 where
    pub value : Has s x v
    pub below : IsBelow t x

  variable_is : (x : ℕ) → x < scope.variables → variable scope x ≡ Register x
  variable_is x inside =
      let test : nat_lt x scope.variables ≡ true = grind (arith, nat_tests, inside) in
      ap (λ b. if b then Register x else Literal 0) test

  pub leaf_is : (e : Expr) (x : Operand ℕ) (v : ℕ) (s : Bank) (t : ℕ) → Ready s t → leaf scope e ≡ Some x → high.value_of passed vars w e ≡ Some v → IsLeaf s t x v
  leaf_is (Constant c) x v s t h e f =
      let same : Literal c ≡ x = same_Some (Literal c) x e in
      subst (λ y. IsLeaf s t y v) same (record { value = same_Some c v f; below = tt })
  leaf_is (Variable y) x v s t h e f =
      let inside = index_within vars y v f in
      let count = h.frame.count in
      let free = h.free in
      let same : variable scope y ≡ x = same_Some (variable scope y) x e in
      subst (λ z. IsLeaf s t z v) (sym (variable_is y (omega (arith, inside, count))) ∙ same) (record { value = h.frame.variables y v f; below = omega (arith, inside, count, free) })
  leaf_is (Element array index) x v s t h e f = cc
  leaf_is (Unary operator operand) x v s t h e f = cc
  leaf_is (Binary operator left right) x v s t h e f = cc

  -- an operand that a leaf is, or a register of its own
  found_leaf : (x : Operand ℕ) (v : ℕ) (s : Bank) (t : ℕ) → IsLeaf s t x v → Found [] t s t x v
  found_leaf x v s t h = record { finds = record { store = s; does = refl; size = refl; value = h.value; others = λ q low. refl }; below = h.below }

  found_put : (c : Coded) (v : ℕ) (s : Bank) (t : ℕ) → suc t ≤ c.free → Puts claims u c.code s (suc t) t v → Found c.code c.free s t (Register t) v
  found_put c v s t more h = record {
    finds = record { store = h.store; does = h.does; size = h.size; value = h.value; others = λ q low. h.others q (omega (arith, low)) (λ e. omega (arith, e, low)) };
    below = omega (arith, more);
  }

  pub operand_found : (e : Expr) (v : ℕ) (s : Bank) (t : ℕ) → high.value_of passed vars w e ≡ Some v → Works e v → Ready s t → (operand scope shares e t).free ≤ length s → FoundBy (operand scope shares e t) s t v
  operand_found e v s t is works h room = by_leaf (leaf scope e) refl room
    where
      by_leaf : (o : Option (Operand ℕ)) → leaf scope e ≡ o → (operand_by o (forms scope shares e).into t).free ≤ length s → FoundBy (operand_by o (forms scope shares e).into t) s t v
      by_leaf (Some x) q room = found_leaf x v s t (leaf_is e x v s t h q is)
      by_leaf None q room =
          let g = grows scope shares e in
          found_put ((forms scope shares e).into t (suc t)) v s t (g.into t (suc t))
          (works.into s t (suc t) (stands_after scope claims passed vars shares s s t (suc t) h (λ q low. refl) (omega arith)) (omega arith) room)

  -- an operand is still there where registers below its own are what they were
  pub has_after : (s s' : Bank) (n : ℕ) (x : Operand ℕ) (v : ℕ) → IsBelow n x → ((q : ℕ) → q < n → slice_index_or s' q None ≡ slice_index_or s q None) → Has s x v → Has s' x v
  has_after s s' n (Register r) v low same h = same r low ∙ h
  has_after s s' n (Literal c) v low same h = h

  below_more : (n m : ℕ) (x : Operand ℕ) → n ≤ m → IsBelow n x → IsBelow m x
  below_more n m (Register r) le low = omega (arith, le, low)
  below_more n m (Literal c) le low = low

  unary_works : (operator : UnaryOperator) (e : Expr) (a : ℕ) (s : Bank) (d t : ℕ) → high.value_of passed vars w e ≡ Some a → Works e a → Ready s t → d < t → (unary_into operator d (operand scope shares e t)).free ≤ length s → Puts claims u (unary_into operator d (operand scope shares e t)).code s t d (unary_word operator a)
  unary_works operator e a s d t is works h low room =
      let x = operand scope shares e t in
      let more = operand_free scope shares e t in
      let f = operand_found e a s t is works h (omega (arith, room)) in
      let s1 = f.finds.store in
      let size = f.finds.size in
      let p = unary_puts claims u s1 x.free d (omega (arith, low, more, room, size)) operator x.value a (omega (arith, low, more)) (omega (arith, room, size)) (has_word s1 x.value a works.small f.finds.value) in
      record {
        store = p.store;
        does = computed_then claims u x.code (unary_code operator d x.free x.value) s s1 p.store f.finds.does p.does;
        size = p.size ∙ size;
        value = p.value;
        others = λ q below other. p.others q (omega (arith, below, more)) other ∙ f.finds.others q below;
      }

  binary_works : (operator : BinaryOperator) (left right : Expr) (a b : ℕ) (s : Bank) (d t : ℕ) → high.value_of passed vars w left ≡ Some a → high.value_of passed vars w right ≡ Some b → Works left a → Works right b → Ready s t → d < t → (sides_into scope.shifts operator d (operand scope shares left t) (operand scope shares right)).free ≤ length s → Puts claims u (sides_into scope.shifts operator d (operand scope shares left t) (operand scope shares right)).code s t d (binary_word operator a b)
  binary_works operator left right a b s d t is_a is_b works_a works_b h low room =
      let x = operand scope shares left t in
      let y = operand scope shares right x.free in
      let more = operand_free scope shares left t in
      let further = operand_free scope shares right x.free in
      let f = operand_found left a s t is_a works_a h (omega (arith, room, further)) in
      let s1 = f.finds.store in
      let size = f.finds.size in
      let g = operand_found right b s1 x.free is_b works_b (stands_after scope claims passed vars shares s s1 t x.free h f.finds.others more) (omega (arith, room, size)) in
      let s2 = g.finds.store in
      let size2 = g.finds.size in
      let p = binary_puts claims u s2 y.free d (omega (arith, low, more, further, room, size, size2)) scope.shifts operator x.value y.value a b (omega (arith, low, more, further)) (omega (arith, room, size, size2)) works_a.small works_b.small (below_more x.free y.free x.value further f.below) (has_after s1 s2 x.free x.value a f.below g.finds.others f.finds.value) g.finds.value in
      record {
        store = p.store;
        does = computed_then claims u x.code (y.code ++ binary_code scope.shifts operator d y.free x.value y.value) s s1 p.store f.finds.does
            (computed_then claims u y.code (binary_code scope.shifts operator d y.free x.value y.value) s1 s2 p.store g.finds.does p.does);
        size = p.size ∙ size2 ∙ size;
        value = p.value;
        others = λ q below other. p.others q (omega (arith, below, more, further)) other ∙ g.finds.others q (omega (arith, below, more)) ∙ f.finds.others q below;
      }

  -- an offset: where it stands, it and the displacement are those of an element
  pub record Placed (kind : HighKind) (o : Offset) (s : Bank) (t v : ℕ) : Type 0 where
    pub store : Bank
    pub does : computed claims u o.code s ≡ Some store
    pub size : length store ≡ length s
    pub others : (q : ℕ) → q < t → slice_index_or store q None ≡ slice_index_or s q None
    pub offset : ℕ
    pub is : IsOffset store o.register offset
    pub low : OffsetBelow o.free o.register
    pub sum : (0 + offset + o.displacement) % 2 ^ 32 ≡ bytes (scale_of kind) v

  leading : (a b : ℕ) → (0 + a + b) % 2 ^ 32 ≡ (a + b) % 2 ^ 32
  leading a b = omega arith

  leading_none : (a : ℕ) → (0 + 0 + a) % 2 ^ 32 ≡ a % 2 ^ 32
  leading_none a = omega arith

  scaled_placed : (kind : HighKind) (scale r : ℕ) (i : Index) (s : Bank) (t v : ℕ) → scale ≡ scale_of kind → Ready s t → t ≤ i.part.free → (scaled shares scale r i).free ≤ length s → (p : ℕ) → Found i.part.code i.part.free s t (Register r) p → p < 2 ^ 32 → i.constant < 2 ^ 32 → (p + i.constant) % 2 ^ 32 ≡ v → Placed kind (scaled shares scale r i) s t v
  scaled_placed kind zero r i s t v same h more room p f small little sum =
      let place = bytes_sum kind p i.constant v sum in
      let none : scale_of kind ≡ 0 = sym same in
      let pe : bytes (scale_of kind) p ≡ p = ap (λ k. bytes k p) none ∙ (let e : 2 ^ 0 * p % 2 ^ 32 ≡ p = omega (arith, small) in e) in
      let ce : bytes (scale_of kind) i.constant ≡ i.constant = ap (λ k. bytes k i.constant) none ∙ (let e : 2 ^ 0 * i.constant % 2 ^ 32 ≡ i.constant = omega (arith, little) in e) in
      record {
        store = f.finds.store;
        does = f.finds.does;
        size = f.finds.size;
        others = f.finds.others;
        offset = p;
        is = f.finds.value;
        low = f.below;
        sum = leading p i.constant ∙ ap (λ n. (n + i.constant) % 2 ^ 32) (sym pe) ∙ ap (λ n. (bytes (scale_of kind) p + n) % 2 ^ 32) (sym ce) ∙ place;
      }
  scaled_placed kind (suc k) r i s t v same h more room p f small little sum = by_share (shared shares r (suc k)) refl room
    where
      place : (bytes (suc k) p + bytes (suc k) i.constant) % 2 ^ 32 ≡ bytes (scale_of kind) v
      place = subst (λ z. (bytes z p + bytes z i.constant) % 2 ^ 32 ≡ bytes (scale_of kind) v) (sym same) (bytes_sum kind p i.constant v sum)

      by_share : (o : Option ℕ) → shared shares r (suc k) ≡ o → (scaled_by o (suc k) r i).free ≤ length s → Placed kind (scaled_by o (suc k) r i) s t v
      by_share (Some q) e room =
          let s1 = f.finds.store in
          let before : slice_index_or s r None ≡ Some (Word p) = sym (f.finds.others r (h.sharing.variable r (suc k) q e)) ∙ f.finds.value in
          record {
            store = s1;
            does = f.finds.does;
            size = f.finds.size;
            others = f.finds.others;
            offset = bytes (suc k) p;
            is = f.finds.others q (h.sharing.below r (suc k) q e) ∙ h.sharing.held r (suc k) q p e before;
            low = let low = h.sharing.below r (suc k) q e in omega (arith, low, more);
            sum = leading (bytes (suc k) p) (bytes (suc k) i.constant) ∙ place;
          }
      by_share None e room =
          let s1 = f.finds.store in
          let size = f.finds.size in
          let n = i.part.free in
          let inside : n < length s1 = omega (arith, room, size) in
          let s2 = slice_set s1 n (Some (Word (bytes (suc k) p))) in
          let low : suc k < 32 = subst (λ z. z < 32) (sym same) (scale_small kind) in
          record {
            store = s2;
            does = computed_then claims u i.part.code (only (operate alu.ShiftLeft n (Register r) (Literal (suc k)))) s s1 s2 f.finds.does
                (ap (λ o. there o (computed claims u [])) (shift_after claims u s1 n r (suc k) p inside low f.finds.value));
            size = length-set s1 n (Some (Word (bytes (suc k) p))) ∙ size;
            others = λ q below. get_or-set_other s1 n q (Some (Word (bytes (suc k) p))) None (λ e. omega (arith, e, below, more)) ∙ f.finds.others q below;
            offset = bytes (suc k) p;
            is = get_or-set_same s1 n (Some (Word (bytes (suc k) p))) None inside;
            low = omega arith;
            sum = leading (bytes (suc k) p) (bytes (suc k) i.constant) ∙ place;
          }

  pub offset_placed : (kind : HighKind) (x : Operand ℕ) (i : Index) (s : Bank) (t v : ℕ) → Ready s t → t ≤ i.part.free → (offset_by shares (scale_of kind) x i).free ≤ length s → (p : ℕ) → Found i.part.code i.part.free s t x p → p < 2 ^ 32 → i.constant < 2 ^ 32 → (p + i.constant) % 2 ^ 32 ≡ v → Placed kind (offset_by shares (scale_of kind) x i) s t v
  offset_placed kind (Literal c) i s t v h more room p f small little sum =
      let is : c ≡ p = f.finds.value in
      let whole : (c + i.constant) % 2 ^ 32 ≡ v = ap (λ n. (n + i.constant) % 2 ^ 32) is ∙ sum in
      let place = bytes_whole kind (c + i.constant) v whole in
      record { store = f.finds.store; does = f.finds.does; size = f.finds.size; others = f.finds.others; offset = 0; is = refl; low = tt; sum = leading_none (bytes (scale_of kind) (c + i.constant)) ∙ place }
  offset_placed kind (Register r) i s t v h more room p f small little sum = scaled_placed kind (scale_of kind) r i s t v refl h more room p f small little sum

  -- an element
  loads : (array : Array) (b : Base ℕ) (o : Offset) (s1 : Bank) (d object n v : ℕ) → d < length s1 → Means claims s1 b object → IsOffset s1 o.register n → (k : ℕ) → (0 + n + o.displacement) % 2 ^ 32 ≡ k → loaded u.objects (kind_of array.kind) object k ≡ Some v → after_instr claims u (Load (kind_of array.kind) d (address b o)) s1 ≡ Some (slice_set s1 d (Some (Word v)))
  loads array b o s1 d object n v inside means is k sum e =
      let l = leads claims s1 b o.register o.displacement object n k means is sum in
      let kind = kind_of array.kind in
      let go : ℕ → ℕ → Option Did = λ q m. there (loaded u.objects kind q m) (λ word. gives u (Word word)) in
      let write : Option Did → Option Bank = λ x. there x (λ f. write_to virtual s1 (Some d) f.value) in
      ap (λ xs. write (there xs (λ ys. resolved claims (address b o) ys go))) l.reads_are
      ∙ ap write (l.to go)
      ∙ ap (λ x. write (there x (λ word. gives u (Word word)))) e
      ∙ write_inside s1 d (Word v) inside

  element_works : (array : Array) (index : Expr) (i v : ℕ) (s : Bank) (d t : ℕ) → Reads passed w array i v → FoundIndex ((forms scope shares index).index t) s t i → t ≤ ((forms scope shares index).index t).part.free → Ready s t → d < t → (element_into scope shares array d ((forms scope shares index).index t)).free ≤ length s → Puts claims u (element_into scope shares array d ((forms scope shares index).index t)).code s t d v
  element_works array index i v s d t r f more h low room = by_base (base_of scope array.base) bas.is
    where
      ix : Index
      ix = (forms scope shares index).index t

      o : Offset
      o = offset_of shares (scale_of array.kind) ix

      enough : o.free ≤ length s
      enough = let a = load_grows scope shares array.kind d (base_of scope array.base) o in omega (arith, a, room)

      p : Placed array.kind o s t i
      p = offset_placed array.kind ix.part.value ix s t i h more enough f.part f.found f.small f.little f.sum

      inside : d < length p.store
      inside = let size = p.size in let a = offset_grows scope shares (scale_of array.kind) ix.part.value ix in omega (arith, low, enough, size, a, more)

      bas : Based scope claims p.store array.base r.object
      bas =
          let stands = stands_after scope claims passed vars shares s p.store t t h p.others (omega arith) in
          based scope claims passed vars w u p.store array.base r.object r.contents meets stands.frame r.number r.there_is

      by_base : (q : Option (Base ℕ)) → q ≡ Some bas.base → Puts claims u (load_into (kind_of array.kind) d q o).code s t d v
      by_base None e = cc
      by_base (Some b) e =
          let same : b ≡ bas.base = same_Some b bas.base e in
          let put = puts_one claims u (Load (kind_of array.kind) d (address b o)) p.store t d v inside
          (loads array b o p.store d r.object p.offset v inside (subst (λ x. Means claims p.store x r.object) (sym same) bas.means) p.is (bytes (scale_of array.kind) i) p.sum (loaded_is scope passed w u array i v meets r)) in
          record {
            store = put.store;
            does = computed_then claims u o.code (only (Do (Load (kind_of array.kind) d (address b o)))) s p.store put.store p.does put.does;
            size = put.size ∙ p.size;
            value = put.value;
            others = λ q below other. put.others q below other ∙ p.others q below;
          }

  -- a leaf into a register
  set_works : (x : Operand ℕ) (v : ℕ) (s : Bank) (d t : ℕ) → v < 2 ^ 32 → IsLeaf s t x v → d < length s → Puts claims u (set_to x d t).code s t d v
  set_works x v s d t small h inside = puts_one claims u (Set d x) s t d v inside (set_after claims u s d x (Word v) inside (has_word s x v small h.value))

  -- an expression whose whole value is its index
  whole_found : (x : Valued) (v : ℕ) (s : Bank) (t : ℕ) → v < 2 ^ 32 → FoundBy x s t v → FoundIndex (plain_index x) s t v
  whole_found x v s t small f = record { part = v; small = small; little = omega arith; found = f; sum = omega (arith, small) }

  -- where one side is a constant, the other one is the part
  plus_found : (x : Valued) (o : Option (Operand ℕ)) (other : Index) (s : Bank) (t a b v : ℕ) → a < 2 ^ 32 → b < 2 ^ 32 → (a + b) % 2 ^ 32 ≡ v → (x.free ≤ length s → FoundBy x s t a) → ((y : Operand ℕ) → o ≡ Some y → IsLeaf s t y b) → (other.part.free ≤ length s → FoundIndex other s t v) → (plus x o other).part.free ≤ length s → FoundIndex (plus x o other) s t v
  plus_found x None other s t a b v ha hb sum f l k room = k room
  plus_found x (Some (Register r)) other s t a b v ha hb sum f l k room = k room
  plus_found x (Some (Literal c)) other s t a b v ha hb sum f l k room =
      let leaf = l (Literal c) refl in
      let is : c ≡ b = leaf.value in
      record { part = a; small = ha; little = omega (arith, is, hb); found = f room; sum = ap (λ n. (a + n) % 2 ^ 32) is ∙ sum }

  minus_found : (x : Valued) (o : Option (Operand ℕ)) (other : Index) (s : Bank) (t a b v : ℕ) → a < 2 ^ 32 → b < 2 ^ 32 → (a + (2 ^ 32 - b)) % 2 ^ 32 ≡ v → (x.free ≤ length s → FoundBy x s t a) → ((y : Operand ℕ) → o ≡ Some y → IsLeaf s t y b) → (other.part.free ≤ length s → FoundIndex other s t v) → (minus x o other).part.free ≤ length s → FoundIndex (minus x o other) s t v
  minus_found x None other s t a b v ha hb sum f l k room = k room
  minus_found x (Some (Register r)) other s t a b v ha hb sum f l k room = k room
  minus_found x (Some (Literal c)) other s t a b v ha hb sum f l k room =
      let leaf = l (Literal c) refl in
      let is : c ≡ b = leaf.value in
      record { part = a; small = ha; little = negated_below c; found = f room; sum = ap (λ n. (a + negated n) % 2 ^ 32) is ∙ sum-negated a b hb ∙ sum }

  -- the sides of an operator at one place
  record Sides (l r : Valued) (left right : Option (Operand ℕ)) (s : Bank) (t a b : ℕ) : Type 0 where
    small_a : a < 2 ^ 32
    small_b : b < 2 ^ 32
    of_left : l.free ≤ length s → FoundBy l s t a
    of_right : r.free ≤ length s → FoundBy r s t b
    leaf_left : (y : Operand ℕ) → left ≡ Some y → IsLeaf s t y a
    leaf_right : (y : Operand ℕ) → right ≡ Some y → IsLeaf s t y b

  split_found : (operator : BinaryOperator) (left right : Option (Operand ℕ)) (l r : Valued) (whole : Index) (s : Bank) (t a b : ℕ) → Sides l r left right s t a b → (whole.part.free ≤ length s → FoundIndex whole s t (binary_word operator a b)) → (split operator left right l r whole).part.free ≤ length s → FoundIndex (split operator left right l r whole) s t (binary_word operator a b)
  unfolding binary_word
  split_found Add left right l r whole s t a b h k room =
      let turned : (b + a) % 2 ^ 32 ≡ (a + b) % 2 ^ 32 = omega arith in
      plus_found l right (plus r left whole) s t a b ((a + b) % 2 ^ 32) h.small_a h.small_b refl h.of_left h.leaf_right
      (plus_found r left whole s t b a ((a + b) % 2 ^ 32) h.small_b h.small_a turned h.of_right h.leaf_left k) room
  split_found Subtract left right l r whole s t a b h k room = minus_found l right whole s t a b ((a + (2 ^ 32 - b)) % 2 ^ 32) h.small_a h.small_b refl h.of_left h.leaf_right k room
  split_found Multiply left right l r whole s t a b h k room = k room
  split_found Divide left right l r whole s t a b h k room = k room
  split_found DivideUnsigned left right l r whole s t a b h k room = k room
  split_found Remainder left right l r whole s t a b h k room = k room
  split_found RemainderUnsigned left right l r whole s t a b h k room = k room
  split_found And left right l r whole s t a b h k room = k room
  split_found Or left right l r whole s t a b h k room = k room
  split_found Xor left right l r whole s t a b h k room = k room
  split_found ShiftLeft left right l r whole s t a b h k room = k room
  split_found ShiftRight left right l r whole s t a b h k room = k room
  split_found ShiftRightUnsigned left right l r whole s t a b h k room = k room
  split_found Equal left right l r whole s t a b h k room = k room
  split_found NotEqual left right l r whole s t a b h k room = k room
  split_found Less left right l r whole s t a b h k room = k room
  split_found LessUnsigned left right l r whole s t a b h k room = k room
  split_found AtLeast left right l r whole s t a b h k room = k room
  split_found AtLeastUnsigned left right l r whole s t a b h k room = k room

  -- one register more is taken
  later : (s : Bank) (t : ℕ) → Ready s t → Ready s (suc t)
  later s t h = stands_after scope claims passed vars shares s s t (suc t) h (λ q low. refl) (omega arith)

  element_value : (array : Array) (index : Expr) (i v : ℕ) → Works index i → Reads passed w array i v → Works (Element array index) v
  element_value array index i v works r =
      let g = grows scope shares index in
      record {
        small = let sound = meets.sound r.object r.contents r.there_is in sound.words i v r.value;
        into = λ s d t h low room.
            element_works array index i v s d t r (works.index s t h (let a = element_grows scope shares array d ((forms scope shares index).index t) in omega (arith, a, room))) (g.index t) h low room;
        index = λ s t h room.
            let c = element_into scope shares array t ((forms scope shares index).index (suc t)) in
            let a = element_grows scope shares array t ((forms scope shares index).index (suc t)) in
            let b = g.index (suc t) in
            let sound = meets.sound r.object r.contents r.there_is in
            whole_found (in_register t c) v s t (sound.words i v r.value)
            (found_put c v s t (omega (arith, a, b)) (element_works array index i v s t (suc t) r (works.index s (suc t) (later s t h) (omega (arith, a, room))) b (later s t h) (omega arith) room));
      }

  unary_value : (operator : UnaryOperator) (e : Expr) (a : ℕ) → high.value_of passed vars w e ≡ Some a → Works e a → Works (Unary operator e) (unary_word operator a)
  unary_value operator e a is works = record {
    small = unary_below operator a works.small;
    into = λ s d t h low room. unary_works operator e a s d t is works h low room;
    index = λ s t h room.
        let c = unary_into operator t (operand scope shares e (suc t)) in
        let more = operand_free scope shares e (suc t) in
        whole_found (in_register t c) (unary_word operator a) s t (unary_below operator a works.small)
        (found_put c (unary_word operator a) s t (omega (arith, more)) (unary_works operator e a s t (suc t) is works (later s t h) (omega arith) room));
  }

  binary_value : (operator : BinaryOperator) (left right : Expr) (a b : ℕ) → high.value_of passed vars w left ≡ Some a → high.value_of passed vars w right ≡ Some b → Works left a → Works right b → Works (Binary operator left right) (binary_word operator a b)
  binary_value operator left right a b is_a is_b works_a works_b = record {
    small = binary_below operator a b works_a.small works_b.small;
    into = λ s d t h low room. binary_works operator left right a b s d t is_a is_b works_a works_b h low room;
    index = λ s t h room.
        let c = sides_into scope.shifts operator t (operand scope shares left (suc t)) (operand scope shares right) in
        let more = sides_grow scope shares operator t (suc t) left right (grows scope shares left) (grows scope shares right) in
        split_found operator (leaf scope left) (leaf scope right) (operand scope shares left t) (operand scope shares right t) (plain_index (in_register t c)) s t a b
        (record {
          small_a = works_a.small;
          small_b = works_b.small;
          of_left = λ enough. operand_found left a s t is_a works_a h enough;
          of_right = λ enough. operand_found right b s t is_b works_b h enough;
          leaf_left = λ y e. leaf_is left y a s t h e is_a;
          leaf_right = λ y e. leaf_is right y b s t h e is_b;
        })
        (λ enough. whole_found (in_register t c) (binary_word operator a b) s t (binary_below operator a b works_a.small works_b.small)
        (found_put c (binary_word operator a b) s t more (binary_works operator left right a b s t (suc t) is_a is_b works_a works_b (later s t h) (omega arith) enough))) room;
  }

  -- each expression whose value a good run finds
  pub works : (e : Expr) → IsWordy e → (v : ℕ) → AreWords vars → high.value_of passed vars w e ≡ Some v → Works e v
  works (Constant c) wordy v words e =
      let same : c ≡ v = same_Some c v e in
      let small : v < 2 ^ 32 = omega (arith, same, wordy) in
      record {
        small = small;
        into = λ s d t h low room. set_works (Literal c) v s d t small (leaf_is (Constant c) (Literal c) v s t h refl e) (omega (arith, low, room));
        index = λ s t h room. whole_found (record { code = []; value = Literal c; free = t }) v s t small (found_leaf (Literal c) v s t (leaf_is (Constant c) (Literal c) v s t h refl e));
      }
  works (Variable x) wordy v words e =
      record {
        small = words x v e;
        into = λ s d t h low room. set_works (variable scope x) v s d t (words x v e) (leaf_is (Variable x) (variable scope x) v s t h refl e) (omega (arith, low, room));
        index = λ s t h room. whole_found (record { code = []; value = variable scope x; free = t }) v s t (words x v e) (found_leaf (variable scope x) v s t (leaf_is (Variable x) (variable scope x) v s t h refl e));
      }
  works (Element array index) wordy v words e =
      let f = from_value (high.value_of passed vars w index) (λ i. high.at_value (high.array_of passed w array) (λ c. high.element c i)) v e in
      element_value array index f.value v (works index wordy f.value words f.is) (reads passed w array f.value v f.then_is)
  works (Unary operator operand) wordy v words e =
      let f = from_value (high.value_of passed vars w operand) (λ a. Some (unary_word operator a)) v e in
      subst (Works (Unary operator operand)) (same_Some (unary_word operator f.value) v f.then_is) (unary_value operator operand f.value f.is (works operand wordy f.value words f.is))
  works (Binary operator left right) wordy v words e =
      let f = from_value (high.value_of passed vars w left) (λ a. high.at_value (high.value_of passed vars w right) (λ b. Some (binary_word operator a b))) v e in
      let g = from_value (high.value_of passed vars w right) (λ b. Some (binary_word operator f.value b)) v f.then_is in
      subst (Works (Binary operator left right)) (same_Some (binary_word operator f.value g.value) v g.then_is)
      (binary_value operator left right f.value g.value f.is g.is (works left wordy.0 f.value words f.is) (works right wordy.1 g.value words g.is))
