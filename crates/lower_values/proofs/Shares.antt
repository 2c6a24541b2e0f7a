-- The registers that a statement's accesses share.
use Rattle.std.proofs.Common.{◌≡◌, ◌≢◌, ℕ, zero, suc, ◌+◌, ◌<◌, ◌≤◌, Bool, true, false, List, [], ◌∷◌, ◌++◌, length, Option, Some, None, refl, sym, ap, ◌∙◌, subst, arith, get_or-set_same, get_or-set_other, length-set, length-append}
use Rattle.std.specs.Prelude.{◌==◌, ◌&&◌, if◌then◌else◌, nat_lt, slice_index_or, slice_set}
use Rattle.std.proofs.lemmas.Bool.Decides.{nat_tests}
use Rattle.std.proofs.lemmas.List.{map-append}
use Rattle.std.proofs.lemmas.Option.{same_Some}
use Rattle.rv_core.specs.declared.row.Alu.TheVariants as alu
use Rattle.high_ir.specs.declared.object.Kind.{Kind as HighKind}
use Rattle.high_ir.specs.declared.object.Kind.TheVariants as kinds
use Rattle.high_ir.specs.declared.object.Array.{Array}
use Rattle.high_ir.specs.declared.expression.BinaryOperator.{BinaryOperator}
use Rattle.high_ir.specs.declared.expression.BinaryOperator.TheVariants.{Add, Subtract, Multiply, Divide, DivideUnsigned, Remainder, RemainderUnsigned, And, Or, Xor, ShiftLeft, ShiftRight, ShiftRightUnsigned, Equal, NotEqual, Less, LessUnsigned, AtLeast, AtLeastUnsigned}
use Rattle.high_ir.specs.Meaning as high
use Rattle.high_ir.specs.Tree.{Expr, Constant, Variable, Element, Unary, Binary}
use Rattle.high_ir.specs.Words.{unary_word, binary_word}
use Rattle.low_ir.specs.Code.{Register, Constant as Literal}
use Rattle.low_ir.specs.declared.run.Value.{Value}
use Rattle.low_ir.specs.declared.run.Value.TheVariants.{Word}
use Rattle.low_ir.specs.Effects.{World, there}
use Rattle.low_ir.specs.Runs.{Bank}
use Rattle.lower_definition.specs.Objects.{scale_of}
use Rattle.lower_definition.specs.Operators.{only, operate}
use Rattle.lower_definition.specs.Values.{Scope, Share, Scaled, bytes, first_free, shared, leaf, is_constant, register_of, split_register, index_register, scaled_as, scaled_in, scaled_in_all, with_share, shares_from, share_code}
use Rattle.lower_values.specs.Computing.{computed}
use Rattle.lower_values.specs.Meeting.{MeetsFrame, HasShares, Stands}
use Rattle.lower_values.proofs.Elements.{from_value, index_within}
use Rattle.lower_values.proofs.Standing.{stands_after, computed_then, shift_after}

-- a variable that is written, and a scale
pub record IsScaled (vars : high.Variables) (x : Scaled) : Type 0 where
  pub value : ℕ
  pub is : slice_index_or vars x.variable None ≡ Some value
  pub small : x.scale < 32

abbrev pub AreScaled : high.Variables → List Scaled → Type 0
AreScaled vars [] = Unit {0}
AreScaled vars (x ∷ xs) = IsScaled vars x × AreScaled vars xs

pub scaled_append : (vars : high.Variables) (xs ys : List Scaled) → AreScaled vars xs → AreScaled vars ys → AreScaled vars (xs ++ ys)
scaled_append vars [] ys h k = k
scaled_append vars (x ∷ xs) ys h k = (h.0, scaled_append vars xs ys h.1 k)

module _ (scope : Scope) (passed : List ℕ) (vars : high.Variables) (w : high.World) where
  -- the register of a leaf is that of a variable
  register_written : (e : Expr) (x v : ℕ) → register_of (leaf scope e) ≡ Some x → high.value_of passed vars w e ≡ Some v → slice_index_or vars x None ≡ Some v
  register_written (Constant c) x v e f = cc
  register_written (Variable y) x v e f = by_test (nat_lt y scope.variables) e
    where
      by_test : (b : Bool) → register_of (Some (if b then Register y else Literal 0)) ≡ Some x → slice_index_or vars x None ≡ Some v
      by_test true e = ap (λ z. slice_index_or vars z None) (sym (same_Some y x e)) ∙ f
      by_test false e = cc
  register_written (Element array index) x v e f = cc
  register_written (Unary operator operand) x v e f = cc
  register_written (Binary operator left right) x v e f = cc

  -- the value of a register that is split off
  record Written (x : ℕ) : Type 0 where
    value : ℕ
    is : slice_index_or vars x None ≡ Some value

  pick : (b : Bool) (o p : Option ℕ) (x : ℕ) → (o ≡ Some x → Written x) → (p ≡ Some x → Written x) → (if b then o else p) ≡ Some x → Written x
  pick true o p x h k e = h e
  pick false o p x h k e = k e

  split_written : (operator : BinaryOperator) (left right : Expr) (a b x : ℕ) → high.value_of passed vars w left ≡ Some a → high.value_of passed vars w right ≡ Some b → split_register operator (leaf scope left) (leaf scope right) ≡ Some x → Written x
  split_written Add left right a b x ea eb e =
      let of_left : register_of (leaf scope left) ≡ Some x → Written x = λ q. record { value = a; is = register_written left x a q ea } in
      let of_right : register_of (leaf scope right) ≡ Some x → Written x = λ q. record { value = b; is = register_written right x b q eb } in
      pick (is_constant (leaf scope right)) (register_of (leaf scope left)) (if is_constant (leaf scope left) then register_of (leaf scope right) else None) x of_left
      (pick (is_constant (leaf scope left)) (register_of (leaf scope right)) None x of_right (λ q. cc)) e
  split_written Subtract left right a b x ea eb e =
      pick (is_constant (leaf scope right)) (register_of (leaf scope left)) None x (λ q. record { value = a; is = register_written left x a q ea }) (λ q. cc) e
  split_written Multiply left right a b x ea eb e = cc
  split_written Divide left right a b x ea eb e = cc
  split_written DivideUnsigned left right a b x ea eb e = cc
  split_written Remainder left right a b x ea eb e = cc
  split_written RemainderUnsigned left right a b x ea eb e = cc
  split_written And left right a b x ea eb e = cc
  split_written Or left right a b x ea eb e = cc
  split_written Xor left right a b x ea eb e = cc
  split_written ShiftLeft left right a b x ea eb e = cc
  split_written ShiftRight left right a b x ea eb e = cc
  split_written ShiftRightUnsigned left right a b x ea eb e = cc
  split_written Equal left right a b x ea eb e = cc
  split_written NotEqual left right a b x ea eb e = cc
  split_written Less left right a b x ea eb e = cc
  split_written LessUnsigned left right a b x ea eb e = cc
  split_written AtLeast left right a b x ea eb e = cc
  split_written AtLeastUnsigned left right a b x ea eb e = cc

  index_written : (index : Expr) (i x : ℕ) → high.value_of passed vars w index ≡ Some i → index_register scope index ≡ Some x → Written x
  index_written (Constant c) i x e f = cc
  index_written (Variable y) i x e f = record { value = i; is = register_written (Variable y) x i f e }
  index_written (Element array index) i x e f = cc
  index_written (Unary operator operand) i x e f = cc
  index_written (Binary operator left right) i x e f =
      let a = from_value (high.value_of passed vars w left) (λ a. high.at_value (high.value_of passed vars w right) (λ b. Some (binary_word operator a b))) i e in
      let b = from_value (high.value_of passed vars w right) (λ b. Some (binary_word operator a.value b)) i a.then_is in
      split_written operator left right a.value b.value x a.is b.is f

  as_scaled : (k : ℕ) (o : Option ℕ) → k < 32 → ((x : ℕ) → o ≡ Some x → Written x) → AreScaled vars (scaled_as k o)
  as_scaled zero o small h = tt
  as_scaled (suc k) None small h = tt
  as_scaled (suc k) (Some x) small h = let a = h x refl in (record { value = a.value; is = a.is; small = small }, tt)

  small_scale : (k : HighKind) → scale_of k < 32
  small_scale kinds.Unsigned8 = omega arith
  small_scale kinds.Signed8 = omega arith
  small_scale kinds.Unsigned16 = omega arith
  small_scale kinds.Signed16 = omega arith
  small_scale kinds.Word = omega arith

  -- the index of an element, and what is scaled in it
  pub element_scaled : (array : Array) (index : Expr) (i : ℕ) → high.value_of passed vars w index ≡ Some i → AreScaled vars (scaled_in scope index) → AreScaled vars (scaled_in scope (Element array index))
  element_scaled array index i e h =
      scaled_append vars (scaled_as (scale_of array.kind) (index_register scope index)) (scaled_in scope index)
      (as_scaled (scale_of array.kind) (index_register scope index) (small_scale array.kind) (λ x f. index_written index i x e f)) h

  -- what a good run scales was written
  pub scaled_written : (e : Expr) (v : ℕ) → high.value_of passed vars w e ≡ Some v → AreScaled vars (scaled_in scope e)
  scaled_written (Constant c) v e = tt
  scaled_written (Variable x) v e = tt
  scaled_written (Element array index) v e =
      let a = from_value (high.value_of passed vars w index) (λ i. high.at_value (high.array_of passed w array) (λ c. high.element c i)) v e in
      element_scaled array index a.value a.is (scaled_written index a.value a.is)
  scaled_written (Unary operator operand) v e =
      let a = from_value (high.value_of passed vars w operand) (λ a. Some (unary_word operator a)) v e in
      scaled_written operand a.value a.is
  scaled_written (Binary operator left right) v e =
      let a = from_value (high.value_of passed vars w left) (λ a. high.at_value (high.value_of passed vars w right) (λ b. Some (binary_word operator a b))) v e in
      let b = from_value (high.value_of passed vars w right) (λ b. Some (binary_word operator a.value b)) v a.then_is in
      scaled_append vars (scaled_in scope left) (scaled_in scope right) (scaled_written left a.value a.is) (scaled_written right b.value b.is)

  pub scaled_written_all : (es : List Expr) (vs : List ℕ) → high.values_of passed vars w es ≡ Some vs → AreScaled vars (scaled_in_all scope es)
  scaled_written_all [] vs e = tt
  scaled_written_all (x ∷ xs) vs e =
      let a = from_value (high.value_of passed vars w x) (λ v. high.at_value (high.values_of passed vars w xs) (λ rest. Some (v ∷ rest))) vs e in
      let b = from_value (high.values_of passed vars w xs) (λ rest. Some (a.value ∷ rest)) vs a.then_is in
      scaled_append vars (scaled_in scope x) (scaled_in_all scope xs) (scaled_written x a.value a.is) (scaled_written_all xs b.value b.is)

-- a share behind others
data Among (ss : List Share) (n : Share) (y k r : ℕ) : Type 0 where
  Before : (is : shared ss y k ≡ Some r) → Among ss n y k r
  Last : (variable : y ≡ n.variable) (scale : k ≡ n.scale) (register : r ≡ n.register) → Among ss n y k r

tests : (a b c d : ℕ) → ((a == b) && (c == d)) ≡ true → (b ≡ a) × (d ≡ c)
tests a b c d e = (grind (arith, nat_tests, e), grind (arith, nat_tests, e))

deeper : (s : Share) (ss : List Share) (n : Share) (y k r : ℕ) → ((s.variable == y) && (s.scale == k)) ≡ false → Among ss n y k r → Among (s ∷ ss) n y k r
deeper s ss n y k r t (Before f) = Before (ap (λ b. if b then Some s.register else shared ss y k) t ∙ f)
deeper s ss n y k r t (Last a b c) = Last a b c

among_more : (s : Share) (ss : List Share) (n : Share) (y k r : ℕ) (b : Bool) → ((s.variable == y) && (s.scale == k)) ≡ b → (if b then Some s.register else shared (ss ++ n ∷ []) y k) ≡ Some r → (shared (ss ++ n ∷ []) y k ≡ Some r → Among ss n y k r) → Among (s ∷ ss) n y k r
among_more s ss n y k r true t e h = Before (ap (λ b. if b then Some s.register else shared ss y k) t ∙ e)
among_more s ss n y k r false t e h = deeper s ss n y k r t (h e)

among : (ss : List Share) (n : Share) (y k r : ℕ) → shared (ss ++ n ∷ []) y k ≡ Some r → Among ss n y k r
among [] n y k r e = by_test ((n.variable == y) && (n.scale == k)) refl e
  where
    by_test : (b : Bool) → ((n.variable == y) && (n.scale == k)) ≡ b → (if b then Some n.register else None) ≡ Some r → Among [] n y k r
    by_test true t e = let h = tests n.variable y n.scale k t in Last h.0 h.1 (sym (same_Some n.register r e))
    by_test false t e = cc
among (s ∷ ss) n y k r e = among_more s ss n y k r ((s.variable == y) && (s.scale == k)) refl e (λ f. among ss n y k r f)

word_same : (o : Option Value) (a b : ℕ) → o ≡ Some (Word a) → o ≡ Some (Word b) → a ≡ b
word_same o a b e f = let same : Some (Word a) ≡ Some (Word b) = sym e ∙ f in cc

-- a share more, whose register is the next one
module _ (ss : List Share) (n : Share) (s1 s2 : Bank) (v : ℕ) (h : HasShares ss s1 n.register) (low : n.variable < n.register) (same : (i : ℕ) → i ≢ n.register → slice_index_or s2 i None ≡ slice_index_or s1 i None) (new : slice_index_or s2 n.register None ≡ Some (Word (bytes n.scale v))) (old : slice_index_or s1 n.variable None ≡ Some (Word v)) where
  kept : (i : ℕ) → i < n.register → slice_index_or s2 i None ≡ slice_index_or s1 i None
  kept i below = same i (λ e. omega (arith, e, below))

  variable_among : (y k r : ℕ) → Among ss n y k r → y < suc n.register
  variable_among y k r (Before e) = let a = h.variable y k r e in omega (arith, a)
  variable_among y k r (Last a b c) = omega (arith, a, low)

  below_among : (y k r : ℕ) → Among ss n y k r → r < suc n.register
  below_among y k r (Before e) = let a = h.below y k r e in omega (arith, a)
  below_among y k r (Last a b c) = omega (arith, c)

  held_among : (y k r z : ℕ) → Among ss n y k r → slice_index_or s2 y None ≡ Some (Word z) → slice_index_or s2 r None ≡ Some (Word (bytes k z))
  held_among y k r z (Before e) f = kept r (h.below y k r e) ∙ h.held y k r z e (sym (kept y (h.variable y k r e)) ∙ f)
  held_among y k r z (Last a b c) f =
      let is : v ≡ z = word_same (slice_index_or s2 n.variable None) v z (kept n.variable low ∙ old) (ap (λ i. slice_index_or s2 i None) (sym a) ∙ f) in
      ap (λ i. slice_index_or s2 i None) c ∙ new ∙ ap (λ m. Some (Word (bytes n.scale m))) is ∙ ap (λ j. Some (Word (bytes j z))) (sym b)

  has_more : HasShares (ss ++ n ∷ []) s2 (suc n.register)
  has_more = record {
    variable = λ y k r e. variable_among y k r (among ss n y k r e);
    below = λ y k r e. below_among y k r (among ss n y k r e);
    held = λ y k r z e f. held_among y k r z (among ss n y k r e) f;
  }

with_share_grows : (o : Option ℕ) (x : Scaled) (t : ℕ) (ss : List Share) → length ss ≤ length (with_share o x t ss)
with_share_grows (Some r) x t ss = omega arith
with_share_grows None x t ss = let total = length-append ss (record { variable = x.variable; scale = x.scale; register = t + length ss } ∷ []) in omega (arith, total)

pub shares_grow : (t : ℕ) (xs : List Scaled) (ss : List Share) → length ss ≤ length (shares_from t ss xs)
shares_grow t [] ss = omega arith
shares_grow t (x ∷ xs) ss =
    let a = with_share_grows (shared ss x.variable x.scale) x t ss in
    let b = shares_grow t xs (with_share (shared ss x.variable x.scale) x t ss) in
    omega (arith, a, b)

module _ (claims : List (List ℕ)) (u : World) (s : Bank) (t : ℕ) where
  -- code of shares that was run
  pub record Shared (ss : List Share) : Type 0 where
    pub store : Bank
    pub does : computed claims u (share_code ss) s ≡ Some store
    pub size : length store ≡ length s
    pub others : (q : ℕ) → q < t → slice_index_or store q None ≡ slice_index_or s q None
    pub shares : HasShares ss store (t + length ss)

  none_shared : Shared []
  none_shared = record {
    store = s;
    does = refl;
    size = refl;
    others = λ q low. refl;
    shares = record { variable = λ x k r e. cc; below = λ x k r e. cc; held = λ x k r v e f. cc };
  }

  one_more : (ss : List Share) (x : Scaled) (v : ℕ) → Shared ss → x.scale < 32 → x.variable < t → slice_index_or s x.variable None ≡ Some (Word v) → t + length ss < length s → Shared (ss ++ record { variable = x.variable; scale = x.scale; register = t + length ss } ∷ [])
  one_more ss x v h small low e room =
      let r = t + length ss in
      let n : Share = record { variable = x.variable; scale = x.scale; register = r } in
      let s1 = h.store in
      let size = h.size in
      let word = Some (Word (bytes x.scale v)) in
      let s2 = slice_set s1 r word in
      let inside : r < length s1 = omega (arith, room, size) in
      let is : slice_index_or s1 x.variable None ≡ Some (Word v) = h.others x.variable low ∙ e in
      let total : t + length (ss ++ n ∷ []) ≡ suc r = omega (arith, length-append ss (n ∷ [])) in
      record {
        store = s2;
        does = ap (λ c. computed claims u c s) (map-append (λ (z : Share). operate alu.ShiftLeft z.register (Register z.variable) (Literal z.scale)) ss (n ∷ []))
            ∙ computed_then claims u (share_code ss) (only (operate alu.ShiftLeft r (Register x.variable) (Literal x.scale))) s s1 s2 h.does (ap (λ o. there o (computed claims u [])) (shift_after claims u s1 r x.variable x.scale v inside small is));
        size = length-set s1 r word ∙ size;
        others = λ q below. get_or-set_other s1 r q word None (λ d. omega (arith, d, below)) ∙ h.others q below;
        shares = subst (HasShares (ss ++ n ∷ []) s2) (sym total)
            (has_more ss n s1 s2 v h.shares (omega (arith, low)) (λ i d. get_or-set_other s1 r i word None d) (get_or-set_same s1 r word None inside) is);
      }

  -- registers for all that is scaled
  shared_more : (vars : high.Variables) (xs : List Scaled) (ss : List Share) → AreScaled vars xs → ((x v : ℕ) → slice_index_or vars x None ≡ Some v → (x < t) × (slice_index_or s x None ≡ Some (Word v))) → Shared ss → t + length (shares_from t ss xs) ≤ length s → Shared (shares_from t ss xs)
  shared_more vars [] ss are held h room = h
  shared_more vars (x ∷ xs) ss are held h room = by_share (shared ss x.variable x.scale) room (λ ss2 h2 room2. shared_more vars xs ss2 are.1 held h2 room2)
    where
      by_share : (o : Option ℕ) → t + length (shares_from t (with_share o x t ss) xs) ≤ length s → ((ss2 : List Share) → Shared ss2 → t + length (shares_from t ss2 xs) ≤ length s → Shared (shares_from t ss2 xs)) → Shared (shares_from t (with_share o x t ss) xs)
      by_share (Some r) room go = go ss h room
      by_share None room go =
          let n : Share = record { variable = x.variable; scale = x.scale; register = t + length ss } in
          let more = shares_grow t xs (ss ++ n ∷ []) in
          let total = length-append ss (n ∷ []) in
          let is = held x.variable are.0.value are.0.is in
          go (ss ++ n ∷ []) (one_more ss x are.0.value h are.0.small is.0 is.1 (omega (arith, room, more, total))) room

-- the shares of a statement: they are computed where the frame stands, and then it stands with them
pub record Begun (scope : Scope) (claims : List (List ℕ)) (u : World) (passed : List ℕ) (vars : high.Variables) (ss : List Share) (s : Bank) (t : ℕ) : Type 0 where
  pub store : Bank
  pub does : computed claims u (share_code ss) s ≡ Some store
  pub size : length store ≡ length s
  pub others : (q : ℕ) → q < t → slice_index_or store q None ≡ slice_index_or s q None
  pub stands : Stands scope claims passed vars ss store (t + length ss)

pub begun : (scope : Scope) (claims : List (List ℕ)) (u : World) (passed : List ℕ) (vars : high.Variables) (xs : List Scaled) (s : Bank) (t : ℕ) → MeetsFrame scope claims passed vars s → first_free scope ≤ t → AreScaled vars xs → t + length (shares_from t [] xs) ≤ length s → Begun scope claims u passed vars (shares_from t [] xs) s t
begun scope claims u passed vars xs s t frame free are room =
    let held : (x v : ℕ) → slice_index_or vars x None ≡ Some v → (x < t) × (slice_index_or s x None ≡ Some (Word v)) =
    λ x v e. (let inside = index_within vars x v e in let count = frame.count in omega (arith, inside, count, free), frame.variables x v e) in
    let h = shared_more claims u s t vars xs [] are held (none_shared claims u s t) room in
    let alone : Stands scope claims passed vars [] s t = record { frame = frame; sharing = record { variable = λ x k r e. cc; below = λ x k r e. cc; held = λ x k r v e f. cc }; free = free } in
    let after = stands_after scope claims passed vars [] s h.store t (t + length (shares_from t [] xs)) alone h.others (omega arith) in
    record { store = h.store; does = h.does; size = h.size; others = h.others; stands = record { frame = after.frame; sharing = h.shares; free = after.free } }
