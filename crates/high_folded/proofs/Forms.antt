-- What the form of an expression tells of its values is right, where arrays hold what their kinds keep.
use Rattle.std.proofs.Common.{◌≡◌, ◌⊎◌, inl, inr, ℕ, zero, suc, ◌-◌, ◌^◌, ◌<◌, ◌≤◌, Bool, true, false, List, Option, Some, None, refl, ap, ◌∙◌, subst, ⊎_elim, arith, nat_lt}
use Rattle.std.specs.Prelude.{◌==◌, ◌&&◌, ◌||◌, int_lt, nat_le, slice_get}
use Rattle.std.proofs.lemmas.Bool.{and_parts, false≢true}
use Rattle.std.proofs.lemmas.Nat.{and_le_l, and_le_r, mod_below}
use Rattle.std.proofs.lemmas.Option.{none-some, same_Some}
use Rattle.wcc_base.specs.Words.{equal_word, less_word, signed_less_word, signed_word}
use Rattle.high_ir.specs.declared.object.Array.{Array}
use Rattle.high_ir.specs.declared.object.Kind.{Kind}
use Rattle.high_ir.specs.declared.expression.UnaryOperator.{UnaryOperator}
use Rattle.high_ir.specs.declared.expression.UnaryOperator.TheVariants.{Negate, Complement, IsZero, Convert}
use Rattle.high_ir.specs.declared.expression.BinaryOperator.{BinaryOperator}
use Rattle.high_ir.specs.declared.expression.BinaryOperator.TheVariants.{Add, Subtract, Multiply, Divide, DivideUnsigned, Remainder, RemainderUnsigned, And, Or, Xor, ShiftLeft, ShiftRight, ShiftRightUnsigned, Equal, NotEqual, Less, LessUnsigned, AtLeast, AtLeastUnsigned}
use Rattle.high_ir.specs.Meaning.{Contents, Variables, World, array_of, at_value, element, object_number, only_if, value_of}
use Rattle.high_ir.specs.Tree.{Expr, Constant, Variable, Element, Unary, Binary}
use Rattle.high_ir.specs.Words.{binary_word, converted, same_kind, unary_word}
use Rattle.high_folded.specs.Kept.{IsKept, IsOf}
use Rattle.high_folded.specs.Ranges.{fits, gives_left, gives_right, is_divisor, is_divisor_within, is_commutative, is_idle, is_mask, is_neutral, is_word, is_word_neutral, most, operator_fits, unary_fits}
use Rattle.high_folded.proofs.Fitting.{kept_wider, le_of, narrow_word, one_kind, small_kept, truth_kept, within_keeps}
use Rattle.high_folded.proofs.Neutral.{gives_back, gives_back_word, operator_word, turned, unary_operator_word}

-- an optional value that is computed from others
record From {A : Type 0} (o : Option A) (go : A → Option ℕ) (y : ℕ) : Type 0 where
  pub value : A
  pub is : o ≡ Some value
  pub then_is : go value ≡ Some y

from_value : {A : Type 0} (o : Option A) (go : A → Option ℕ) (y : ℕ) → at_value o go ≡ Some y → From o go y
from_value None go y e = absurd (none-some y e)
from_value (Some x) go y e = record { value = x; is = refl; then_is = e }

-- an operation that gives back what it is given
pub gives_same : (f : ℕ → ℕ) (o : Option ℕ) → ((v : ℕ) → o ≡ Some v → f v ≡ v) → at_value o (λ v. Some (f v)) ≡ o
gives_same f None h = refl
gives_same f (Some v) h = ap Some (h v refl)

or_cases : (a b : Bool) → (a || b) ≡ true → (a ≡ true) ⊎ (b ≡ true)
or_cases true b h = inl refl
or_cases false b h = inr h

module _ (passed : List ℕ) (vars : Variables) (w : World) where
  abbrev value : Expr → Option ℕ
  value e = value_of passed vars w e

  -- masks and divisors
  mask_value : (kind : Kind) (e : Expr) → is_mask kind e ≡ true → (v : ℕ) → value e ≡ Some v → v ≤ most kind
  mask_value kind (Constant word) h v is = subst (λ n. n ≤ most kind) (same_Some word v is) (le_of word (most kind) h)
  mask_value kind (Variable x) h v is = absurd (false≢true h)
  mask_value kind (Element array index) h v is = absurd (false≢true h)
  mask_value kind (Unary operator operand) h v is = absurd (false≢true h)
  mask_value kind (Binary operator left right) h v is = absurd (false≢true h)

  remainder_within : (kind : Kind) (word : ℕ) → is_divisor_within kind word ≡ true → (a : ℕ) → binary_word RemainderUnsigned a word ≤ most kind
  unfolding binary_word
  remainder_within kind zero h a = absurd (false≢true h)
  remainder_within kind (suc word) h a =
      let lt = mod_below a (suc word) (omega arith) in
      let parts = and_parts (nat_lt 0 (suc word)) (nat_le (suc word - 1) (most kind)) h in
      let le = le_of (suc word - 1) (most kind) parts.1 in
      omega (arith, lt, le)

  divisor_value : (kind : Kind) (e : Expr) → is_divisor kind e ≡ true → (a v : ℕ) → value e ≡ Some v → binary_word RemainderUnsigned a v ≤ most kind
  divisor_value kind (Constant word) h a v is = subst (λ n. binary_word RemainderUnsigned a n ≤ most kind) (same_Some word v is) (remainder_within kind word h a)
  divisor_value kind (Variable x) h a v is = absurd (false≢true h)
  divisor_value kind (Element array index) h a v is = absurd (false≢true h)
  divisor_value kind (Unary operator operand) h a v is = absurd (false≢true h)
  divisor_value kind (Binary operator left right) h a v is = absurd (false≢true h)

  masked_within : (kind : Kind) (left right : Expr) (a b : ℕ) → (is_mask kind left || is_mask kind right) ≡ true → value left ≡ Some a → value right ≡ Some b → binary_word And a b ≤ most kind
  unfolding binary_word
  masked_within kind left right a b h one two = ⊎_elim
      (λ (t : is_mask kind left ≡ true). let le = mask_value kind left t a one in let low = and_le_l a b in omega (arith, le, low))
      (λ (t : is_mask kind right ≡ true). let le = mask_value kind right t b two in let low = and_le_r a b in omega (arith, le, low))
      (or_cases (is_mask kind left) (is_mask kind right) h)

  operator_kept : (kind : Kind) (operator : BinaryOperator) (left right : Expr) (a b : ℕ) → operator_fits kind operator left right ≡ true → value left ≡ Some a → value right ≡ Some b → converted kind (binary_word operator a b) ≡ binary_word operator a b
  unfolding binary_word
  operator_kept kind Equal left right a b h one two = truth_kept kind (a == b)
  operator_kept kind NotEqual left right a b h one two = truth_kept kind (equal_word a b == 0)
  operator_kept kind Less left right a b h one two = truth_kept kind (int_lt (signed_word a) (signed_word b))
  operator_kept kind LessUnsigned left right a b h one two = truth_kept kind (nat_lt a b)
  operator_kept kind AtLeast left right a b h one two = truth_kept kind (signed_less_word a b == 0)
  operator_kept kind AtLeastUnsigned left right a b h one two = truth_kept kind (less_word a b == 0)
  operator_kept kind And left right a b h one two = small_kept kind (binary_word And a b) (masked_within kind left right a b h one two)
  operator_kept kind RemainderUnsigned left right a b h one two = small_kept kind (binary_word RemainderUnsigned a b) (divisor_value kind right h a b two)
  operator_kept kind Add left right a b h one two = absurd (false≢true h)
  operator_kept kind Subtract left right a b h one two = absurd (false≢true h)
  operator_kept kind Multiply left right a b h one two = absurd (false≢true h)
  operator_kept kind Divide left right a b h one two = absurd (false≢true h)
  operator_kept kind DivideUnsigned left right a b h one two = absurd (false≢true h)
  operator_kept kind Remainder left right a b h one two = absurd (false≢true h)
  operator_kept kind Or left right a b h one two = absurd (false≢true h)
  operator_kept kind Xor left right a b h one two = absurd (false≢true h)
  operator_kept kind ShiftLeft left right a b h one two = absurd (false≢true h)
  operator_kept kind ShiftRight left right a b h one two = absurd (false≢true h)
  operator_kept kind ShiftRightUnsigned left right a b h one two = absurd (false≢true h)

  unary_kept : (kind : Kind) (operator : UnaryOperator) (a : ℕ) → unary_fits kind operator ≡ true → converted kind (unary_word operator a) ≡ unary_word operator a
  unfolding unary_word
  unary_kept kind (Convert narrow) a h = within_keeps narrow kind a h
  unary_kept kind IsZero a h = truth_kept kind (a == 0)
  unary_kept kind Negate a h = absurd (false≢true h)
  unary_kept kind Complement a h = absurd (false≢true h)

  module _ (kept : IsKept w) where
    -- an element is what the kind of its array keeps
    element_kept : (array : Array) (i v : ℕ) → at_value (array_of passed w array) (λ c. element c i) ≡ Some v → converted array.kind v ≡ v
    element_kept array i v e =
        let a = from_value (array_of passed w array) (λ c. element c i) v e in
        by_number (object_number passed array.base) a.value a.is a.then_is
      where
        of_value : (kind : Kind) (o : Option ℕ) (v : ℕ) → o ≡ Some v → IsOf kind o → converted kind v ≡ v
        of_value kind None v is h = absurd (none-some v is)
        of_value kind (Some u) v is h = subst (λ x. converted kind x ≡ x) (same_Some u v is) h

        by_kind : (n : ℕ) (d c : Contents) (b : Bool) → same_kind d.kind array.kind ≡ b → slice_get w.objects n ≡ Some d → only_if b (Some d) ≡ Some c → element c i ≡ Some v → converted array.kind v ≡ v
        by_kind n d c false same there is e = absurd (none-some c is)
        by_kind n d c true same there is e =
            let one : d ≡ c = same_Some d c is in
            subst (λ k. converted k v ≡ v) (one_kind d.kind array.kind same) (of_value d.kind (element d i) v (ap (λ x. element x i) one ∙ e) (kept.by n i d there))

        by_object : (n : ℕ) (o : Option Contents) (c : Contents) → slice_get w.objects n ≡ o → at_value o (λ d. only_if (same_kind d.kind array.kind) (Some d)) ≡ Some c → element c i ≡ Some v → converted array.kind v ≡ v
        by_object n None c there is e = absurd (none-some c is)
        by_object n (Some d) c there is e = by_kind n d c (same_kind d.kind array.kind) refl there is e

        by_number : (o : Option ℕ) (c : Contents) → at_value o (λ n. at_value (slice_get w.objects n) (λ d. only_if (same_kind d.kind array.kind) (Some d))) ≡ Some c → element c i ≡ Some v → converted array.kind v ≡ v
        by_number None c is e = absurd (none-some c is)
        by_number (Some n) c is e = by_object n (slice_get w.objects n) c refl is e

    -- a load
    loaded_kept : (array : Array) (index : Expr) (v : ℕ) → value (Element array index) ≡ Some v → converted array.kind v ≡ v
    loaded_kept array index v is =
        let a = from_value (value index) (λ i. at_value (array_of passed w array) (λ c. element c i)) v is in
        element_kept array a.value v a.then_is

    fits_kept : (kind : Kind) (e : Expr) → fits kind e ≡ true → (v : ℕ) → value e ≡ Some v → converted kind v ≡ v
    fits_kept kind (Constant word) h v is = absurd (false≢true h)
    fits_kept kind (Variable x) h v is = absurd (false≢true h)
    fits_kept kind (Element array index) h v is = kept_wider array.kind kind v h (loaded_kept array index v is)
    fits_kept kind (Unary operator operand) h v is =
        let a = from_value (value operand) (λ u. Some (unary_word operator u)) v is in
        subst (λ x. converted kind x ≡ x) (same_Some (unary_word operator a.value) v a.then_is) (unary_kept kind operator a.value h)
    fits_kept kind (Binary operator left right) h v is =
        let a = from_value (value left) (λ u. at_value (value right) (λ t. Some (binary_word operator u t))) v is in
        let b = from_value (value right) (λ t. Some (binary_word operator a.value t)) v a.then_is in
        subst (λ x. converted kind x ≡ x) (same_Some (binary_word operator a.value b.value) v b.then_is) (operator_kept kind operator left right a.value b.value h a.is b.is)

    word_value : (e : Expr) → is_word e ≡ true → (v : ℕ) → value e ≡ Some v → v < 2 ^ 32
    word_value (Constant word) h v is = absurd (false≢true h)
    word_value (Variable x) h v is = absurd (false≢true h)
    word_value (Element array index) h v is = subst (λ x. x < 2 ^ 32) (loaded_kept array index v is) (narrow_word array.kind v h)
    word_value (Unary operator operand) h v is =
        let a = from_value (value operand) (λ u. Some (unary_word operator u)) v is in
        subst (λ x. x < 2 ^ 32) (same_Some (unary_word operator a.value) v a.then_is) (unary_operator_word operator a.value h)
    word_value (Binary operator left right) h v is =
        let a = from_value (value left) (λ u. at_value (value right) (λ t. Some (binary_word operator u t))) v is in
        let b = from_value (value right) (λ t. Some (binary_word operator a.value t)) v a.then_is in
        subst (λ x. x < 2 ^ 32) (same_Some (binary_word operator a.value b.value) v b.then_is) (operator_word operator a.value b.value h)

    -- a conversion that changes nothing
    pub idle_value : (operator : UnaryOperator) (e : Expr) → is_idle operator e ≡ true → at_value (value_of passed vars w e) (λ v. Some (unary_word operator v)) ≡ value_of passed vars w e
    unfolding unary_word
    idle_value (Convert kind) e h = gives_same (converted kind) (value e) (fits_kept kind e h)
    idle_value IsZero e h = absurd (false≢true h)
    idle_value Negate e h = absurd (false≢true h)
    idle_value Complement e h = absurd (false≢true h)

    gives_left_value : (operator : BinaryOperator) (e : Expr) (word : ℕ) → gives_left operator e word ≡ true → (v : ℕ) → value e ≡ Some v → binary_word operator v word ≡ v
    gives_left_value operator e word h v is = ⊎_elim
        (λ (t : is_neutral operator word ≡ true). gives_back operator v word t)
        (λ (t : (is_word e && is_word_neutral operator word) ≡ true).
        let parts = and_parts (is_word e) (is_word_neutral operator word) t in
        gives_back_word operator v word (word_value e parts.0 v is) parts.1)
        (or_cases (is_neutral operator word) (is_word e && is_word_neutral operator word) h)

    -- an operator with a neutral constant
    pub left_value : (operator : BinaryOperator) (e : Expr) (word : ℕ) → gives_left operator e word ≡ true → at_value (value_of passed vars w e) (λ v. Some (binary_word operator v word)) ≡ value_of passed vars w e
    left_value operator e word h = gives_same (λ v. binary_word operator v word) (value e) (gives_left_value operator e word h)

    pub right_value : (operator : BinaryOperator) (word : ℕ) (e : Expr) → gives_right operator word e ≡ true → at_value (value_of passed vars w e) (λ v. Some (binary_word operator word v)) ≡ value_of passed vars w e
    right_value operator word e h =
        let parts = and_parts (is_commutative operator) (gives_left operator e word) h in
        gives_same (λ v. binary_word operator word v) (value e) (λ v is. turned operator word v parts.0 ∙ gives_left_value operator e word parts.1 v is)
