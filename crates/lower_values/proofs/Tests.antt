-- Tests: a branch is taken where a test isn't 0.
use Rattle.std.proofs.Common.{◌≡◌, ℕ, ◌≤◌, Bool, true, false, List, length, Option, Some, None, refl, sym, ap, ◌∙◌, subst, arith}
use Rattle.std.specs.Prelude.{◌==◌, not, nat_lt, int_lt}
use Rattle.std.proofs.lemmas.Option.{same_Some}
use Rattle.rv_core.specs.declared.row.Condition.{Condition}
use Rattle.rv_core.specs.declared.row.Condition.TheVariants as conditions
use Rattle.rv_core.specs.Arithmetic.{holds}
use Rattle.wcc_base.specs.Words.{signed_word, truth_word}
use Rattle.high_ir.specs.declared.expression.UnaryOperator.{UnaryOperator}
use Rattle.high_ir.specs.declared.expression.UnaryOperator.TheVariants.{Negate, Complement, IsZero, Convert}
use Rattle.high_ir.specs.declared.expression.BinaryOperator.{BinaryOperator}
use Rattle.high_ir.specs.declared.expression.BinaryOperator.TheVariants.{Add, Subtract, Multiply, Divide, DivideUnsigned, Remainder, RemainderUnsigned, And, Or, Xor, ShiftLeft, ShiftRight, ShiftRightUnsigned, Equal, NotEqual, Less, LessUnsigned, AtLeast, AtLeastUnsigned}
use Rattle.high_ir.specs.Meaning as high
use Rattle.high_ir.specs.Tree.{Expr, Constant, Variable, Element, Unary, Binary}
use Rattle.high_ir.specs.Words.{unary_word, binary_word, untrue_word}
use Rattle.high_ir.specs.Whole.{IsWordy}
use Rattle.low_ir.specs.Effects.{World}
use Rattle.low_ir.specs.Runs.{Bank}
use Rattle.lower_definition.specs.Operators.{condition_of, inverse}
use Rattle.lower_definition.specs.Values.{Scope, Share, Valued, Tested, operand, unless_zero, inverted, compared, negated_or, tested}
use Rattle.lower_values.specs.Meeting.{AreWords, Decides, is_true, MeetsWorld, Stands}
use Rattle.lower_values.proofs.Elements.{from_value}
use Rattle.lower_values.proofs.Standing.{stands_after, computed_then}
use Rattle.lower_values.proofs.Values.{works, operand_found, operand_free, has_after}

true_truth : (b : Bool) → is_true (truth_word b) ≡ b
true_truth true = refl
true_truth false = refl

true_untrue : (b : Bool) → is_true (untrue_word (truth_word b)) ≡ not b
true_untrue true = refl
true_untrue false = refl

not_not : (b : Bool) → not (not b) ≡ b
not_not true = refl
not_not false = refl

-- what a condition says of two words is what an operator computes
decided : (operator : BinaryOperator) (c : Condition) (a b : ℕ) → condition_of operator ≡ Some c → holds c a b ≡ is_true (binary_word operator a b)
unfolding holds binary_word
decided Equal c a b e = ap (λ d. holds d a b) (sym (same_Some conditions.Equal c e)) ∙ sym (true_truth (a == b))
decided NotEqual c a b e = ap (λ d. holds d a b) (sym (same_Some conditions.NotEqual c e)) ∙ sym (true_untrue (a == b))
decided Less c a b e = ap (λ d. holds d a b) (sym (same_Some conditions.Less c e)) ∙ sym (true_truth (int_lt (signed_word a) (signed_word b)))
decided LessUnsigned c a b e = ap (λ d. holds d a b) (sym (same_Some conditions.LessUnsigned c e)) ∙ sym (true_truth (nat_lt a b))
decided AtLeast c a b e = ap (λ d. holds d a b) (sym (same_Some conditions.AtLeast c e)) ∙ sym (true_untrue (int_lt (signed_word a) (signed_word b)))
decided AtLeastUnsigned c a b e = ap (λ d. holds d a b) (sym (same_Some conditions.AtLeastUnsigned c e)) ∙ sym (true_untrue (nat_lt a b))
decided Add c a b e = cc
decided Subtract c a b e = cc
decided Multiply c a b e = cc
decided Divide c a b e = cc
decided DivideUnsigned c a b e = cc
decided Remainder c a b e = cc
decided RemainderUnsigned c a b e = cc
decided And c a b e = cc
decided Or c a b e = cc
decided Xor c a b e = cc
decided ShiftLeft c a b e = cc
decided ShiftRight c a b e = cc
decided ShiftRightUnsigned c a b e = cc

inverse_holds : (c : Condition) (a b : ℕ) → holds (inverse c) a b ≡ not (holds c a b)
unfolding holds
inverse_holds conditions.Equal a b = refl
inverse_holds conditions.NotEqual a b = sym (not_not (a == b))
inverse_holds conditions.Less a b = refl
inverse_holds conditions.AtLeast a b = sym (not_not (int_lt (signed_word a) (signed_word b)))
inverse_holds conditions.LessUnsigned a b = refl
inverse_holds conditions.AtLeastUnsigned a b = sym (not_not (nat_lt a b))

is_zero_true : (a : ℕ) → not (is_true a) ≡ is_true (unary_word IsZero a)
unfolding unary_word
is_zero_true a = not_not (a == 0) ∙ sym (true_truth (a == 0))

any_holds : (v : ℕ) → holds conditions.NotEqual v 0 ≡ is_true v
unfolding holds
any_holds v = refl

-- a test leaves the registers from its end on free
module _ (scope : Scope) (shares : List Share) where
  pub tested_free : (e : Expr) (t : ℕ) → t ≤ (tested scope shares e t).free
  tested_free (Constant c) t = operand_free scope shares (Constant c) t
  tested_free (Variable x) t = operand_free scope shares (Variable x) t
  tested_free (Element array index) t = operand_free scope shares (Element array index) t
  tested_free (Unary operator e) t = of_unary operator (tested scope shares e t) (unless_zero (operand scope shares (Unary operator e) t)) (tested_free e t) (operand_free scope shares (Unary operator e) t)
    where
      of_unary : (operator : UnaryOperator) (inner whole : Tested) → t ≤ inner.free → t ≤ whole.free → t ≤ (negated_or operator inner whole).free
      of_unary IsZero inner whole h k = h
      of_unary Negate inner whole h k = k
      of_unary Complement inner whole h k = k
      of_unary (Convert kind) inner whole h k = k
  tested_free (Binary operator left right) t = of_binary (condition_of operator)
    where
      of_binary : (o : Option Condition) → t ≤ (compared o (operand scope shares left t) (operand scope shares right) (operand scope shares (Binary operator left right) t)).free
      of_binary None = operand_free scope shares (Binary operator left right) t
      of_binary (Some c) =
          let a = operand_free scope shares left t in
          let b = operand_free scope shares right (operand scope shares left t).free in
          omega (arith, a, b)

module _ (scope : Scope) (shares : List Share) (claims : List (List ℕ)) (u : World) (passed : List ℕ) (vars : high.Variables) (w : high.World) (meets : MeetsWorld scope w u) (words : AreWords vars) where
  by_value : (e : Expr) (v : ℕ) (s : Bank) (t : ℕ) → IsWordy e → high.value_of passed vars w e ≡ Some v → Stands scope claims passed vars shares s t → (operand scope shares e t).free ≤ length s → Decides claims u (unless_zero (operand scope shares e t)) s t v
  by_value e v s t wordy is h room =
      let k = works scope shares claims u passed vars w meets e wordy v words is in
      let f = operand_found scope shares claims u passed vars w meets e v s t is k h room in
      record {
        store = f.finds.store;
        does = f.finds.does;
        size = f.finds.size;
        others = f.finds.others;
        left = v;
        right = 0;
        small_left = k.small;
        small_right = omega arith;
        has_left = f.finds.value;
        has_right = refl;
        decides = any_holds v;
      }

  turned : (b : Tested) (s : Bank) (t a : ℕ) → Decides claims u b s t a → Decides claims u (inverted b) s t (unary_word IsZero a)
  turned b s t a h = record {
    store = h.store;
    does = h.does;
    size = h.size;
    others = h.others;
    left = h.left;
    right = h.right;
    small_left = h.small_left;
    small_right = h.small_right;
    has_left = h.has_left;
    has_right = h.has_right;
    decides = inverse_holds b.condition h.left h.right ∙ ap not h.decides ∙ is_zero_true a;
  }

  by_operator : (operator : UnaryOperator) (inner whole : Tested) (s : Bank) (t a : ℕ) → (inner.free ≤ length s → Decides claims u inner s t a) → (whole.free ≤ length s → Decides claims u whole s t (unary_word operator a)) → (negated_or operator inner whole).free ≤ length s → Decides claims u (negated_or operator inner whole) s t (unary_word operator a)
  by_operator IsZero inner whole s t a f g room = turned inner s t a (f room)
  by_operator Negate inner whole s t a f g room = g room
  by_operator Complement inner whole s t a f g room = g room
  by_operator (Convert kind) inner whole s t a f g room = g room

  by_sides : (operator : BinaryOperator) (o : Option Condition) (left right : Expr) (a b : ℕ) (s : Bank) (t : ℕ) → condition_of operator ≡ o → IsWordy left → IsWordy right → high.value_of passed vars w left ≡ Some a → high.value_of passed vars w right ≡ Some b → Stands scope claims passed vars shares s t → (whole : Valued) → (whole.free ≤ length s → Decides claims u (unless_zero whole) s t (binary_word operator a b)) → (compared o (operand scope shares left t) (operand scope shares right) whole).free ≤ length s → Decides claims u (compared o (operand scope shares left t) (operand scope shares right) whole) s t (binary_word operator a b)
  by_sides operator None left right a b s t q wl wr ea eb h whole g room = g room
  by_sides operator (Some c) left right a b s t q wl wr ea eb h whole g room =
      let x = operand scope shares left t in
      let y = operand scope shares right x.free in
      let more = operand_free scope shares left t in
      let further = operand_free scope shares right x.free in
      let ka = works scope shares claims u passed vars w meets left wl a words ea in
      let kb = works scope shares claims u passed vars w meets right wr b words eb in
      let f = operand_found scope shares claims u passed vars w meets left a s t ea ka h (omega (arith, room, further)) in
      let s1 = f.finds.store in
      let size = f.finds.size in
      let k = operand_found scope shares claims u passed vars w meets right b s1 x.free eb kb (stands_after scope claims passed vars shares s s1 t x.free h f.finds.others more) (omega (arith, room, size)) in
      record {
        store = k.finds.store;
        does = computed_then claims u x.code y.code s s1 k.finds.store f.finds.does k.finds.does;
        size = k.finds.size ∙ size;
        others = λ q below. k.finds.others q (omega (arith, below, more)) ∙ f.finds.others q below;
        left = a;
        right = b;
        small_left = ka.small;
        small_right = kb.small;
        has_left = has_after scope shares claims u passed vars w meets s1 k.finds.store x.free x.value a f.below k.finds.others f.finds.value;
        has_right = k.finds.value;
        decides = decided operator c a b q;
      }

  pub tests : (e : Expr) (v : ℕ) (s : Bank) (t : ℕ) → IsWordy e → high.value_of passed vars w e ≡ Some v → Stands scope claims passed vars shares s t → (tested scope shares e t).free ≤ length s → Decides claims u (tested scope shares e t) s t v
  tests (Constant c) v s t wordy is h room = by_value (Constant c) v s t wordy is h room
  tests (Variable x) v s t wordy is h room = by_value (Variable x) v s t wordy is h room
  tests (Element array index) v s t wordy is h room = by_value (Element array index) v s t wordy is h room
  tests (Unary operator e) v s t wordy is h room =
      let f = from_value (high.value_of passed vars w e) (λ a. Some (unary_word operator a)) v is in
      let same : unary_word operator f.value ≡ v = same_Some (unary_word operator f.value) v f.then_is in
      subst (Decides claims u (tested scope shares (Unary operator e) t) s t) same
      (by_operator operator (tested scope shares e t) (unless_zero (operand scope shares (Unary operator e) t)) s t f.value (λ enough. tests e f.value s t wordy f.is h enough)
      (λ enough. subst (Decides claims u (unless_zero (operand scope shares (Unary operator e) t)) s t) (sym same) (by_value (Unary operator e) v s t wordy is h enough)) room)
  tests (Binary operator left right) v s t wordy is h room =
      let f = from_value (high.value_of passed vars w left) (λ a. high.at_value (high.value_of passed vars w right) (λ b. Some (binary_word operator a b))) v is in
      let g = from_value (high.value_of passed vars w right) (λ b. Some (binary_word operator f.value b)) v f.then_is in
      let same : binary_word operator f.value g.value ≡ v = same_Some (binary_word operator f.value g.value) v g.then_is in
      subst (Decides claims u (tested scope shares (Binary operator left right) t) s t) same
      (by_sides operator (condition_of operator) left right f.value g.value s t refl wordy.0 wordy.1 f.is g.is h (operand scope shares (Binary operator left right) t)
      (λ enough. subst (Decides claims u (unless_zero (operand scope shares (Binary operator left right) t)) s t) (sym same) (by_value (Binary operator left right) v s t wordy is h enough)) room)
