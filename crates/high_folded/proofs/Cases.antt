-- What folding makes of an operator, of what is stored and of a choice, case by case.
use Rattle.std.proofs.Common.{◌≡◌, ℕ, zero, suc, Bool, true, false, Option, Some, None, refl, sym, ap, subst}
use Rattle.std.specs.Prelude.{if◌then◌else◌}
use Rattle.std.proofs.lemmas.Option.{none-some, same_Some}
use Rattle.high_ir.specs.declared.object.Kind.{Kind}
use Rattle.high_ir.specs.declared.expression.BinaryOperator.{BinaryOperator}
use Rattle.high_ir.specs.declared.expression.UnaryOperator.{UnaryOperator}
use Rattle.high_ir.specs.Tree.{Expr, Constant, Variable, Element, Unary, Binary}
use Rattle.high_ir.specs.Words.{binary_word, unary_word}
use Rattle.high_folded.specs.Ranges.{gives_left, gives_right, is_idle, is_lost}
use Rattle.high_folded.specs.Done.{AreOpen}
use Rattle.high_folded.specs.Folded.{binary_folded, constant_of, decided, folded_expr, stored_expr, unary_folded}

-- an expression whose word is known is the constant
pub constant_is : (e : Expr) (word : ℕ) → constant_of e ≡ Some word → e ≡ Constant word
constant_is (Constant v) word is = ap Constant (same_Some v word is)
constant_is (Variable x) word is = absurd (none-some word is)
constant_is (Element array index) word is = absurd (none-some word is)
constant_is (Unary operator e) word is = absurd (none-some word is)
constant_is (Binary operator left right) word is = absurd (none-some word is)

-- one of two, by a test
by_test : {A : Type 0} (P : A → Type 0) (t b : Bool) (x y : A) → t ≡ b → (t ≡ true → P x) → (t ≡ false → P y) → P (if b then x else y)
by_test P t true x y is h k = h is
by_test P t false x y is h k = k is

-- an operator before an operand that is a constant, or that it gives back, or neither
pub unary_cases : (P : Expr → Type 0) (operator : UnaryOperator) (e : Expr) →
    ((w : ℕ) → e ≡ Constant w → P (Constant (unary_word operator w))) → (is_idle operator e ≡ true → P e) → (constant_of e ≡ None → is_idle operator e ≡ false → P (Unary operator e)) →
    P (unary_folded (constant_of e) operator e)
unary_cases P operator e computed idle plain = known (constant_of e) refl
  where
    known : (o : Option ℕ) → constant_of e ≡ o → P (unary_folded o operator e)
    known (Some w) is = computed w (constant_is e w is)
    known None is = by_test P (is_idle operator e) (is_idle operator e) e (Unary operator e) refl idle (plain is)

-- an operator between operands that both are constants, or one of which it gives back, or neither
pub binary_cases : (P : Expr → Type 0) (operator : BinaryOperator) (left right : Expr) →
    ((u v : ℕ) → left ≡ Constant u → right ≡ Constant v → P (Constant (binary_word operator u v))) →
    ((v : ℕ) → right ≡ Constant v → gives_left operator left v ≡ true → P left) →
    ((u : ℕ) → left ≡ Constant u → gives_right operator u right ≡ true → P right) →
    (AreOpen operator left right (constant_of left) (constant_of right) → P (Binary operator left right)) →
    P (binary_folded (constant_of left) (constant_of right) operator left right)
binary_cases P operator left right computed to_left to_right plain = known (constant_of left) (constant_of right) refl refl
  where
    open_by : (o p : Option ℕ) → constant_of left ≡ o → constant_of right ≡ p → AreOpen operator left right o p → P (Binary operator left right)
    open_by o p is is' h = plain (subst (λ x. AreOpen operator left right x (constant_of right)) (sym is) (subst (AreOpen operator left right o) (sym is') h))

    known : (o p : Option ℕ) → constant_of left ≡ o → constant_of right ≡ p → P (binary_folded o p operator left right)
    known (Some u) (Some v) is is' = computed u v (constant_is left u is) (constant_is right v is')
    known None (Some v) is is' =
        by_test P (gives_left operator left v) (gives_left operator left v) left (Binary operator left right) refl (to_left v (constant_is right v is')) (λ t. open_by None (Some v) is is' t)
    known (Some u) None is is' =
        by_test P (gives_right operator u right) (gives_right operator u right) right (Binary operator left right) refl (to_right u (constant_is left u is)) (λ t. open_by (Some u) None is is' t)
    known None None is is' = open_by None None is is' tt

-- what is stored is a folded part: the expression itself, or what stands behind conversions
stored_step : (P : (old new : Expr) → Type 0) (b : Bool) (e x y : Expr) → P e x → P e y → P e (if b then x else y)
stored_step P true e x y h k = h
stored_step P false e x y h k = k

pub stored_cases : (P : (old new : Expr) → Type 0) (kind : Kind) → ((e : Expr) → P e (folded_expr e)) → ((operator : UnaryOperator) (e new : Expr) → P e new → P (Unary operator e) new) → (e : Expr) → P e (stored_expr kind e)
stored_cases P kind whole behind (Constant word) = whole (Constant word)
stored_cases P kind whole behind (Variable x) = whole (Variable x)
stored_cases P kind whole behind (Element array index) = whole (Element array index)
stored_cases P kind whole behind (Unary operator e) =
    stored_step P (is_lost kind operator) (Unary operator e) (stored_expr kind e) (folded_expr (Unary operator e)) (behind operator e (stored_expr kind e) (stored_cases P kind whole behind e)) (whole (Unary operator e))
stored_cases P kind whole behind (Binary operator left right) = whole (Binary operator left right)

-- one way of a choice, or both
pub decided_cases : {A : Type 0} (P : A → Type 0) (known : Option ℕ) (first other both : A) → P first → P other → (known ≡ None → P both) → P (decided known first other both)
decided_cases P None first other both f o b = b refl
decided_cases P (Some zero) first other both f o b = o
decided_cases P (Some (suc n)) first other both f o b = f
