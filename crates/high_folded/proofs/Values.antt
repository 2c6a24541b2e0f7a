-- A folded expression has the value that it had, where arrays hold what their kinds keep.
use Rattle.std.proofs.Common.{◌≡◌, ℕ, Bool, true, false, List, [], ◌∷◌, map, Option, Some, None, refl, sym, ap, ◌∙◌}
use Rattle.std.specs.Prelude.{nat_le, if◌then◌else◌}
use Rattle.std.proofs.lemmas.Bool.{false≢true}
use Rattle.std.proofs.lemmas.Option.{none-some}
use Rattle.high_ir.specs.declared.object.Kind.{Kind}
use Rattle.high_ir.specs.declared.expression.BinaryOperator.{BinaryOperator}
use Rattle.high_ir.specs.declared.expression.UnaryOperator.{UnaryOperator}
use Rattle.high_ir.specs.declared.expression.UnaryOperator.TheVariants.{Negate, Complement, IsZero, Convert}
use Rattle.high_ir.specs.Meaning.{Outcome, Variables, World, array_of, at_value, element, value_of, values_of, with_value}
use Rattle.high_ir.specs.Tree.{Expr, Constant, Variable, Element, Unary, Binary}
use Rattle.high_ir.specs.Words.{binary_word, converted, unary_word}
use Rattle.high_folded.specs.Kept.{IsKept}
use Rattle.high_folded.specs.Ranges.{bits, is_lost}
use Rattle.high_folded.proofs.Forms.{idle_value, left_value, right_value}
use Rattle.high_folded.specs.Folded.{constant_of, folded_expr, stored_expr}
use Rattle.high_folded.proofs.Cases.{binary_cases, unary_cases}

abbrev with_unary : UnaryOperator → Option ℕ → Option ℕ
with_unary operator o = at_value o (λ v. Some (unary_word operator v))

abbrev with_binary : BinaryOperator → Option ℕ → Option ℕ → Option ℕ
with_binary operator o p = at_value o (λ u. at_value p (λ v. Some (binary_word operator u v)))

same_binary : (operator : BinaryOperator) (o o' p p' : Option ℕ) → o ≡ o' → p ≡ p' → with_binary operator o p ≡ with_binary operator o' p'
same_binary operator o o' p p' e f = ap (λ x. with_binary operator x p) e ∙ ap (with_binary operator o') f

-- a value before others
abbrev before : Option ℕ → Option (List ℕ) → Option (List ℕ)
before o os = at_value o (λ v. at_value os (λ vs. Some (v ∷ vs)))

-- what loses a conversion may do without it
abbrev pub Loses : Kind → (ℕ → Outcome) → Type 0
Loses kind go = (wide : Kind) (v : ℕ) → nat_le (bits kind) (bits wide) ≡ true → go (converted wide v) ≡ go v

lost_value : (kind : Kind) (go : ℕ → Outcome) → Loses kind go → (operator : UnaryOperator) → is_lost kind operator ≡ true → (o : Option ℕ) → with_value o go ≡ with_value (with_unary operator o) go
unfolding unary_word
lost_value kind go h (Convert wide) t None = refl
lost_value kind go h (Convert wide) t (Some v) = sym (h wide v t)
lost_value kind go h IsZero t o = absurd (false≢true t)
lost_value kind go h Negate t o = absurd (false≢true t)
lost_value kind go h Complement t o = absurd (false≢true t)

module _ (passed : List ℕ) (vars : Variables) (w : World) where
  abbrev value : Expr → Option ℕ
  value e = value_of passed vars w e

  -- a constant has its word as its value
  pub constant_value : (e : Expr) (word : ℕ) → constant_of e ≡ Some word → value_of passed vars w e ≡ Some word
  constant_value (Constant v) word is = is
  constant_value (Variable x) word is = absurd (none-some word is)
  constant_value (Element array index) word is = absurd (none-some word is)
  constant_value (Unary operator e) word is = absurd (none-some word is)
  constant_value (Binary operator left right) word is = absurd (none-some word is)

  module _ (kept : IsKept w) where
    pub value-folded : (e : Expr) → value_of passed vars w (folded_expr e) ≡ value_of passed vars w e
    value-folded (Constant word) = refl
    value-folded (Variable x) = refl
    value-folded (Element array index) = ap (λ o. at_value o (λ i. at_value (array_of passed w array) (λ c. element c i))) (value-folded index)
    value-folded (Unary operator e) =
        let h = value-folded e in
        unary_cases (λ x. value x ≡ value (Unary operator e)) operator (folded_expr e)
        (λ word is. sym (ap (with_unary operator) (sym h ∙ ap value is)))
        (λ idle. sym (idle_value passed vars w kept operator (folded_expr e) idle) ∙ ap (with_unary operator) h)
        (λ none plain. ap (with_unary operator) h)
    value-folded (Binary operator left right) =
        let h = value-folded left in
        let k = value-folded right in
        binary_cases (λ x. value x ≡ value (Binary operator left right)) operator (folded_expr left) (folded_expr right)
        (λ u v is is'. sym (same_binary operator (value left) (Some u) (value right) (Some v) (sym h ∙ ap value is) (sym k ∙ ap value is')))
        (λ v is t. sym (left_value passed vars w kept operator (folded_expr left) v t) ∙ same_binary operator (value (folded_expr left)) (value left) (Some v) (value right) h (sym (ap value is) ∙ k))
        (λ u is t. sym (right_value passed vars w kept operator u (folded_expr right) t) ∙ same_binary operator (Some u) (value left) (value (folded_expr right)) (value right) (sym (ap value is) ∙ h) k)
        (λ plain. same_binary operator (value (folded_expr left)) (value left) (value (folded_expr right)) (value right) h k)

    pub values-folded : (es : List Expr) → values_of passed vars w (map folded_expr es) ≡ values_of passed vars w es
    values-folded [] = refl
    values-folded (e ∷ es) =
        ap (λ o. before o (values_of passed vars w (map folded_expr es))) (value-folded e) ∙ ap (before (value e)) (values-folded es)

    -- what is stored without its conversions is stored the same
    module _ (kind : Kind) (go : ℕ → Outcome) (loses : Loses kind go) where
      abbrev leads : Expr → Outcome
      leads e = with_value (value_of passed vars w e) go

      behind_lost : (operator : UnaryOperator) (e : Expr) → leads (stored_expr kind e) ≡ leads e → (b : Bool) → is_lost kind operator ≡ b → leads (if b then stored_expr kind e else folded_expr (Unary operator e)) ≡ leads (Unary operator e)
      behind_lost operator e h true t = h ∙ lost_value kind go loses operator t (value e)
      behind_lost operator e h false t = ap (λ o. with_value o go) (value-folded (Unary operator e))

      pub value-stored : (e : Expr) → with_value (value_of passed vars w (stored_expr kind e)) go ≡ with_value (value_of passed vars w e) go
      value-stored (Constant word) = refl
      value-stored (Variable x) = refl
      value-stored (Element array index) = ap (λ o. with_value o go) (value-folded (Element array index))
      value-stored (Unary operator e) = behind_lost operator e (value-stored e) (is_lost kind operator) refl
      value-stored (Binary operator left right) = ap (λ o. with_value o go) (value-folded (Binary operator left right))
