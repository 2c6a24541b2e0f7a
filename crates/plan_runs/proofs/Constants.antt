-- A test that is a constant other than 0 holds each time.
use Rattle.std.proofs.Common.{◌≡◌, ℕ, zero, suc, Bool, true, false, List, Option, Some, None, Result, Ok, Err, refl, sym, ap, ◌∙◌, arith}
use Rattle.std.specs.Prelude.{◌==◌, not, if◌then◌else◌}
use Rattle.std.proofs.lemmas.Bool.{and_parts, false≢true, eq-eqb, ne_eqb}
use Rattle.std.proofs.lemmas.Option.{none-some, same_Some}
use Rattle.facts_definitions.specs.Starts.{is_always, is_constant, is_nonzero, defined_word, truth_of, with_word, word}
use Rattle.meaning_semantics.specs.State.{State, Fine, settled, then_do, choose, truth}
use Rattle.meaning_semantics.specs.Values.{Calls, value}
use Rattle.meaning_semantics.specs.declared.outcome.Operands.{Operands}
use Rattle.types_tree.specs.Tree.{Expr, Number, Character, Read, Array, Paren, Call, Step, Signed, Cast, Convert, Operate, And, Or, Comma, Conditional, Assign, Update}
use Rattle.types_tree.specs.declared.variable.Variable.{Variable}
use Rattle.types_value.specs.Kinds.{converted, is_void}
use Rattle.types_value.specs.Operators.{computed, signed_by}
use Rattle.types_value.specs.declared.operator.Undefined.{Undefined}

-- what is done with a word that is there
with_word_cases : (P : Type 0) (o : Option ℕ) (f : ℕ → Option ℕ) (w : ℕ) → with_word o f ≡ Some w → ((x : ℕ) → o ≡ Some x → f x ≡ Some w → P) → P
with_word_cases P None f w e go = absurd (none-some w e)
with_word_cases P (Some x) f w e go = go x refl e

settled_word : (r : Result ℕ Undefined) (w at : ℕ) (st : State) → defined_word r ≡ Some w → settled r at st ≡ Fine w st
settled_word (Ok x) w at st e = ap (λ v. Fine v st) (same_Some x w e)
settled_word (Err cause) w at st e = absurd (none-some w e)

-- a truth is 1 or 0 by the same test
truth_same : (y : ℕ) → (if y == 0 then 0 else 1) ≡ truth y
truth_same zero = ap (λ t. if t then 0 else 1) (eq-eqb 0 0 refl)
truth_same (suc n) = ap (λ t. if t then 0 else 1) (ne_eqb (suc n) 0 (λ e. absurd (omega (arith, e))))

module _ (variables : List Variable) (call : Calls) where
  abbrev Is : Expr → ℕ → Type 0
  Is e w = (used : Bool) (st : State) → value variables call e used st ≡ Fine w st

  of_And : (left right : Expr) (x w : ℕ) → Is left x → (if x == 0 then Some 0 else with_word (word right) truth_of) ≡ Some w → ((y : ℕ) → word right ≡ Some y → Is right y) → (at : ℕ) → Is (And left right at) w
  of_And left right zero w l e r at used st =
      ap (λ o. then_do o (λ x st1. choose x (then_do (value variables call right true st1) (λ y st2. Fine (truth y) st2)) (Fine 0 st1))) (l true st)
      ∙ ap (λ v. Fine v st) (same_Some 0 w (sym (ap (λ t. if t then Some 0 else with_word (word right) truth_of) (eq-eqb 0 0 refl)) ∙ e))
  of_And left right (suc n) w l e r at used st =
      ap (λ o. then_do o (λ x st1. choose x (then_do (value variables call right true st1) (λ y st2. Fine (truth y) st2)) (Fine 0 st1))) (l true st)
      ∙ with_word_cases (then_do (value variables call right true st) (λ y st2. Fine (truth y) st2) ≡ Fine w st) (word right) truth_of w
      (sym (ap (λ t. if t then Some 0 else with_word (word right) truth_of) (ne_eqb (suc n) 0 (λ e. absurd (omega (arith, e))))) ∙ e)
      (λ y is t. ap (λ o. then_do o (λ y st2. Fine (truth y) st2)) (r y is true st) ∙ ap (λ v. Fine v st) (sym (truth_same y) ∙ same_Some (if y == 0 then 0 else 1) w t))

  of_Or : (left right : Expr) (x w : ℕ) → Is left x → (if x == 0 then with_word (word right) truth_of else Some 1) ≡ Some w → ((y : ℕ) → word right ≡ Some y → Is right y) → (at : ℕ) → Is (Or left right at) w
  of_Or left right (suc n) w l e r at used st =
      ap (λ o. then_do o (λ x st1. choose x (Fine 1 st1) (then_do (value variables call right true st1) (λ y st2. Fine (truth y) st2)))) (l true st)
      ∙ ap (λ v. Fine v st) (same_Some 1 w (sym (ap (λ t. if t then with_word (word right) truth_of else Some 1) (ne_eqb (suc n) 0 (λ e. absurd (omega (arith, e))))) ∙ e))
  of_Or left right zero w l e r at used st =
      ap (λ o. then_do o (λ x st1. choose x (Fine 1 st1) (then_do (value variables call right true st1) (λ y st2. Fine (truth y) st2)))) (l true st)
      ∙ with_word_cases (then_do (value variables call right true st) (λ y st2. Fine (truth y) st2) ≡ Fine w st) (word right) truth_of w
      (sym (ap (λ t. if t then with_word (word right) truth_of else Some 1) (eq-eqb 0 0 refl)) ∙ e)
      (λ y is t. ap (λ o. then_do o (λ y st2. Fine (truth y) st2)) (r y is true st) ∙ ap (λ v. Fine v st) (sym (truth_same y) ∙ same_Some (if y == 0 then 0 else 1) w t))

  of_Conditional : (test first second : Expr) (x w : ℕ) → Is test x → (if x == 0 then word second else word first) ≡ Some w → (word first ≡ Some w → Is first w) → (word second ≡ Some w → Is second w) → (at : ℕ) → Is (Conditional test first second at) w
  of_Conditional test first second zero w t e a b at used st =
      ap (λ o. then_do o (λ x st1. choose x (value variables call first used st1) (value variables call second used st1))) (t true st)
      ∙ b (sym (ap (λ t. if t then word second else word first) (eq-eqb 0 0 refl)) ∙ e) used st
  of_Conditional test first second (suc n) w t e a b at used st =
      ap (λ o. then_do o (λ x st1. choose x (value variables call first used st1) (value variables call second used st1))) (t true st)
      ∙ a (sym (ap (λ t. if t then word second else word first) (ne_eqb (suc n) 0 (λ e. absurd (omega (arith, e))))) ∙ e) used st

  -- the word of a constant is its value
  pub constant_value : (e : Expr) (w : ℕ) → word e ≡ Some w → Is e w
  constant_value (Number constant at) w e = λ used st. ap (λ v. Fine v st) (same_Some constant.value w e)
  constant_value (Character v at) w e = λ used st. ap (λ v. Fine v st) (same_Some v w e)
  constant_value (Read place) w e = absurd (none-some w e)
  constant_value (Array object at) w e = absurd (none-some w e)
  constant_value (Paren inner at) w e = constant_value inner w e
  constant_value (Call callee arguments at) w e = absurd (none-some w e)
  constant_value (Step fix operator kind target at) w e = absurd (none-some w e)
  constant_value (Signed operator kind operand at) w e =
      with_word_cases (Is (Signed operator kind operand at) w) (word operand) (λ x. defined_word (signed_by operator kind x)) w e
      (λ x is d used st. ap (λ o. then_do o (λ x st1. settled (signed_by operator kind x) at st1)) (constant_value operand x is true st) ∙ settled_word (signed_by operator kind x) w at st d)
  constant_value (Cast specifiers to operand at) w e =
      with_word_cases (Is (Cast specifiers to operand at) w) (word operand) (λ x. Some (converted to x)) w e
      (λ x is d used st. ap (λ o. then_do o (λ x st1. Fine (converted to x) st1)) (constant_value operand x is (not (is_void to)) st) ∙ ap (λ v. Fine v st) (same_Some (converted to x) w d))
  constant_value (Convert to operand) w e =
      with_word_cases (Is (Convert to operand) w) (word operand) (λ x. Some (converted to x)) w e
      (λ x is d used st. ap (λ o. then_do o (λ x st1. Fine (converted to x) st1)) (constant_value operand x is used st) ∙ ap (λ v. Fine v st) (same_Some (converted to x) w d))
  constant_value (Operate operator kind left right at) w e =
      with_word_cases (Is (Operate operator kind left right at) w) (word left) (λ x. with_word (word right) (λ y. defined_word (computed operator kind x y))) w e
      (λ x is_left d.
      with_word_cases (Is (Operate operator kind left right at) w) (word right) (λ y. defined_word (computed operator kind x y)) w d
      (λ y is_right c used st.
      ap (λ o. then_do {A = Operands} (then_do o (λ x st1. then_do (value variables call right true st1) (λ y st2. Fine (record { left = x; right = y }) st2))) (λ x st1. settled (computed operator kind x.left x.right) at st1)) (constant_value left x is_left true st)
      ∙ ap (λ o. then_do {A = Operands} (then_do o (λ y st2. Fine (record { left = x; right = y }) st2)) (λ x st1. settled (computed operator kind x.left x.right) at st1)) (constant_value right y is_right true st)
      ∙ settled_word (computed operator kind x y) w at st c))
  constant_value (And left right at) w e =
      with_word_cases (Is (And left right at) w) (word left) (λ x. if x == 0 then Some 0 else with_word (word right) truth_of) w e
      (λ x is d. of_And left right x w (constant_value left x is) d (λ y is_right. constant_value right y is_right) at)
  constant_value (Or left right at) w e =
      with_word_cases (Is (Or left right at) w) (word left) (λ x. if x == 0 then with_word (word right) truth_of else Some 1) w e
      (λ x is d. of_Or left right x w (constant_value left x is) d (λ y is_right. constant_value right y is_right) at)
  constant_value (Comma left right at) w e = absurd (none-some w e)
  constant_value (Conditional test first second at) w e =
      with_word_cases (Is (Conditional test first second at) w) (word test) (λ x. if x == 0 then word second else word first) w e
      (λ x is d. of_Conditional test first second x w (constant_value test x is) d (λ f. constant_value first w f) (λ g. constant_value second w g) at)
  constant_value (Assign target right at) w e = absurd (none-some w e)
  constant_value (Update operator kind to target right at) w e = absurd (none-some w e)

  -- a test that is a constant other than 0
  pub always_value : (e : Expr) → is_always e ≡ true → (n : ℕ) × ((used : Bool) (st : State) → value variables call e used st ≡ Fine (suc n) st)
  always_value e always = of (word e) refl (and_parts (is_constant e) (is_nonzero (word e)) always).1
    where
      of_word : (w : ℕ) → word e ≡ Some w → is_nonzero (Some w) ≡ true → (n : ℕ) × ((used : Bool) (st : State) → value variables call e used st ≡ Fine (suc n) st)
      of_word zero is some = absurd (false≢true (sym (ap (λ t. if t then false else true) (eq-eqb 0 0 refl)) ∙ some))
      of_word (suc n) is some = (n, constant_value e (suc n) is)

      of : (o : Option ℕ) → word e ≡ o → is_nonzero o ≡ true → (n : ℕ) × ((used : Bool) (st : State) → value variables call e used st ≡ Fine (suc n) st)
      of None is some = absurd (false≢true some)
      of (Some w) is some = of_word w is some
