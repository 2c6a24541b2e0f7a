-- What a constant is worth, wherever it stands.
use Rattle.std.proofs.Common.{◌≡◌, refl, ap, ◌∙◌, sym, subst, ℕ, zero, suc, Bool, true, List, Option, Some, None, Result, Ok, Err, arith, eq-eqb}
use Rattle.std.specs.Prelude.{◌==◌, ◌&&◌, not, if◌then◌else◌}
use Rattle.std.proofs.lemmas.Bool.{and_parts, false≢true, ne_eqb}
use Rattle.std.proofs.lemmas.Option.{none-some, same_Some}
use Rattle.facts_definitions.specs.Starts.{is_constant, defined_word, truth_of, with_word, word}
use Rattle.meaning_semantics.specs.State.{State, Outcome, Fine, Stopped, settled, then_do, choose, truth}
use Rattle.meaning_semantics.specs.Values.{Calls, value}
use Rattle.meaning_semantics.specs.declared.outcome.Operands.{Operands}
use Rattle.meaning_semantics.specs.declared.outcome.Stop.{Stop}
use Rattle.meaning_semantics.specs.declared.outcome.Stop.TheVariants.{Undefined as IsUndefined}
use Rattle.meaning_semantics.specs.State.{rule_of}
use Rattle.types_tree.specs.Tree.{Expr, Number, Character, Read, Array, Paren, Call, Step, Signed, Cast, Convert, Operate, And, Or, Comma, Conditional, Assign, Update}
use Rattle.types_tree.specs.declared.variable.Variable.{Variable}
use Rattle.types_value.specs.Kinds.{converted, is_void}
use Rattle.types_value.specs.Operators.{computed, signed_by}
use Rattle.types_value.specs.declared.kind.Kind.{Kind as CType}
use Rattle.types_value.specs.declared.operator.Operator.{Operator}
use Rattle.types_value.specs.declared.operator.Undefined.{Undefined}
use Rattle.high_ir.specs.Words as high
use Rattle.plan_definition.specs.Operators.{kind_of}
use Rattle.plan_runs.specs.ExpressionFits.{Signatures, range_of}
use Rattle.plan_runs.specs.Meets.{Layout}
use Rattle.plan_runs.proofs.Operators.{converted-converted, converted-kind_of, converted-Word}

-- a word that is there, and else a run that stops
abbrev pub Gives : Option ℕ → Outcome ℕ → State → Type 0
Gives None o st = (stop : Stop) × (o ≡ Stopped stop)
Gives (Some w) o st = o ≡ Fine w st

gives_then : (o : Option ℕ) (out : Outcome ℕ) (st : State) (f : ℕ → Option ℕ) (go : ℕ → State → Outcome ℕ) → Gives o out st → ((x : ℕ) → Gives (f x) (go x st) st) → Gives (with_word o f) (then_do out go) st
gives_then None out st f go h k = (h.0, ap (λ x. then_do x go) h.1)
gives_then (Some x) out st f go h k = subst (λ y. Gives (f x) (then_do y go) st) (sym h) (k x)

settled_gives : (r : Result ℕ Undefined) (at : ℕ) (st : State) → Gives (defined_word r) (settled r at st) st
settled_gives (Ok w) at st = refl
settled_gives (Err cause) at st = (IsUndefined (rule_of cause) at, refl)

then_do-assoc : {A B C : Type 0} (o : Outcome A) (f : A → State → Outcome B) (g : B → State → Outcome C) → then_do (then_do o f) g ≡ then_do o (λ a st. then_do (f a st) g)
then_do-assoc (Fine a st) f g = refl
then_do-assoc (Stopped stop) f g = refl

truth_same : (y : ℕ) → truth_of y ≡ Some (truth y)
truth_same zero = ap (λ t. Some (if t then 0 else 1)) (eq-eqb 0 0 refl)
truth_same (suc n) = ap (λ t. Some (if t then 0 else 1)) (ne_eqb (suc n) 0 (λ e. absurd (omega (arith, e))))

truth_gives : (o : Option ℕ) (out : Outcome ℕ) (st : State) → Gives o out st → Gives (with_word o truth_of) (then_do out (λ y st2. Fine (truth y) st2)) st
truth_gives o out st h = gives_then o out st truth_of (λ y st2. Fine (truth y) st2) h (λ y. subst (λ p. Gives p (Fine (truth y) st) st) (sym (truth_same y)) refl)

-- by whether a word is 0
chosen_gives : (x : ℕ) (zero_word other_word : Option ℕ) (first second : Outcome ℕ) (st : State) → Gives zero_word second st → Gives other_word first st → Gives (if x == 0 then zero_word else other_word) (choose x first second) st
chosen_gives zero zero_word other_word first second st h k = subst (λ t. Gives (if t then zero_word else other_word) second st) (sym (eq-eqb 0 0 refl)) h
chosen_gives (suc n) zero_word other_word first second st h k = subst (λ t. Gives (if t then zero_word else other_word) first st) (sym (ne_eqb (suc n) 0 (λ e. absurd (omega (arith, e))))) k

-- two operands, and an operator on them
abbrev paired : ℕ → ℕ → State → Outcome Operands
paired x y st = Fine (record { left = x; right = y }) st

abbrev settled_by : Operator → CType → (at : ℕ) → Operands → State → Outcome ℕ
settled_by operator kind at x st = settled (computed operator kind x.left x.right) at st

module _ (variables : List Variable) (call : Calls) where
  -- a constant has its word in each state, or stops each run
  pub constant_gives : (e : Expr) → is_constant e ≡ true → (used : Bool) (st : State) → Gives (word e) (value variables call e used st) st
  constant_gives (Number constant at) h used st = refl
  constant_gives (Character v at) h used st = refl
  constant_gives (Read place) h used st = absurd (false≢true h)
  constant_gives (Array object at) h used st = absurd (false≢true h)
  constant_gives (Paren inner at) h used st = constant_gives inner h used st
  constant_gives (Call callee arguments at) h used st = absurd (false≢true h)
  constant_gives (Step fix operator kind target at) h used st = absurd (false≢true h)
  constant_gives (Signed operator kind operand at) h used st =
      gives_then (word operand) (value variables call operand true st) st (λ x. defined_word (signed_by operator kind x)) (λ x st1. settled (signed_by operator kind x) at st1) (constant_gives operand h true st)
      (λ x. settled_gives (signed_by operator kind x) at st)
  constant_gives (Cast specifiers to operand at) h used st =
      let parts = and_parts (not (is_void to)) (is_constant operand) h in
      gives_then (word operand) (value variables call operand (not (is_void to)) st) st (λ x. Some (converted to x)) (λ x st1. Fine (converted to x) st1) (constant_gives operand parts.1 (not (is_void to)) st) (λ x. refl)
  constant_gives (Convert to operand) h used st =
      gives_then (word operand) (value variables call operand used st) st (λ x. Some (converted to x)) (λ x st1. Fine (converted to x) st1) (constant_gives operand h used st) (λ x. refl)
  constant_gives (Operate operator kind left right at) h used st =
      let parts = and_parts (is_constant left) (is_constant right) h in
      let go = settled_by operator kind at in
      subst (λ o. Gives (word (Operate operator kind left right at)) o st)
      (sym (then_do-assoc (value variables call left true st) (λ x st1. then_do (value variables call right true st1) (paired x)) go))
      (gives_then (word left) (value variables call left true st) st (λ x. with_word (word right) (λ y. defined_word (computed operator kind x y)))
      (λ x st1. then_do (then_do (value variables call right true st1) (paired x)) go) (constant_gives left parts.0 true st)
      (λ x. subst (λ o. Gives (with_word (word right) (λ y. defined_word (computed operator kind x y))) o st)
      (sym (then_do-assoc (value variables call right true st) (paired x) go))
      (gives_then (word right) (value variables call right true st) st (λ y. defined_word (computed operator kind x y)) (λ y st2. settled (computed operator kind x y) at st2) (constant_gives right parts.1 true st)
      (λ y. settled_gives (computed operator kind x y) at st))))
  constant_gives (And left right at) h used st =
      let parts = and_parts (is_constant left) (is_constant right) h in
      gives_then (word left) (value variables call left true st) st (λ x. if x == 0 then Some 0 else with_word (word right) truth_of)
      (λ x st1. choose x (then_do (value variables call right true st1) (λ y st2. Fine (truth y) st2)) (Fine 0 st1)) (constant_gives left parts.0 true st)
      (λ x. chosen_gives x (Some 0) (with_word (word right) truth_of) (then_do (value variables call right true st) (λ y st2. Fine (truth y) st2)) (Fine 0 st) st refl
      (truth_gives (word right) (value variables call right true st) st (constant_gives right parts.1 true st)))
  constant_gives (Or left right at) h used st =
      let parts = and_parts (is_constant left) (is_constant right) h in
      gives_then (word left) (value variables call left true st) st (λ x. if x == 0 then with_word (word right) truth_of else Some 1)
      (λ x st1. choose x (Fine 1 st1) (then_do (value variables call right true st1) (λ y st2. Fine (truth y) st2))) (constant_gives left parts.0 true st)
      (λ x. chosen_gives x (with_word (word right) truth_of) (Some 1) (Fine 1 st) (then_do (value variables call right true st) (λ y st2. Fine (truth y) st2)) st
      (truth_gives (word right) (value variables call right true st) st (constant_gives right parts.1 true st)) refl)
  constant_gives (Comma left right at) h used st = absurd (false≢true h)
  constant_gives (Conditional test first second at) h used st =
      let parts = and_parts (is_constant test) (is_constant first && is_constant second) h in
      let both = and_parts (is_constant first) (is_constant second) parts.1 in
      gives_then (word test) (value variables call test true st) st (λ x. if x == 0 then word second else word first)
      (λ x st1. choose x (value variables call first used st1) (value variables call second used st1)) (constant_gives test parts.0 true st)
      (λ x. chosen_gives x (word second) (word first) (value variables call first used st) (value variables call second used st) st (constant_gives second both.1 used st) (constant_gives first both.0 used st))
  constant_gives (Assign target right at) h used st = absurd (false≢true h)
  constant_gives (Update operator kind to target right at) h used st = absurd (false≢true h)

-- what was converted is of the type's kind
pub converted_range : (to : CType) (v : ℕ) → high.converted (kind_of to) (converted to v) ≡ converted to v
converted_range to v = ap (high.converted (kind_of to)) (sym (converted-kind_of to v)) ∙ converted-converted (kind_of to) v ∙ converted-kind_of to v

converted_word : (o : Option ℕ) (to : CType) (w : ℕ) → with_word o (λ x. Some (converted to x)) ≡ Some w → high.converted (kind_of to) w ≡ w
converted_word None to w e = absurd (none-some w e)
converted_word (Some x) to w e = subst (λ v. high.converted (kind_of to) v ≡ v) (same_Some (converted to x) w e) (converted_range to x)

-- the word of a constant is one of its kind
module _ (layout : Layout) (signatures : Signatures) where
  pub constant_range : (e : Expr) (w : ℕ) → is_constant e ≡ true → word e ≡ Some w → high.converted (range_of layout signatures e) w ≡ w
  constant_range (Number constant at) w h e = converted-Word w
  constant_range (Character v at) w h e = converted-Word w
  constant_range (Read place) w h e = absurd (false≢true h)
  constant_range (Array object at) w h e = absurd (false≢true h)
  constant_range (Paren inner at) w h e = constant_range inner w h e
  constant_range (Call callee arguments at) w h e = absurd (false≢true h)
  constant_range (Step fix operator kind target at) w h e = absurd (false≢true h)
  constant_range (Signed operator kind operand at) w h e = converted-Word w
  constant_range (Cast specifiers to operand at) w h e = converted_word (word operand) to w e
  constant_range (Convert to operand) w h e = converted_word (word operand) to w e
  constant_range (Operate operator kind left right at) w h e = converted-Word w
  constant_range (And left right at) w h e = converted-Word w
  constant_range (Or left right at) w h e = converted-Word w
  constant_range (Comma left right at) w h e = absurd (false≢true h)
  constant_range (Conditional test first second at) w h e = converted-Word w
  constant_range (Assign target right at) w h e = absurd (false≢true h)
  constant_range (Update operator kind to target right at) w h e = absurd (false≢true h)
