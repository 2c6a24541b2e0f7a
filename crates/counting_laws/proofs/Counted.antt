-- What the parts of a counting loop do with the object that counts.
use Rattle.std.proofs.Common.{◌≡◌, refl, sym, ap, ◌∙◌, subst, arith, ℕ, zero, suc, ◌^◌, ◌<◌, Bool, true, false, List, [], ◌∷◌, length, Option, Some, None, Result, Ok, Err}
use Rattle.std.specs.Prelude.{◌&&◌, nat_lt, slice_get, slice_set, if◌then◌else◌}
use Rattle.std.proofs.lemmas.Bool.{and_parts, eqb-true, false≢true}
use Rattle.std.proofs.lemmas.Option.{none-some, same_Some}
use Rattle.facts_definitions.specs.Starts.{word}
use Rattle.meaning_semantics.specs.State.{State, Outcome, Fine, Stopped, at_place, changed, element, held, read, settled, step_operator, step_value, stored, then_do, with_objects, write}
use Rattle.meaning_semantics.specs.Statements.{Source, all_declared, begun, dropped, initialised, started, stepped}
use Rattle.meaning_semantics.specs.Values.{Calls, value}
use Rattle.meaning_semantics.specs.declared.outcome.Change.{Change}
use Rattle.meaning_semantics.specs.declared.outcome.Flow.{Flow}
use Rattle.meaning_semantics.specs.declared.outcome.Flow.TheVariants.{Onward, Break, Continue, Return}
use Rattle.meaning_semantics.specs.declared.outcome.Operands.{Operands}
use Rattle.meaning_semantics.specs.declared.outcome.Stop.TheVariants.{Undefined as IsUndefined}
use Rattle.meaning_semantics.specs.declared.outcome.Target.{Target}
use Rattle.c_tree.specs.declared.expression.PostfixOperator.{PostfixOperator}
use Rattle.c_tree.specs.declared.expression.PostfixOperator.TheVariants.{Increment, Decrement}
use Rattle.types_tree.specs.Tree.{Place, Scalar, Element, Within, Expr, Read, Step, Operate, Assign, Update, Initial, Absent, Value, Listed, Object, Declared, Objects, Prototype, ForStart, NoStart, StartValue, StartDeclaration}
use Rattle.types_tree.specs.declared.expression.Fix.{Fix}
use Rattle.types_tree.specs.declared.variable.Variable.{Variable}
use Rattle.types_value.specs.Kinds.{same_kind}
use Rattle.types_value.specs.Operators.{computed, word_of}
use Rattle.types_value.specs.declared.kind.Kind.TheVariants.{Int}
use Rattle.types_value.specs.declared.operator.Operator.{Operator}
use Rattle.types_value.specs.declared.operator.Operator.TheVariants.{Add, Subtract, Less, Greater, LessEqual, GreaterEqual}
use Rattle.types_value.specs.declared.operator.Undefined.{Undefined as Cause}
use Rattle.plan_runs.proofs.Constants.{constant_value}
use Rattle.plan_runs.specs.ExpressionFits.{Fit, Function, IsScalar, Signatures}
use Rattle.plan_runs.specs.Meets.{Layout, home}
use Rattle.facts_loops.specs.Counting.{adds, compared, first_word, goes, initial_word, int_constant, is_limit, is_scalar, limit_by, limit_of, number_of, on_some, only, positive, reads, scalar_of, set_object, step_of, stepped_by, steps_up}
use Rattle.facts_loops.specs.Counting as counting
use Rattle.facts_loops.specs.declared.form.Limit.{Limit}
use Rattle.counting_laws.proofs.Alike.{Ends, ends_then}
use Rattle.plan_law.proofs.DerivedForms.{Positive, constant, is_int, on_some_parts, only_if_parts, positive_is}
use Rattle.counting_laws.proofs.Objects.{Begins, Row}

-- the object holds this word
abbrev pub Holds : (object word : ℕ) → State → Type 0
Holds object w st = (row : Row) × (slice_get st.objects object ≡ Some row) × Begins row w

-- the word of the test, where the object holds a word
abbrev pub tested_word : Limit → ℕ → ℕ
tested_word limit v = word_of limit.operator true v limit.word

-- what a step computes
abbrev pub moves : (up : Bool) → Operator
moves true = Add
moves false = Subtract

-- a place that is this object
is_the_object : (place : Place) (object : ℕ) → is_scalar object place ≡ true → (at : ℕ) × (place ≡ Scalar object at)
is_the_object (Scalar own at) object h = (at, ap (λ o. Scalar o at) (eqb-true own object h))
is_the_object (Element array index at) object h = absurd (false≢true h)
is_the_object (Within inner at) object h = absurd (false≢true h)

read_holds : (object at v : ℕ) (st : State) → Holds object v st → read (record { object = object; index = 0; at = at }) st ≡ Fine v st
read_holds object at v st h = ap (λ r. held (element r 0) at st) h.1 ∙ ap (λ c. held c at st) h.2

reads_object : (e : Expr) (object : ℕ) → reads object e ≡ true → (at : ℕ) × (e ≡ Read (Scalar object at))
reads_object (Read place) object h = let a = is_the_object place object h in (a.0, ap Read a.1)
reads_object other object h = absurd (false≢true h)

-- a comparison has its word
computed_limit : (operator : Operator) (v w : ℕ) → is_limit operator ≡ true → computed operator Int v w ≡ Ok (word_of operator true v w)
unfolding computed
computed_limit Less v w l = refl
computed_limit Greater v w l = refl
computed_limit LessEqual v w l = refl
computed_limit GreaterEqual v w l = refl
computed_limit other v w l = absurd (false≢true l)

-- the parts of a comparison with a constant
pub record Comparison (object : ℕ) (limit : Limit) (e : Expr) : Type 0 where
  pub operator : Operator
  pub right : Expr
  pub name_at : ℕ
  pub at : ℕ
  pub form : e ≡ Operate operator Int (Read (Scalar object name_at)) right at
  pub is_one : is_limit operator ≡ true
  pub right_is : word right ≡ Some limit.word
  pub operator_is : limit.operator ≡ operator

comparison : (e : Expr) (object : ℕ) (limit : Limit) → compared object e ≡ Some limit → Comparison object limit e
comparison (Operate operator kind left right at) object limit h =
    let a = only_if_parts (is_limit operator && (same_kind kind Int && reads object left)) (on_some (int_constant right) (limit_by operator)) limit h in
    let b = and_parts (is_limit operator) (same_kind kind Int && reads object left) a.0 in
    let c = and_parts (same_kind kind Int) (reads object left) b.1 in
    let l = reads_object left object c.1 in
    let r = on_some_parts (int_constant right) (limit_by operator) limit a.1 in
    let made : Limit = record { operator = operator; word = r.0 } in
    let same = same_Some made limit r.2 in
    record {
      operator = operator;
      right = right;
      name_at = l.0;
      at = at;
      form = ap (λ k. Operate operator k left right at) (is_int kind c.0) ∙ ap (λ x. Operate operator Int x right at) l.1;
      is_one = b.0;
      right_is = (constant right r.0 r.1).word_is ∙ ap (λ (x : Limit). Some x.word) same;
      operator_is = ap (λ (x : Limit). x.operator) (sym same);
    }
comparison other object limit h = absurd (none-some limit h)

-- a test of a loop that counts
pub tests_so : (test : Option Expr) (object : ℕ) (limit : Limit) → limit_of object test ≡ Some limit → (e : Expr) × (test ≡ Some e) × Comparison object limit e
tests_so None object limit h = absurd (none-some limit h)
tests_so (Some e) object limit h = (e, refl, comparison e object limit h)

-- the object lives where it is compared
pub compared_lives : (layout : Layout) (signatures : Signatures) (f : Function) (e : Expr) (object : ℕ) (limit : Limit) → Comparison object limit e → Fit layout signatures f e → IsScalar layout f object (home layout object)
compared_lives layout signatures f e object limit c fit = (subst (Fit layout signatures f) c.form fit).0

module _ (variables : List Variable) (call : Calls) where
  -- a comparison has the word that the object's word gives
  pub compared_value : (e : Expr) (object : ℕ) (limit : Limit) → Comparison object limit e → (v : ℕ) (used : Bool) (st : State) → Holds object v st → value variables call e used st ≡ Fine (tested_word limit v) st
  compared_value e object limit c v used st h =
      ap (λ x. value variables call x used st) c.form
      ∙ ap (λ o. then_do {A = Operands} (then_do o (λ x st1. then_do (value variables call c.right true st1) (λ y st2. Fine (record { left = x; right = y }) st2))) compute) (read_holds object c.name_at v st h)
      ∙ ap (λ o. then_do {A = Operands} (then_do o (λ y st2. Fine (record { left = v; right = y }) st2)) compute) (constant_value variables call c.right limit.word c.right_is true st)
      ∙ ap (λ r. settled r c.at st) (computed_limit c.operator v limit.word c.is_one)
      ∙ ap (λ o. Fine (word_of o true v limit.word) st) (sym c.operator_is)
    where
      compute : Operands → State → Outcome ℕ
      compute x st1 = settled (computed c.operator Int x.left x.right) c.at st1

-- what a write leaves
pub set_there : {A : Type 0} (xs : List A) (i : ℕ) (x y : A) → slice_get xs i ≡ Some x → slice_get (slice_set xs i y) i ≡ Some y
set_there [] i x y e = absurd (none-some x e)
set_there (z ∷ zs) zero x y e = refl
set_there (z ∷ zs) (suc i) x y e = set_there zs i x y e

pub set_begins : (row : Row) (w : ℕ) → nat_lt 0 (length row) ≡ true → Begins (slice_set row 0 (Some w)) w
set_begins [] w lt = absurd (false≢true lt)
set_begins (x ∷ rest) w lt = refl

abbrev pub Wrote : (object w : ℕ) → ℕ → State → Type 0
Wrote object w r st = (r ≡ w) × Holds object w st

write_sets : (object at w : ℕ) (st : State) → Ends (Wrote object w) (write (record { object = object; index = 0; at = at }) w st)
write_sets object at w st = of (slice_get st.objects object) refl
  where
    of_test : (row : Row) → slice_get st.objects object ≡ Some row → (b : Bool) → nat_lt 0 (length row) ≡ b →
        Ends (Wrote object w) (if b then Fine w (with_objects st (slice_set st.objects object (slice_set row 0 (Some w)))) else Stopped (IsUndefined 0 at))
    of_test row is true lt = (refl, (slice_set row 0 (Some w), set_there st.objects object row (slice_set row 0 (Some w)) is, set_begins row w lt))
    of_test row is false lt = tt

    of : (row : Option Row) → slice_get st.objects object ≡ row → Ends (Wrote object w) (stored row (record { object = object; index = 0; at = at }) w st)
    of None is = tt
    of (Some row) is = of_test row is (nat_lt 0 (length row)) refl

holds_at : (own object w : ℕ) (st : State) → own ≡ object → Holds own w st → Holds object w st
holds_at own object w st same h = subst (λ o. Holds o w st) same h

-- the first part of the head sets the object
abbrev pub Sets : (object w : ℕ) → Flow → State → Type 0
Sets object w flow st = Holds object w st

abbrev go_onward : {A : Type 0} → A → State → Outcome Flow
go_onward a st = Fine Onward st

module _ (source : Source) (call : Calls) where
  abbrev variables : List Variable
  variables = source.program.variables

  assigned : (target : Place) (right : Expr) (at object w : ℕ) → scalar_of target ≡ Some object → word right ≡ Some w → (used : Bool) (st : State) →
      (name_at : ℕ) × (value variables call (Assign target right at) used st ≡ write (record { object = object; index = 0; at = name_at }) w st)
  assigned (Scalar own name_at) right at object w t r used st = (
    name_at,
    ap (λ o. then_do {A = Target} (then_do o (λ v st2. Fine (record { found = record { object = own; index = 0; at = name_at }; word = v }) st2)) (λ x st1. write x.found x.word st1)) (constant_value variables call right w r true st)
        ∙ ap (λ n. write (record { object = n; index = 0; at = name_at }) w st) (same_Some own object t),
  )
  assigned (Element array index name_at) right at object w t r used st = absurd (none-some object t)
  assigned (Within inner name_at) right at object w t r used st = absurd (none-some object t)

  value_sets : (e : Expr) (object w : ℕ) → counting.assigned_object e ≡ Some object → counting.assigned_word e ≡ Some w → (st : State) → Ends (Sets object w) (dropped source call e st)
  value_sets (Assign target right at) object w t r st =
      let a = assigned target right at object w t (constant right w r).word_is false st in
      subst (λ o. Ends (Sets object w) (then_do o go_onward)) (sym a.1)
      (ends_then (Wrote object w) (Sets object w) (write (record { object = object; index = 0; at = a.0 }) w st) go_onward (write_sets object a.0 w st) (λ x st1 h. h.1))
  value_sets other object w t r st = absurd (none-some object t)

  initial_sets : (initial : Initial) (own at object w : ℕ) → own ≡ object → initial_word initial ≡ Some w → (st : State) → Ends (Sets object w) (then_do (initialised source call initial own at st) go_onward)
  initial_sets Absent own at object w same r st = absurd (none-some w r)
  initial_sets (Value e) own at object w same r st =
      subst (λ o. Ends (Sets object w) (then_do (then_do o writes) go_onward)) (sym (constant_value variables call e w (constant e w r).word_is true st))
      (ends_then (Sets object w) (Sets object w) (writes w st) go_onward
      (ends_then (Wrote own w) (Sets object w) (write (record { object = own; index = 0; at = at }) w st) go_onward (write_sets own at w st) (λ x st1 h. holds_at own object w st1 same h.1))
      (λ flow st1 h. h))
    where
      writes : ℕ → State → Outcome Flow
      writes v st1 = then_do (write (record { object = own; index = 0; at = at }) v st1) go_onward
  initial_sets (Listed es comma filling) own at object w same r st = absurd (none-some w r)

  objects_set : (objects : List Object) (object w : ℕ) → on_some (only objects) number_of ≡ Some object → on_some (only objects) counting.word_of ≡ Some w → (st : State) → Ends (Sets object w) (all_declared source call objects st)
  objects_set [] object w t r st = absurd (none-some object t)
  objects_set (Declared own shape initial at ∷ []) object w t r st = initial_sets initial own at object w (same_Some own object t) r st
  objects_set (first ∷ second ∷ rest) object w t r st = absurd (none-some object t)

  pub start_sets : (start : ForStart) (object w : ℕ) → set_object start ≡ Some object → first_word start ≡ Some w → (st : State) → Ends (Sets object w) (started source call start st)
  start_sets NoStart object w t r st = absurd (none-some object t)
  start_sets (StartValue e) object w t r st = value_sets e object w t r st
  start_sets (StartDeclaration (Objects specifiers objects at)) object w t r st = objects_set objects object w t r (begun (Objects specifiers objects at) st)
  start_sets (StartDeclaration (Prototype specifiers name params at)) object w t r st = absurd (none-some object t)

-- a step
abbrev pub Moved : (object : ℕ) (up : Bool) (by v : ℕ) → State → Type 0
Moved object up by v st = (r : ℕ) × (computed (moves up) Int v by ≡ Ok r) × Holds object r st

abbrev pub Changed : (object : ℕ) → Operator → (by v : ℕ) → Change → State → Type 0
Changed object operator by v change st = (r : ℕ) × (computed operator Int v by ≡ Ok r) × Holds object r st

changed_sets : (object at : ℕ) (operator : Operator) (by v : ℕ) (st : State) → Holds object v st → Ends (Changed object operator by v) (changed (record { object = object; index = 0; at = at }) operator Int Int by st)
changed_sets object at operator by v st h = subst (λ o. Ends (Changed object operator by v) (then_do o computes)) (sym (read_holds object at v st h)) (of (computed operator Int v by) refl)
  where
    gives : ℕ → ℕ → State → Outcome Change
    gives before behind st3 = Fine (record { before = before; behind = behind }) st3

    writes : ℕ → ℕ → State → Outcome Change
    writes before result st2 = then_do (write (record { object = object; index = 0; at = at }) result st2) (gives before)

    computes : ℕ → State → Outcome Change
    computes before st1 = then_do (settled (computed operator Int before by) at st1) (writes before)

    of : (c : Result ℕ Cause) → computed operator Int v by ≡ c → Ends (Changed object operator by v) (then_do (settled c at st) (writes v))
    of (Ok r) e = ends_then (Wrote object r) (Changed object operator by v) (write (record { object = object; index = 0; at = at }) r st) (gives v) (write_sets object at r st) (λ behind st3 k. (r, e, k.1))
    of (Err cause) e = tt

step_moves : (operator : PostfixOperator) (up : Bool) → goes (steps_up operator) up ≡ true → step_operator operator ≡ moves up
step_moves Increment true h = refl
step_moves Increment false h = absurd (false≢true h)
step_moves Decrement true h = absurd (false≢true h)
step_moves Decrement false h = refl

add_moves : (operator : Operator) (up : Bool) → adds operator up ≡ true → operator ≡ moves up
add_moves Add true h = refl
add_moves Add false h = absurd (false≢true h)
add_moves Subtract true h = absurd (false≢true h)
add_moves Subtract false h = refl
add_moves other up h = absurd (false≢true h)

abbrev pub MovesTo : (object : ℕ) (up : Bool) (by v : ℕ) → ℕ → State → Type 0
MovesTo object up by v w st = Moved object up by v st

abbrev pub Steps : (object : ℕ) (up : Bool) (by v : ℕ) → Flow → State → Type 0
Steps object up by v Onward st = Moved object up by v st
Steps object up by v Break st = ⊥
Steps object up by v Continue st = ⊥
Steps object up by v (Return word) st = ⊥

module _ (source : Source) (call : Calls) where
  abbrev objects : List Variable
  objects = source.program.variables

  abbrev give : Fix → Change → State → Outcome ℕ
  give fix change st2 = Fine (step_value fix change) st2

  abbrev give_behind : Change → State → Outcome ℕ
  give_behind change st2 = Fine change.behind st2

  moved_by : (object : ℕ) (up : Bool) (operator : Operator) (n by v : ℕ) (st : State) → operator ≡ moves up → n ≡ by → Changed object operator n v (record { before = v; behind = v }) st → Moved object up by v st
  moved_by object up operator n by v st o e m = (m.0, ap (λ p. computed p Int v by) (sym o) ∙ ap (λ k. computed operator Int v k) (sym e) ∙ m.1, m.2)

  value_moves : (e : Expr) (object : ℕ) (up : Bool) (by : ℕ) → stepped_by object up e ≡ Some by → (v : ℕ) (used : Bool) (st : State) → Holds object v st → Ends (MovesTo object up by v) (value objects call e used st)
  value_moves (Step fix operator kind target at) object up by h v used st holds =
      let a = only_if_parts (is_scalar object target && (same_kind kind Int && goes (steps_up operator) up)) (Some 1) by h in
      let b = and_parts (is_scalar object target) (same_kind kind Int && goes (steps_up operator) up) a.0 in
      let c = and_parts (same_kind kind Int) (goes (steps_up operator) up) b.1 in
      let t = is_the_object target object b.0 in
      let form : Step fix operator kind target at ≡ Step fix operator Int (Scalar object t.0) at = ap (λ k. Step fix operator k target at) (is_int kind c.0) ∙ ap (λ p. Step fix operator Int p at) t.1 in
      subst (λ x. Ends (MovesTo object up by v) (value objects call x used st)) (sym form)
      (ends_then (Changed object (step_operator operator) 1 v) (MovesTo object up by v) (changed (record { object = object; index = 0; at = at }) (step_operator operator) Int Int 1 st) (give fix)
      (changed_sets object at (step_operator operator) 1 v st holds)
      (λ change st1 m. moved_by object up (step_operator operator) 1 by v st1 (step_moves operator up c.1) (same_Some 1 by a.1) m))
  value_moves (Update operator kind to target right at) object up by h v used st holds =
      let a = only_if_parts (is_scalar object target && (same_kind kind Int && (same_kind to Int && adds operator up))) (on_some (int_constant right) positive) by h in
      let b = and_parts (is_scalar object target) (same_kind kind Int && (same_kind to Int && adds operator up)) a.0 in
      let c = and_parts (same_kind kind Int) (same_kind to Int && adds operator up) b.1 in
      let d = and_parts (same_kind to Int) (adds operator up) c.1 in
      let t = is_the_object target object b.0 in
      let r = on_some_parts (int_constant right) positive by a.1 in
      let form : Update operator kind to target right at ≡ Update operator Int Int (Scalar object t.0) right at =
      ap (λ k. Update operator k to target right at) (is_int kind c.0) ∙ ap (λ k. Update operator Int k target right at) (is_int to d.0) ∙ ap (λ p. Update operator Int Int p right at) t.1 in
      let pair : ℕ → State → Outcome Target = λ word st2. Fine (record { found = record { object = object; index = 0; at = t.0 }; word = word }) st2 in
      let store : Target → State → Outcome ℕ = λ x st1. then_do (changed (at_place at x.found) operator Int Int x.word st1) give_behind in
      subst (λ x. Ends (MovesTo object up by v) (value objects call x used st)) (sym form)
      (subst (λ o. Ends (MovesTo object up by v) (then_do {A = Target} (then_do o pair) store)) (sym (constant_value objects call right r.0 (constant right r.0 r.1).word_is true st))
      (ends_then (Changed object operator r.0 v) (MovesTo object up by v) (changed (record { object = object; index = 0; at = at }) operator Int Int r.0 st) give_behind
      (changed_sets object at operator r.0 v st holds)
      (λ change st1 m. moved_by object up operator r.0 by v st1 (add_moves operator up d.1) (positive_is r.0 by r.2).0 m)))
  value_moves other object up by h v used st holds = absurd (none-some by h)

  -- the last part of the head steps the object
  pub steps_so : (step : Option Expr) (object : ℕ) (up : Bool) (by : ℕ) → step_of object up step ≡ Some by → (v : ℕ) (st : State) → Holds object v st → Ends (Steps object up by v) (stepped source call step st)
  steps_so None object up by h v st holds = absurd (none-some by h)
  steps_so (Some e) object up by h v st holds =
      ends_then (MovesTo object up by v) (Steps object up by v) (value objects call e false st) go_onward (value_moves e object up by h v false st holds) (λ w st1 m. m)

-- it steps by at least 1
value_positive : (e : Expr) (object : ℕ) (up : Bool) (by : ℕ) → stepped_by object up e ≡ Some by → Positive by
value_positive (Step fix operator kind target at) object up by h =
    let a = only_if_parts (is_scalar object target && (same_kind kind Int && goes (steps_up operator) up)) (Some 1) by h in
    subst Positive (same_Some 1 by a.1) (record { some = omega arith; small = omega arith })
value_positive (Update operator kind to target right at) object up by h =
    let a = only_if_parts (is_scalar object target && (same_kind kind Int && (same_kind to Int && adds operator up))) (on_some (int_constant right) positive) by h in
    let r = on_some_parts (int_constant right) positive by a.1 in
    (positive_is r.0 by r.2).1
value_positive other object up by h = absurd (none-some by h)

pub steps_positive : (step : Option Expr) (object : ℕ) (up : Bool) (by : ℕ) → step_of object up step ≡ Some by → Positive by
steps_positive None object up by h = absurd (none-some by h)
steps_positive (Some e) object up by h = value_positive e object up by h

-- the first word has 32 bits
value_fits : (e : Expr) (w : ℕ) → counting.assigned_word e ≡ Some w → w < 2 ^ 32
value_fits (Assign target right at) w h = (constant right w h).fits
value_fits other w h = absurd (none-some w h)

initial_fits : (initial : Initial) (w : ℕ) → initial_word initial ≡ Some w → w < 2 ^ 32
initial_fits Absent w h = absurd (none-some w h)
initial_fits (Value e) w h = (constant e w h).fits
initial_fits (Listed es comma filling) w h = absurd (none-some w h)

objects_fit : (objects : List Object) (w : ℕ) → on_some (only objects) counting.word_of ≡ Some w → w < 2 ^ 32
objects_fit [] w h = absurd (none-some w h)
objects_fit (Declared own shape initial at ∷ []) w h = initial_fits initial w h
objects_fit (first ∷ second ∷ rest) w h = absurd (none-some w h)

pub first_fits : (start : ForStart) (w : ℕ) → first_word start ≡ Some w → w < 2 ^ 32
first_fits NoStart w h = absurd (none-some w h)
first_fits (StartValue e) w h = value_fits e w h
first_fits (StartDeclaration (Objects specifiers objects at)) w h = objects_fit objects w h
first_fits (StartDeclaration (Prototype specifiers name params at)) w h = absurd (none-some w h)
