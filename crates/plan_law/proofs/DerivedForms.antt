-- What the form of a counting loop says of its parts.
use Rattle.std.proofs.Common.{◌≡◌, refl, sym, ap, ◌∙◌, subst, ℕ, ◌<◌, ◌≤◌, Bool, true, false, not, List, Option, Some, None}
use Rattle.std.specs.Prelude.{◌^◌, ◌&&◌, nat_le, nat_lt, slice_get}
use Rattle.std.proofs.lemmas.Bool.{and_parts, false≢true, leb-true, ltb-true, not-true}
use Rattle.std.proofs.lemmas.Option.{none-some, same_Some}
use Rattle.facts_definitions.specs.Starts.{is_constant, leaves, word}
use Rattle.facts_definitions.specs.declared.facts.Bounds.{Bounds}
use Rattle.types_tree.specs.Tree.{Expr, ForStart, Statement}
use Rattle.types_tree.specs.declared.variable.Variable.{Variable}
use Rattle.types_value.specs.Kinds.{same_kind}
use Rattle.types_value.specs.declared.kind.Kind.{Kind}
use Rattle.types_value.specs.declared.kind.Kind.TheVariants.{Void, Char, SignedChar, UnsignedChar, Short, UnsignedShort, Int, Unsigned, Long, UnsignedLong}
use Rattle.facts_loops.specs.Changes.{statement_changes}
use Rattle.facts_loops.specs.Counting.{bounds_by, counter_of, counting, first_word, fitting, int_constant, is_converted, is_counter, is_up, least_turns, limit_of, on_some, only_if, positive, set_object, step_of, turns}
use Rattle.facts_loops.specs.declared.form.Limit.{Limit}

pub on_some_parts : {A B : Type 0} (o : Option A) (f : A → Option B) (y : B) → on_some o f ≡ Some y → (x : A) × (o ≡ Some x) × (f x ≡ Some y)
on_some_parts None f y e = absurd (none-some y e)
on_some_parts (Some x) f y e = (x, refl, e)

pub only_if_parts : {A : Type 0} (t : Bool) (x : Option A) (y : A) → only_if t x ≡ Some y → (t ≡ true) × (x ≡ Some y)
only_if_parts true x y e = (refl, e)
only_if_parts false x y e = absurd (none-some y e)

-- the parts of a counting loop
pub record Parts (variables : List Variable) (start : ForStart) (test step : Option Expr) (body : Statement) (bounds : Bounds) : Type 0 where
  pub object : ℕ
  pub first : ℕ
  pub limit : Limit
  pub by : ℕ
  pub counter_is : counter_of variables start body ≡ Some object
  pub first_is : first_word start ≡ Some first
  pub limit_is : limit_of object test ≡ Some limit
  pub step_is : step_of object (is_up limit.operator) step ≡ Some by
  pub bounds_are : bounds_by (leaves true body) (turns first limit by) ≡ Some bounds

pub parts : (variables : List Variable) (start : ForStart) (test step : Option Expr) (body : Statement) (bounds : Bounds) → counting variables start test step body ≡ Some bounds → Parts variables start test step body bounds
parts variables start test step body bounds e =
    let a = on_some_parts (counter_of variables start body)
    (λ object. on_some (first_word start) (λ first. on_some (limit_of object test) (λ limit. on_some (step_of object (is_up limit.operator) step) (λ by. bounds_by (leaves true body) (turns first limit by))))) bounds e in
    let b = on_some_parts (first_word start) (λ first. on_some (limit_of a.0 test) (λ limit. on_some (step_of a.0 (is_up limit.operator) step) (λ by. bounds_by (leaves true body) (turns first limit by)))) bounds a.2 in
    let c = on_some_parts (limit_of a.0 test) (λ limit. on_some (step_of a.0 (is_up limit.operator) step) (λ by. bounds_by (leaves true body) (turns b.0 limit by))) bounds b.2 in
    let d = on_some_parts (step_of a.0 (is_up c.0.operator) step) (λ by. bounds_by (leaves true body) (turns b.0 c.0 by)) bounds c.2 in
    record { object = a.0; first = b.0; limit = c.0; by = d.0; counter_is = a.1; first_is = b.1; limit_is = c.1; step_is = d.1; bounds_are = d.2 }

-- the object that counts
pub record Counter (variables : List Variable) (start : ForStart) (body : Statement) (object : ℕ) : Type 0 where
  pub set_is : set_object start ≡ Some object
  pub counts : is_counter (slice_get variables object) ≡ true
  pub unchanged : statement_changes object body ≡ false

pub counter : (variables : List Variable) (start : ForStart) (body : Statement) (object : ℕ) → counter_of variables start body ≡ Some object → Counter variables start body object
counter variables start body object e =
    let a = on_some_parts (set_object start) (λ o. only_if (is_counter (slice_get variables o) && not (statement_changes o body)) (Some o)) object e in
    let b = only_if_parts (is_counter (slice_get variables a.0) && not (statement_changes a.0 body)) (Some a.0) object a.2 in
    let same : a.0 ≡ object = same_Some a.0 object b.1 in
    let c = and_parts (is_counter (slice_get variables a.0)) (not (statement_changes a.0 body)) b.0 in
    record {
      set_is = a.1 ∙ ap Some same;
      counts = ap (λ o. is_counter (slice_get variables o)) (sym same) ∙ c.0;
      unchanged = ap (λ o. statement_changes o body) (sym same) ∙ not-true (statement_changes a.0 body) c.1;
    }

-- a constant of type int
pub record Constant (e : Expr) (w : ℕ) : Type 0 where
  pub word_is : word e ≡ Some w
  pub fits : w < 2 ^ 32

pub constant : (e : Expr) (w : ℕ) → int_constant e ≡ Some w → Constant e w
constant e w h =
    let a = only_if_parts (not (is_converted e) && is_constant e) (fitting (word e)) w h in
    of (word e) refl a.1
  where
    of : (o : Option ℕ) → word e ≡ o → fitting o ≡ Some w → Constant e w
    of None is f = absurd (none-some w f)
    of (Some x) is f =
        let b = only_if_parts (nat_lt x (2 ^ 32)) (Some x) w f in
        let same : x ≡ w = same_Some x w b.1 in
        record { word_is = is ∙ ap Some same; fits = subst (λ y. y < 2 ^ 32) same (ltb-true x (2 ^ 32) b.0) }

-- a type that is int
pub is_int : (kind : Kind) → same_kind kind Int ≡ true → kind ≡ Int
is_int Void h = absurd (false≢true h)
is_int Char h = absurd (false≢true h)
is_int SignedChar h = absurd (false≢true h)
is_int UnsignedChar h = absurd (false≢true h)
is_int Short h = absurd (false≢true h)
is_int UnsignedShort h = absurd (false≢true h)
is_int Int h = refl
is_int Unsigned h = absurd (false≢true h)
is_int Long h = absurd (false≢true h)
is_int UnsignedLong h = absurd (false≢true h)

-- a step
pub record Positive (w : ℕ) : Type 0 where
  pub some : 1 ≤ w
  pub small : w < 2 ^ 31

pub positive_is : (w n : ℕ) → positive w ≡ Some n → (w ≡ n) × Positive n
positive_is w n h =
    let a = only_if_parts (nat_le 1 w && nat_lt w (2 ^ 31)) (Some w) n h in
    let same : w ≡ n = same_Some w n a.1 in
    let b = and_parts (nat_le 1 w) (nat_lt w (2 ^ 31)) a.0 in
    (same, subst Positive same (record { some = leb-true 1 w b.0; small = ltb-true w (2 ^ 31) b.1 }))

-- the bounds
pub bounds_are : (left : Bool) (n : ℕ) (bounds : Bounds) → bounds_by left n ≡ Some bounds → (bounds.min ≡ least_turns left n) × (bounds.max ≡ n)
bounds_are left n bounds h =
    let made : Bounds = record { min = least_turns left n; max = n } in
    let a = only_if_parts (nat_le n 2147483647) (Some made) bounds h in
    let same = same_Some made bounds a.1 in
    (ap (λ b. b.min) (sym same), ap (λ b. b.max) (sym same))
