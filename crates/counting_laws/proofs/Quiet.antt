-- The initial values of file level break no loop, whatever the bounds.
use Rattle.std.proofs.Common.{◌≡◌, refl, sym, ap, ℕ, zero, suc, ◌+◌, Bool, true, false, not, List, [], ◌∷◌, length, Option, Some, None, Result, Ok, Err}
use Rattle.std.specs.Prelude.{nat_lt, slice_get, slice_set, if◌then◌else◌}
use Rattle.meaning_semantics.specs.Runs.{initialised_all}
use Rattle.meaning_semantics.specs.State.{State, Outcome, Fine, Stopped, array_number, at_place, changed, choose, element, held, needed, number_by, number_held, placed, placed_in, read, settled, step_operator, step_value, stored, then_do, truth, with_objects, write}
use Rattle.meaning_semantics.specs.Statements.{Source, all_declared, declared, evaluated, filled, initialised, listed}
use Rattle.meaning_semantics.specs.Values.{Calls, both, called, find, targeted, value, values}
use Rattle.meaning_semantics.specs.declared.outcome.Change.{Change}
use Rattle.meaning_semantics.specs.declared.outcome.Flow.TheVariants.{Onward}
use Rattle.meaning_semantics.specs.declared.outcome.Found.{Found}
use Rattle.meaning_semantics.specs.declared.outcome.Operands.{Operands}
use Rattle.meaning_semantics.specs.declared.outcome.Stop.TheVariants.{Undefined}
use Rattle.meaning_semantics.specs.declared.outcome.Target.{Target}
use Rattle.types_tree.specs.Tree.{Place, Scalar, Element, Within, Expr, Number, Character, Read, Array, Paren, Call, Step, Signed, Cast, Convert, Operate, And, Or, Comma, Conditional, Assign, Update, Exprs, NoExpr, WithExpr, Initial, Absent, Value, Listed, Object, Declared, Declaration, Objects, Prototype, External, Restriction, Declaring, Defining}
use Rattle.types_tree.specs.declared.expression.Callee.{Callee}
use Rattle.types_tree.specs.declared.expression.Callee.TheVariants.{Getchar, Putchar, Function as Own}
use Rattle.types_tree.specs.declared.variable.Extent.{Extent}
use Rattle.types_tree.specs.declared.variable.Extent.TheVariants as extents
use Rattle.types_tree.specs.declared.variable.Variable.{Variable}
use Rattle.types_value.specs.Kinds.{converted, is_void, promoted}
use Rattle.types_value.specs.Operators.{computed, signed_by}
use Rattle.types_value.specs.declared.kind.Kind.{Kind as CType}
use Rattle.types_value.specs.declared.operator.Operator.{Operator}
use Rattle.types_value.specs.declared.operator.Undefined.{Undefined as Cause}
use Rattle.counting_laws.proofs.Alike.{Alike, Comes, alike_then}
use Rattle.counting_laws.proofs.Objects.{Row}

abbrev pub Anywhere : {A : Type 0} → A → State → Type 0
Anywhere a st = Unit {0}

module _ (blamed : ℕ → Type 0) where
  -- a run that breaks no loop
  abbrev Quiet : {A : Type 0} → Outcome A → Type 0
  Quiet o = Comes blamed Anywhere o

  quiet_then : {A B : Type 0} (o : Outcome A) (go : A → State → Outcome B) → Quiet o → ((a : A) (st : State) → Quiet (go a st)) → Quiet (then_do o go)
  quiet_then (Fine a st) go h more = more a st
  quiet_then (Stopped stop) go h more = h

  quiet_choose : {A : Type 0} (x : ℕ) (a b : Outcome A) → Quiet a → Quiet b → Quiet (choose x a b)
  quiet_choose zero a b h k = k
  quiet_choose (suc n) a b h k = h

  quiet_read : (found : Found) (st : State) → Quiet (read found st)
  quiet_read found st = of (element (slice_get st.objects found.object) found.index)
    where
      of : (c : Option (Option ℕ)) → Quiet (held c found.at st)
      of None = tt
      of (Some None) = tt
      of (Some (Some w)) = tt

  quiet_if : {A : Type 0} (b : Bool) (first other : Outcome A) → Quiet first → Quiet other → Quiet (if b then first else other)
  quiet_if true first other h k = h
  quiet_if false first other h k = k

  quiet_write : (found : Found) (word : ℕ) (st : State) → Quiet (write found word st)
  quiet_write found word st = of (slice_get st.objects found.object)
    where
      of : (row : Option Row) → Quiet (stored row found word st)
      of None = tt
      of (Some row) = quiet_if (nat_lt found.index (length row)) (Fine word (with_objects st (slice_set st.objects found.object (slice_set row found.index (Some word))))) (Stopped (Undefined 0 found.at)) tt tt

  quiet_placed : (found : Found) (st : State) → Quiet (placed found st)
  quiet_placed found st = of (slice_get st.objects found.object)
    where
      of : (row : Option Row) → Quiet (placed_in row found st)
      of None = tt
      of (Some row) = quiet_if (nat_lt found.index (length row)) (Fine found st) (Stopped (Undefined 6 found.at)) tt tt

  quiet_number : (variables : List Variable) (array at : ℕ) (st : State) → Quiet (array_number variables array at st)
  quiet_number variables array at st = of (slice_get variables array)
    where
      of_extent : (extent : Extent) → Quiet (number_held extent array at st)
      of_extent extents.Scalar = tt
      of_extent (extents.Array size) = tt
      of_extent extents.Parameter = quiet_read (record { object = array; index = 0; at = at }) st

      of : (v : Option Variable) → Quiet (number_by v array at st)
      of None = tt
      of (Some v) = of_extent v.extent

  quiet_settled : (answer : Result ℕ Cause) (at : ℕ) (st : State) → Quiet (settled answer at st)
  quiet_settled (Ok word) at st = tt
  quiet_settled (Err cause) at st = tt

  quiet_needed : (used : Bool) (at : ℕ) (given : Option ℕ) (st : State) → Quiet (needed used at given st)
  quiet_needed used at (Some word) st = tt
  quiet_needed true at None st = tt
  quiet_needed false at None st = tt

  quiet_changed : (found : Found) (operator : Operator) (kind to : CType) (word : ℕ) (st : State) → Quiet (changed found operator kind to word st)
  quiet_changed found operator kind to word st =
      quiet_then (read found st) reads (quiet_read found st)
      (λ before st1. quiet_then (settled (answer before) found.at st1) (writes before) (quiet_settled (answer before) found.at st1)
      (λ result st2. quiet_then (write found (converted to result) st2) (ends before) (quiet_write found (converted to result) st2) (λ behind st3. tt)))
    where
      answer : ℕ → Result ℕ Cause
      answer before = computed operator kind (converted kind before) word

      ends : ℕ → ℕ → State → Outcome Change
      ends before behind st3 = Fine (record { before = before; behind = behind }) st3

      writes : ℕ → ℕ → State → Outcome Change
      writes before result st2 = then_do (write found (converted to result) st2) (ends before)

      reads : ℕ → State → Outcome Change
      reads before st1 = then_do (settled (answer before) found.at st1) (writes before)

  -- expressions, where calls are quiet
  module _ (variables : List Variable) (call : Calls) (calls_quiet : (g : ℕ) (words : List ℕ) (at : ℕ) (st : State) → Quiet (call g words at st)) where
    quiet_called : (callee : Callee) (words : List ℕ) (at : ℕ) (st : State) → Quiet (called call callee at words st)
    quiet_called Getchar words at st = tt
    quiet_called Putchar words at st = tt
    quiet_called (Own g) words at st = calls_quiet g.0 words at st

    quiet_truth : (o : Outcome ℕ) → Quiet o → Quiet (then_do o (λ y st2. Fine (truth y) st2))
    quiet_truth o h = quiet_then o (λ y st2. Fine (truth y) st2) h (λ y st2. tt)

    quiet_both : (left right : State → Outcome ℕ) → ((st : State) → Quiet (left st)) → ((st : State) → Quiet (right st)) → (st : State) → Quiet (both left right st)
    quiet_both left right l r st =
        quiet_then (left st) (λ x st1. then_do (right st1) (pair x)) (l st) (λ x st1. quiet_then (right st1) (pair x) (r st1) (λ y st2. tt))
      where
        pair : ℕ → ℕ → State → Outcome Operands
        pair x y st2 = Fine (record { left = x; right = y }) st2

    quiet_targeted : (finds : State → Outcome Found) (gives : State → Outcome ℕ) → ((st : State) → Quiet (finds st)) → ((st : State) → Quiet (gives st)) → (st : State) → Quiet (targeted finds gives st)
    quiet_targeted finds gives f g st =
        quiet_then (finds st) (λ found st1. then_do (gives st1) (pair found)) (f st) (λ found st1. quiet_then (gives st1) (pair found) (g st1) (λ word st2. tt))
      where
        pair : Found → ℕ → State → Outcome Target
        pair found word st2 = Fine (record { found = found; word = word }) st2

    mutual
      quiet_find : (place : Place) (st : State) → Quiet (find variables call place st)
      quiet_find (Scalar object at) st = tt
      quiet_find (Element array index at) st =
          quiet_then (value variables call index true st) (λ i st1. then_do (array_number variables array at st1) (λ object st2. placed (record { object = object; index = i; at = at }) st2)) (quiet_value index true st)
          (λ i st1. quiet_then (array_number variables array at st1) (λ object st2. placed (record { object = object; index = i; at = at }) st2) (quiet_number variables array at st1) (λ object st2. quiet_placed (record { object = object; index = i; at = at }) st2))
      quiet_find (Within inner at) st = quiet_find inner st

      pub quiet_value : (e : Expr) (used : Bool) (st : State) → Quiet (value variables call e used st)
      quiet_value (Number constant at) used st = tt
      quiet_value (Character word at) used st = tt
      quiet_value (Read place) used st = quiet_then (find variables call place st) read (quiet_find place st) quiet_read
      quiet_value (Array object at) used st = quiet_number variables object at st
      quiet_value (Paren inner at) used st = quiet_value inner used st
      quiet_value (Call callee arguments at) used st =
          quiet_then (then_do (values variables call arguments st) (called call callee at)) (needed used at) (quiet_then (values variables call arguments st) (called call callee at) (quiet_values arguments st) (λ words st1. quiet_called callee words at st1))
          (λ given st1. quiet_needed used at given st1)
      quiet_value (Step fix operator kind target at) used st =
          quiet_then (find variables call target st) (λ found st1. then_do (changed (at_place at found) (step_operator operator) (promoted kind) kind 1 st1) (λ change st2. Fine (step_value fix change) st2)) (quiet_find target st)
          (λ found st1. quiet_then (changed (at_place at found) (step_operator operator) (promoted kind) kind 1 st1) (λ change st2. Fine (step_value fix change) st2) (quiet_changed (at_place at found) (step_operator operator) (promoted kind) kind 1 st1) (λ change st2. tt))
      quiet_value (Signed operator kind operand at) used st =
          quiet_then (value variables call operand true st) (λ x st1. settled (signed_by operator kind x) at st1) (quiet_value operand true st) (λ x st1. quiet_settled (signed_by operator kind x) at st1)
      quiet_value (Cast specifiers to operand at) used st = quiet_then (value variables call operand (not (is_void to)) st) (λ x st1. Fine (converted to x) st1) (quiet_value operand (not (is_void to)) st) (λ x st1. tt)
      quiet_value (Convert to operand) used st = quiet_then (value variables call operand used st) (λ x st1. Fine (converted to x) st1) (quiet_value operand used st) (λ x st1. tt)
      quiet_value (Operate operator kind left right at) used st =
          quiet_then {A = Operands} (both (value variables call left true) (value variables call right true) st) (λ x st1. settled (computed operator kind x.left x.right) at st1)
          (quiet_both (value variables call left true) (value variables call right true) (λ st1. quiet_value left true st1) (λ st1. quiet_value right true st1) st)
          (λ x st1. quiet_settled (computed operator kind x.left x.right) at st1)
      quiet_value (And left right at) used st =
          quiet_then (value variables call left true st) (λ x st1. choose x (then_do (value variables call right true st1) (λ y st2. Fine (truth y) st2)) (Fine 0 st1)) (quiet_value left true st)
          (λ x st1. quiet_choose x (then_do (value variables call right true st1) (λ y st2. Fine (truth y) st2)) (Fine 0 st1) (quiet_truth (value variables call right true st1) (quiet_value right true st1)) tt)
      quiet_value (Or left right at) used st =
          quiet_then (value variables call left true st) (λ x st1. choose x (Fine 1 st1) (then_do (value variables call right true st1) (λ y st2. Fine (truth y) st2))) (quiet_value left true st)
          (λ x st1. quiet_choose x (Fine 1 st1) (then_do (value variables call right true st1) (λ y st2. Fine (truth y) st2)) tt (quiet_truth (value variables call right true st1) (quiet_value right true st1)))
      quiet_value (Comma left right at) used st = quiet_then (value variables call left false st) (λ x st1. value variables call right used st1) (quiet_value left false st) (λ x st1. quiet_value right used st1)
      quiet_value (Conditional test first second at) used st =
          quiet_then (value variables call test true st) (λ x st1. choose x (value variables call first used st1) (value variables call second used st1)) (quiet_value test true st)
          (λ x st1. quiet_choose x (value variables call first used st1) (value variables call second used st1) (quiet_value first used st1) (quiet_value second used st1))
      quiet_value (Assign target right at) used st =
          quiet_then {A = Target} (targeted (find variables call target) (value variables call right true) st) (λ x st1. write x.found x.word st1)
          (quiet_targeted (find variables call target) (value variables call right true) (λ st1. quiet_find target st1) (λ st1. quiet_value right true st1) st) (λ x st1. quiet_write x.found x.word st1)
      quiet_value (Update operator kind to target right at) used st =
          quiet_then {A = Target} (targeted (find variables call target) (value variables call right true) st) (λ x st1. then_do (changed (at_place at x.found) operator kind to x.word st1) (λ change st2. Fine change.behind st2))
          (quiet_targeted (find variables call target) (value variables call right true) (λ st1. quiet_find target st1) (λ st1. quiet_value right true st1) st)
          (λ x st1. quiet_then {A = Change} (changed (at_place at x.found) operator kind to x.word st1) (λ change st2. Fine change.behind st2) (quiet_changed (at_place at x.found) operator kind to x.word st1) (λ change st2. tt))

      quiet_values : (es : Exprs) (st : State) → Quiet (values variables call es st)
      quiet_values NoExpr st = tt
      quiet_values (WithExpr e rest) st =
          quiet_then (value variables call e true st) (λ word st1. then_do (values variables call rest st1) (λ words st2. Fine (word ∷ words) st2)) (quiet_value e true st)
          (λ word st1. quiet_then (values variables call rest st1) (λ words st2. Fine (word ∷ words) st2) (quiet_values rest st1) (λ words st2. tt))

  -- declarations of two sources with the same objects
  module _ (narrow wide : Source) (same : narrow.program.variables ≡ wide.program.variables) (call : Calls) (calls_quiet : (g : ℕ) (words : List ℕ) (at : ℕ) (st : State) → Quiet (call g words at st)) where
    abbrev Both : {A : Type 0} → Outcome A → Outcome A → Type 0
    Both a b = Alike blamed Anywhere a b

    go_on : {A B : Type 0} (a b : Outcome A) (go other : A → State → Outcome B) → Both a b → ((x : A) (st : State) → Both (go x st) (other x st)) → Both (then_do a go) (then_do b other)
    go_on a b go other h more = alike_then blamed Anywhere Anywhere a b go other h (λ x st k. more x st)

    values_alike : (e : Expr) (used : Bool) (st : State) → Both (evaluated narrow call e used st) (evaluated wide call e used st)
    values_alike e used st = record { same = ap (λ vs. value vs call e used st) (sym same); comes = quiet_value narrow.program.variables call calls_quiet e used st }

    onward : (st : State) → Both (Fine Onward st) (Fine Onward st)
    onward st = record { same = refl; comes = tt }

    written_alike : (found : Found) (word : ℕ) (st : State) → Both (write found word st) (write found word st)
    written_alike found word st = record { same = refl; comes = quiet_write found word st }

    listed_alike : (es : Exprs) (object at index : ℕ) (st : State) → Both (listed narrow call es object at index st) (listed wide call es object at index st)
    listed_alike NoExpr object at index st = record { same = refl; comes = tt }
    listed_alike (WithExpr e rest) object at index st =
        go_on (evaluated narrow call e true st) (evaluated wide call e true st)
        (λ word st1. then_do (write (record { object = object; index = index; at = at }) word st1) (λ written st2. listed narrow call rest object at (index + 1) st2))
        (λ word st1. then_do (write (record { object = object; index = index; at = at }) word st1) (λ written st2. listed wide call rest object at (index + 1) st2)) (values_alike e true st)
        (λ word st1.
        go_on (write (record { object = object; index = index; at = at }) word st1) (write (record { object = object; index = index; at = at }) word st1) (λ written st2. listed narrow call rest object at (index + 1) st2) (λ written st2. listed wide call rest object at (index + 1) st2)
        (written_alike (record { object = object; index = index; at = at }) word st1) (λ written st2. listed_alike rest object at (index + 1) st2))

    initial_alike : (initial : Initial) (object at : ℕ) (st : State) → Both (initialised narrow call initial object at st) (initialised wide call initial object at st)
    initial_alike Absent object at st = onward st
    initial_alike (Value e) object at st =
        go_on (evaluated narrow call e true st) (evaluated wide call e true st) (λ word st1. then_do (write (record { object = object; index = 0; at = at }) word st1) (λ written st2. Fine Onward st2))
        (λ word st1. then_do (write (record { object = object; index = 0; at = at }) word st1) (λ written st2. Fine Onward st2)) (values_alike e true st)
        (λ word st1.
        go_on (write (record { object = object; index = 0; at = at }) word st1) (write (record { object = object; index = 0; at = at }) word st1) (λ written st2. Fine Onward st2) (λ written st2. Fine Onward st2) (written_alike (record { object = object; index = 0; at = at }) word st1)
        (λ written st2. onward st2))
    initial_alike (Listed es comma filling) object at st =
        go_on (listed narrow call es object at 0 st) (listed wide call es object at 0 st) (filled object) (filled object) (listed_alike es object at 0 st) (λ count st1. record { same = refl; comes = tt })

    objects_alike : (objects : List Object) (st : State) → Both (all_declared narrow call objects st) (all_declared wide call objects st)
    objects_alike [] st = onward st
    objects_alike (Declared object shape initial at ∷ rest) st =
        go_on (initialised narrow call initial object at st) (initialised wide call initial object at st) (λ flow st1. all_declared narrow call rest st1) (λ flow st1. all_declared wide call rest st1) (initial_alike initial object at st) (λ flow st1. objects_alike rest st1)

    declared_alike : (declaration : Declaration) (st : State) → Both (declared narrow call declaration st) (declared wide call declaration st)
    declared_alike (Objects specifiers objects at) st = objects_alike objects st
    declared_alike (Prototype specifiers name params at) st = onward st

    pub begun_alike : (items : List External) (st : State) → Both (initialised_all narrow call items st) (initialised_all wide call items st)
    begun_alike [] st = onward st
    begun_alike (Restriction pragma ∷ rest) st = begun_alike rest st
    begun_alike (Declaring declaration ∷ rest) st =
        go_on (declared narrow call declaration st) (declared wide call declaration st) (λ flow st1. initialised_all narrow call rest st1) (λ flow st1. initialised_all wide call rest st1) (declared_alike declaration st) (λ flow st1. begun_alike rest st1)
    begun_alike (Defining function ∷ rest) st = begun_alike rest st
