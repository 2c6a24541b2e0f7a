-- Declarations and statements that fit run without leaving what is there.
use Rattle.std.proofs.Common.{◌≡◌, refl, sym, subst, ℕ, zero, suc, ◌+◌, ◌-◌, ◌<◌, ◌≤◌, Bool, true, false, if◌then◌else◌, List, [], ◌∷◌, ◌++◌, length, Option, Some, None, arith}
use Rattle.std.specs.Prelude.{slice_get}
use Rattle.facts_definitions.specs.Most.{bounds_at}
use Rattle.types_calls.specs.Calls.{declaration_calls, expr_calls, exprs_calls, initial_calls, items_calls, label_calls, objects_calls, option_calls, shape_calls, start_calls, statement_calls}
use Rattle.types_tree.specs.Tree.{Expr, Exprs, NoExpr, WithExpr, Initial, Absent, Value, Listed, Object, Declared, Declaration, Objects, Prototype, ForStart, NoStart, StartValue, StartDeclaration, Statement, Block, Empty, Evaluate, Marker, If, IfElse, While, Do, For, Switch, Break as BreakOff, Continue as GoOn, Return as GiveBack, Items, NoItem, WithDeclaration, WithStatement, WithRestriction, WithLabel}
use Rattle.types_tree.specs.declared.variable.Extent.{Extent}
use Rattle.types_tree.specs.declared.variable.Extent.TheVariants.{Scalar, Array, Parameter}
use Rattle.types_tree.specs.declared.variable.Variable.{Variable}
use Rattle.meaning_semantics.specs.Runs.{size_of}
use Rattle.meaning_semantics.specs.State.{State, Outcome, Fine, Stopped, then_do, write, unwritten, choose}
use Rattle.meaning_semantics.specs.Statements.{Source, Loop, again, all_declared, begun, behind, declared, dropped, entered, evaluated, filled, has_case, if_onward, initialised, is_chosen, left_with, listed, looped, object_declared, out_of_switch, returned, run, run_from, run_items, started, stepped, tested, turns, unwritten_all, while_holds}
use Rattle.meaning_semantics.specs.Values.{Calls}
use Rattle.meaning_semantics.specs.declared.outcome.Flow.{Flow}
use Rattle.meaning_semantics.specs.declared.outcome.Flow.TheVariants.{Onward, Break, Continue, Return}
use Rattle.meaning_semantics.specs.declared.outcome.Found.{Found}
use Rattle.meaning_semantics.specs.declared.outcome.Stop.TheVariants.{Broken}
use Rattle.meaning_laws.specs.Scoped.{Fit, FitAll, FitDeclaration, FitInitial, FitItems, FitObjects, FitOption, FitStart, FitStatement, HasRoom, HasRoomIn, count_values}
use Rattle.meaning_laws.proofs.Storing.{Any, Accepts, InPlace, IsLaidOut, Safe, counted_laid, scalar_place, then_safe, unwritten_laid, write_safe, zeros_laid}
use Rattle.meaning_laws.proofs.Values.{CallsSafe, calls_first, calls_second, choose_safe, value_safe}

module _ (source : Source) (call : Calls) where
  abbrev variables : List Variable
  variables = source.program.variables

  abbrev May : List ℕ → Type 0
  May calls = CallsSafe variables source.program.functions call calls

  abbrev first : (xs ys : List ℕ) → May (xs ++ ys) → May xs
  first xs ys c = calls_first variables source.program.functions call xs ys c

  abbrev second : (xs ys : List ℕ) → May (xs ++ ys) → May ys
  second xs ys c = calls_second variables source.program.functions call xs ys c

  abbrev IsSafe : {A : Type 0} → Outcome A → Type 0
  IsSafe o = Safe variables Any o

  abbrev Laid : State → Type 0
  Laid st = IsLaidOut variables st

  abbrev Fits : Expr → Type 0
  Fits e = Fit variables source.program.functions e

  evaluated_safe : (e : Expr) → Fits e → May (expr_calls e) → (used : Bool) (st : State) → Laid st → IsSafe (evaluated source call e used st)
  evaluated_safe e fit c used st l = value_safe variables source.program.functions call e fit c used st l

  dropped_safe : (e : Expr) → Fits e → May (expr_calls e) → (st : State) → Laid st → IsSafe (dropped source call e st)
  dropped_safe e fit c st l = then_safe variables Any Any (evaluated source call e false st) (λ word st1. Fine Onward st1) (evaluated_safe e fit c false st l) (λ word st1 l1 any. (l1, tt))

  -- an element of an array that has room for more
  element_place : (object index at count : ℕ) → HasRoomIn (slice_get variables object) count → index < count → InPlace variables (record { object = object; index = index; at = at })
  element_place object index at count room lt = of (slice_get variables object) refl room
    where
      found : Found
      found = record { object = object; index = index; at = at }

      by_extent : (v : Variable) (extent : Extent) → v.extent ≡ extent → slice_get variables object ≡ Some v → HasRoom extent count → InPlace variables found
      by_extent v Scalar e there room = absurd room
      by_extent v Parameter e there room = absurd room
      by_extent v (Array size) e there room = record {
        variable = v;
        variable_is = there;
        within = subst (λ x. index < size_of x) (sym e) (omega (arith, lt, room));
        free = λ word. subst (λ x. Accepts variables x word) (sym e) tt;
      }

      of : (o : Option Variable) → slice_get variables object ≡ o → HasRoomIn o count → InPlace variables found
      of None e room = absurd room
      of (Some v) e room = by_extent v v.extent refl e room

  array_there : (o : Option Variable) (count : ℕ) → HasRoomIn o count → HasRoomIn o 0
  array_there None count room = room
  array_there (Some v) count room = by_extent v.extent room
    where
      by_extent : (extent : Extent) → HasRoom extent count → HasRoom extent 0
      by_extent Scalar room = room
      by_extent Parameter room = room
      by_extent (Array size) room = omega arith

  listed_safe : (es : Exprs) (object at index count : ℕ) → FitAll variables source.program.functions es → May (exprs_calls es) → HasRoomIn (slice_get variables object) count → index + count_values es ≤ count → (st : State) → Laid st → IsSafe (listed source call es object at index st)
  listed_safe NoExpr object at index count fit c room le st l = (l, tt)
  listed_safe (WithExpr e rest) object at index count fit c room le st l =
      let found : Found = record { object = object; index = index; at = at } in
      then_safe variables Any Any (evaluated source call e true st) (λ word st1.
      then_do (write (record { object = object; index = index; at = at }) word st1) (λ written st2. listed source call rest object at (index + 1) st2))
      (evaluated_safe e fit.0 (first (expr_calls e) (exprs_calls rest) c) true st l)
      (λ word st1 l1 any. then_safe variables Any Any (write found word st1) (λ written st2. listed source call rest object at (index + 1) st2)
      (write_safe variables found word st1 l1 (element_place object index at count room (omega (arith, le))))
      (λ written st2 l2 any. listed_safe rest object at (index + 1) count fit.1 (second (expr_calls e) (exprs_calls rest) c) room (omega (arith, le)) st2 l2))

  initialised_safe : (initial : Initial) (object at : ℕ) → FitInitial variables source.program.functions object initial → May (initial_calls initial) → (st : State) → Laid st → IsSafe (initialised source call initial object at st)
  initialised_safe Absent object at fit c st l = (l, tt)
  initialised_safe (Value e) object at fit c st l =
      let found : Found = record { object = object; index = 0; at = at } in
      then_safe variables Any Any (evaluated source call e true st) (λ word st1. then_do (write (record { object = object; index = 0; at = at }) word st1) (λ written st2. Fine Onward st2))
      (evaluated_safe e fit.1 c true st l)
      (λ word st1 l1 any. then_safe variables Any Any (write found word st1) (λ written st2. Fine Onward st2) (write_safe variables found word st1 l1 (scalar_place variables object at fit.0)) (λ written st2 l2 any. (l2, tt)))
  initialised_safe (Listed es comma filling) object at fit c st l =
      then_safe variables Any Any (listed source call es object at 0 st) (filled object)
      (listed_safe es object at 0 (count_values es) fit.1 c fit.0 (omega arith) st l)
      (λ count st1 l1 any. (zeros_laid variables object count st1 l1 (array_there (slice_get variables object) (count_values es) fit.0), tt))

  pub objects_safe : (objects : List Object) → FitObjects variables source.program.functions objects → May (objects_calls objects) → (st : State) → Laid st → IsSafe (all_declared source call objects st)
  objects_safe [] fit c st l = (l, tt)
  objects_safe (Declared object shape initial at ∷ rest) fit c st l =
      let here = first (shape_calls shape ++ initial_calls initial) (objects_calls rest) c in
      then_safe variables Any Any (object_declared source call (Declared object shape initial at) st) (λ flow st1. all_declared source call rest st1)
      (initialised_safe initial object at fit.0 (second (shape_calls shape) (initial_calls initial) here) st l)
      (λ flow st1 l1 any. objects_safe rest fit.1 (second (shape_calls shape ++ initial_calls initial) (objects_calls rest) c) st1 l1)

  pub declared_safe : (declaration : Declaration) → FitDeclaration variables source.program.functions declaration → May (declaration_calls declaration) → (st : State) → Laid st → IsSafe (declared source call declaration st)
  declared_safe (Objects specifiers objects at) fit c st l = objects_safe objects fit c st l
  declared_safe (Prototype specifiers name params at) fit c st l = (l, tt)

  unwritten_safe : (objects : List Object) (st : State) → Laid st → Laid (unwritten_all objects st)
  unwritten_safe [] st l = l
  unwritten_safe (Declared object shape initial at ∷ rest) st l = unwritten_safe rest (unwritten object st) (unwritten_laid variables object st l)

  begun_safe : (declaration : Declaration) (st : State) → Laid st → Laid (begun declaration st)
  begun_safe (Objects specifiers objects at) st l = unwritten_safe objects st l
  begun_safe (Prototype specifiers name params at) st l = l

  pub entered_safe : (items : Items) (st : State) → Laid st → Laid (entered items st)
  entered_safe NoItem st l = l
  entered_safe (WithDeclaration declaration rest) st l = entered_safe rest (begun declaration st) (begun_safe declaration st l)
  entered_safe (WithStatement statement rest) st l = entered_safe rest st l
  entered_safe (WithRestriction pragma rest) st l = entered_safe rest st l
  entered_safe (WithLabel label rest) st l = entered_safe rest st l

  started_safe : (start : ForStart) → FitStart variables source.program.functions start → May (start_calls start) → (st : State) → Laid st → IsSafe (started source call start st)
  started_safe NoStart fit c st l = (l, tt)
  started_safe (StartValue e) fit c st l = dropped_safe e fit c st l
  started_safe (StartDeclaration declaration) fit c st l = declared_safe declaration fit c (begun declaration st) (begun_safe declaration st l)

  tested_safe : (o : Option Expr) → FitOption variables source.program.functions o → May (option_calls o) → (st : State) → Laid st → IsSafe (tested source call o st)
  tested_safe None fit c st l = (l, tt)
  tested_safe (Some e) fit c st l = evaluated_safe e fit c true st l

  stepped_safe : (o : Option Expr) → FitOption variables source.program.functions o → May (option_calls o) → (st : State) → Laid st → IsSafe (stepped source call o st)
  stepped_safe None fit c st l = (l, tt)
  stepped_safe (Some e) fit c st l = dropped_safe e fit c st l

  while_safe : (e : Expr) → Fits e → May (expr_calls e) → (st : State) → Laid st → IsSafe (while_holds source call e st)
  while_safe e fit c st l = then_safe variables Any Any (evaluated source call e true st) (λ word st1. Fine (choose word Onward Break) st1) (evaluated_safe e fit c true st l) (λ word st1 l1 any. (l1, tt))

  returned_safe : (o : Option Expr) → FitOption variables source.program.functions o → May (option_calls o) → (st : State) → Laid st → IsSafe (returned source call o st)
  returned_safe None fit c st l = (l, tt)
  returned_safe (Some e) fit c st l = then_safe variables Any Any (evaluated source call e true st) (λ word st1. Fine (Return (Some word)) st1) (evaluated_safe e fit c true st l) (λ word st1 l1 any. (l1, tt))

  left_safe : (owed at : ℕ) (flow : Flow) (st : State) → Laid st → IsSafe (left_with owed at flow st)
  left_safe zero at flow st l = (l, tt)
  left_safe (suc owed) at flow st l = tt

  again_safe : (owed at : ℕ) (next : State → Outcome Flow) (flow : Flow) (st : State) → Laid st → ((st1 : State) → Laid st1 → IsSafe (next st1)) → IsSafe (again owed at next flow st)
  again_safe owed at next Onward st l more = more st l
  again_safe owed at next Continue st l more = more st l
  again_safe owed at next Break st l more = left_safe owed at Onward st l
  again_safe owed at next (Return word) st l more = left_safe owed at (Return word) st l

  -- a loop whose test and rounds are safe
  record IsSafeLoop (loop : Loop) : Type 0 where
    test : (st : State) → Laid st → IsSafe (loop.test st)
    round : (st : State) → Laid st → IsSafe (loop.round st)

  turns_safe : (loop : Loop) → IsSafeLoop loop → (left owed : ℕ) (st : State) → Laid st → IsSafe (turns loop left owed st)
  turns_safe loop safe zero owed st l =
      then_safe variables Any Any (loop.test st) (λ word st1. choose word (Stopped (Broken loop.at)) (left_with owed loop.at Onward st1)) (safe.test st l)
      (λ word st1 l1 any. choose_safe IsSafe word (Stopped (Broken loop.at)) (left_with owed loop.at Onward st1) tt (left_safe owed loop.at Onward st1 l1))
  turns_safe loop safe (suc left) owed st l =
      then_safe variables Any Any (loop.test st) (λ word st1. choose word (then_do (loop.round st1) (again (owed - 1) loop.at (turns loop left (owed - 1)))) (left_with owed loop.at Onward st1)) (safe.test st l)
      (λ word st1 l1 any. choose_safe IsSafe word (then_do (loop.round st1) (again (owed - 1) loop.at (turns loop left (owed - 1)))) (left_with owed loop.at Onward st1)
      (then_safe variables Any Any (loop.round st1) (again (owed - 1) loop.at (turns loop left (owed - 1))) (safe.round st1 l1)
      (λ flow st2 l2 any. again_safe (owed - 1) loop.at (turns loop left (owed - 1)) flow st2 l2 (λ st3 l3. turns_safe loop safe left (owed - 1) st3 l3)))
      (left_safe owed loop.at Onward st1 l1))

  behind_safe : (next : State → Outcome Flow) (flow : Flow) (st : State) → Laid st → ((st1 : State) → Laid st1 → IsSafe (next st1)) → IsSafe (behind next flow st)
  behind_safe next Onward st l more = more st l
  behind_safe next Continue st l more = more st l
  behind_safe next Break st l more = (l, tt)
  behind_safe next (Return word) st l more = (l, tt)

  onward_safe : (next : State → Outcome Flow) (flow : Flow) (st : State) → Laid st → ((st1 : State) → Laid st1 → IsSafe (next st1)) → IsSafe (if_onward next flow st)
  onward_safe next Onward st l more = more st l
  onward_safe next Continue st l more = (l, tt)
  onward_safe next Break st l more = (l, tt)
  onward_safe next (Return word) st l more = (l, tt)

  out_safe : (flow : Flow) (st : State) → Laid st → IsSafe (out_of_switch flow st)
  out_safe Onward st l = (l, tt)
  out_safe Break st l = (l, tt)
  out_safe Continue st l = (l, tt)
  out_safe (Return word) st l = (l, tt)

  either : (b : Bool) (one two : Outcome Flow) → IsSafe one → IsSafe two → IsSafe (if b then one else two)
  either true one two h k = h
  either false one two h k = k

  round_safe : (body : Statement) (next : State → Outcome Flow) → ((st1 : State) → Laid st1 → IsSafe (run source call body st1)) → ((st1 : State) → Laid st1 → IsSafe (next st1)) → (st : State) → Laid st → IsSafe (then_do (run source call body st) (behind next))
  round_safe body next runs more st l = then_safe variables Any Any (run source call body st) (behind next) (runs st l) (λ flow st1 l1 any. behind_safe next flow st1 l1 more)

  mutual
    pub run_safe : (s : Statement) → FitStatement variables source.program.functions s → May (statement_calls s) → (st : State) → Laid st → IsSafe (run source call s st)
    run_safe (Block items at) fit c st l = items_safe items fit c (entered items st) (entered_safe items st l)
    run_safe (Empty at) fit c st l = (l, tt)
    run_safe (Evaluate e at) fit c st l = dropped_safe e fit c st l
    run_safe (Marker number pragma) fit c st l = (counted_laid variables (length source.program.functions + number) st l, tt)
    run_safe (If test one at) fit c st l =
        then_safe variables Any Any (evaluated source call test true st) (λ word st1. choose word (run source call one st1) (Fine Onward st1))
        (evaluated_safe test fit.0 (first (expr_calls test) (statement_calls one) c) true st l)
        (λ word st1 l1 any. choose_safe IsSafe word (run source call one st1) (Fine Onward st1) (run_safe one fit.1 (second (expr_calls test) (statement_calls one) c) st1 l1) (l1, tt))
    run_safe (IfElse test one two at) fit c st l =
        let parts = second (expr_calls test) (statement_calls one ++ statement_calls two) c in
        then_safe variables Any Any (evaluated source call test true st) (λ word st1. choose word (run source call one st1) (run source call two st1))
        (evaluated_safe test fit.0 (first (expr_calls test) (statement_calls one ++ statement_calls two) c) true st l)
        (λ word st1 l1 any. choose_safe IsSafe word (run source call one st1) (run source call two st1)
        (run_safe one fit.1 (first (statement_calls one) (statement_calls two) parts) st1 l1)
        (run_safe two fit.2 (second (statement_calls one) (statement_calls two) parts) st1 l1))
    run_safe (While number bound test body at) fit c st l =
        let bounds = bounds_at source.bounds number in
        turns_safe (record { at = at; test = evaluated source call test true; round = λ st1. then_do (run source call body st1) (behind (Fine Onward)) })
        (record {
          test = λ st1 l1. evaluated_safe test fit.0 (first (expr_calls test) (statement_calls body) c) true st1 l1;
          round = λ st1 l1. round_safe body (Fine Onward) (λ st2 l2. run_safe body fit.1 (second (expr_calls test) (statement_calls body) c) st2 l2) (λ st2 l2. (l2, tt)) st1 l1;
        }) bounds.max bounds.min st l
    run_safe (Do number bound body test at) fit c st l =
        let bounds = bounds_at source.bounds number in
        turns_safe (record { at = at; test = Fine 1; round = λ st1. then_do (run source call body st1) (behind (while_holds source call test)) })
        (record {
          test = λ st1 l1. (l1, tt);
          round = λ st1 l1. round_safe body (while_holds source call test) (λ st2 l2. run_safe body fit.0 (first (statement_calls body) (expr_calls test) c) st2 l2) (λ st2 l2. while_safe test fit.1 (second (statement_calls body) (expr_calls test) c) st2 l2) st1 l1;
        }) bounds.max bounds.min st l
    run_safe (For number bound start test step body at) fit c st l =
        let bounds = bounds_at source.bounds number in
        let ss = start_calls start in
        let ts = option_calls test in
        let us = option_calls step in
        let bs = statement_calls body in
        let c1 = second ss (ts ++ (us ++ bs)) c in
        let c2 = second ts (us ++ bs) c1 in
        then_safe variables Any Any (started source call start st) (λ flow st1.
        looped (bounds_at source.bounds number) (record { at = at; test = tested source call test; round = λ st2. then_do (run source call body st2) (behind (stepped source call step)) }) st1)
        (started_safe start fit.0 (first ss (ts ++ (us ++ bs)) c) st l)
        (λ flow st1 l1 any. turns_safe (record { at = at; test = tested source call test; round = λ st2. then_do (run source call body st2) (behind (stepped source call step)) })
        (record {
          test = λ st2 l2. tested_safe test fit.1 (first ts (us ++ bs) c1) st2 l2;
          round = λ st2 l2. round_safe body (stepped source call step) (λ st3 l3. run_safe body fit.3 (second us bs c2) st3 l3) (λ st3 l3. stepped_safe step fit.2 (first us bs c2) st3 l3) st2 l2;
        }) bounds.max bounds.min st1 l1)
    run_safe (Switch test items at) fit c st l =
        let d = second (expr_calls test) (items_calls items) c in
        then_safe variables Any Any (evaluated source call test true st) (λ word st1. then_do (run_from source call (has_case word items) word items (entered items st1)) out_of_switch)
        (evaluated_safe test fit.0 (first (expr_calls test) (items_calls items) c) true st l)
        (λ word st1 l1 any. then_safe variables Any Any (run_from source call (has_case word items) word items (entered items st1)) out_of_switch
        (from_safe (has_case word items) word items fit.1 d (entered items st1) (entered_safe items st1 l1))
        (λ flow st2 l2 any. out_safe flow st2 l2))
    run_safe (BreakOff at) fit c st l = (l, tt)
    run_safe (GoOn at) fit c st l = (l, tt)
    run_safe (GiveBack e at) fit c st l = returned_safe e fit c st l

    pub items_safe : (items : Items) → FitItems variables source.program.functions items → May (items_calls items) → (st : State) → Laid st → IsSafe (run_items source call items st)
    items_safe NoItem fit c st l = (l, tt)
    items_safe (WithDeclaration declaration rest) fit c st l =
        then_safe variables Any Any (declared source call declaration st) (if_onward (run_items source call rest))
        (declared_safe declaration fit.0 (first (declaration_calls declaration) (items_calls rest) c) st l)
        (λ flow st1 l1 any. onward_safe (run_items source call rest) flow st1 l1 (λ st2 l2. items_safe rest fit.1 (second (declaration_calls declaration) (items_calls rest) c) st2 l2))
    items_safe (WithStatement statement rest) fit c st l =
        then_safe variables Any Any (run source call statement st) (if_onward (run_items source call rest))
        (run_safe statement fit.0 (first (statement_calls statement) (items_calls rest) c) st l)
        (λ flow st1 l1 any. onward_safe (run_items source call rest) flow st1 l1 (λ st2 l2. items_safe rest fit.1 (second (statement_calls statement) (items_calls rest) c) st2 l2))
    items_safe (WithRestriction pragma rest) fit c st l = items_safe rest fit c st l
    items_safe (WithLabel label rest) fit c st l = items_safe rest fit (second (label_calls label) (items_calls rest) c) st l

    from_safe : (found : Bool) (word : ℕ) (items : Items) → FitItems variables source.program.functions items → May (items_calls items) → (st : State) → Laid st → IsSafe (run_from source call found word items st)
    from_safe found word NoItem fit c st l = (l, tt)
    from_safe found word (WithDeclaration declaration rest) fit c st l = from_safe found word rest fit.1 (second (declaration_calls declaration) (items_calls rest) c) st l
    from_safe found word (WithStatement statement rest) fit c st l = from_safe found word rest fit.1 (second (statement_calls statement) (items_calls rest) c) st l
    from_safe found word (WithRestriction pragma rest) fit c st l = from_safe found word rest fit c st l
    from_safe found word (WithLabel label rest) fit c st l =
        let d = second (label_calls label) (items_calls rest) c in
        either (is_chosen found word label) (run_items source call rest st) (run_from source call found word rest st) (items_safe rest fit d st l) (from_safe found word rest fit d st l)
