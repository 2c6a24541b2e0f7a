-- Expressions that fit are evaluated without leaving what is there.
use Rattle.std.proofs.Common.{◌≡◌, refl, inl, inr, ⊎_elim, ℕ, zero, suc, Bool, true, false, List, [], ◌∷◌, ◌++◌}
use Rattle.std.specs.Prelude.{not, slice_get}
use Rattle.types_calls.specs.Calls.{called, expr_calls, exprs_calls, place_calls}
use Rattle.types_calls.specs.Chains.{Among}
use Rattle.types_tree.specs.Tree.{Place, Scalar, Element, Within, Expr, Number, Character, Read, Array, Paren, Call, Step, Signed, Cast, Convert, Operate, And, Or, Comma, Conditional, Assign, Update, Exprs, NoExpr, WithExpr, Function}
use Rattle.types_tree.specs.declared.expression.Callee.{Callee}
use Rattle.types_tree.specs.declared.expression.Callee.TheVariants.{Getchar, Putchar, Function as Own}
use Rattle.types_tree.specs.declared.variable.Variable.{Variable}
use Rattle.types_value.specs.Kinds.{converted, is_void, promoted}
use Rattle.types_value.specs.Operators.{computed, signed_by}
use Rattle.meaning_semantics.specs.State.{State, Outcome, Fine, then_do, read, write, placed, array_number, at_place, settled, changed, step_operator, step_value, needed, choose, truth}
use Rattle.meaning_semantics.specs.Values as values
use Rattle.meaning_semantics.specs.Values.{Calls, both, find, targeted, value}
use Rattle.meaning_semantics.specs.declared.outcome.Found.{Found}
use Rattle.meaning_semantics.specs.declared.outcome.Target.{Target}
use Rattle.meaning_laws.specs.Scoped.{Fit, FitAll, FitPlace, IsArrayName, Matches, MatchesCall, takes}
use Rattle.meaning_laws.proofs.Storing.{Any, AreWords, InPlace, IsArrayNumber, IsLaidOut, Safe, array_safe, changed_safe, needed_safe, placed_safe, read_safe, scalar_place, settled_safe, then_safe, weaken, write_safe}

pub choose_safe : {A : Type 0} (P : A → Type 0) (word : ℕ) (first second : A) → P first → P second → P (choose word first second)
choose_safe P zero first second one two = two
choose_safe P (suc n) first second one two = one

among_first : (g : ℕ) (xs ys : List ℕ) → Among g xs → Among g (xs ++ ys)
among_first g [] ys h = absurd h
among_first g (x ∷ xs) ys h = ⊎_elim (λ (e : g ≡ x). inl e) (λ (m : Among g xs). inr (among_first g xs ys m)) h

among_second : (g : ℕ) (xs ys : List ℕ) → Among g ys → Among g (xs ++ ys)
among_second g [] ys h = h
among_second g (x ∷ xs) ys h = inr (among_second g xs ys h)

at_place_in : (variables : List Variable) (at : ℕ) (found : Found) → InPlace variables found → InPlace variables (at_place at found)
at_place_in variables at found p = record { variable = p.variable; variable_is = p.variable_is; within = p.within; free = p.free }

abbrev no_arrays : Exprs → List Bool
no_arrays NoExpr = []
no_arrays (WithExpr e rest) = false ∷ no_arrays rest

match_none : (es : Exprs) → Matches es (no_arrays es)
match_none NoExpr = tt
match_none (WithExpr e rest) = (tt, match_none rest)

module _ (variables : List Variable) (functions : List Function) (call : Calls) where
  -- a call of this function, with what it takes, is safe
  abbrev pub CallSafe : ℕ → Type 0
  CallSafe g = (words : List ℕ) (at : ℕ) (st : State) → IsLaidOut variables st → AreWords variables words (takes (slice_get functions g)) → Safe variables Any (call g words at st)

  abbrev pub CallsSafe : List ℕ → Type 0
  CallsSafe calls = (g : ℕ) → Among g calls → CallSafe g

  pub calls_first : (xs ys : List ℕ) → CallsSafe (xs ++ ys) → CallsSafe xs
  calls_first xs ys c = λ g m. c g (among_first g xs ys m)

  pub calls_second : (xs ys : List ℕ) → CallsSafe (xs ++ ys) → CallsSafe ys
  calls_second xs ys c = λ g m. c g (among_second g xs ys m)

  abbrev IsSafe : {A : Type 0} → (A → Type 0) → Outcome A → Type 0
  IsSafe P o = Safe variables P o

  both_safe : (left right : State → Outcome ℕ) (st : State) → IsLaidOut variables st → ((st1 : State) → IsLaidOut variables st1 → IsSafe Any (left st1)) → ((st1 : State) → IsLaidOut variables st1 → IsSafe Any (right st1)) → IsSafe Any (both left right st)
  both_safe left right st l one two =
      then_safe variables Any Any (left st) (λ x st1. then_do (right st1) (λ y st2. Fine (record { left = x; right = y }) st2)) (one st l)
      (λ x st1 l1 any. then_safe variables Any Any (right st1) (λ y st2. Fine (record { left = x; right = y }) st2) (two st1 l1) (λ y st2 l2 any. (l2, tt)))

  abbrev Targets : Target → Type 0
  Targets target = InPlace variables target.found

  targeted_safe : (found : State → Outcome Found) (right : State → Outcome ℕ) (st : State) → IsLaidOut variables st → ((st1 : State) → IsLaidOut variables st1 → IsSafe (InPlace variables) (found st1)) → ((st1 : State) → IsLaidOut variables st1 → IsSafe Any (right st1)) →
      IsSafe Targets (targeted found right st)
  targeted_safe found right st l one two =
      then_safe variables (InPlace variables) Targets (found st) (λ f st1. then_do (right st1) (λ w st2. Fine (record { found = f; word = w }) st2)) (one st l)
      (λ f st1 l1 p. then_safe variables Any Targets (right st1) (λ w st2. Fine (record { found = f; word = w }) st2) (two st1 l1) (λ w st2 l2 any. (l2, p)))

  array_named : (e : Expr) → Fit variables functions e → IsArrayName e → (st : State) → IsLaidOut variables st → IsSafe (IsArrayNumber variables) (value variables call e true st)
  array_named (Array object at) fit is st l = array_safe variables object at st l fit
  array_named (Number constant at) fit is st l = absurd is
  array_named (Character word at) fit is st l = absurd is
  array_named (Read place) fit is st l = absurd is
  array_named (Paren inner at) fit is st l = absurd is
  array_named (Call callee arguments at) fit is st l = absurd is
  array_named (Step fix operator kind target at) fit is st l = absurd is
  array_named (Signed operator kind operand at) fit is st l = absurd is
  array_named (Cast specifiers to operand at) fit is st l = absurd is
  array_named (Convert to operand) fit is st l = absurd is
  array_named (Operate operator kind left right at) fit is st l = absurd is
  array_named (And left right at) fit is st l = absurd is
  array_named (Or left right at) fit is st l = absurd is
  array_named (Comma left right at) fit is st l = absurd is
  array_named (Conditional test first second at) fit is st l = absurd is
  array_named (Assign target right at) fit is st l = absurd is
  array_named (Update operator kind to target right at) fit is st l = absurd is

  -- a call, whose arguments are safe
  call_safe : (callee : Callee) (es : Exprs) (at : ℕ) → MatchesCall functions callee es → CallsSafe (called callee) → ((arrays : List Bool) → Matches es arrays → (st : State) → IsLaidOut variables st → IsSafe (λ words. AreWords variables words arrays) (values.values variables call es st)) → (st : State) → IsLaidOut variables st →
      IsSafe Any (then_do (values.values variables call es st) (values.called call callee at))
  call_safe Getchar es at m c given st l =
      then_safe variables (λ words. AreWords variables words (no_arrays es)) Any (values.values variables call es st) (values.called call Getchar at) (given (no_arrays es) (match_none es) st l)
      (λ words st1 l1 are. (record { by = l1.by }, tt))
  call_safe Putchar es at m c given st l =
      then_safe variables (λ words. AreWords variables words (no_arrays es)) Any (values.values variables call es st) (values.called call Putchar at) (given (no_arrays es) (match_none es) st l)
      (λ words st1 l1 are. (record { by = l1.by }, tt))
  call_safe (Own function) es at m c given st l =
      let arrays = takes (slice_get functions function.0) in
      then_safe variables (λ words. AreWords variables words arrays) Any (values.values variables call es st) (values.called call (Own function) at) (given arrays m st l)
      (λ words st1 l1 are. c function.0 (inl refl) words at st1 l1 are)

  mutual
    pub find_safe : (place : Place) → FitPlace variables functions place → CallsSafe (place_calls place) → (st : State) → IsLaidOut variables st → IsSafe (InPlace variables) (find variables call place st)
    find_safe (Scalar object at) fit c st l = (l, scalar_place variables object at fit)
    find_safe (Element array index at) fit c st l =
        then_safe variables Any (InPlace variables) (value variables call index true st) (λ i st1. then_do (array_number variables array at st1) (λ object st2. placed (record { object = object; index = i; at = at }) st2))
        (value_safe index fit.1 c true st l)
        (λ i st1 l1 any. then_safe variables (IsArrayNumber variables) (InPlace variables) (array_number variables array at st1) (λ object st2. placed (record { object = object; index = i; at = at }) st2)
        (array_safe variables array at st1 l1 fit.0)
        (λ object st2 l2 is. placed_safe variables (record { object = object; index = i; at = at }) st2 l2 is))
    find_safe (Within inner at) fit c st l = find_safe inner fit c st l

    pub value_safe : (e : Expr) → Fit variables functions e → CallsSafe (expr_calls e) → (used : Bool) (st : State) → IsLaidOut variables st → IsSafe Any (value variables call e used st)
    value_safe (Number constant at) fit c used st l = (l, tt)
    value_safe (Character word at) fit c used st l = (l, tt)
    value_safe (Read place) fit c used st l = then_safe variables (InPlace variables) Any (find variables call place st) read (find_safe place fit c st l) (λ found st1 l1 p. read_safe variables found st1 l1 p)
    value_safe (Array object at) fit c used st l = weaken variables (IsArrayNumber variables) (array_number variables object at st) (array_safe variables object at st l fit)
    value_safe (Paren inner at) fit c used st l = value_safe inner fit c used st l
    value_safe (Call callee arguments at) fit c used st l =
        then_safe variables Any Any (then_do (values.values variables call arguments st) (values.called call callee at)) (needed used at)
        (call_safe callee arguments at fit.1 (calls_first (called callee) (exprs_calls arguments) c) (λ arrays m st1 l1. values_safe arguments arrays fit.0 m (calls_second (called callee) (exprs_calls arguments) c) st1 l1) st l)
        (λ given st1 l1 any. needed_safe variables used at given st1 l1)
    value_safe (Step fix operator kind target at) fit c used st l =
        then_safe variables (InPlace variables) Any (find variables call target st) (λ found st1. then_do (changed (at_place at found) (step_operator operator) (promoted kind) kind 1 st1) (λ change st2. Fine (step_value fix change) st2))
        (find_safe target fit c st l)
        (λ found st1 l1 p. then_safe variables Any Any (changed (at_place at found) (step_operator operator) (promoted kind) kind 1 st1) (λ change st2. Fine (step_value fix change) st2)
        (changed_safe variables (at_place at found) (step_operator operator) (promoted kind) kind 1 st1 l1 (at_place_in variables at found p))
        (λ change st2 l2 any. (l2, tt)))
    value_safe (Signed operator kind operand at) fit c used st l =
        then_safe variables Any Any (value variables call operand true st) (λ x st1. settled (signed_by operator kind x) at st1) (value_safe operand fit c true st l)
        (λ x st1 l1 any. settled_safe variables (signed_by operator kind x) at st1 l1)
    value_safe (Cast specifiers to operand at) fit c used st l =
        then_safe variables Any Any (value variables call operand (not (is_void to)) st) (λ x st1. Fine (converted to x) st1) (value_safe operand fit c (not (is_void to)) st l) (λ x st1 l1 any. (l1, tt))
    value_safe (Convert to operand) fit c used st l =
        then_safe variables Any Any (value variables call operand used st) (λ x st1. Fine (converted to x) st1) (value_safe operand fit c used st l) (λ x st1 l1 any. (l1, tt))
    value_safe (Operate operator kind left right at) fit c used st l =
        then_safe variables Any Any (both (value variables call left true) (value variables call right true) st) (λ x st1. settled (computed operator kind x.left x.right) at st1)
        (both_safe (value variables call left true) (value variables call right true) st l
        (λ st1 l1. value_safe left fit.0 (calls_first (expr_calls left) (expr_calls right) c) true st1 l1)
        (λ st1 l1. value_safe right fit.1 (calls_second (expr_calls left) (expr_calls right) c) true st1 l1))
        (λ x st1 l1 any. settled_safe variables (computed operator kind x.left x.right) at st1 l1)
    value_safe (And left right at) fit c used st l =
        then_safe variables Any Any (value variables call left true st) (λ x st1. choose x (then_do (value variables call right true st1) (λ y st2. Fine (truth y) st2)) (Fine 0 st1))
        (value_safe left fit.0 (calls_first (expr_calls left) (expr_calls right) c) true st l)
        (λ x st1 l1 any. choose_safe (IsSafe Any) x (then_do (value variables call right true st1) (λ y st2. Fine (truth y) st2)) (Fine 0 st1)
        (then_safe variables Any Any (value variables call right true st1) (λ y st2. Fine (truth y) st2) (value_safe right fit.1 (calls_second (expr_calls left) (expr_calls right) c) true st1 l1) (λ y st2 l2 any. (l2, tt)))
        (l1, tt))
    value_safe (Or left right at) fit c used st l =
        then_safe variables Any Any (value variables call left true st) (λ x st1. choose x (Fine 1 st1) (then_do (value variables call right true st1) (λ y st2. Fine (truth y) st2)))
        (value_safe left fit.0 (calls_first (expr_calls left) (expr_calls right) c) true st l)
        (λ x st1 l1 any. choose_safe (IsSafe Any) x (Fine 1 st1) (then_do (value variables call right true st1) (λ y st2. Fine (truth y) st2))
        (l1, tt)
        (then_safe variables Any Any (value variables call right true st1) (λ y st2. Fine (truth y) st2) (value_safe right fit.1 (calls_second (expr_calls left) (expr_calls right) c) true st1 l1) (λ y st2 l2 any. (l2, tt))))
    value_safe (Comma left right at) fit c used st l =
        then_safe variables Any Any (value variables call left false st) (λ x st1. value variables call right used st1)
        (value_safe left fit.0 (calls_first (expr_calls left) (expr_calls right) c) false st l)
        (λ x st1 l1 any. value_safe right fit.1 (calls_second (expr_calls left) (expr_calls right) c) used st1 l1)
    value_safe (Conditional test first second at) fit c used st l =
        let parts = calls_second (expr_calls test) (expr_calls first ++ expr_calls second) c in
        then_safe variables Any Any (value variables call test true st) (λ x st1. choose x (value variables call first used st1) (value variables call second used st1))
        (value_safe test fit.0 (calls_first (expr_calls test) (expr_calls first ++ expr_calls second) c) true st l)
        (λ x st1 l1 any. choose_safe (IsSafe Any) x (value variables call first used st1) (value variables call second used st1)
        (value_safe first fit.1 (calls_first (expr_calls first) (expr_calls second) parts) used st1 l1)
        (value_safe second fit.2 (calls_second (expr_calls first) (expr_calls second) parts) used st1 l1))
    value_safe (Assign target right at) fit c used st l =
        then_safe variables Targets Any (targeted (find variables call target) (value variables call right true) st) (λ target st1. write target.found target.word st1)
        (targeted_safe (find variables call target) (value variables call right true) st l
        (λ st1 l1. find_safe target fit.0 (calls_first (place_calls target) (expr_calls right) c) st1 l1)
        (λ st1 l1. value_safe right fit.1 (calls_second (place_calls target) (expr_calls right) c) true st1 l1))
        (λ found st1 l1 p. write_safe variables found.found found.word st1 l1 p)
    value_safe (Update operator kind to target right at) fit c used st l =
        then_safe variables Targets Any (targeted (find variables call target) (value variables call right true) st) (λ target st1.
        then_do (changed (at_place at target.found) operator kind to target.word st1) (λ change st2. Fine change.behind st2))
        (targeted_safe (find variables call target) (value variables call right true) st l
        (λ st1 l1. find_safe target fit.0 (calls_first (place_calls target) (expr_calls right) c) st1 l1)
        (λ st1 l1. value_safe right fit.1 (calls_second (place_calls target) (expr_calls right) c) true st1 l1))
        (λ found st1 l1 p. then_safe variables Any Any (changed (at_place at found.found) operator kind to found.word st1) (λ change st2. Fine change.behind st2)
        (changed_safe variables (at_place at found.found) operator kind to found.word st1 l1 (at_place_in variables at found.found p))
        (λ change st2 l2 any. (l2, tt)))

    -- the words of arguments, numbers of arrays among them
    values_safe : (es : Exprs) (arrays : List Bool) → FitAll variables functions es → Matches es arrays → CallsSafe (exprs_calls es) → (st : State) → IsLaidOut variables st → IsSafe (λ words. AreWords variables words arrays) (values.values variables call es st)
    values_safe NoExpr [] fit m c st l = (l, tt)
    values_safe NoExpr (array ∷ arrays) fit m c st l = absurd m
    values_safe (WithExpr e rest) [] fit m c st l = absurd m
    values_safe (WithExpr e rest) (false ∷ arrays) fit m c st l =
        then_safe variables Any (λ words. AreWords variables words (false ∷ arrays)) (value variables call e true st) (λ word st1. then_do (values.values variables call rest st1) (λ words st2. Fine (word ∷ words) st2))
        (value_safe e fit.0 (calls_first (expr_calls e) (exprs_calls rest) c) true st l)
        (λ word st1 l1 any. then_safe variables (λ words. AreWords variables words arrays) (λ words. AreWords variables words (false ∷ arrays)) (values.values variables call rest st1) (λ words st2. Fine (word ∷ words) st2)
        (values_safe rest arrays fit.1 m.1 (calls_second (expr_calls e) (exprs_calls rest) c) st1 l1)
        (λ words st2 l2 are. (l2, are)))
    values_safe (WithExpr e rest) (true ∷ arrays) fit m c st l =
        then_safe variables (IsArrayNumber variables) (λ words. AreWords variables words (true ∷ arrays)) (value variables call e true st) (λ word st1. then_do (values.values variables call rest st1) (λ words st2. Fine (word ∷ words) st2))
        (array_named e fit.0 m.0 st l)
        (λ word st1 l1 is. then_safe variables (λ words. AreWords variables words arrays) (λ words. AreWords variables words (true ∷ arrays)) (values.values variables call rest st1) (λ words st2. Fine (word ∷ words) st2)
        (values_safe rest arrays fit.1 m.1 (calls_second (expr_calls e) (exprs_calls rest) c) st1 l1)
        (λ words st2 l2 are. (l2, (is, are))))
