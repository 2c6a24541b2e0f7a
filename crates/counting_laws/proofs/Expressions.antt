-- Expressions do the same under narrower and wider bounds, and leave what is kept.
use Rattle.std.proofs.Common.{◌≡◌, inl, inr, ⊎_elim, refl, sym, ap, ◌∙◌, subst, ℕ, ◌%◌, ◌<◌, Bool, true, false, not, List, [], ◌∷◌, ◌++◌, Some, arith}
use Rattle.std.specs.Prelude.{◌||◌, slice_index_or}
use Rattle.std.proofs.lemmas.Bool.{eq-eqb, false≢true}
use Rattle.meaning_semantics.specs.State.{State, Outcome, Fine, after_byte, array_number, at_place, changed, choose, needed, next_byte, placed, read, settled, step_operator, step_value, then_do, truth, with_input, with_output, write}
use Rattle.meaning_semantics.specs.Values.{Calls, both, called, find, targeted, value, values}
use Rattle.meaning_semantics.specs.declared.outcome.Change.{Change}
use Rattle.meaning_semantics.specs.declared.outcome.Found.{Found}
use Rattle.meaning_semantics.specs.declared.outcome.Operands.{Operands}
use Rattle.meaning_semantics.specs.declared.outcome.Target.{Target}
use Rattle.types_tree.specs.Tree.{Place, Scalar, Element, Within, Expr, Number, Character, Read, Array, Paren, Call, Step, Signed, Cast, Convert, Operate, And, Or, Comma, Conditional, Assign, Update, Exprs, NoExpr, WithExpr}
use Rattle.types_tree.specs.declared.expression.Callee.{Callee}
use Rattle.types_tree.specs.declared.expression.Callee.TheVariants.{Getchar, Putchar, Function as Own}
use Rattle.types_value.specs.Kinds.{converted, is_void, promoted}
use Rattle.types_value.specs.Operators.{computed, signed_by}
use Rattle.types_value.specs.declared.kind.Kind.{Kind as CType}
use Rattle.types_value.specs.declared.operator.Operator.{Operator}
use Rattle.high_ir.specs.declared.object.Kind.{Kind}
use Rattle.plan_runs.specs.ExpressionFits.{Fit, FitArguments, FitPlace, Formal, OfWord, OfArray, Function, IsArgument, IsCallable, IsScalar, Signatures, parameters_of}
use Rattle.plan_runs.specs.Meets.{Layout, Untouched, home, is_own, is_passed, is_passed_base}
use Rattle.plan_definition.specs.Values.{array_named}
use Rattle.plan_definition.specs.declared.home.Home.{Home}
use Rattle.plan_definition.specs.declared.home.Home.TheVariants.{Frame, Memory}
use Rattle.facts_loops.specs.Changes.{expr_changes, exprs_changes, place_changes, target_changes}
use Rattle.counting_laws.proofs.Alike.{Alike, alike_fine, alike_then, alike_weaken}
use Rattle.counting_laws.proofs.Objects.{Names, Stays, stays_same, stays_then}
use Rattle.counting_laws.proofs.Settings.{HandedTo, IsRun, Keeps, Spares, keeps_then, own_passed, passed_own, resumed, spares_first, spares_second}
use Rattle.counting_laws.proofs.Steps.{Free, Numbered, changed_keeps, choose_keeps, keeps_fine, keeps_here, needed_keeps, number_alike, placed_alike, read_keeps, settled_keeps, write_keeps}

-- what is found: the object of a name, or an array
abbrev pub Aims : Layout → Place → Found → Type 0
Aims layout (Scalar object at) found = found.object ≡ object
Aims layout (Element array index at) found = is_own (home layout found.object) ≡ false
Aims layout (Within inner at) found = Aims layout inner found

-- a place that is not changed is not changed where it is read
target_reads : (place : Place) (o : ℕ) → target_changes o place ≡ false → place_changes o place ≡ false
target_reads (Scalar object at) o e = refl
target_reads (Element array index at) o e = e
target_reads (Within inner at) o e = target_reads inner o e

below_itself : (n : ℕ) → n < n → ⊥
below_itself n lt = omega (arith, lt)

module _ (layout : Layout) (signatures : Signatures) (blamed kept : ℕ → Type 0) (f : Function) (narrow wide : Calls) (ok : IsRun layout signatures blamed kept f narrow wide) where
  abbrev Stay : State → State → Type 0
  Stay st st1 = Stays layout f.live kept st st1

  abbrev Named : State → Type 0
  Named st = Names layout f.live st.objects

  abbrev Both : {A : Type 0} → State → Outcome A → Outcome A → Type 0
  Both st a b = Keeps layout f.live kept blamed st a b

  abbrev pub Clear : (ℕ → Bool) → Type 0
  Clear changes = Spares layout kept f changes

  abbrev nval : Expr → Bool → State → Outcome ℕ
  nval e used st = value layout.variables narrow e used st

  abbrev wval : Expr → Bool → State → Outcome ℕ
  wval e used st = value layout.variables wide e used st

  abbrev FindsTo : Place → State → Found → State → Type 0
  FindsTo place st found st1 = Stay st st1 × Aims layout place found

  abbrev HandsTo : List Formal → State → List ℕ → State → Type 0
  HandsTo formals st words st1 = Stay st st1 × HandedTo layout formals words

  pub record Runs (e : Expr) : Type 0 where
    pub by : (used : Bool) (st : State) → Named st → Both st (nval e used st) (wval e used st)

  pub record Finds (place : Place) : Type 0 where
    pub by : (st : State) → Named st → Alike blamed (FindsTo place st) (find layout.variables narrow place st) (find layout.variables wide place st)

  pub record Hands (es : Exprs) (formals : List Formal) : Type 0 where
    pub by : (st : State) → Named st → Alike blamed (HandsTo formals st) (values layout.variables narrow es st) (values layout.variables wide es st)

  stay_same : (st : State) → Named st → Stay st st
  stay_same st n = stays_same layout f.live kept st n

  here : {A : Type 0} (a : A) (st : State) → Named st → Both st (Fine a st) (Fine a st)
  here a st n = keeps_here layout f.live kept blamed a st n

  go_on : {A B : Type 0} (st : State) (a b : Outcome A) (go other : A → State → Outcome B) → Both st a b → ((x : A) (st1 : State) → Named st1 → Both st1 (go x st1) (other x st1)) → Both st (then_do a go) (then_do b other)
  go_on st a b go other h more = keeps_then layout f.live kept blamed st a b go other h more

  -- an object that a name assigns isn't kept
  free_scalar : (object at : ℕ) → IsScalar layout f object (home layout object) → Clear (λ o. target_changes o (Scalar object at)) → Free layout kept object
  free_scalar object at fit clear = (λ o k same. of (home layout object) refl fit o k same, plain (home layout object) fit)
    where
      of : (h : Home) → home layout object ≡ h → IsScalar layout f object h → (o : ℕ) → kept o → o ≡ object → ⊥
      of (Frame x) lives fits o k same = ⊎_elim
          (λ (up : layout.rank f.number < layout.rank (layout.owner o)).
          below_itself (layout.rank f.number) (subst (λ g. layout.rank f.number < layout.rank g) (ap layout.owner same ∙ ok.owned object fits) up))
          (λ (none : target_changes o (Scalar object at) ≡ false). false≢true (sym none ∙ eq-eqb object o (sym same)))
          (clear o k)
      of (Memory a) lives fits o k same =
          false≢true (sym (ap is_own lives ∙ ap is_passed_base fits.1) ∙ (ap (λ p. is_own (home layout p)) (sym same) ∙ ok.own o k))

      plain : (h : Home) → IsScalar layout f object h → is_passed h ≡ false
      plain (Frame x) fits = refl
      plain (Memory a) fits = ap is_passed_base fits.1

  -- an element of an array isn't kept
  free_array : (object : ℕ) → is_own (home layout object) ≡ false → Free layout kept object
  free_array object array = (λ o k same. false≢true (sym array ∙ (ap (λ p. is_own (home layout p)) (sym same) ∙ ok.own o k)), own_passed (home layout object) array)

  pub free_target : (place : Place) → FitPlace layout signatures f place → Clear (λ o. target_changes o place) → (found : Found) → Aims layout place found → Free layout kept found.object
  free_target (Scalar object at) fit clear found is = subst (Free layout kept) (sym is) (free_scalar object at fit clear)
  free_target (Element array index at) fit clear found is = free_array found.object is
  free_target (Within inner at) fit clear found is = free_target inner fit clear found is

  pub clear_target : (place : Place) → Clear (λ o. target_changes o place) → Clear (λ o. place_changes o place)
  clear_target place clear o k = ⊎_elim (λ (up : layout.rank f.number < layout.rank (layout.owner o)). inl up) (λ (none : target_changes o place ≡ false). inr (target_reads place o none)) (clear o k)

  -- a place with an index
  finds_element : (array : ℕ) (index : Expr) (at : ℕ) → FitPlace layout signatures f (Element array index at) → Runs index → Finds (Element array index at)
  finds_element array index at fit runs = record {
    by = λ st n. alike_then blamed (λ i st1. Stay st st1) (FindsTo (Element array index at) st) (nval index true st) (wval index true st) after after (runs.by true st n)
        (λ i st1 s. alike_then blamed (Numbered layout ok.placed f kept blamed st1) (FindsTo (Element array index at) st) (array_number layout.variables array at st1) (array_number layout.variables array at st1) (within i) (within i)
        (number_alike layout ok.placed f kept blamed array at st1 s.names fit.0)
        (λ q st2 t. placed_alike layout f.live kept blamed (FindsTo (Element array index at) st) (record { object = q; index = i; at = at }) st2 (stays_then layout f.live kept st st1 st2 s t.0, t.1)));
  }
    where
      within : (i object : ℕ) → State → Outcome Found
      within i object st2 = placed (record { object = object; index = i; at = at }) st2

      after : (i : ℕ) → State → Outcome Found
      after i st1 = then_do (array_number layout.variables array at st1) (within i)

  -- what is read where it was found
  runs_read : (place : Place) → Finds place → Runs (Read place)
  runs_read place finds = record {
    by = λ used st n. alike_then blamed (FindsTo place st) (λ w st1. Stay st st1) (find layout.variables narrow place st) (find layout.variables wide place st) read read (finds.by st n)
        (λ found st1 s. resumed layout f.live kept blamed st st1 (read found st1) (read found st1) s.0 (read_keeps layout f.live kept blamed found st1 s.0.names));
  }

  -- two operands
  both_run : (left right : Expr) → Runs left → Runs right → (st : State) → Named st → Both st (both (λ s. nval left true s) (λ s. nval right true s) st) (both (λ s. wval left true s) (λ s. wval right true s) st)
  both_run left right l r st n =
      go_on st (nval left true st) (wval left true st) narrow_next wide_next (l.by true st n)
      (λ x st1 n1. go_on st1 (nval right true st1) (wval right true st1) (pair x) (pair x) (r.by true st1 n1) (λ y st2 n2. here {A = Operands} (record { left = x; right = y }) st2 n2))
    where
      pair : (x y : ℕ) → State → Outcome Operands
      pair x y st2 = Fine (record { left = x; right = y }) st2

      narrow_next : (x : ℕ) → State → Outcome Operands
      narrow_next x st1 = then_do (nval right true st1) (pair x)

      wide_next : (x : ℕ) → State → Outcome Operands
      wide_next x st1 = then_do (wval right true st1) (pair x)

  -- 1 for a value that isn't 0
  truth_run : (e : Expr) → Runs e → (st : State) → Named st → Both st (then_do (nval e true st) (λ y st2. Fine (truth y) st2)) (then_do (wval e true st) (λ y st2. Fine (truth y) st2))
  truth_run e r st n = go_on st (nval e true st) (wval e true st) (λ y st2. Fine (truth y) st2) (λ y st2. Fine (truth y) st2) (r.by true st n) (λ y st2 n2. here (truth y) st2 n2)

  -- a target and the value that it is assigned
  abbrev AssignsTo : Place → State → Target → State → Type 0
  AssignsTo place st target st1 = Stay st st1 × Aims layout place target.found

  targeted_run : (place : Place) (right : Expr) → Finds place → Runs right → (st : State) → Named st →
      Alike blamed (AssignsTo place st) (targeted (find layout.variables narrow place) (λ s. nval right true s) st) (targeted (find layout.variables wide place) (λ s. wval right true s) st)
  targeted_run place right finds r st n =
      alike_then blamed (FindsTo place st) (AssignsTo place st) (find layout.variables narrow place st) (find layout.variables wide place st) narrow_next wide_next (finds.by st n)
      (λ found st1 s. alike_then blamed (λ w st2. Stay st1 st2) (AssignsTo place st) (nval right true st1) (wval right true st1) (pair found) (pair found) (r.by true st1 s.0.names)
      (λ word st2 t. alike_fine {A = Target} blamed (AssignsTo place st) (record { found = found; word = word }) st2 (stays_then layout f.live kept st st1 st2 s.0 t, s.1)))
    where
      pair : Found → ℕ → State → Outcome Target
      pair found word st2 = Fine (record { found = found; word = word }) st2

      narrow_next : Found → State → Outcome Target
      narrow_next found st1 = then_do (nval right true st1) (pair found)

      wide_next : Found → State → Outcome Target
      wide_next found st1 = then_do (wval right true st1) (pair found)

  runs_step : (place : Place) (change : Found → State → Outcome Change) (give : Change → ℕ) → FitPlace layout signatures f place → Clear (λ o. target_changes o place) → Finds place →
      ((found : Found) (st : State) → Named st → Free layout kept found.object → Both st (change found st) (change found st)) →
      (st : State) → Named st → Both st (then_do (find layout.variables narrow place st) (λ found st1. then_do (change found st1) (λ c st2. Fine (give c) st2))) (then_do (find layout.variables wide place st) (λ found st1. then_do (change found st1) (λ c st2. Fine (give c) st2)))
  runs_step place change give fit clear finds changes st n =
      alike_then blamed (FindsTo place st) (λ w st1. Stay st st1) (find layout.variables narrow place st) (find layout.variables wide place st) after after (finds.by st n)
      (λ found st1 s. resumed layout f.live kept blamed st st1 (after found st1) (after found st1) s.0
      (go_on st1 (change found st1) (change found st1) ends ends (changes found st1 s.0.names (free_target place fit clear found s.1)) (λ c st2 n2. here (give c) st2 n2)))
    where
      ends : Change → State → Outcome ℕ
      ends c st2 = Fine (give c) st2

      after : Found → State → Outcome ℕ
      after found st1 = then_do (change found st1) ends

  -- an assignment, by what is done with its target
  runs_assign : (place : Place) (right : Expr) (store : Target → State → Outcome ℕ) → FitPlace layout signatures f place → Clear (λ o. target_changes o place) → Finds place → Runs right →
      ((target : Target) (st : State) → Named st → Free layout kept target.found.object → Both st (store target st) (store target st)) →
      (st : State) → Named st → Both st (then_do (targeted (find layout.variables narrow place) (λ s. nval right true s) st) store) (then_do (targeted (find layout.variables wide place) (λ s. wval right true s) st) store)
  runs_assign place right store fit clear finds r stores st n =
      alike_then blamed (AssignsTo place st) (λ w st1. Stay st st1) (targeted (find layout.variables narrow place) (λ s. nval right true s) st) (targeted (find layout.variables wide place) (λ s. wval right true s) st) store store
      (targeted_run place right finds r st n)
      (λ target st1 s. resumed layout f.live kept blamed st st1 (store target st1) (store target st1) s.0 (stores target st1 s.0.names (free_target place fit clear target.found s.1)))

  update_keeps : (at : ℕ) (operator : Operator) (kind to : CType) (target : Target) (st : State) → Named st → Free layout kept target.found.object →
      Both st (then_do (changed (at_place at target.found) operator kind to target.word st) (λ change st2. Fine change.behind st2)) (then_do (changed (at_place at target.found) operator kind to target.word st) (λ change st2. Fine change.behind st2))
  update_keeps at operator kind to target st n free =
      go_on {A = Change} st (changed (at_place at target.found) operator kind to target.word st) (changed (at_place at target.found) operator kind to target.word st) (λ change st2. Fine change.behind st2) (λ change st2. Fine change.behind st2)
      (changed_keeps layout f.live kept blamed (at_place at target.found) operator kind to target.word st n free) (λ change st2 n2. here change.behind st2 n2)

  -- calls
  called_own : (g at : ℕ) (words : List ℕ) (st : State) → Named st → f.callable g ≡ true → HandedTo layout (signatures.parameters g) words → Both st (narrow g words at st) (wide g words at st)
  called_own g at words st n may handed =
      alike_weaken blamed (λ result st1. Untouched layout (layout.rank g) st.objects st1.objects) (λ result st1. Stay st st1) (narrow g words at st) (wide g words at st)
      (ok.calls.by g at words st lower handed)
      (λ result st1 u. record {
        names = record {
          by = λ o q row passed lives there begins.
              let above : layout.rank g < layout.rank (layout.owner o) = subst (λ h. layout.rank g < layout.rank h) (sym (ok.owned o lives)) lower in
              n.by o q row passed lives (sym (u.by o (passed_own (home layout o) passed) above) ∙ there) begins;
        };
        same = λ o k. let above = ok.above o k in let low = lower in u.by o (ok.own o k) (omega (arith, above, low));
      })
    where
      lower : layout.rank g < layout.rank f.number
      lower = ok.falls g may

  called_alike : (callee : Callee) (words : List ℕ) (at : ℕ) (st : State) → Named st → HandedTo layout (parameters_of signatures callee) words → IsCallable f callee → Both st (called narrow callee at words st) (called wide callee at words st)
  called_alike Getchar words at st n handed may = keeps_fine layout f.live kept blamed (Some (next_byte st.input)) st (with_input st (after_byte st.input)) (record { names = record { by = n.by }; same = λ o k. refl })
  called_alike Putchar words at st n handed may =
      let word = slice_index_or words 0 0 in
      keeps_fine layout f.live kept blamed (Some (word % 256)) st (with_output st (st.output ++ word % 256 ∷ [])) (record { names = record { by = n.by }; same = λ o k. refl })
  called_alike (Own g) words at st n handed may = called_own g.0 at words st n may handed

  runs_call : (callee : Callee) (arguments : Exprs) (at : ℕ) → IsCallable f callee → Hands arguments (parameters_of signatures callee) → Runs (Call callee arguments at)
  runs_call callee arguments at may hands = record {
    by = λ used st n.
        go_on st (then_do (values layout.variables narrow arguments st) (called narrow callee at)) (then_do (values layout.variables wide arguments st) (called wide callee at)) (needed used at) (needed used at)
        (alike_then blamed (HandsTo (parameters_of signatures callee) st) (λ r st1. Stay st st1) (values layout.variables narrow arguments st) (values layout.variables wide arguments st) (called narrow callee at) (called wide callee at) (hands.by st n)
        (λ words st1 s. resumed layout f.live kept blamed st st1 (called narrow callee at words st1) (called wide callee at words st1) s.0 (called_alike callee words at st1 s.0.names s.1 may)))
        (λ given st1 n1. needed_keeps layout f.live kept blamed used at given st1 n1);
  }

  -- arguments: an array by its name, and every other by its value
  argument_array : (e : Expr) (kind : Kind) (constant : Bool) → IsArgument layout f (array_named e) kind constant → (st : State) → Named st → Alike blamed (Numbered layout ok.placed f kept blamed st) (nval e true st) (wval e true st)
  argument_array (Array object at) kind constant fit st n = number_alike layout ok.placed f kept blamed object at st n fit.0
  argument_array (Number word at) kind constant fit st n = absurd fit
  argument_array (Character word at) kind constant fit st n = absurd fit
  argument_array (Read place) kind constant fit st n = absurd fit
  argument_array (Paren inner at) kind constant fit st n = absurd fit
  argument_array (Call callee arguments at) kind constant fit st n = absurd fit
  argument_array (Step fix operator own target at) kind constant fit st n = absurd fit
  argument_array (Signed operator own operand at) kind constant fit st n = absurd fit
  argument_array (Cast specifiers to operand at) kind constant fit st n = absurd fit
  argument_array (Convert to operand) kind constant fit st n = absurd fit
  argument_array (Operate operator own left right at) kind constant fit st n = absurd fit
  argument_array (And left right at) kind constant fit st n = absurd fit
  argument_array (Or left right at) kind constant fit st n = absurd fit
  argument_array (Comma left right at) kind constant fit st n = absurd fit
  argument_array (Conditional test first second at) kind constant fit st n = absurd fit
  argument_array (Assign target right at) kind constant fit st n = absurd fit
  argument_array (Update operator own to target right at) kind constant fit st n = absurd fit

  -- one argument before others
  hands_first : (to : State → ℕ → State → Type 0) (formal : Formal) (formals : List Formal) (e : Expr) (rest : Exprs) →
      ((st st1 : State) (word : ℕ) → to st word st1 → Stay st st1) → ((st st1 : State) (word : ℕ) (words : List ℕ) → to st word st1 → HandedTo layout formals words → HandedTo layout (formal ∷ formals) (word ∷ words)) →
      ((st : State) → Named st → Alike blamed (to st) (nval e true st) (wval e true st)) → Hands rest formals → Hands (WithExpr e rest) (formal ∷ formals)
  hands_first to formal formals e rest stays fits first others = record {
    by = λ st n. alike_then blamed (to st) (HandsTo (formal ∷ formals) st) (nval e true st) (wval e true st) narrow_next wide_next (first st n)
        (λ word st1 s. alike_then blamed (HandsTo formals st1) (HandsTo (formal ∷ formals) st) (values layout.variables narrow rest st1) (values layout.variables wide rest st1) (ends word) (ends word)
        (others.by st1 (stays st st1 word s).names)
        (λ words st2 t. alike_fine blamed (HandsTo (formal ∷ formals) st) (word ∷ words) st2 (stays_then layout f.live kept st st1 st2 (stays st st1 word s) t.0, fits st st1 word words s t.1)));
  }
    where
      ends : ℕ → List ℕ → State → Outcome (List ℕ)
      ends word words st2 = Fine (word ∷ words) st2

      narrow_next : ℕ → State → Outcome (List ℕ)
      narrow_next word st1 = then_do (values layout.variables narrow rest st1) (ends word)

      wide_next : ℕ → State → Outcome (List ℕ)
      wide_next word st1 = then_do (values layout.variables wide rest st1) (ends word)

  mutual
    pub finds : (place : Place) → FitPlace layout signatures f place → Clear (λ o. place_changes o place) → Finds place
    finds (Scalar object at) fit clear = record { by = λ st n. alike_fine blamed (FindsTo (Scalar object at) st) (record { object = object; index = 0; at = at }) st (stay_same st n, refl) }
    finds (Element array index at) fit clear = finds_element array index at fit (runs index fit.1 clear)
    finds (Within inner at) fit clear = record { by = (finds inner fit clear).by }

    -- an expression does the same, and leaves what is kept
    pub runs : (e : Expr) → Fit layout signatures f e → Clear (λ o. expr_changes o e) → Runs e
    runs (Number constant at) fit clear = record { by = λ used st n. here constant.value st n }
    runs (Character word at) fit clear = record { by = λ used st n. here word st n }
    runs (Read place) fit clear = runs_read place (finds place fit clear)
    runs (Array object at) fit clear = absurd fit
    runs (Paren inner at) fit clear = record { by = (runs inner fit clear).by }
    runs (Call callee arguments at) fit clear = runs_call callee arguments at fit.1 (hands arguments (parameters_of signatures callee) fit.0 clear)
    runs (Step fix operator kind target at) fit clear = record {
      by = λ used st n. runs_step target (λ found st1. changed (at_place at found) (step_operator operator) (promoted kind) kind 1 st1) (step_value fix) fit.0 clear
          (finds target fit.0 (clear_target target clear))
          (λ found st1 n1 free. changed_keeps layout f.live kept blamed (at_place at found) (step_operator operator) (promoted kind) kind 1 st1 n1 free) st n;
    }
    runs (Signed operator kind operand at) fit clear =
        let r = runs operand fit clear in
        record {
          by = λ used st n. go_on st (nval operand true st) (wval operand true st) (λ x st1. settled (signed_by operator kind x) at st1) (λ x st1. settled (signed_by operator kind x) at st1) (r.by true st n)
              (λ x st1 n1. settled_keeps layout f.live kept blamed (signed_by operator kind x) at st1 n1);
        }
    runs (Cast specifiers to operand at) fit clear =
        let r = runs operand fit clear in
        record {
          by = λ used st n. go_on st (nval operand (not (is_void to)) st) (wval operand (not (is_void to)) st) (λ x st1. Fine (converted to x) st1) (λ x st1. Fine (converted to x) st1) (r.by (not (is_void to)) st n)
              (λ x st1 n1. here (converted to x) st1 n1);
        }
    runs (Convert to operand) fit clear =
        let r = runs operand fit clear in
        record {
          by = λ used st n. go_on st (nval operand used st) (wval operand used st) (λ x st1. Fine (converted to x) st1) (λ x st1. Fine (converted to x) st1) (r.by used st n)
              (λ x st1 n1. here (converted to x) st1 n1);
        }
    runs (Operate operator kind left right at) fit clear =
        let l = runs left fit.0 (spares_first layout kept f (λ o. expr_changes o left) (λ o. expr_changes o right) clear) in
        let r = runs right fit.1 (spares_second layout kept f (λ o. expr_changes o left) (λ o. expr_changes o right) clear) in
        record {
          by = λ used st n. go_on {A = Operands} st (both (λ s. nval left true s) (λ s. nval right true s) st) (both (λ s. wval left true s) (λ s. wval right true s) st)
              (λ x st1. settled (computed operator kind x.left x.right) at st1) (λ x st1. settled (computed operator kind x.left x.right) at st1) (both_run left right l r st n)
              (λ x st1 n1. settled_keeps layout f.live kept blamed (computed operator kind x.left x.right) at st1 n1);
        }
    runs (And left right at) fit clear =
        let l = runs left fit.0 (spares_first layout kept f (λ o. expr_changes o left) (λ o. expr_changes o right) clear) in
        let r = runs right fit.1 (spares_second layout kept f (λ o. expr_changes o left) (λ o. expr_changes o right) clear) in
        record {
          by = λ used st n. go_on st (nval left true st) (wval left true st)
              (λ x st1. choose x (then_do (nval right true st1) (λ y st2. Fine (truth y) st2)) (Fine 0 st1)) (λ x st1. choose x (then_do (wval right true st1) (λ y st2. Fine (truth y) st2)) (Fine 0 st1)) (l.by true st n)
              (λ x st1 n1. choose_keeps layout f.live kept blamed x st1 (then_do (nval right true st1) (λ y st2. Fine (truth y) st2)) (then_do (wval right true st1) (λ y st2. Fine (truth y) st2)) (Fine 0 st1) (Fine 0 st1) (truth_run right r st1 n1) (here 0 st1 n1));
        }
    runs (Or left right at) fit clear =
        let l = runs left fit.0 (spares_first layout kept f (λ o. expr_changes o left) (λ o. expr_changes o right) clear) in
        let r = runs right fit.1 (spares_second layout kept f (λ o. expr_changes o left) (λ o. expr_changes o right) clear) in
        record {
          by = λ used st n. go_on st (nval left true st) (wval left true st)
              (λ x st1. choose x (Fine 1 st1) (then_do (nval right true st1) (λ y st2. Fine (truth y) st2))) (λ x st1. choose x (Fine 1 st1) (then_do (wval right true st1) (λ y st2. Fine (truth y) st2))) (l.by true st n)
              (λ x st1 n1. choose_keeps layout f.live kept blamed x st1 (Fine 1 st1) (Fine 1 st1) (then_do (nval right true st1) (λ y st2. Fine (truth y) st2)) (then_do (wval right true st1) (λ y st2. Fine (truth y) st2)) (here 1 st1 n1) (truth_run right r st1 n1));
        }
    runs (Comma left right at) fit clear =
        let l = runs left fit.0 (spares_first layout kept f (λ o. expr_changes o left) (λ o. expr_changes o right) clear) in
        let r = runs right fit.1 (spares_second layout kept f (λ o. expr_changes o left) (λ o. expr_changes o right) clear) in
        record {
          by = λ used st n. go_on st (nval left false st) (wval left false st) (λ x st1. nval right used st1) (λ x st1. wval right used st1) (l.by false st n) (λ x st1 n1. r.by used st1 n1);
        }
    runs (Conditional test first second at) fit clear =
        let t = runs test fit.0 (spares_first layout kept f (λ o. expr_changes o test) (λ o. expr_changes o first || expr_changes o second) clear) in
        let others = spares_second layout kept f (λ o. expr_changes o test) (λ o. expr_changes o first || expr_changes o second) clear in
        let a = runs first fit.1 (spares_first layout kept f (λ o. expr_changes o first) (λ o. expr_changes o second) others) in
        let b = runs second fit.2 (spares_second layout kept f (λ o. expr_changes o first) (λ o. expr_changes o second) others) in
        record {
          by = λ used st n. go_on st (nval test true st) (wval test true st) (λ x st1. choose x (nval first used st1) (nval second used st1)) (λ x st1. choose x (wval first used st1) (wval second used st1)) (t.by true st n)
              (λ x st1 n1. choose_keeps layout f.live kept blamed x st1 (nval first used st1) (wval first used st1) (nval second used st1) (wval second used st1) (a.by used st1 n1) (b.by used st1 n1));
        }
    runs (Assign target right at) fit clear =
        let own = spares_first layout kept f (λ o. target_changes o target) (λ o. expr_changes o right) clear in
        let r = runs right fit.1 (spares_second layout kept f (λ o. target_changes o target) (λ o. expr_changes o right) clear) in
        let t = finds target fit.0 (clear_target target own) in
        record {
          by = λ used st n. runs_assign target right (λ x st1. write x.found x.word st1) fit.0 own t r (λ x st1 n1 free. write_keeps layout f.live kept blamed x.found x.word st1 n1 free) st n;
        }
    runs (Update operator kind to target right at) fit clear =
        let own = spares_first layout kept f (λ o. target_changes o target) (λ o. expr_changes o right) clear in
        let r = runs right fit.1 (spares_second layout kept f (λ o. target_changes o target) (λ o. expr_changes o right) clear) in
        let t = finds target fit.0 (clear_target target own) in
        record {
          by = λ used st n. runs_assign target right (λ x st1. then_do (changed (at_place at x.found) operator kind to x.word st1) (λ change st2. Fine change.behind st2)) fit.0 own t r
              (λ x st1 n1 free. update_keeps at operator kind to x st1 n1 free) st n;
        }

    pub hands : (es : Exprs) (formals : List Formal) → FitArguments layout signatures f es formals → Clear (λ o. exprs_changes o es) → Hands es formals
    hands NoExpr [] fit clear = record { by = λ st n. alike_fine blamed (HandsTo [] st) [] st (stay_same st n, tt) }
    hands NoExpr (formal ∷ formals) fit clear = absurd fit
    hands (WithExpr e rest) [] fit clear = absurd fit
    hands (WithExpr e rest) (OfWord kind ∷ formals) fit clear =
        let r = runs e fit.0 (spares_first layout kept f (λ o. expr_changes o e) (λ o. exprs_changes o rest) clear) in
        hands_first (λ st word st1. Stay st st1) (OfWord kind) formals e rest (λ st st1 word s. s) (λ st st1 word words s h. h) (λ st n. r.by true st n)
        (hands rest formals fit.3 (spares_second layout kept f (λ o. expr_changes o e) (λ o. exprs_changes o rest) clear))
    hands (WithExpr e rest) (OfArray kind constant ∷ formals) fit clear =
        hands_first (λ st word st1. Stay st st1 × (is_own (home layout word) ≡ false)) (OfArray kind constant) formals e rest (λ st st1 word s. s.0) (λ st st1 word words s h. (s.1, h))
        (λ st n. argument_array e kind constant fit.0 st n) (hands rest formals fit.1 (spares_second layout kept f (λ o. expr_changes o e) (λ o. exprs_changes o rest) clear))
