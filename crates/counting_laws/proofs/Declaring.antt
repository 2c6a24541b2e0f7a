-- Declarations do the same under narrower and wider bounds, and leave what is kept.
use Rattle.std.proofs.Common.{◌≡◌, ⊎_elim, refl, sym, ap, ◌∙◌, subst, ℕ, ◌+◌, ◌-◌, ◌<◌, Bool, true, false, List, [], ◌∷◌, ◌++◌, length, replicate, take, Option, Some, None, arith}
use Rattle.std.specs.Prelude.{◌==◌, slice_get, slice_set}
use Rattle.std.proofs.lemmas.Bool.{eq-eqb, false≢true, or_left}
use Rattle.facts_definitions.specs.declared.facts.Bounds.{Bounds}
use Rattle.meaning_semantics.specs.State.{State, Outcome, Fine, then_do, with_objects, write, zeros, zeros_in}
use Rattle.meaning_semantics.specs.Statements.{Source, all_declared, begun, declared, dropped, evaluated, filled, initialised, listed, started}
use Rattle.meaning_semantics.specs.Values.{Calls}
use Rattle.meaning_semantics.specs.declared.outcome.Flow.{Flow}
use Rattle.meaning_semantics.specs.declared.outcome.Flow.TheVariants.{Onward}
use Rattle.types_tree.specs.Tree.{Expr, Exprs, NoExpr, WithExpr, Initial, Absent, Value, Listed, Object, Declared, Declaration, Objects, Prototype, ForStart, NoStart, StartValue, StartDeclaration}
use Rattle.plan_runs.specs.Serves.{source_with}
use Rattle.plan_runs.specs.StatementFits.{FitDeclaration, FitInitial, FitObjects, FitStart, FitValues, declares, start_declares, with_live}
use Rattle.plan_runs.specs.Flows.{Rest}
use Rattle.high_ir.specs.declared.object.Kind.{Kind}
use Rattle.plan_runs.specs.ExpressionFits.{Fit, Function, IsScalar, Signatures}
use Rattle.plan_runs.specs.Meets.{Layout, home, is_passed, is_passed_base, kind_at}
use Rattle.plan_definition.specs.declared.home.Home.{Home}
use Rattle.plan_definition.specs.declared.home.Home.TheVariants.{Frame, Memory}
use Rattle.facts_loops.specs.Changes.{declaration_changes, expr_changes, exprs_changes, initial_changes, object_changes, objects_changes, start_changes}
use Rattle.counting_laws.proofs.Alike.{Alike, alike_fine, alike_weaken}
use Rattle.counting_laws.proofs.Entering.{head_begun, nothing_more}
use Rattle.counting_laws.proofs.Expressions.{runs}
use Rattle.counting_laws.proofs.Objects.{Names, Row, Stays, stays_same, stays_set, stays_then}
use Rattle.counting_laws.proofs.Settings.{IsRun, Keeps, Spares, keeps_then, spares_first, spares_second}
use Rattle.counting_laws.proofs.Steps.{Free, keeps_fine, keeps_here, write_keeps}

-- what a source has beside its objects, with other bounds
abbrev pub with_bounds : Rest → List Bounds → Rest
with_bounds rest bounds = record { items = rest.items; functions = rest.functions; at = rest.at; bounds = bounds }

below_itself : (n : ℕ) → n < n → ⊥
below_itself n lt = omega (arith, lt)

zeros_cases : (C : State → Type 0) (object from : ℕ) (st : State) → C st → ((row : Row) → C (with_objects st (slice_set st.objects object row))) → C (zeros object from st)
zeros_cases C object from st nothing replaced = of (slice_get st.objects object)
  where
    of : (row : Option Row) → C (zeros_in row object from st)
    of None = nothing
    of (Some row) = replaced (take from row ++ replicate (length row - from) (Some 0))

scalar_plain : (layout : Layout) (f : Function) (object : ℕ) (h : Home) → IsScalar layout f object h → is_passed h ≡ false
scalar_plain layout f object (Frame x) fits = refl
scalar_plain layout f object (Memory a) fits = ap is_passed_base fits.1

module _ (layout : Layout) (signatures : Signatures) (result : Kind) (rest : Rest) (wide_bounds : List Bounds) (blamed kept : ℕ → Type 0) (f : Function) (narrow wide : Calls) (ok : IsRun layout signatures blamed kept f narrow wide) where
  abbrev ns : Source
  ns = source_with layout rest

  abbrev ws : Source
  ws = source_with layout (with_bounds rest wide_bounds)

  abbrev Named : State → Type 0
  Named st = Names layout f.live st.objects

  abbrev Both : {A : Type 0} → State → Outcome A → Outcome A → Type 0
  Both st a b = Keeps layout f.live kept blamed st a b

  abbrev Clear : (ℕ → Bool) → Type 0
  Clear changes = Spares layout kept f changes

  go_on : {A B : Type 0} (st : State) (a b : Outcome A) (go other : A → State → Outcome B) → Both st a b → ((x : A) (st1 : State) → Named st1 → Both st1 (go x st1) (other x st1)) → Both st (then_do a go) (then_do b other)
  go_on st a b go other h more = keeps_then layout f.live kept blamed st a b go other h more

  onward : (st : State) → Named st → Both st (Fine Onward st) (Fine Onward st)
  onward st n = keeps_here layout f.live kept blamed Onward st n

  pub dropped_keeps : (e : Expr) → Fit layout signatures f e → Clear (λ o. expr_changes o e) → (st : State) → Named st → Both st (dropped ns narrow e st) (dropped ws wide e st)
  dropped_keeps e fit clear st n =
      go_on st (evaluated ns narrow e false st) (evaluated ws wide e false st) (λ word st1. Fine Onward st1) (λ word st1. Fine Onward st1) ((runs layout signatures blamed kept f narrow wide ok e fit clear).by false st n) (λ word st1 n1. onward st1 n1)

  filled_keeps : (object count : ℕ) → Free layout kept object → (st : State) → Named st → Both st (filled object count st) (filled object count st)
  filled_keeps object count free st n =
      keeps_fine layout f.live kept blamed Onward st (zeros object count st)
      (zeros_cases (λ st1. Stays layout f.live kept st st1) object count st (stays_same layout f.live kept st n)
      (λ row. stays_set layout f.live kept st object row n free.0 (λ passed lives q begins. absurd (false≢true (sym free.1 ∙ passed)))))

  listed_keeps : (es : Exprs) (object at : ℕ) (kind : Kind) → FitValues layout signatures result rest.bounds f es kind → Clear (λ o. exprs_changes o es) → Free layout kept object → (index : ℕ) (st : State) → Named st →
      Both st (listed ns narrow es object at index st) (listed ws wide es object at index st)
  listed_keeps NoExpr object at kind fit clear free index st n = keeps_here layout f.live kept blamed index st n
  listed_keeps (WithExpr e others) object at kind fit clear free index st n =
      let first = (runs layout signatures blamed kept f narrow wide ok e fit.0.0 (spares_first layout kept f (λ o. expr_changes o e) (λ o. exprs_changes o others) clear)).by true st n in
      let later = spares_second layout kept f (λ o. expr_changes o e) (λ o. exprs_changes o others) clear in
      go_on st (evaluated ns narrow e true st) (evaluated ws wide e true st)
      (λ word st1. then_do (write (record { object = object; index = index; at = at }) word st1) (λ written st2. listed ns narrow others object at (index + 1) st2))
      (λ word st1. then_do (write (record { object = object; index = index; at = at }) word st1) (λ written st2. listed ws wide others object at (index + 1) st2)) first
      (λ word st1 n1.
      go_on st1 (write (record { object = object; index = index; at = at }) word st1) (write (record { object = object; index = index; at = at }) word st1)
      (λ written st2. listed ns narrow others object at (index + 1) st2) (λ written st2. listed ws wide others object at (index + 1) st2)
      (write_keeps layout f.live kept blamed (record { object = object; index = index; at = at }) word st1 n1 free)
      (λ written st2 n2. listed_keeps others object at kind fit.1 later free (index + 1) st2 n2))

  initial_keeps : (initial : Initial) (object at : ℕ) → FitInitial layout signatures result rest.bounds f object initial → Clear (λ o. initial_changes o initial) → ((p : ℕ) → kept p → p ≡ object → ⊥) → (st : State) → Named st →
      Both st (initialised ns narrow initial object at st) (initialised ws wide initial object at st)
  initial_keeps Absent object at fit clear free st n = onward st n
  initial_keeps (Value e) object at fit clear free st n =
      go_on st (evaluated ns narrow e true st) (evaluated ws wide e true st)
      (λ word st1. then_do (write (record { object = object; index = 0; at = at }) word st1) (λ written st2. Fine Onward st2))
      (λ word st1. then_do (write (record { object = object; index = 0; at = at }) word st1) (λ written st2. Fine Onward st2))
      ((runs layout signatures blamed kept f narrow wide ok e fit.1.0 clear).by true st n)
      (λ word st1 n1.
      go_on st1 (write (record { object = object; index = 0; at = at }) word st1) (write (record { object = object; index = 0; at = at }) word st1) (λ written st2. Fine Onward st2) (λ written st2. Fine Onward st2)
      (write_keeps layout f.live kept blamed (record { object = object; index = 0; at = at }) word st1 n1 (free, scalar_plain layout f object (home layout object) fit.0))
      (λ written st2 n2. onward st2 n2))
  initial_keeps (Listed es comma filling) object at fit clear free st n =
      let array = fit.0 in
      let whole : Free layout kept object = (free, ap is_passed array.lives ∙ ap is_passed_base array.base_is) in
      go_on st (listed ns narrow es object at 0 st) (listed ws wide es object at 0 st) (filled object) (filled object) (listed_keeps es object at (kind_at layout object) fit.1 clear whole 0 st n)
      (λ count st1 n1. filled_keeps object count whole st1 n1)

  objects_keep : (objects : List Object) → FitObjects layout signatures result rest.bounds f objects → Clear (λ o. objects_changes o objects) → (st : State) → Named st → Both st (all_declared ns narrow objects st) (all_declared ws wide objects st)
  objects_keep [] fit clear st n = onward st n
  objects_keep (Declared object shape initial at ∷ others) fit clear st n =
      let first = spares_first layout kept f (λ o. object_changes o (Declared object shape initial at)) (λ o. objects_changes o others) clear in
      let later = spares_second layout kept f (λ o. object_changes o (Declared object shape initial at)) (λ o. objects_changes o others) clear in
      go_on st (initialised ns narrow initial object at st) (initialised ws wide initial object at st) (λ flow st1. all_declared ns narrow others st1) (λ flow st1. all_declared ws wide others st1)
      (initial_keeps initial object at fit.1 (spares_second layout kept f (λ o. object == o) (λ o. initial_changes o initial) first) (free first) st n)
      (λ flow st1 n1. objects_keep others fit.2 later st1 n1)
    where
      free : Clear (λ o. object_changes o (Declared object shape initial at)) → (p : ℕ) → kept p → p ≡ object → ⊥
      free first p k same = ⊎_elim
          (λ (up : layout.rank f.number < layout.rank (layout.owner p)). below_itself (layout.rank f.number) (subst (λ g. layout.rank f.number < layout.rank g) (ap layout.owner same ∙ fit.0.0) up))
          (λ (none : object_changes p (Declared object shape initial at) ≡ false). false≢true (sym none ∙ or_left (object == p) (initial_changes p initial) (eq-eqb object p (sym same))))
          (first p k)

  pub declaration_keeps : (declaration : Declaration) → FitDeclaration layout signatures result rest.bounds f declaration → Clear (λ o. declaration_changes o declaration) → (st : State) → Named st → Both st (declared ns narrow declaration st) (declared ws wide declaration st)
  declaration_keeps (Objects specifiers objects at) fit clear st n = objects_keep objects fit clear st n
  declaration_keeps (Prototype specifiers name params at) fit clear st n = onward st n

-- what stands first in the head of a `for`, where the objects of the head live
module _ (layout : Layout) (signatures : Signatures) (result : Kind) (rest : Rest) (wide_bounds : List Bounds) (blamed kept : ℕ → Type 0) (f : Function) (narrow wide : Calls) (ok : IsRun layout signatures blamed kept f narrow wide) where
  pub start_keeps : (start : ForStart) → IsRun layout signatures blamed kept (with_live f (start_declares start)) narrow wide → FitStart layout signatures result rest.bounds (with_live f (start_declares start)) start →
      Spares layout kept f (λ o. start_changes o start) → (st : State) → Names layout f.live st.objects →
      Alike blamed (λ (flow : Flow) st1. Stays layout (with_live f (start_declares start)).live kept st st1) (started (source_with layout rest) narrow start st) (started (source_with layout (with_bounds rest wide_bounds)) wide start st)
  start_keeps NoStart inner fit clear st n =
      let more = start_declares NoStart in
      alike_fine blamed (λ flow st1. Stays layout (with_live f more).live kept st st1) Onward st (stays_same layout (with_live f more).live kept st (nothing_more layout signatures blamed kept f narrow wide ok more (λ o m. false≢true m) st n))
  start_keeps (StartValue e) inner fit clear st n =
      let more = start_declares (StartValue e) in
      dropped_keeps layout signatures result rest wide_bounds blamed kept (with_live f more) narrow wide inner e fit clear st (nothing_more layout signatures blamed kept f narrow wide ok more (λ o m. false≢true m) st n)
  start_keeps (StartDeclaration declaration) inner fit clear st n =
      let f1 = with_live f (declares declaration) in
      let s = head_begun layout signatures blamed kept f narrow wide ok result rest.bounds declaration fit clear st n in
      let h = declaration_keeps layout signatures result rest wide_bounds blamed kept f1 narrow wide inner declaration fit clear (begun declaration st) s.names in
      alike_weaken blamed (λ flow st1. Stays layout f1.live kept (begun declaration st) st1) (λ flow st1. Stays layout f1.live kept st st1)
      (declared (source_with layout rest) narrow declaration (begun declaration st)) (declared (source_with layout (with_bounds rest wide_bounds)) wide declaration (begun declaration st)) h
      (λ flow st1 t. stays_then layout f1.live kept st (begun declaration st) st1 s t)
