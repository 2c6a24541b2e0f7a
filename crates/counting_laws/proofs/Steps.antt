-- Reads, writes and operators, which no bound has to do with.
use Rattle.std.proofs.Common.{◌≡◌, refl, sym, ap, ◌∙◌, subst, ℕ, zero, suc, Bool, true, false, length, Option, Some, None, Result, Ok, Err}
use Rattle.std.specs.Prelude.{nat_lt, slice_get, slice_set, if◌then◌else◌}
use Rattle.std.proofs.lemmas.Bool.{false≢true}
use Rattle.meaning_semantics.specs.State.{State, Outcome, Fine, Stopped, array_number, changed, choose, element, held, needed, placed, placed_in, read, rule_of, settled, stored, then_do, with_objects, write}
use Rattle.meaning_semantics.specs.declared.outcome.Change.{Change}
use Rattle.meaning_semantics.specs.declared.outcome.Found.{Found}
use Rattle.meaning_semantics.specs.declared.outcome.Stop.TheVariants.{Undefined}
use Rattle.types_value.specs.Kinds.{converted}
use Rattle.types_value.specs.Operators.{computed}
use Rattle.types_value.specs.declared.kind.Kind.{Kind as CType}
use Rattle.types_value.specs.declared.operator.Operator.{Operator}
use Rattle.types_value.specs.declared.operator.Undefined.{Undefined as Cause}
use Rattle.high_ir.specs.declared.object.Array.{Array}
use Rattle.high_ir.specs.declared.object.Base.{Base}
use Rattle.high_ir.specs.declared.object.Base.TheVariants.{Object, Parameter}
use Rattle.plan_runs.specs.ExpressionFits.{Function, IsArrayHome, IsNamed}
use Rattle.plan_runs.specs.Meets.{IsLayout, Layout, home, is_own, is_passed, is_passed_base}
use Rattle.plan_definition.specs.declared.home.Home.{Home}
use Rattle.plan_definition.specs.declared.home.Home.TheVariants.{Frame, Memory}
use Rattle.counting_laws.proofs.Alike.{Alike, alike_fine, alike_undefined}
use Rattle.counting_laws.proofs.Objects.{Names, Row, Stays, stays_same, stays_set}
use Rattle.counting_laws.proofs.Settings.{Keeps, keeps_then}

-- an object that isn't kept, and is no array parameter
abbrev pub Free : Layout → (kept : ℕ → Type 0) → (object : ℕ) → Type 0
Free layout kept object = ((o : ℕ) → kept o → o ≡ object → ⊥) × (is_passed (home layout object) ≡ false)

module _ (layout : Layout) (live : ℕ → Bool) (kept blamed : ℕ → Type 0) where
  abbrev Same : {A : Type 0} → State → Outcome A → Type 0
  Same st o = Keeps layout live kept blamed st o o

  pub keeps_fine : {A : Type 0} (a : A) (st st1 : State) → Stays layout live kept st st1 → Keeps layout live kept blamed st (Fine a st1) (Fine a st1)
  keeps_fine a st st1 s = alike_fine blamed (λ b st2. Stays layout live kept st st2) a st1 s

  pub keeps_here : {A : Type 0} (a : A) (st : State) → Names layout live st.objects → Keeps layout live kept blamed st (Fine a st) (Fine a st)
  keeps_here a st n = keeps_fine a st st (stays_same layout live kept st n)

  undefined : (st : State) (rule at : ℕ) → Same {A = ℕ} st (Stopped (Undefined rule at))
  undefined st rule at = alike_undefined blamed (λ b st2. Stays layout live kept st st2) rule at

  pub read_keeps : (found : Found) (st : State) → Names layout live st.objects → Same st (read found st)
  read_keeps found st n = of (element (slice_get st.objects found.object) found.index)
    where
      of : (c : Option (Option ℕ)) → Same st (held c found.at st)
      of None = undefined st 0 found.at
      of (Some None) = undefined st 7 found.at
      of (Some (Some word)) = keeps_here word st n

  pub write_keeps : (found : Found) (word : ℕ) (st : State) → Names layout live st.objects → Free layout kept found.object → Same st (write found word st)
  write_keeps found word st n free = of (slice_get st.objects found.object)
    where
      of_test : (row : Row) (b : Bool) → Same st (if b then Fine word (with_objects st (slice_set st.objects found.object (slice_set row found.index (Some word)))) else Stopped (Undefined 0 found.at))
      of_test row true =
          let new = slice_set row found.index (Some word) in
          keeps_fine word st (with_objects st (slice_set st.objects found.object new)) (stays_set layout live kept st found.object new n free.0 (λ passed lives q begins. absurd (false≢true (sym free.1 ∙ passed))))
      of_test row false = undefined st 0 found.at

      of : (row : Option Row) → Same st (stored row found word st)
      of None = undefined st 0 found.at
      of (Some row) = of_test row (nat_lt found.index (length row))

  pub placed_alike : (to : Found → State → Type 0) (found : Found) (st : State) → to found st → Alike blamed to (placed found st) (placed found st)
  placed_alike to found st h = of (slice_get st.objects found.object)
    where
      of_test : (b : Bool) → Alike blamed to (if b then Fine found st else Stopped (Undefined 6 found.at)) (if b then Fine found st else Stopped (Undefined 6 found.at))
      of_test true = alike_fine blamed to found st h
      of_test false = alike_undefined blamed to 6 found.at

      of : (row : Option Row) → Alike blamed to (placed_in row found st) (placed_in row found st)
      of None = alike_undefined blamed to 0 found.at
      of (Some row) = of_test (nat_lt found.index (length row))

  pub settled_keeps : (answer : Result ℕ Cause) (at : ℕ) (st : State) → Names layout live st.objects → Same st (settled answer at st)
  settled_keeps (Ok word) at st n = keeps_here word st n
  settled_keeps (Err cause) at st n = undefined st (rule_of cause) at

  pub needed_keeps : (used : Bool) (at : ℕ) (given : Option ℕ) (st : State) → Names layout live st.objects → Same st (needed used at given st)
  needed_keeps used at (Some word) st n = keeps_here word st n
  needed_keeps true at None st n = undefined st 8 at
  needed_keeps false at None st n = keeps_here 0 st n

  pub choose_keeps : {A : Type 0} (word : ℕ) (st : State) (a b c d : Outcome A) → Keeps layout live kept blamed st a b → Keeps layout live kept blamed st c d → Keeps layout live kept blamed st (choose word a c) (choose word b d)
  choose_keeps zero st a b c d h k = k
  choose_keeps (suc n) st a b c d h k = h

  -- an object that is changed by an operator
  pub changed_keeps : (found : Found) (operator : Operator) (kind to : CType) (word : ℕ) (st : State) → Names layout live st.objects → Free layout kept found.object → Same st (changed found operator kind to word st)
  changed_keeps found operator kind to word st n free =
      keeps_then layout live kept blamed st (read found st) (read found st) reads reads (read_keeps found st n)
      (λ before st1 n1. keeps_then layout live kept blamed st1 (answer before st1) (answer before st1) (writes before) (writes before) (settled_keeps (computed operator kind (converted kind before) word) found.at st1 n1)
      (λ result st2 n2. keeps_then layout live kept blamed st2 (write found (converted to result) st2) (write found (converted to result) st2) (ends before) (ends before) (write_keeps found (converted to result) st2 n2 free)
      (λ behind st3 n3. keeps_here {A = Change} (record { before = before; behind = behind }) st3 n3)))
    where
      answer : (before : ℕ) → State → Outcome ℕ
      answer before st1 = settled (computed operator kind (converted kind before) word) found.at st1

      ends : (before behind : ℕ) → State → Outcome Change
      ends before behind st3 = Fine (record { before = before; behind = behind }) st3

      writes : (before result : ℕ) → State → Outcome Change
      writes before result st2 = then_do (write found (converted to result) st2) (ends before)

      reads : (before : ℕ) → State → Outcome Change
      reads before st1 = then_do (answer before st1) (writes before)

  -- an array parameter that lives names an array
  read_named : (object at : ℕ) (st : State) → Names layout live st.objects → is_passed (home layout object) ≡ true → live object ≡ true →
      Alike blamed (λ q st1. Stays layout live kept st st1 × (is_own (home layout q) ≡ false)) (read (record { object = object; index = 0; at = at }) st) (read (record { object = object; index = 0; at = at }) st)
  read_named object at st n passed lives = of_row (slice_get st.objects object) refl
    where
      To : ℕ → State → Type 0
      To q st1 = Stays layout live kept st st1 × (is_own (home layout q) ≡ false)

      of_word : (row : Row) → slice_get st.objects object ≡ Some row → (c : Option (Option ℕ)) → slice_get row 0 ≡ c → Alike blamed To (held c at st) (held c at st)
      of_word row there None begins = alike_undefined blamed To 0 at
      of_word row there (Some None) begins = alike_undefined blamed To 7 at
      of_word row there (Some (Some q)) begins = alike_fine blamed To q st (stays_same layout live kept st n, n.by object q row passed lives there begins)

      of_row : (row : Option Row) → slice_get st.objects object ≡ row → Alike blamed To (held (element row 0) at st) (held (element row 0) at st)
      of_row None there = alike_undefined blamed To 0 at
      of_row (Some row) there = of_word row there (slice_get row 0) refl

-- the number of the object that an array's name means
module _ (layout : Layout) (placed_is : IsLayout layout) (f : Function) (kept blamed : ℕ → Type 0) where
  abbrev pub Numbered : State → ℕ → State → Type 0
  Numbered st q st1 = Stays layout f.live kept st st1 × (is_own (home layout q) ≡ false)

  pub number_alike : (object at : ℕ) (st : State) → Names layout f.live st.objects → IsArrayHome layout f object (home layout object) →
      Alike blamed (Numbered st) (array_number layout.variables object at st) (array_number layout.variables object at st)
  number_alike object at st n fit = of_home (home layout object) refl fit
    where
      of_base : (a : Array) (b : Base) → home layout object ≡ Memory a → a.base ≡ b → IsNamed layout f object b → Alike blamed (Numbered st) (array_number layout.variables object at st) (array_number layout.variables object at st)
      of_base a (Object m) lives base named =
          subst (λ o. Alike blamed (Numbered st) o o) (sym (placed_is.named object m at a st lives base))
          (alike_fine blamed (Numbered st) object st (stays_same layout f.live kept st n, ap is_own lives ∙ ap is_passed_base base))
      of_base a (Parameter j) lives base own =
          subst (λ o. Alike blamed (Numbered st) o o) (sym (placed_is.handed object j at a st lives base))
          (read_named layout f.live kept blamed object at st n (ap is_passed lives ∙ ap is_passed_base base) own)

      of_home : (h : Home) → home layout object ≡ h → IsArrayHome layout f object h → Alike blamed (Numbered st) (array_number layout.variables object at st) (array_number layout.variables object at st)
      of_home (Frame x) is fits = absurd fits
      of_home (Memory a) is fits = of_base a a.base is refl fits
