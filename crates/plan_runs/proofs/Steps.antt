-- Reads and writes of the source, by what they come to.
use Rattle.std.proofs.Common.{◌≡◌, ℕ, ◌<◌, Bool, true, false, List, [], length, Option, Some, None, refl, sym, ap, ◌∙◌, subst}
use Rattle.std.specs.Prelude.{nat_lt, slice_get, slice_index_or, slice_set, if◌then◌else◌}
use Rattle.std.proofs.lemmas.Bool.{ltb-true}
use Rattle.std.proofs.lemmas.Option.{get_or_from_slice_get}
use Rattle.meaning_semantics.specs.State.{State, Outcome, Fine, Stopped, element, held, read, stored, write, placed_in, placed, with_objects}
use Rattle.meaning_semantics.specs.declared.outcome.Found.{Found}
use Rattle.meaning_semantics.specs.declared.outcome.Stop.{Stop}
use Rattle.meaning_semantics.specs.declared.outcome.Stop.TheVariants.{Undefined}
use Rattle.plan_runs.specs.Cells.{cell, size, put_cell}

module _ (C : Outcome ℕ → Type 0) (found : Found) (st : State) (stops : (stop : Stop) → C (Stopped stop)) where
  -- a read gives the word of its element
  pub read_cases : ((w : ℕ) → cell st.objects found.object found.index ≡ Some w → C (Fine w st)) → C (read found st)
  read_cases fine = of_row (slice_get st.objects found.object) refl
    where
      of_element : (row : List (Option ℕ)) → slice_get st.objects found.object ≡ Some row → (c : Option (Option ℕ)) → slice_get row found.index ≡ c → C (held c found.at st)
      of_element row is None e = stops (Undefined 0 found.at)
      of_element row is (Some None) e = stops (Undefined 7 found.at)
      of_element row is (Some (Some w)) e = fine w (ap (λ r. slice_index_or r found.index None) (get_or_from_slice_get st.objects found.object row [] is) ∙ get_or_from_slice_get row found.index (Some w) None e)

      of_row : (row : Option (List (Option ℕ))) → slice_get st.objects found.object ≡ row → C (held (element row found.index) found.at st)
      of_row None e = stops (Undefined 0 found.at)
      of_row (Some row) e = of_element row e (slice_get row found.index) refl

  -- a write leaves the word in its element
  pub write_cases : (w : ℕ) → (found.index < size st.objects found.object → C (Fine w (with_objects st (put_cell st.objects found.object found.index w)))) → C (write found w st)
  write_cases w fine = of_row (slice_get st.objects found.object) refl
    where
      of_test : (row : List (Option ℕ)) → slice_index_or st.objects found.object [] ≡ row → (b : Bool) → nat_lt found.index (length row) ≡ b →
          C (if b then Fine w (with_objects st (slice_set st.objects found.object (slice_set row found.index (Some w)))) else Stopped (Undefined 0 found.at))
      of_test row is true e =
          subst (λ r. C (Fine w (with_objects st (slice_set st.objects found.object (slice_set r found.index (Some w)))))) is
          (fine (subst (λ r. found.index < length r) (sym is) (ltb-true found.index (length row) e)))
      of_test row is false e = stops (Undefined 0 found.at)

      of_row : (row : Option (List (Option ℕ))) → slice_get st.objects found.object ≡ row → C (stored row found w st)
      of_row None e = stops (Undefined 0 found.at)
      of_row (Some row) e = of_test row (get_or_from_slice_get st.objects found.object row [] e) (nat_lt found.index (length row)) refl

module _ (C : Outcome Found → Type 0) (found : Found) (st : State) (stops : (stop : Stop) → C (Stopped stop)) where
  -- an index that is placed is within its array
  pub placed_cases : (found.index < size st.objects found.object → C (Fine found st)) → C (placed found st)
  placed_cases fine = of_row (slice_get st.objects found.object) refl
    where
      of_test : (row : List (Option ℕ)) → slice_index_or st.objects found.object [] ≡ row → (b : Bool) → nat_lt found.index (length row) ≡ b → C (if b then Fine found st else Stopped (Undefined 6 found.at))
      of_test row is true e = fine (subst (λ r. found.index < length r) (sym is) (ltb-true found.index (length row) e))
      of_test row is false e = stops (Undefined 6 found.at)

      of_row : (row : Option (List (Option ℕ))) → slice_get st.objects found.object ≡ row → C (placed_in row found st)
      of_row None e = stops (Undefined 0 found.at)
      of_row (Some row) e = of_test row (get_or_from_slice_get st.objects found.object row [] e) (nat_lt found.index (length row)) refl
