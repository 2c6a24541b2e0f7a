-- What is shown of a kept run of a source violates none of its restrictions.
use Rattle.std.proofs.Common.{◌≡◌, ℕ, List, Option, Some, None, refl, sym, ap}
use Rattle.std.specs.Prelude.{slice_index_or}
use Rattle.std.proofs.lemmas.Option.{none-some, same_Some}
use Rattle.c_tree.specs.declared.expression.NameId.{NameId}
use Rattle.facts_definitions.specs.declared.facts.Restriction.{Restriction}
use Rattle.meaning_semantics.specs.Runs.{first_violated}
use Rattle.meaning_semantics.specs.State.{Fine, Outcome, State, Stopped}
use Rattle.plan_runs.specs.Kept.{kept_run, shown_unless}
use Rattle.high_pass.specs.Carries.{Shown}

-- the counts that were shown, in a list
pub record IsUnviolated (names : List NameId) (restrictions : List Restriction) (shown : Shown) : Type 0 where
  pub counts : List ℕ
  pub are : (m : ℕ) → shown.counts m ≡ slice_index_or counts m 0
  pub none : first_violated names counts restrictions ≡ None

module _ (names : List NameId) (restrictions : List Restriction) (shown : Shown) where
  of_state : (result : Option ℕ) (st : State) (violated : Option ℕ) → first_violated names st.counts restrictions ≡ violated → shown_unless violated result st ≡ Some shown → IsUnviolated names restrictions shown
  of_state result st (Some at) none is = absurd (none-some shown is)
  of_state result st None none is = record { counts = st.counts; are = λ m. ap (λ (s : Shown). s.counts m) (sym (same_Some _ shown is)); none = none }

  pub unviolated : (o : Outcome (Option ℕ)) → kept_run names restrictions o ≡ Some shown → IsUnviolated names restrictions shown
  unviolated (Fine result st) is = of_state result st (first_violated names st.counts restrictions) refl is
  unviolated (Stopped stop) is = absurd (none-some shown is)
