-- What a source shows is what it means.
use Rattle.std.proofs.Common.{ℕ, ◌++◌, List, Option, Some, None, refl}
use Rattle.facts_definitions.specs.declared.facts.Facts.{Facts}
use Rattle.facts_definitions.specs.declared.facts.Restriction.{Restriction}
use Rattle.meaning_semantics.specs.Runs.{ended, finished, first_violated, meaning}
use Rattle.meaning_semantics.specs.State.{Outcome, Fine, Stopped, State}
use Rattle.meaning_semantics.specs.declared.outcome.Stop.TheVariants.{Undefined as IsUndefined, Broken as IsBroken}
use Rattle.c_tree.specs.declared.expression.NameId.{NameId}
use Rattle.types_tree.specs.Tree.{Program}
use Rattle.plan_runs.specs.Kept.{kept_run, shown_unless}
use Rattle.plan_carried.specs.Sources.{MeansAlike, source_outcome, source_shown}

finished_alike : (violated result : Option ℕ) (st : State) → MeansAlike (finished violated result st) (shown_unless violated result st)
finished_alike None result st = (refl, refl, λ m. refl)
finished_alike (Some at) result st = tt

ended_alike : (names : List NameId) (restrictions : List Restriction) (o : Outcome (Option ℕ)) → MeansAlike (ended names restrictions o) (kept_run names restrictions o)
ended_alike names restrictions (Fine result st) = finished_alike (first_violated names st.counts restrictions) result st
ended_alike names restrictions (Stopped (IsUndefined rule at)) = tt
ended_alike names restrictions (Stopped (IsBroken at)) = tt

pub shown_means : (program : Program) (names : List (List ℕ)) (facts : Facts) (input : List ℕ) → MeansAlike (meaning program names facts input) (source_shown program names facts input)
shown_means program names facts input = ended_alike (facts.functions ++ facts.markers) facts.restrictions (source_outcome program names facts input)
