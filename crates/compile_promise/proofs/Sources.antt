-- What a source means is shown of its image.
use Rattle.std.proofs.Common.{◌≡◌, ℕ, ◌<◌, ℤ, pos, List, Option, Some, None, refl, ap, ◌∙◌, subst, All}
use Rattle.rv_core.specs.Machine.{Exited}
use Rattle.rv_core.specs.Table.{Table}
use Rattle.code_flow_system.specs.declared.cert.Cert.{Cert}
use Rattle.code_flow_system.specs.Systems.{System}
use Rattle.facts_definitions.specs.declared.facts.Facts.{Facts}
use Rattle.meaning_semantics.specs.Runs.{meaning}
use Rattle.meaning_semantics.specs.declared.source_run.SourceRun.TheVariants.{Done}
use Rattle.types_tree.specs.Tree as typed
use Rattle.high_ir.specs.Tree.{Program}
use Rattle.high_pass.specs.Carries.{Carries, Shown}
use Rattle.high_pass.specs.Listing.{Listing}
use Rattle.plan_carried.specs.Sources.{MeansAlike, source_behaviour, source_shown}
use Rattle.plan_carried.proofs.Meanings.{shown_means}
use Rattle.low_ir.specs.Code.{Low}
use Rattle.low_ir.specs.Places.{Placing, assignment, placed}
use Rattle.image_frames.specs.Memories.{Placement}
use Rattle.compile_promise.specs.Shows.{EndsAsMain, EndsWithin, IsCompiled}
use Rattle.compile_promise.proofs.Shown.{image_shows}

module _ (source : typed.Program) (names : List (List ℕ)) (facts : Facts) (p : Program) (made : Listing) (q : Low) (pl : Placement) (ps : List Placing) (s : System) (t : Table) (cert : Cert) (carries : Carries (source_behaviour source names facts) p made) (compiled : IsCompiled (source_behaviour source names facts) p made q pl ps s t cert)
    (input : List ℕ) (bytes : All (λ b. b < 256) input) (output : List ℕ) (value : ℤ) (counts : List ℕ) where
  as_main : (shown : Shown) → MeansAlike (Done output value counts) (Some shown) → (n : ℕ) → EndsWithin made shown pl (placed (assignment ps) q) s.claims t input cert.cycles n → EndsAsMain made output value counts pl (placed (assignment ps) q) s.claims t input cert.cycles n
  as_main shown alike n h = record {
    ending = h.shows.ending ∙ ap Exited alike.1;
    written = h.shows.output ∙ alike.0;
    counted = λ k d lt. h.shows.counts k d lt ∙ ap pos (alike.2 _);
    keeps = h.keeps;
    within = h.within;
  }

  by_shown : (o : Option Shown) → source_shown source names facts input ≡ o → MeansAlike (Done output value counts) o → (n : ℕ) × EndsAsMain made output value counts pl (placed (assignment ps) q) s.claims t input cert.cycles n
  by_shown None is alike = absurd alike
  by_shown (Some shown) is alike =
      let h = image_shows (source_behaviour source names facts) made shown p q pl ps s t cert compiled input bytes is carries in
      (h.0, as_main shown alike h.0 h.1)

  pub source_shows : meaning source names facts input ≡ Done output value counts → (n : ℕ) × EndsAsMain made output value counts pl (placed (assignment ps) q) s.claims t input cert.cycles n
  source_shows means =
      by_shown (source_shown source names facts input) refl (subst (λ r. MeansAlike r (source_shown source names facts input)) means (shown_means source names facts input))
