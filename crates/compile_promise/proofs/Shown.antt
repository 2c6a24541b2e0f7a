-- What is shown of a program in the high form is shown of its image.
use Rattle.std.proofs.Common.{◌≡◌, ℕ, ◌<◌, ◌≤◌, ℤ, pos, ◌+ℤ◌, List, [], ◌∷◌, Option, Some, None, refl, sym, ap, ◌∙◌, subst, All}
use Rattle.std.specs.Prelude.{◌==◌, count_by, sum_by}
use Rattle.std.proofs.Math.IntN.{pos-+ℤ-pos}
use Rattle.std.proofs.lemmas.List.Sums.{sum_by-cons}
use Rattle.frac128.specs.Terms.{int_sum_by}
use Rattle.rv_core.specs.Arithmetic.{signed}
use Rattle.rv_core.specs.Code.{decoded}
use Rattle.rv_core.specs.Machine.{Exited}
use Rattle.rv_core.specs.Runs.{setup}
use Rattle.rv_core.specs.Table.{Table}
use Rattle.rv_core.proofs.Constancy.{mrun-fetched}
use Rattle.code_flow_system.specs.declared.cert.Cert.{Cert}
use Rattle.code_flow_system.specs.KeptRuns.{KeepsClaims, RunsAreFlows}
use Rattle.code_flow_system.specs.Systems.{System}
use Rattle.code_flow_system.proofs.DualityLemmas.{bounds_runs}
use Rattle.code_flow_system.proofs.RunLemmas.{runs_are_flows}
use Rattle.high_ir.specs.Runs.{Run, count_of, hrun}
use Rattle.high_ir.specs.Tree.{Program}
use Rattle.high_pass.specs.Carries.{Behaviour, Carries, RunsAlike, Shown, ShowsAlike}
use Rattle.high_pass.specs.Listing.{Listing}
use Rattle.low_ir.specs.Code.{Low}
use Rattle.low_ir.specs.Places.{Assignment, Placed, Placing, assignment, placed}
use Rattle.image_frames.specs.Memories.{Placement}
use Rattle.image_definition.specs.Images.{image_in}
use Rattle.lower_program.specs.Kept.{IsKept, Keeps}
use Rattle.simulation_kept.specs.Laws.{run_of}
use Rattle.layout_relation.specs.Kept.{KeepsRun}
use Rattle.compile_promise.specs.Shows.{EndsWithin, IsCompiled, ShowsIt, passed}

-- sums of counts
sum_counted : (f : ℕ → ℤ) (g : ℕ → ℕ) → ((k : ℕ) → f k ≡ pos (g k)) → (ks : List ℕ) → int_sum_by f ks ≡ pos (sum_by g ks)
sum_counted f g same [] = refl
sum_counted f g same (k ∷ ks) =
    ap (λ z. z +ℤ int_sum_by f ks) (same k)
    ∙ ap (λ z. pos (g k) +ℤ z) (sum_counted f g same ks)
    ∙ pos-+ℤ-pos (g k) (sum_by g ks)
    ∙ ap pos (sym (sum_by-cons g k ks))

module _ (old : Behaviour) (made : Listing) (shown : Shown) (p : Program) (q : Low) (pl : Placement) (ps : List Placing) (s : System) (t : Table) (c : Cert) (compiled : IsCompiled old p made q pl ps s t c) (input : List ℕ) (bytes : All (λ b. b < 256) input) (is : old.runs input ≡ Some shown) where
  abbrev a : Assignment
  a = assignment ps

  abbrev over : Placed
  over = placed a q

  -- the flow system says of the image's runs what it says of all
  flows : RunsAreFlows (image_in pl over) t s
  flows =
      runs_are_flows (image_in pl over) t s compiled.system
      (λ table given m at. ap decoded (mrun-fetched (setup (image_in pl over) table given) m at compiled.keeps_low.loadable))

  in_time : (n : ℕ) → KeepsClaims s.claims (run_of pl over t input n) → (run_of pl over t input n).state.cycles ≤ c.cycles
  in_time n keeps = bounds_runs (image_in pl over) t s c compiled.scale compiled.accepted flows input n keeps

  -- a run of the machine that ends as one of the low program
  of_run : (r : Run) → ShowsAlike made shown r → (kept : Keeps q input r) → (n : ℕ) → KeepsRun pl ps q t input r.value kept.world n → EndsWithin made shown pl over s.claims t input c.cycles n
  of_run r alike kept n ran =
      let ends = ran.ends in
      let mark : (k : ℕ) → passed pl over (run_of pl over t input n) k ≡ pos (count_of k r.trace) = λ k.
      ran.passes k ∙ ap pos (ap (count_by (λ x. x == k)) kept.marks) in
      let shows : ShowsIt made shown pl over (run_of pl over t input n) = record {
        ending = ends.ending ∙ ap (λ v. Exited (signed v)) alike.value;
        output = ends.output ∙ kept.output ∙ alike.output;
        counts = λ k d lt. sum_counted (passed pl over (run_of pl over t input n)) (λ m. count_of m r.trace) mark _ ∙ ap pos (sym (alike.counts k d lt));
        nevers = λ k d lt. mark _ ∙ ap pos (alike.nevers k d lt);
      } in
      let keeps = compiled.kept input shown (run_of pl over t input n) is shows (ran.claims compiled.own compiled.has_own) in
      record { shows = shows; keeps = keeps; within = in_time n keeps }

  by_run : (o : Option Run) → RunsAlike made (Some shown) o → IsKept q input o → (n : ℕ) × EndsWithin made shown pl over s.claims t input c.cycles n
  by_run None alike kept = absurd alike
  by_run (Some r) alike kept =
      let ran = compiled.keeps_low.runs t input bytes kept.steps r.value kept.world kept.good in
      (ran.0, of_run r alike kept ran.0 ran.1)

  pub image_shows : Carries old p made → (n : ℕ) × EndsWithin made shown pl over s.claims t input c.cycles n
  image_shows carries = by_run (hrun p input) (subst (λ o. RunsAlike made o (hrun p input)) is (carries.runs input)) (compiled.keeps_program.runs compiled.whole input bytes)
