-- The machine that runs what is made of a source does what is reported.
use Rattle.std.proofs.Common.{◌≡◌, ℕ, ℤ, pos, List, [], ◌++◌, Some, refl, sym, ap, ◌∙◌, subst, All}
use Rattle.std.specs.Prelude.{slice_get, slice_index_or}
use Rattle.std.proofs.lemmas.Option.{get_or_from_slice_get, slice_get_within}
use Rattle.frac128.specs.Terms.{int_sum_by}
use Rattle.frac128.proofs.TermsLemmas.{int_sum_by-same}
use Rattle.rv_core.specs.Images.{Image}
use Rattle.rv_core.specs.Runs.{Run, mrun, setup}
use Rattle.rv_core.specs.Table.{Table}
use Rattle.code_flow_system.specs.Claims.{Claims}
use Rattle.code_flow_system.specs.declared.claims.FactClaim.{FactClaim}
use Rattle.code_flow_system.specs.declared.claims.Never.{Never}
use Rattle.code_flow_system.specs.KeptRuns.{KeepsClaims, visit_count}
use Rattle.code_flow_system.specs.Systems.{IsSystemOf}
use Rattle.c_tree.specs.declared.expression.NameId.{NameId}
use Rattle.facts_definitions.specs.declared.facts.Facts.{Facts}
use Rattle.facts_limits.specs.Limits.{AreLimited}
use Rattle.types_tree.specs.Tree.{Program}
use Rattle.high_pass.specs.Carries.{Behaviour}
use Rattle.high_pass.specs.Listing.{Listing, LoopEntry, MarkEntry}
use Rattle.high_pass.proofs.Entries.{number_at}
use Rattle.plan_carried.specs.Sources.{source_behaviour, source_marks, source_outcome}
use Rattle.low_ir.specs.Code.{Low}
use Rattle.low_ir.specs.declared.places.LowReg.{LowReg}
use Rattle.low_ir.specs.Places.{Placed, Placing}
use Rattle.low_ir.specs.Placings.{placed_of, placings_of}
use Rattle.low_ir.specs.Programs.{low_of}
use Rattle.image_definition.specs.Images.{image_in}
use Rattle.simulation_kept.specs.Laws.{run_of}
use Rattle.claims_definition.specs.Listed.{claims_of}
use Rattle.claims_image.specs.Images.{laid_of}
use Rattle.compile_promise.specs.Shows.{AreKept, EndsAsMain, IsCompiled, passed}
use Rattle.compile_promise.proofs.Sources.{source_shows}
use Rattle.compile_claims.specs.ClaimLaws.{under}
use Rattle.compile_claims.specs.Named.{named}
use Rattle.compile_claims.proofs.Bounds.{run_keeps}
use Rattle.compile_claims.proofs.Systems.{system_same}
use Rattle.promise_report.specs.Runs.{RunsAs, RunsAsSource, visits_at}
use Rattle.report_text.specs.declared.entries.CopyLine.{CopyLine}
use Rattle.report_text.specs.Reports.{Report}
use Rattle.compile_claims.specs.Places.{places_at}
use Rattle.compile_stages.specs.declared.made.Made.{Made}
use Rattle.compile_stages.specs.Made.{IsInMemory, IsMade, copies_of, high_of}
use Rattle.compile_report_law.specs.Reported.{IsReported}
use Rattle.compile_restrictions.proofs.Kept.{told_kept}
use Rattle.compile_claims.proofs.Counting.{IsSummed, lines_many, lines_summed}
use Rattle.compile_promise.proofs.RunNevers.{nevers_kept, visits_some}
use Rattle.compile_promise.proofs.Restrictions.{unviolated}
use Rattle.compile_promise.proofs.Places.{places_same}

module _ (names : List (List ℕ)) (program : Program) (facts : Facts) (m : Made) (t : Table) (r : Report) (limited : AreLimited facts) (made : IsMade names program facts m) (reported : IsReported t names facts m r) where
  abbrev listing : Listing
  listing = copies_of m

  abbrev loops : List LoopEntry
  loops = listing.loops

  abbrev code : LowReg
  code = m.code

  abbrev memory : IsInMemory m.placement code m.laid
  memory = made.in_memory

  abbrev low : Low
  low = low_of code.low

  abbrev placings : List Placing
  placings = placings_of code

  abbrev over : Placed
  over = placed_of code

  abbrev image : Image
  image = image_in m.placement over

  -- the claims on the image, by the loops of the program
  abbrev claims : Claims
  claims = claims_of (laid_of m.placement over)

  abbrev nevers : List Never
  nevers = r.claims.nevers

  abbrev restrictions : List FactClaim
  restrictions = r.claims.facts

  claims_are : r.claims ≡ named loops nevers restrictions claims
  claims_are = reported.claims.claims ∙ ap (named loops nevers restrictions) memory.laid.claimed.claims

  own_system : IsSystemOf image r.claims reported.system
  own_system = subst (λ i. IsSystemOf i r.claims reported.system) memory.laid.image reported.is_system

  system_is : IsSystemOf image (named loops nevers restrictions claims) reported.system
  system_is = subst (λ c. IsSystemOf image c reported.system) claims_are own_system

  abbrev counted : List NameId
  counted = facts.functions ++ facts.markers

  -- where a run passes the copies of each mark as often as this counts, each line has the counts of a mark
  module _ (run : Run) (counts : List ℕ) (passes : All (λ (e : MarkEntry). int_sum_by (passed m.placement over run) e.new ≡ pos (slice_index_or counts e.old 0)) listing.marks) where
    by_entry : (k : ℕ) (c : CopyLine) → IsSummed names m.laid.lists.places.items (visit_count run.visits) listing.marks k c → visits_at run.visits c ≡ pos (slice_index_or counts k 0)
    by_entry k c summed =
        let e = summed.entry in
        let past : MarkEntry = record { old = k; new = [] } in
        let number : e.old ≡ k = ap (λ (x : MarkEntry). x.old) (sym (get_or_from_slice_get listing.marks k e past summed.there)) ∙ number_at (λ (x : MarkEntry). x.old) listing.marks (source_marks program facts) k past made.carried.carries.marks refl in
        let there : slice_index_or listing.marks k e ≡ e = get_or_from_slice_get listing.marks k e e summed.there in
        let own = subst (λ (x : MarkEntry). int_sum_by (passed m.placement over run) x.new ≡ pos (slice_index_or counts x.old 0)) there (passes k e (slice_get_within listing.marks k e summed.there)) in
        summed.sum
        ∙ int_sum_by-same (λ mark. int_sum_by (visit_count run.visits) (places_at m.laid.lists.places.items mark)) (passed m.placement over run) e.new (λ mark. ap (int_sum_by (visit_count run.visits)) (places_same m.placement code m.laid made.lowered.keeps_program.is_low memory mark))
        ∙ own
        ∙ ap (λ i. pos (slice_index_or counts i 0)) number

    line_counts : (k : ℕ) (c : CopyLine) → slice_get r.names k ≡ Some c → visits_at run.visits c ≡ pos (slice_index_or counts k 0)
    line_counts k c there = by_entry k c (lines_summed names m.laid.lists.places.items (visit_count run.visits) counted listing.marks r.names reported.lines k c there)

  abbrev behaviour : Behaviour
  behaviour = source_behaviour program names facts

  -- a run that shows what the source does keeps what is reported
  kept : AreKept behaviour listing m.placement over reported.system.claims
  kept input shown run is shows keeps =
      let own = nevers_kept (visit_count run.visits) m.laid.lists.places.items listing.nevers nevers reported.claims.nevers (visits_some run.visits)
      (λ k d lt. ap (int_sum_by (visit_count run.visits)) (places_same m.placement code m.laid made.lowered.keeps_program.is_low memory _) ∙ shows.nevers k d lt) in
      let had = unviolated counted facts.restrictions shown (source_outcome program names facts input) is in
      let many = lines_many names m.laid.lists.places.items counted listing.marks r.names reported.lines in
      let held = told_kept facts r.names (visit_count run.visits) had.counts many (line_counts run had.counts (λ k d lt. shows.counts k d lt ∙ ap pos (had.are _))) restrictions limited reported.restricted had.none in
      subst (λ c. KeepsClaims c run) (sym (system_is.same_claims)) (run_keeps loops nevers restrictions claims run own held keeps)

  compiled : IsCompiled behaviour (high_of m) listing low m.placement placings reported.system t r.cert
  compiled = record {
    whole = made.carried.whole;
    keeps_program = made.lowered.keeps_program;
    keeps_low = memory.keeps_low;
    own = under claims reported.system;
    has_own = system_same loops nevers restrictions image claims reported.system refl refl system_is;
    system = subst (λ c. IsSystemOf image c reported.system) (sym own_system.same_claims) own_system;
    kept = kept;
    scale = reported.form.scale.0;
    accepted = reported.accepted;
  }

  module _ (input : List ℕ) (output : List ℕ) (value : ℤ) (counts : List ℕ) (n : ℕ) (h : EndsAsMain listing output value counts m.placement over reported.system.claims t input r.cert.cycles n) where
    abbrev run : Run
    run = run_of m.placement over t input n

    as_reported : RunsAs r output value counts run
    as_reported = record {
      ends = h.ending;
      prints = h.written;
      cycles = h.within;
      keeps = subst (λ c. KeepsClaims c run) own_system.same_claims h.keeps;
      counted = line_counts run counts h.counted;
    }

  pub runs_as_source : RunsAsSource program names facts t m.laid.image r
  runs_as_source input bytes output value counts means =
      let ends = source_shows program names facts (high_of m) listing low m.placement placings reported.system t r.cert made.carried.carries compiled input bytes output value counts means in
      (ends.0, subst (λ i. RunsAs r output value counts (mrun (setup i t input) ends.0)) (sym memory.laid.image) (as_reported input output value counts ends.0 ends.1))
