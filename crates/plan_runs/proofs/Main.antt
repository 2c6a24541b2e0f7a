-- A kept run of a source is a good run of its plan.
use Rattle.std.proofs.Common.{◌≡◌, ℕ, suc, ◌+◌, ◌<◌, List, [], ◌∷◌, length, Option, Some, None, refl, sym, ◌∙◌, subst, arith, All, add-one}
use Rattle.std.specs.List.{range_with_len}
use Rattle.std.specs.Prelude.{get_or, slice_index_or, sum_by}
use Rattle.std.proofs.lemmas.List.Elements.{All-map}
use Rattle.std.proofs.lemmas.List.FromFn.{get_or-range_with_len, length-range_with_len}
use Rattle.std.proofs.lemmas.List.Sums.{sum_by-cons}
use Rattle.facts_definitions.specs.declared.facts.Restriction.{Restriction}
use Rattle.meaning_semantics.specs.Runs.{calls, first_violated, main_called}
use Rattle.meaning_semantics.specs.State as source
use Rattle.meaning_semantics.specs.declared.outcome.Flow.{Flow}
use Rattle.c_tree.specs.declared.expression.NameId.{NameId}
use Rattle.high_ir.specs.Meaning.{Given, World}
use Rattle.high_ir.specs.Runs as runs
use Rattle.high_ir.specs.Runs.{count_of, hrun, run_of}
use Rattle.high_ir.specs.Tree as high
use Rattle.plan_runs.specs.Claims.{Answers, GivesBack, Handed}
use Rattle.plan_runs.specs.ExpressionFits.{Signatures}
use Rattle.plan_runs.specs.Meets.{Layout, IsLayout, MeetsWorld}
use Rattle.plan_runs.specs.Flows.{Rest}
use Rattle.plan_runs.specs.Serves.{AllServe, source_with}
use Rattle.plan_runs.proofs.Calls.{calls_meet}
use Rattle.high_pass.specs.Carries.{RunsAlike}
use Rattle.high_pass.specs.Listing.{Listing}
use Rattle.plan_runs.specs.Kept.{Begins, BeginsAlike, begun_from, kept_run, same_mark, same_marks, shown_unless, source_ran}

alone_sum : (f : ℕ → ℕ) (m : ℕ) → sum_by f (m ∷ []) ≡ f m
alone_sum f m = sum_by-cons f m [] ∙ none (f m)
  where
    none : (a : ℕ) → a + 0 ≡ a
    none a = omega arith

range_below : (n i d : ℕ) → i < length (range_with_len 0 n) → get_or (range_with_len 0 n) i d < n
range_below n i d lt =
    let here : i < n = subst (λ m. i < m) (length-range_with_len 0 n) lt in
    omega (arith, here, get_or-range_with_len 0 n i d here)

module _ (layout : Layout) (placed : IsLayout layout) (signatures : Signatures) (rest : Rest) (p : high.Program) (serve : AllServe layout signatures rest p.functions) (first : List ℕ → source.State) (begins : Begins layout signatures rest p first) (names : List NameId) (restrictions : List Restriction) (listing : Listing)
    (marks_are : listing.marks ≡ same_marks p.marks) (none_never : listing.nevers ≡ []) where
  -- the counts of a run, mark by mark
  counts_alike : (st : source.State) (w : World) (trace : List ℕ) → MeetsWorld layout st w trace → All (λ e. slice_index_or st.counts e.old 0 ≡ sum_by (λ k. count_of k trace) e.new) listing.marks
  counts_alike st w trace m =
      subst (All (λ e. slice_index_or st.counts e.old 0 ≡ sum_by (λ k. count_of k trace) e.new)) (sym marks_are)
      (All-map (λ e. slice_index_or st.counts e.old 0 ≡ sum_by (λ k. count_of k trace) e.new) same_mark (range_with_len 0 p.marks)
      (λ i d lt. m.counts (get_or (range_with_len 0 p.marks) i d) (within i d lt) ∙ sym (alone_sum (λ k. count_of k trace) (get_or (range_with_len 0 p.marks) i d))))
    where
      within : (i d : ℕ) → i < length (range_with_len 0 p.marks) → get_or (range_with_len 0 p.marks) i d < length st.counts
      within i d lt = subst (λ n. get_or (range_with_len 0 p.marks) i d < n) (begins.marks_are ∙ sym m.marks_are) (range_below p.marks i d lt)

  shows : (violated : Option ℕ) (result : Option ℕ) (st0 st1 : source.State) (o : Option Given) → Answers layout (layout.rank p.main) (signatures.results p.main) st0 result st1 o → RunsAlike listing (shown_unless violated result st1) (run_of o)
  shows (Some at) result st0 st1 o a = tt
  shows None result st0 st1 o a =
      subst (λ r. RunsAlike listing (shown_unless None result st1) (run_of r)) (sym a.runs)
      (record {
        value = a.value;
        output = a.meets.output;
        counts = counts_alike st1 a.given.world a.given.trace a.meets;
        nevers = subst (All (λ v. count_of v.mark a.given.trace ≡ 0)) (sym none_never) (λ i d lt. absurd (nothing_there i lt));
      })
    where
      nothing_there : (i : ℕ) → i < 0 → ⊥
      nothing_there i lt = omega (arith, lt)

  gives : (st0 : source.State) (result : source.Outcome (Option ℕ)) (o : Option Given) → GivesBack layout (layout.rank p.main) (signatures.results p.main) st0 result o → RunsAlike listing (kept_run names restrictions result) (run_of o)
  gives st0 (source.Stopped stop) o g = tt
  gives st0 (source.Fine result st1) o g = shows (first_violated names st1.counts restrictions) result st0 st1 o g

  -- main is called
  main_gives : (input : List ℕ) (st : source.State) → MeetsWorld layout st (runs.start p.objects input) [] → RunsAlike listing (kept_run names restrictions (main_called (source_with layout rest) p.main (layout.rank p.main) st)) (hrun p input)
  main_gives input st m =
      subst (λ r. RunsAlike listing (kept_run names restrictions (main_called (source_with layout rest) p.main (layout.rank p.main) st)) (run_of (runs.calls Some p.functions (suc r) p.main [] [] (runs.start p.objects input) []))) (sym begins.main_rank)
      (gives st (main_called (source_with layout rest) p.main (layout.rank p.main) st) (runs.calls Some p.functions (suc (layout.rank p.main)) p.main [] [] (runs.start p.objects input) [])
      (subst (λ d. GivesBack layout (layout.rank p.main) (signatures.results p.main) st (calls (source_with layout rest) d p.main [] 0 st) (runs.calls Some p.functions (suc (layout.rank p.main)) p.main [] [] (runs.start p.objects input) [])) (sym (add-one (layout.rank p.main)))
      ((calls_meet layout placed signatures rest p.functions serve (suc (layout.rank p.main))).by p.main 0 [] [] [] st (runs.start p.objects input) [] (itself (layout.rank p.main))
      (subst (λ formals. Handed layout formals [] [] []) (sym begins.main_takes) (refl, refl)) m)))
    where
      itself : (n : ℕ) → n < suc n
      itself n = omega arith

  pub kept_runs : (input : List ℕ) → RunsAlike listing (kept_run names restrictions (source_ran layout rest p.main (first input))) (hrun p input)
  kept_runs input = of (begun_from layout rest (first input)) (begins.alike input)
    where
      of : (o : source.Outcome Flow) → BeginsAlike layout p.objects input o → RunsAlike listing (kept_run names restrictions (source.then_do o (λ flow st1. main_called (source_with layout rest) p.main (layout.rank p.main) st1))) (hrun p input)
      of (source.Stopped stop) m = tt
      of (source.Fine flow st) m = main_gives input st m
