-- The loop claims on what a source becomes have the starts of its loops.
use Rattle.std.proofs.Common.{◌≡◌, ℕ, ◌<◌, ◌≤◌, ⊎_elim, Bool, List, [], length, map, Some, refl, sym, ap, ◌∙◌, subst, arith, Contains, All}
use Rattle.std.specs.Prelude.{if◌then◌else◌, slice_index_or}
use Rattle.std.proofs.lemmas.Bool.{cases_lt, lt-ltb}
use Rattle.std.proofs.lemmas.List.{get_or_past}
use Rattle.std.proofs.lemmas.List.Elements.{All-contains, All-map}
use Rattle.std.proofs.lemmas.Option.{get_or_from_slice_get, slice_get-get_or, slice_get_within}
use Rattle.code_flow_system.specs.declared.claims.LoopClaim.{LoopClaim}
use Rattle.facts_loops.specs.Loops.{SourceLoop}
use Rattle.high_ir.specs.Formed.{IsHigh}
use Rattle.high_ir.specs.Runs.{count_of}
use Rattle.high_ir.specs.Standing.{Bounded, Bounds, loops_in, loops_of}
use Rattle.high_ir.specs.Tree as high
use Rattle.high_pass.specs.Carries.{AreBy, Behaviour, Carries, bounds_of}
use Rattle.high_pass.specs.Composing.{no_origin, origin_among}
use Rattle.high_pass.specs.Listing.{Listing, listed_loops}
use Rattle.high_pass.specs.declared.origin.Origin.{Origin}
use Rattle.high_pass.proofs.Continuing.{loops_below}
use Rattle.high_pass.proofs.Elements.{All-map_back, Contains-flat_map}
use Rattle.high_pass.proofs.Origins.{finds_among}
use Rattle.plan_carried.proofs.Bounds.{AreBy-starts}
use Rattle.plan_carried.proofs.Numbers.{bounds_found}
use Rattle.plan_carried.specs.Loops.{bounded as in_passes}
use Rattle.low_ir.specs.Code.{Loop, Low}
use Rattle.low_ir.specs.Places.{Assignment, Placed, placed}
use Rattle.lower_budget.specs.Costs.{bounded}
use Rattle.lower_law.specs.Programs.{KeepsProgram}
use Rattle.register_places.proofs.Ways.{of_function}
use Rattle.asm_program.specs.Functions.{PlacedFunction, function_in, no_function}
use Rattle.claims_definition.specs.ClaimLaws.{AreLoopClaims, IsClaimOf}
use Rattle.claims_definition.specs.Listed.{Laid, loops_of as claims_of_loops}
use Rattle.compile_claims.specs.Named.{by_entries}
use Rattle.promise_report.specs.Facts.{IsLoopLine}
use Rattle.compile_names.proofs.Lists.{mapped}

abbrev bounds_in : LoopClaim → Bounds
bounds_in c = record { least = c.min; most = c.max }

module _ (sources : List SourceLoop) (old : Behaviour) (loops_are : old.loops ≡ map in_passes sources) (p : high.Program) (made : Listing) (carries : Carries old p made) (is_high : IsHigh p) where
  -- of which loop a loop of the program is a copy
  abbrev IsCopy : ℕ → Origin → Type 0
  IsCopy j o = (1 ≤ o.factor) × AreBy (bounds_of old.loops o.old) o.factor (bounds_of (loops_in p.functions) j)

  is_copy : (j : ℕ) → j < p.loops → IsCopy j (origin_among made.loops j no_origin)
  is_copy j low =
      let once : count_of j (listed_loops made) ≡ 1 = carries.lists.loops j ∙ ap (λ (b : Bool). if b then 1 else 0) (lt-ltb j p.loops low) in
      finds_among IsCopy j made.loops no_origin carries.bounds (omega (arith, once))

  -- a claim of a loop of the program, named by that of the source
  claim_line : (c : LoopClaim) (b : Bounded) → Contains (loops_in p.functions) b → c.source ≡ b.id → bounds_in c ≡ b.bounds → IsLoopLine sources (by_entries made.loops c)
  claim_line c b there number bounds =
      let loops = loops_in p.functions in
      let o : Origin = origin_among made.loops c.source no_origin in
      let found : bounds_of loops b.id ≡ Some b.bounds = All-contains (λ (l : Bounded). bounds_of loops l.id ≡ Some l.bounds) loops b (bounds_found loops 0 p.loops is_high.loops) there in
      let low : b.id < p.loops = All-contains (λ (l : Bounded). l.id < p.loops) loops b (All-map_back (λ x. x < p.loops) (λ (l : Bounded). l.id) loops (loops_below p is_high)) there in
      let is = is_copy c.source (subst (λ n. n < p.loops) (sym number) low) in
      record { number = o.old; source = refl; factor = is.0; starts = AreBy-starts sources o.old o.factor (bounds_in c) (subst (λ ls. AreBy (bounds_of ls o.old) o.factor (Some (bounds_in c))) loops_are (subst (AreBy (bounds_of old.loops o.old) o.factor) (ap (bounds_of loops) number ∙ found ∙ ap Some (sym bounds)) is.1)) }

  module _ (q : Low) (keeps : KeepsProgram p q) (a : Assignment) where
    -- the loops of a function over places are loops of the program
    loop_there : (f : ℕ) (k : Loop) → Contains (function_in (placed a q) f).loops k → Contains (loops_in p.functions) (bounded k)
    loop_there f k there = ⊎_elim
        (λ (low : f < length (placed a q).functions).
        let g = function_in (placed a q) f in
        let h = of_function a 0 q.functions f g (slice_get-get_or (placed a q).functions f no_function low) in
        let from = keeps.functions f h.fn h.there in
        let own : Contains (loops_of from.function.body) (bounded k) = subst (λ ls. Contains ls (bounded k)) from.loops (mapped bounded h.fn.loops k (subst (λ ls. Contains ls k) (sym h.loops) there)) in
        Contains-flat_map (λ (f : high.Function). loops_of f.body) p.functions from.number from.function (bounded k) (slice_get_within p.functions from.number from.function from.there)
        (get_or_from_slice_get p.functions from.number from.function from.function from.there) own)
        (λ (high : length (placed a q).functions ≤ f). none k (subst (λ (fn : PlacedFunction). Contains fn.loops k) (get_or_past (placed a q).functions f no_function high) there))
        (cases_lt f (length (placed a q).functions))
      where
        none : (k : Loop) → Contains [] k → Contains (loops_in p.functions) (bounded k)
        none k (n, lt, e) = absurd (omega arith)

    pub loops_lined : (l : Laid) → l.program ≡ placed a q → AreLoopClaims l → All (IsLoopLine sources) (map (by_entries made.loops) (claims_of_loops l))
    loops_lined l over claims = All-map (IsLoopLine sources) (by_entries made.loops) (claims_of_loops l) (λ i d lt. of (slice_index_or (claims_of_loops l) i d) (claims.each i d lt))
      where
        of : (c : LoopClaim) → IsClaimOf l c → IsLoopLine sources (by_entries made.loops c)
        of c h =
            claim_line c (bounded h.loop) (loop_there h.function h.loop (subst (λ (x : Placed). Contains (function_in x h.function).loops h.loop) over h.there)) (ap (λ (x : LoopClaim). x.source) h.is)
            (ap bounds_in h.is)
