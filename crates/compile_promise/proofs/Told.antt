-- What is reported of a source tells its facts.
use Rattle.std.proofs.Common.{◌≡◌, ℕ, ◌<◌, List, ◌++◌, length, map, Some, refl, sym, ap, ◌∙◌, subst, Contains, All}
use Rattle.std.specs.Prelude.{option_map, slice_get, slice_index_or}
use Rattle.std.proofs.lemmas.Option.{none-some, slice_get-get_or, slice_get-map}
use Rattle.rv_core.specs.Table.{Table}
use Rattle.code_flow_system.specs.Claims.{Claims}
use Rattle.code_flow_system.specs.declared.claims.LoopClaim.{LoopClaim}
use Rattle.facts_definitions.specs.declared.facts.Facts.{Facts}
use Rattle.facts_loops.specs.Loops.{source_loops}
use Rattle.facts_sources.specs.Sources.{IsSource}
use Rattle.types_tree.specs.Tree.{Program}
use Rattle.asm_items.specs.Placings.{base_of}
use Rattle.plan_carried.specs.Sources.{source_behaviour}
use Rattle.high_pass.specs.Listing.{LoopEntry, mark_copies}
use Rattle.claims_definition.specs.Listed.{Laid, by_address, claims_of, code_range, placing}
use Rattle.claims_definition.proofs.Blocks.{order_below}
use Rattle.claims_image.specs.Images.{laid_of}
use Rattle.claims_lists.specs.Lists.{range_of}
use Rattle.claims_lists.specs.declared.ranges.CodeRange as lists
use Rattle.low_ir.specs.Code.{Low}
use Rattle.low_ir.specs.Places.{Assignment, assignment, placed}
use Rattle.low_ir.specs.Placings.{placings_of}
use Rattle.low_ir.specs.Programs.{low_of}
use Rattle.code_flow_answer.specs.declared.bounded.Kind.{Kind}
use Rattle.code_flow_answer.specs.declared.bounded.Kind.TheVariants.{Greatest, Empty, Wide, Spent}
use Rattle.compile_claims.specs.Shares.{named, share_of}
use Rattle.report_shares.specs.Shares.{with_sum}
use Rattle.report_text.specs.declared.entries.Share.{Share}
use Rattle.report_text.specs.Reports.{Report}
use Rattle.compile_claims.specs.Named.{named as renamed}
use Rattle.compile_stages.specs.declared.made.Made.{Made}
use Rattle.compile_stages.specs.Made.{IsMade, copies_of, high_of}
use Rattle.promise_report.specs.Facts.{IsLoopLine, TellsFacts}
use Rattle.compile_report_law.specs.Reported.{AreShared, IsReported}
use Rattle.compile_report_law.proofs.Openings.{functions_counted}
use Rattle.compile_promise.proofs.Copies.{names_told}
use Rattle.compile_names.proofs.Lists.{map_got}
use Rattle.compile_promise.proofs.Loops.{loops_lined}
use Rattle.compile_names.proofs.Naming.{functions_apart}
use Rattle.compile_promise.proofs.Nevers.{nevers_lined}
use Rattle.compile_promise.proofs.Shares.{name_at, names_differ, share_lined}

-- the shares are those with sums, or there are none
shared_got : (k : Kind) (all shares : List Share) → AreShared k all shares → (i : ℕ) (s : Share) → slice_get shares i ≡ Some s → slice_get all i ≡ Some s
shared_got Greatest all shares h i s e = ap (λ l. slice_get l i) (sym h) ∙ e
shared_got Empty all shares h i s e = absurd (none-some s (ap (λ l. slice_get l i) (sym h) ∙ e))
shared_got (Wide pivot) all shares h i s e = absurd (none-some s (ap (λ l. slice_get l i) (sym h) ∙ e))
shared_got (Spent columns pivots) all shares h i s e = absurd (none-some s (ap (λ l. slice_get l i) (sym h) ∙ e))

module _ (source : List ℕ) (names : List (List ℕ)) (program : Program) (facts : Facts) (m : Made) (t : Table) (r : Report) (is : IsSource source names program facts) (made : IsMade names program facts m) (reported : IsReported t names facts m r) where
  abbrev q : Low
  q = low_of m.code.low

  abbrev a : Assignment
  a = assignment (placings_of m.code)

  abbrev own : Laid
  own = laid_of m.placement (placed a q)

  abbrev es : List LoopEntry
  es = (copies_of m).loops

  claims_are : r.claims ≡ renamed es r.claims.nevers r.claims.facts (claims_of own)
  claims_are = reported.claims.claims ∙ ap (renamed es r.claims.nevers r.claims.facts) made.in_memory.laid.claimed.claims

  many : length facts.functions ≡ length (high_of m).functions
  many = functions_counted source names program facts is ∙ sym made.carried.carries.functions

  openings : (f : ℕ) → f < length (high_of m).functions → Contains (mark_copies (copies_of m).marks f) f
  openings f low = made.carried.carries.openings f (subst (λ n. f < n) made.carried.carries.functions low)

  -- the function whose code a share has
  record HasCode (i : ℕ) (s : Share) : Type 0 where
    function : ℕ
    place : slice_get (by_address own) i ≡ Some function
    name : s.name ≡ name_at names facts.functions (high_of m) q made.lowered.keeps_program a m.placement many function
    first : s.first ≡ base_of (placing own) function

  has_code : (i : ℕ) (s : Share) → slice_get r.shares i ≡ Some s → HasCode i s
  has_code i s e =
      let ranges = m.laid.lists.ranges.items in
      let share = share_of names facts.functions in
      let g = shared_got r.kind (map (λ h. with_sum t reported.system r.cert.flow.parts h) (map share ranges)) r.shares reported.shared i s e in
      let x = map_got (λ h. with_sum t reported.system r.cert.flow.parts h) (map share ranges) i s g in
      let y = map_got share ranges i x.0 x.1 in
      let z = map_got (code_range own) (by_address own) i (range_of y.0) (sym (ap (λ l. slice_get l i) made.in_memory.laid.lists.ranges) ∙ slice_get-map range_of ranges i ∙ ap (option_map range_of) y.1) in
      record {
        function = z.0;
        place = z.1;
        name = sym (ap (λ (h : Share). h.name) x.2) ∙ sym (ap (λ (h : Share). h.name) y.2) ∙ ap (λ h. named names facts.functions h.function) (sym z.2);
        first = sym (ap (λ (h : Share). h.first) x.2) ∙ sym (ap (λ (h : Share). h.first) y.2) ∙ ap (λ h. h.first) (sym z.2);
      }

  pub told : TellsFacts program names facts r
  told =
      let keeps = made.lowered.keeps_program in
      let kept = made.in_memory.keeps_low in
      let carries = made.carried.carries in
      let marks = (copies_of m).marks in
      let loops = source_loops program facts in
      let places = m.laid.lists.places.items in
      record {
        copies = names_told names places (facts.functions ++ facts.markers) marks r.names reported.lines;
        facts_told = reported.restricted.each;
        loops = subst (λ (cs : List LoopClaim). All (IsLoopLine loops) cs) (sym (ap (λ (c : Claims). c.loops) claims_are))
            (loops_lined loops (source_behaviour program names facts) refl (high_of m) (copies_of m) carries made.carried.is_high q keeps a own refl kept.loops);
        nevers = nevers_lined loops (source_behaviour program names facts) refl places (copies_of m).nevers carries.nevers r.claims.nevers reported.claims.nevers;
        shares = λ i d lt.
            let s = slice_index_or r.shares i d in
            let h = has_code i s (slice_get-get_or r.shares i d lt) in
            share_lined names facts.functions (high_of m) q keeps a m.placement many places made.in_memory.laid.lists.places facts.markers marks openings r.names reported.lines kept.marks kept.ranges s h.function h.name h.first;
        shares_apart = λ i j s u less e f same.
            let h = has_code i s e in
            let k = has_code j u f in
            names_differ names facts.functions (high_of m) q keeps a m.placement many (functions_apart source names program facts is) kept.ranges (order_below own kept.claims.settled) i j h.function k.function less h.place k.place (sym h.name ∙ same ∙ k.name);
      }
