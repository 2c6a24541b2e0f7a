-- The texts of what a source becomes are short.
use Rattle.std.proofs.Common.{◌≡◌, ℕ, ◌+◌, ◌*◌, ◌≤◌, List, ◌++◌, length, sym, ap, ◌∙◌, subst, arith, All}
use Rattle.std.specs.Prelude.{sum_by}
use Rattle.std.specs.List.{flat_map}
use Rattle.std.proofs.lemmas.List.{length-map}
use Rattle.std.proofs.lemmas.List.Sorted.{length_permutation}
use Rattle.wcc_base.specs.Budgets.{most_instructions, most_operations}
use Rattle.rv_core.specs.Images.{AreLoadable, Image}
use Rattle.rv_core.specs.Table.{Table}
use Rattle.elf_image.specs.Text.{text_of}
use Rattle.code_flow_system.specs.Claims.{Claims}
use Rattle.code_flow.specs.Sizes.{EndsWithin, HasFew, Words, count}
use Rattle.code_flow.proofs.Few.{has_few}
use Rattle.facts_definitions.specs.declared.facts.Facts.{Facts}
use Rattle.facts_sources.specs.Sources.{IsSource}
use Rattle.facts_limits.proofs.Limited.{are_limited}
use Rattle.types_tree.specs.Tree.{Program}
use Rattle.high_pass.specs.Listing.{LoopEntry}
use Rattle.low_ir.specs.Placings.{assignment_of, placed_of}
use Rattle.low_ir.specs.Programs.{low_of}
use Rattle.claims_definition.specs.Listed.{Laid, claims_of, places_below}
use Rattle.claims_image.specs.Images.{laid_of}
use Rattle.report_laws.specs.Typed.{IsTyped}
use Rattle.report_laws.specs.Room.{columns_room, copies_room, facts_room, shares_room}
use Rattle.report_laws.proofs.Lengths.{short as text_short}
use Rattle.report_text.specs.Lines.{report_text}
use Rattle.report_text.specs.Reports.{Report}
use Rattle.promise_compiler.specs.Lengths.{AreShort}
use Rattle.compile_claims.specs.Named.{by_entries, named, nevers_at}
use Rattle.compile_restrictions.specs.Laws.{AreFactClaims}
use Rattle.compile_restrictions.specs.Told.{places_many}
use Rattle.compile_stages.specs.declared.made.Made.{Made}
use Rattle.compile_stages.specs.Made.{IsMade, copies_of, high_of}
use Rattle.compile_names.proofs.Counted.{counted_named}
use Rattle.compile_report_law.specs.Reported.{IsReported}
use Rattle.compile_report_law.proofs.Openings.{functions_counted}
use Rattle.compile_report_law.proofs.Reports.{is_report, restricted}
use Rattle.compile_high_definitions.specs.Limits.{IsLimited}
use Rattle.compile_promise.proofs.LengthCopies.{addresses_few, copies_few}
use Rattle.compile_promise.proofs.Ends.{code_ends, words_in}
use Rattle.compile_claim_limits.proofs.Counts.{claims_loops, exits_few, image_short, instructions, low_functions, places_few, regions_few}
use Rattle.compile_promise.proofs.Facts.{columns_few, facts_few}
use Rattle.compile_promise.proofs.Names.{functions_short, ids_append, ids_length, markers_short}
use Rattle.compile_promise.proofs.LengthShares.{shares_few}

module _ (source : List ℕ) (names : List (List ℕ)) (program : Program) (facts : Facts) (m : Made) (t : Table) (r : Report) (small : length source ≤ 1048576) (is : IsSource source names program facts) (made : IsMade names program facts m) (reported : IsReported t names facts m r) (typed : IsTyped r) where
  abbrev own : Laid
  own = laid_of m.placement (placed_of m.code)

  abbrev es : List LoopEntry
  es = (copies_of m).loops

  limited : IsLimited (high_of m)
  limited = made.carried.limited

  claims_are : r.claims ≡ named es r.claims.nevers r.claims.facts (claims_of own)
  claims_are = reported.claims.claims ∙ ap (named es r.claims.nevers r.claims.facts) made.in_memory.laid.claimed.claims

  -- the addresses of copies and those that are never visited
  addresses : places_many r.names + length r.claims.nevers ≤ most_operations
  addresses =
      let places = m.laid.lists.places.items in
      let few = addresses_few names places (copies_of m) (high_of m).marks made.carried.carries.lists.marks (facts.functions ++ facts.markers) r.names reported.lines in
      let standing = places_few (high_of m) made.carried.is_high limited m.code made.lowered m.placement m.laid made.in_memory m.code.low.marks in
      let same : sum_by (λ (l : List ℕ). length l) places ≡ sum_by (λ (l : List ℕ). length l) (places_below own m.code.low.marks) = ap (λ ls. sum_by (λ (l : List ℕ). length l) ls) made.in_memory.laid.lists.places in
      let nevers = length_permutation (flat_map (nevers_at places) (copies_of m).nevers) r.claims.nevers reported.claims.nevers.all in
      omega (arith, few, standing, same, nevers)

  exits : length r.claims.exits ≤ most_instructions
  exits = subst (λ (c : Claims). length c.exits ≤ most_instructions) (sym claims_are) (exits_few (high_of m) made.carried.is_high limited m.code made.lowered m.placement m.laid made.in_memory)

  regions : length r.claims.regions ≤ most_instructions
  regions = subst (λ (c : Claims). length c.regions ≤ most_instructions) (sym claims_are) (regions_few (high_of m) made.carried.is_high limited m.code made.lowered m.placement m.laid made.in_memory)

  loops : length r.claims.loops ≤ most_operations
  loops =
      let many = length-map (claims_of own).loops (by_entries es) in
      let few = claims_loops (high_of m) made.carried.is_high limited m.code made.lowered m.placement m.laid made.in_memory in
      subst (λ (c : Claims). length c.loops ≤ most_operations) (sym claims_are) (omega (arith, many, few))

  -- names, and where they stand
  ids_few : ids_length names (facts.functions ++ facts.markers) ≤ 2097152
  ids_few =
      let both = ids_append names facts.functions facts.markers in
      let functions = functions_short source names program facts is in
      let markers = markers_short source names program facts is in
      omega (arith, both, functions, markers, small)

  copies : copies_room r.names ≤ 14680064 + 9 * places_many r.names
  copies =
      let few = copies_few names m.laid.lists.places.items (facts.functions ++ facts.markers) (copies_of m).marks r.names reported.lines (counted_named source names program facts is) in
      omega (arith, few, ids_few)

  -- restrictions over these addresses, and the columns of a search
  restrictions_few : length facts.restrictions ≤ 32
  restrictions_few = (are_limited source names program facts is).few

  told : AreFactClaims facts r.names r.claims.facts
  told = restricted source names program facts m t r is made reported

  restrictions : facts_room r.claims.facts ≤ 1632 + 1280 * places_many r.names
  restrictions = facts_few facts r.names r.claims.facts restrictions_few told

  columns : columns_room r.columns ≤ 258800
  columns =
      let count = told.count in
      let few = reported.columns.few in
      let room = columns_few (length r.claims.facts) r.columns (omega (arith, restrictions_few, count)) (is_report source names program facts m t r is made reported).columns in
      omega (arith, few, room)

  shares : shares_room r.shares ≤ 1065025
  shares =
      let many = functions_counted source names program facts is ∙ sym made.carried.carries.functions in
      let few = shares_few names facts.functions (high_of m) (low_of m.code.low) made.lowered.keeps_program many (assignment_of m.code) m.placement t reported.system r.cert.flow.parts r.kind m.laid.lists.ranges.items r.shares reported.shared made.in_memory.laid.lists.ranges in
      let functions = low_functions (high_of m) made.carried.is_high limited m.code made.lowered m.placement m.laid made.in_memory in
      let called = functions_short source names program facts is in
      omega (arith, few, functions, called, small)

  abbrev words : Words
  words = words_in m.placement (placed_of m.code)

  certificate : HasFew (count words) r.cert
  certificate =
      let loadable = subst (λ (i : Image). AreLoadable i.segments) (sym made.in_memory.laid.image) made.in_memory.keeps_low.loadable in
      let end = subst (λ (i : Image). All (EndsWithin words) i.segments) (sym made.in_memory.laid.image) (code_ends m.placement (placed_of m.code)) in
      has_few words m.laid.image r.claims t reported.system r.cert loadable end reported.is_system reported.form reported.accepted

  pub short : AreShort (text_of m.laid.image) (report_text r)
  short =
      let image = image_short (high_of m) made.carried.is_high limited m.code made.lowered m.placement m.laid made.in_memory in
      let same = ap (λ i. length (text_of i)) made.in_memory.laid.image in
      let report = is_report source names program facts m t r is made reported in
      let text = text_short r report typed in
      let potentials = certificate.potentials in
      let parts = certificate.parts in
      let code : count words ≤ most_instructions = instructions (high_of m) made.carried.is_high limited m.code made.lowered m.placement m.laid made.in_memory in
      record {
        image = omega (arith, image, same);
        report = omega (arith, text, copies, exits, addresses, regions, loops, restrictions, columns, potentials, parts, code, shares);
      }
