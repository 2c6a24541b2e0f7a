-- The flow of a report is at the addresses of each item of its image less than 2^100 times.
use Rattle.std.proofs.Common.{◌≡◌, ℕ, suc, ◌+◌, ◌*◌, ◌^◌, ◌<◌, ◌≤◌, ℤ, pos, ◌*ℤ◌, ◌≤ℤ◌, Bool, true, false, zero, List, [], ◌∷◌, ◌++◌, map, length, refl, sym, ap, subst, ◌∙◌, arith, All}
use Rattle.std.specs.List.{range_with_len}
use Rattle.std.proofs.Math.Nat.{mul-le-mul}
use Rattle.std.proofs.lemmas.Int.{ints}
use Rattle.std.proofs.lemmas.List.Elements.{All-append, All-cons, All-nil}
use Rattle.rv_core.specs.declared.costs.Costs.{Costs}
use Rattle.rv_core.specs.Table.{Table, table_of}
use Rattle.code_flow_system.specs.declared.cert.Mark.{Mark}
use Rattle.code_flow_system.specs.declared.cert.Mark.TheVariants.{Greatest, Empty, Neither}
use Rattle.code_flow_system.specs.declared.cert.Part.{Part}
use Rattle.code_flow_system.specs.Certificates.{FitsMark, IsInForm, KeepsMark, listed}
use Rattle.code_flow_system.specs.Claims.{Claims}
use Rattle.code_flow_system.specs.Counts.{Amounts}
use Rattle.code_flow_system.specs.Loose.{IsLoose, KeepsTurns}
use Rattle.code_flow_system.specs.Systems.{System, IsSystemOf}
use Rattle.code_flow_system.proofs.DualityLemmas.{keeps_promise}
use Rattle.code_flow_system.proofs.LooseLemmas.{flows_are_loose, goes_back}
use Rattle.path_conditions.specs.Searching.{CanSearch}
use Rattle.low_ir.specs.Code.{Object}
use Rattle.low_ir.specs.Places.{Placed}
use Rattle.low_ir.specs.Placings.{placed_of}
use Rattle.low_ir.specs.Room.{weight}
use Rattle.image_definition.specs.Images.{image_in}
use Rattle.claims_definition.specs.Listed.{Laid, claims_of}
use Rattle.claims_definition.specs.ClaimLaws.{Rise}
use Rattle.claims_image.specs.Images.{laid_of}
use Rattle.claims_definition.specs.Movables.{Movable, array_item, arrays_from, function_item, is_local, movables_of, unless, movable_of}
use Rattle.high_pass.specs.Listing.{LoopEntry}
use Rattle.high_pass.proofs.Elements.{All-map_back}
use Rattle.facts_definitions.specs.declared.facts.Facts.{Facts}
use Rattle.facts_sources.specs.Sources.{IsSource}
use Rattle.types_tree.specs.Tree.{Program}
use Rattle.report_text.specs.Reports.{Report}
use Rattle.spm_placement.specs.Gains.{HasFewVisits, all_parts}
use Rattle.compile_bound_law.specs.Laws.{AreTold}
use Rattle.compile_bound_law.proofs.Bounds.{light, made_bounded, plain_system}
use Rattle.compile_claims.specs.ClaimLaws.{under}
use Rattle.compile_claims.specs.Named.{by_entries, named}
use Rattle.compile_stages.specs.declared.made.Made.{Made}
use Rattle.compile_stages.specs.Made.{IsMade, copies_of}
use Rattle.compile_report_law.specs.Reported.{IsReported}
use Rattle.compile_report.proofs.Parts.{made, made_total, parts_made, visits_within}

module _ (source : List ℕ) (names : List (List ℕ)) (program : Program) (facts : Facts) (m : Made) (c : Costs) (r : Report) (is : IsSource source names program facts) (is_made : IsMade names program facts m) (reported : IsReported (table_of c) names facts m r) where
  abbrev t : Table
  t = table_of c

  abbrev s : System
  s = reported.system

  abbrev p : Placed
  p = placed_of m.code

  abbrev own : Laid
  own = laid_of m.placement p

  abbrev es : List LoopEntry
  es = (copies_of m).loops

  abbrev parts : List Part
  parts = r.cert.flow.parts

  told : AreTold names facts m r.names r.claims
  told = record { lined = reported.lines; handed = reported.claims; restricted = reported.restricted }

  can : CanSearch t s m.laid.claimed.shapes.items m.laid.lists.spans.items
  can = made_bounded source names program facts m is is_made r.names r.claims told c s reported.is_system

  named_system : IsSystemOf m.laid.image (named es r.claims.nevers r.claims.facts m.laid.claimed.claims) s
  named_system = subst (λ (k : Claims). IsSystemOf m.laid.image k s) reported.claims.claims reported.is_system

  -- the system under the claims of the program alone
  abbrev plain : System
  plain = under (claims_of own) s

  is_plain : IsSystemOf (image_in m.placement p) (claims_of own) plain
  is_plain = plain_system m.placement m.code m.laid is_made.in_memory es r.claims.nevers r.claims.facts s named_system

  claims_are : s.claims ≡ named es r.claims.nevers r.claims.facts (claims_of own)
  claims_are = reported.is_system.same_claims ∙ reported.claims.claims ∙ ap (named es r.claims.nevers r.claims.facts) is_made.in_memory.laid.claimed.claims

  loose_plain : (unit : ℕ) (x : Amounts) → IsLoose s unit x → IsLoose plain unit x
  loose_plain unit x h = record {
    positive = h.positive;
    kept = h.kept;
    loops = All-map_back (KeepsTurns plain unit x) (by_entries es) (claims_of own).loops (subst (λ (d : Claims). All (KeepsTurns s unit x) d.loops) claims_are h.loops);
  }

  -- all parts are few
  form : IsInForm s.claims r.cert
  form = subst (λ (k : Claims). IsInForm k r.cert) (sym reported.is_system.same_claims) reported.form

  light_enough : 4000 * weight p < 2 ^ 60
  light_enough =
      let few = (light source names program facts m is is_made).light in
      let same = is_made.in_memory.keeps_low.rooms.weight in
      omega (arith, few, same)

  greatest : r.cert.mark ≡ Greatest → all_parts parts < 2 ^ 100
  greatest e =
      let fits = subst (λ k. FitsMark k r.cert.flow.unit parts) e form.unit in
      let keeps = subst (λ k. KeepsMark k t s r.cert) e reported.accepted.mark in
      let flow = ((keeps_promise t s r.cert form reported.accepted).greatest e).flow in
      let loose = flows_are_loose s (goes_back s s.claims.loops m.laid.claimed.shapes.items can.fit.fits.shapes can.fit.fits.loops) r.cert.flow.unit (listed parts) flow in
      let bounds = is_made.in_memory.keeps_low.flows c plain is_plain r.cert.flow.unit (listed parts) (loose_plain r.cert.flow.unit (listed parts) loose) in
      let all = made_total (listed parts) s.moves in
      let few = parts_made parts s.moves keeps.in_system form.parts in
      within (made (listed parts) s.moves) r.cert.flow.unit (weight p) (subst (λ z. z ≤ℤ (pos r.cert.flow.unit *ℤ pos (weight p))) all bounds.counts) fits.1 light_enough few
    where
      naturals : (n k : ℕ) → pos n ≤ℤ pos k → n ≤ k
      naturals n k h = omega (arith, ints, h)

      within : (n u w : ℕ) → pos n ≤ℤ (pos u *ℤ pos w) → u ≤ 2 ^ 48 → 4000 * w < 2 ^ 60 → all_parts parts ≤ n → all_parts parts < 2 ^ 100
      within n u w le unit small all =
          let narrow : w ≤ 2 ^ 49 = omega (arith, small) in
          let product = mul-le-mul unit narrow in
          let flat = naturals n (u * w) le in
          omega (arith, product, flat, all)

  none : parts ≡ [] → all_parts parts < 2 ^ 100
  none e = let empty = ap all_parts e in omega (arith, empty)

  parts_few : all_parts parts < 2 ^ 100
  parts_few = by_mark r.cert.mark refl form.unit
    where
      by_mark : (k : Mark) → r.cert.mark ≡ k → FitsMark k r.cert.flow.unit parts → all_parts parts < 2 ^ 100
      by_mark Greatest e fits = greatest e
      by_mark Empty e fits = none fits.1
      by_mark Neither e fits = none fits.1

  -- the addresses of each item rise
  risen : (i : Movable) → Rise 0 i.at → HasFewVisits parts i
  risen i rise = let some = visits_within parts 0 i.at rise in let few = parts_few in omega (arith, some, few)

  functions_few : (f n : ℕ) → f + n ≤ length p.functions → All (HasFewVisits parts) (map (function_item own) (range_with_len f n))
  functions_few f zero le = All-nil (HasFewVisits parts)
  functions_few f (suc n) le =
      All-cons (HasFewVisits parts) (function_item own f) (map (function_item own) (range_with_len (f + 1) n))
      (risen (function_item own f) (is_made.in_memory.keeps_low.functions f (omega (arith, le))).rise)
      (functions_few (f + 1) n (omega (arith, le)))

  arrays_few : (o : ℕ) (xs : List Object) → All (HasFewVisits parts) (arrays_from own o xs)
  arrays_few o [] = All-nil (HasFewVisits parts)
  arrays_few o (x ∷ xs) = by_local (is_local x.storage) (arrays_few (suc o) xs)
    where
      by_local : (b : Bool) → All (HasFewVisits parts) (arrays_from own (suc o) xs) → All (HasFewVisits parts) (unless b (array_item own o x) ++ arrays_from own (suc o) xs)
      by_local true rest = rest
      by_local false rest = All-cons (HasFewVisits parts) (array_item own o x) (arrays_from own (suc o) xs) (risen (array_item own o x) (is_made.in_memory.keeps_low.arrays o x).1) rest

  pub few : All (λ i. HasFewVisits parts (movable_of i)) m.laid.lists.items.items
  few =
      let fs = map (function_item own) (range_with_len 0 (length p.functions)) in
      let all : All (HasFewVisits parts) (movables_of own) = All-append (HasFewVisits parts) fs (arrays_from own 0 p.objects) (functions_few 0 (length p.functions) (omega arith)) (arrays_few 0 p.objects) in
      All-map_back (HasFewVisits parts) movable_of m.laid.lists.items.items (subst (All (HasFewVisits parts)) (sym is_made.in_memory.laid.lists.items) all)
