-- Restrictions of a source without a fault are few, and sums of few and small terms.
use Rattle.std.proofs.Common.{◌≡◌, ℕ, ◌≤◌, Bool, true, false, List, [], ◌∷◌, ◌++◌, map, Option, Some, None, refl, sym, subst, arith, All, inl, inr, ◌⊎◌}
use Rattle.std.specs.Prelude.{◌&&◌, if◌then◌else◌, nat_lt}
use Rattle.std.proofs.lemmas.Bool.{and_parts, ltb-false, or_cases}
use Rattle.std.proofs.lemmas.List.{length-map}
use Rattle.std.proofs.lemmas.List.Elements.{All-cons, All-nil}
use Rattle.std.proofs.lemmas.Option.{none-some}
use Rattle.c_tree.specs.Size.{size_unit}
use Rattle.c_tree.specs.Tree.{Whole}
use Rattle.types_rules.specs.Typed.{fault_behind}
use Rattle.facts_definitions.specs.FlowFacts.{Known, and_one, are_counted, facts_of, first_fault, gathered, id_in, is_among, is_counted, known_of, numbered_restriction, or_else as fault_or, restriction_at, restriction_fault, restriction_of, site_fault, term_of, when_not}
use Rattle.facts_definitions.specs.PragmaTexts.{Written, WrittenTerm, restriction}
use Rattle.facts_definitions.specs.Sites.{sites_of}
use Rattle.facts_definitions.specs.declared.facts.Derived.{Derived}
use Rattle.facts_definitions.specs.declared.facts.Facts.{Facts}
use Rattle.facts_definitions.specs.declared.facts.FlowFault.{FlowFault}
use Rattle.facts_definitions.specs.declared.facts.FlowFault.TheVariants.{UnknownName}
use Rattle.facts_definitions.specs.declared.facts.Restriction.{Restriction}
use Rattle.facts_definitions.specs.declared.site.Site.{Site}
use Rattle.facts_definitions.specs.declared.site.Site.TheVariants as sites
use Rattle.facts_sources.specs.Sources.{IsSource, derived_for}
use Rattle.types_calls.specs.declared.ranks.Ranks.{Ranks}
use Rattle.types_rules.specs.Limits.{Tally, limit, limits_before, over, tally_unit}
use Rattle.types_rules.specs.Scope.{or_else}
use Rattle.types_rules.specs.Sights.{outline_of}
use Rattle.types_rules.specs.declared.fault.TypeFault.TheVariants.{Limit}
use Rattle.types_seen.specs.Units.{HasTree}
use Rattle.types_seen.proofs.Rules.{none_first, none_second}
use Rattle.types_seen.proofs.Units.{of_tree}
use Rattle.types_tree.specs.Tree.{Program}
use Rattle.wcc_base.specs.declared.limits.Bound.TheVariants.{Functions, Markers, Nodes, Parameters, Restrictions}
use Rattle.facts_limits.specs.Limits.{AreLimited, IsCountedTerm, IsLimited}
use Rattle.facts_limits.proofs.Counts.{gathered_few, restrictions_in, unit_counted}
use Rattle.facts_limits.proofs.Facts.{says}
use Rattle.facts_limits.proofs.Named.{IsPlaced, among_placed, placed_before, placed_behind}
use Rattle.facts_limits.proofs.Written.{AreSmall, IsSmall, restriction_small}

no_fault : (b : Bool) (fault : FlowFault) → when_not b fault ≡ None → b ≡ true
no_fault true fault h = refl
no_fault false fault h = absurd (none-some fault (sym h))

first_none : (a b : Option FlowFault) → fault_or a b ≡ None → a ≡ None
first_none None b h = refl
first_none (Some fault) b h = absurd (none-some fault (sym h))

second_none : (a b : Option FlowFault) → fault_or a b ≡ None → b ≡ None
second_none None b h = h
second_none (Some fault) b h = absurd (none-some fault (sym h))

-- what each restriction is a sum of
module _ (program : Program) (names : List (List ℕ)) (ranks : Ranks) (derived : List Derived) where
  abbrev known : Known
  known = known_of program names derived

  abbrev facts : Facts
  facts = facts_of program names ranks derived

  counted_placed : (id : ℕ) → is_counted known id ≡ true → IsPlaced (facts.functions ++ facts.markers) id
  counted_placed id h = of (or_cases (is_among id known.markers) (is_among id known.defined) h)
    where
      of : (is_among id known.markers ≡ true) ⊎ (is_among id known.defined ≡ true) → IsPlaced (facts.functions ++ facts.markers) id
      of (inl marker) = placed_behind facts.functions facts.markers id (among_placed known.markers id marker)
      of (inr function) = placed_before facts.functions facts.markers id (among_placed known.defined id function)

  counted_terms : (ts : List WrittenTerm) → AreSmall ts → are_counted known ts ≡ true → All (IsCountedTerm facts) (map (term_of names) ts)
  counted_terms [] small h = All-nil (IsCountedTerm facts)
  counted_terms (t ∷ ts) small h =
      let parts = and_parts (is_counted known (id_in names t.name)) (are_counted known ts) h in
      All-cons (IsCountedTerm facts) (term_of names t) (map (term_of names) ts)
      (record { small = small.0; counted = counted_placed (id_in names t.name) parts.0 }) (counted_terms ts small.1 parts.1)

  restriction_limited : (o : Option Written) (at : ℕ) (rest : List Restriction) → IsSmall o → restriction_fault known o at ≡ None → All (IsLimited facts) rest → All (IsLimited facts) (and_one (numbered_restriction names at o) rest)
  restriction_limited None at rest small h more = more
  restriction_limited (Some w) at rest small h more =
      let parts = and_parts (are_counted known w.left) (are_counted known w.right) (no_fault (are_counted known w.left && are_counted known w.right) (UnknownName at) h) in
      let most = small.0 in
      let left = length-map w.left (term_of names) in
      let right = length-map w.right (term_of names) in
      All-cons (IsLimited facts) (restriction_of names at w) rest
      (record { few = omega (arith, most, left, right); left = counted_terms w.left small.1 parts.0; right = counted_terms w.right small.2 parts.1 }) more

  sites_limited : (ss : List Site) → first_fault known ss ≡ None → All (IsLimited facts) (gathered (restriction_at names) ss)
  sites_limited [] h = All-nil (IsLimited facts)
  sites_limited (sites.Restriction pragma ∷ rest) h =
      let o = site_fault known (sites.Restriction pragma) in
      restriction_limited (restriction pragma.text) pragma.at (gathered (restriction_at names) rest) (restriction_small pragma.text) (first_none o (first_fault known rest) h) (sites_limited rest (second_none o (first_fault known rest) h))
  sites_limited (site ∷ rest) h = sites_limited rest (second_none (site_fault known site) (first_fault known rest) h)

-- how many they are
at_most_32 : (n : ℕ) → limit Restrictions (over Restrictions n) ≡ None → n ≤ 32
at_most_32 n h = of (nat_lt 32 n) refl h
  where
    of : (b : Bool) → nat_lt 32 n ≡ b → limit Restrictions (if b then Some n else None) ≡ None → n ≤ 32
    of true e k = absurd (none-some (Limit Restrictions n) (sym k))
    of false e k = ltb-false 32 n e

few_counted : (nodes : ℕ) (t : Tally) → limits_before nodes t ≡ None → t.restrictions ≤ 32
few_counted nodes t h =
    let o5 = limit Restrictions (over Restrictions t.restrictions) in
    let o4 = or_else (limit Markers (over Markers t.markers)) o5 in
    let o3 = or_else (limit Parameters t.parameters) o4 in
    let o2 = or_else (limit Functions (over Functions t.functions)) o3 in
    at_most_32 t.restrictions
    (none_second (limit Markers (over Markers t.markers)) o5
    (none_second (limit Parameters t.parameters) o4
    (none_second (limit Functions (over Functions t.functions)) o3
    (none_second (limit Nodes (over Nodes nodes)) o2 h))))

sites_few : (names : List (List ℕ)) (program : Program) → HasTree names program → restrictions_in (sites_of program) ≤ 32
sites_few names program tree =
    let u = of_tree names program tree in
    let unit = Whole u.items u.at in
    let outline = outline_of names unit in
    let nodes = (size_unit unit).nodes in
    let count = unit_counted program outline u.items u.is_unit.faultless u.is_unit.items_are u.is_unit.functions_are in
    let few = few_counted nodes (tally_unit unit) (none_first (limits_before nodes (tally_unit unit)) (fault_behind outline unit) u.passes) in
    omega (arith, count, few)

pub are_limited : (source : List ℕ) (names : List (List ℕ)) (program : Program) (facts : Facts) → IsSource source names program facts → AreLimited facts
are_limited source names program facts is =
    let f = is.has_facts in
    let derived = derived_for is.derive program in
    let p = is.has_program in
    let said = says program names f.ranks derived facts f.facts_are in
    let few = gathered_few names (sites_of program) in
    let all = sites_few names program (record { unit = p.unit; passes = p.passes; program_is = p.program_is }) in
    subst AreLimited (sym said.facts_are) (record { few = omega (arith, few, all); each = sites_limited program names f.ranks derived (sites_of program) said.passes })
