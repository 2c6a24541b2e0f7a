-- The names of functions, and those of markers, are no longer than the source.
use Rattle.std.proofs.Common.{◌≡◌, ℕ, zero, suc, ◌+◌, ◌≤◌, Bool, true, false, not, List, [], ◌∷◌, ◌++◌, length, map, Option, Some, None, refl, sym, ap, ◌∙◌, subst, arith, All}
use Rattle.std.specs.Prelude.{◌&&◌, option_map, slice_get, slice_index_or}
use Rattle.std.proofs.lemmas.Bool.{and_parts, false≢true}
use Rattle.std.proofs.lemmas.List.Elements.{All-cons, All-nil}
use Rattle.std.proofs.lemmas.Option.{slice_get-map}
use Rattle.facts_definitions.specs.FlowFacts.{Known, and_one, first_fault, gathered, id_in, is_among, is_library, is_marker, is_twice, known_of, marker_at, marker_ids, name_id, numbered, or_else, site_fault, when_not}
use Rattle.facts_definitions.specs.PragmaTexts.{marker_name}
use Rattle.facts_definitions.specs.Sites.{sites_of}
use Rattle.facts_definitions.specs.declared.facts.Facts.{Facts}
use Rattle.facts_definitions.specs.declared.facts.FlowFault.{FlowFault}
use Rattle.facts_definitions.specs.declared.facts.FlowFault.TheVariants.{BadPragma}
use Rattle.facts_definitions.specs.declared.site.Site.{Site}
use Rattle.facts_definitions.specs.declared.site.Site.TheVariants as sites
use Rattle.facts_sources.specs.Sources.{IsSource, derived_for}
use Rattle.facts_limits.specs.Names.{names_length}
use Rattle.facts_limits.proofs.Sources.{fit}
use Rattle.c_tree.specs.Names.{name_of}
use Rattle.c_tree.specs.declared.expression.NameId.{NameId}
use Rattle.types_tree.specs.Tree.{Program, function_name}
use Rattle.plan_formed.proofs.Facts.{Says, says}
use Rattle.lower_budget.proofs.Programs.{distinct_less, total, total_at}
use Rattle.lower_budget.proofs.Distinct.{Distinct}
use Rattle.compile_names.proofs.Naming.{functions_apart}
use Rattle.compile_promise.proofs.Distinct.{AreApart, apart_distinct, once_distinct}

-- names by their numbers

module _ (names : List (List ℕ)) where
  abbrev pub id_length : NameId → ℕ
  id_length id = length (name_of names id.0)

  abbrev pub ids_length : List NameId → ℕ
  ids_length [] = 0
  ids_length (id ∷ ids) = id_length id + ids_length ids

  pub ids_append : (xs ys : List NameId) → ids_length (xs ++ ys) ≡ ids_length xs + ids_length ys
  ids_append [] ys = omega arith
  ids_append (x ∷ xs) ys = let rest = ids_append xs ys in omega (arith, rest)

abbrev lengths : List (List ℕ) → List ℕ
lengths names = map (λ (name : List ℕ). length name) names

length_at : (names : List (List ℕ)) (n : ℕ) → slice_index_or (lengths names) n 0 ≡ length (name_of names n)
length_at [] zero = refl
length_at [] (suc n) = refl
length_at (name ∷ names) zero = refl
length_at (name ∷ names) (suc n) = length_at names n

total_length : (names : List (List ℕ)) → total (lengths names) ≡ names_length names
total_length [] = refl
total_length (name ∷ names) = ap (λ n. length name + n) (total_length names)

ids_total : (names : List (List ℕ)) (ns : List ℕ) → ids_length names (map name_id ns) ≡ total_at (lengths names) ns
ids_total names [] = refl
ids_total names (n ∷ ns) = let one = length_at names n in let rest = ids_total names ns in omega (arith, one, rest)

ids_few : (names : List (List ℕ)) (ns : List ℕ) → Distinct ns → ids_length names (map name_id ns) ≤ names_length names
ids_few names ns distinct =
    let less = distinct_less (lengths names) ns distinct in
    let own = ids_total names ns in
    let all = total_length names in
    omega (arith, less, own, all)

-- no marker has the name of another

both_none : (a b : Option FlowFault) → or_else a b ≡ None → (a ≡ None) × (b ≡ None)
both_none None b h = (refl, h)
both_none (Some fault) b h = absurd (cc)

unless_fault : (b : Bool) (fault : FlowFault) → when_not b fault ≡ None → b ≡ true
unless_fault true fault h = refl
unless_fault false fault h = absurd (cc)

not_true : (b : Bool) → not b ≡ true → b ≡ false
not_true true h = cc
not_true false h = refl

module _ (known : Known) where
  abbrev Once : ℕ → Type 0
  Once n = is_twice n known.markers ≡ false

  marker_once : (name : Option (List ℕ)) (rest : List ℕ) → is_marker known name ≡ true → All Once rest → All Once (and_one (numbered known.names name) rest)
  marker_once None rest h all = absurd (false≢true h)
  marker_once (Some name) rest h all =
      let id = id_in known.names name in
      let free = and_parts (not (is_library name)) (not (is_among id known.functions) && not (is_twice id known.markers)) h in
      let alone = and_parts (not (is_among id known.functions)) (not (is_twice id known.markers)) free.1 in
      All-cons Once id rest (not_true (is_twice id known.markers) alone.1) all

  each_once : (ss : List Site) → first_fault known ss ≡ None → All Once (gathered (marker_at known.names) ss)
  each_once [] h = All-nil Once
  each_once (sites.Marker pragma ∷ rest) h =
      let parts = both_none (site_fault known (sites.Marker pragma)) (first_fault known rest) h in
      marker_once (marker_name pragma.text) (gathered (marker_at known.names) rest) (unless_fault (is_marker known (marker_name pragma.text)) (BadPragma pragma.at) parts.0) (each_once rest parts.1)
  each_once (site ∷ rest) h = each_once rest (both_none (site_fault known site) (first_fault known rest) h).1

module _ (source : List ℕ) (names : List (List ℕ)) (program : Program) (facts : Facts) (is : IsSource source names program facts) where
  said : Says program names is.has_facts.ranks (derived_for is.derive program) facts
  said = says program names is.has_facts.ranks (derived_for is.derive program) facts is.has_facts.facts_are

  abbrev markers : List ℕ
  markers = marker_ids names (sites_of program)

  short : (ns : List ℕ) → Distinct ns → ids_length names (map name_id ns) ≤ length source
  short ns distinct =
      let few = ids_few names ns distinct in
      let all = fit source names is.has_program.unit is.has_program.has in
      omega (arith, few, all)

  pub markers_short : ids_length names facts.markers ≤ length source
  markers_short =
      let are : facts.markers ≡ map name_id markers = ap (λ (f : Facts). f.markers) said.facts_are in
      subst (λ ids. ids_length names ids ≤ length source) (sym are) (short markers (once_distinct markers (each_once (known_of program names (derived_for is.derive program)) (sites_of program) said.passes)))

  functions_are : facts.functions ≡ map name_id (map function_name program.functions)
  functions_are = ap (λ (f : Facts). f.functions) said.facts_are

  apart : AreApart (map function_name program.functions)
  apart i j n e f = functions_apart source names program facts is i j (name_id n) (name_id n) (there i e) (there j f) refl
    where
      there : (k : ℕ) → slice_get (map function_name program.functions) k ≡ Some n → slice_get facts.functions k ≡ Some (name_id n)
      there k e = ap (λ l. slice_get l k) functions_are ∙ slice_get-map name_id (map function_name program.functions) k ∙ ap (option_map name_id) e

  pub functions_short : ids_length names facts.functions ≤ length source
  functions_short = subst (λ ids. ids_length names ids ≤ length source) (sym functions_are) (short (map function_name program.functions) (apart_distinct (map function_name program.functions) apart))
