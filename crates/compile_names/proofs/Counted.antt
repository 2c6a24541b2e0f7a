-- The functions and markers of a source have names.
use Rattle.std.proofs.Common.{◌≡◌, ℕ, List, [], ◌∷◌, ◌++◌, map, Option, Some, None, refl, sym, subst}
use Rattle.std.specs.List.{All, Contains}
use Rattle.std.proofs.lemmas.List.Elements.{All-append, All-cons, All-contains, All-nil}
use Rattle.facts_definitions.specs.FlowFacts.{and_one, gathered, id_in, marker_at, marker_ids, name_id, numbered as id_of}
use Rattle.types_tree.specs.Tree.{function_name}
use Rattle.facts_definitions.specs.PragmaTexts.{marker_name}
use Rattle.facts_definitions.specs.Sites.{sites_of}
use Rattle.facts_definitions.specs.declared.facts.Facts.{Facts}
use Rattle.facts_definitions.specs.declared.site.Site.{Site}
use Rattle.facts_definitions.specs.declared.site.Site.TheVariants as sites
use Rattle.facts_sources.specs.Sources.{HasProgram, IsSource, derived_for}
use Rattle.types_rules.specs.Sights.{outline_of}
use Rattle.c_tree.specs.Formed.{EachOf}
use Rattle.c_tree.specs.Holding.{HoldsExternal}
use Rattle.c_tree.specs.Names.{AreNames, HasNameForm, name_of}
use Rattle.c_tree.specs.Tree.{TranslationUnit, Whole}
use Rattle.types_tree.specs.Tree.{Defined, Function, Program}
use Rattle.types_rules.specs.Typed.{typed_of}
use Rattle.plan_formed.proofs.Facts.{says}
use Rattle.compile_names.specs.Laws.{IsNamed}
use Rattle.compile_names.proofs.Markers.{marker_among, numbered}
use Rattle.compile_names.proofs.Sites.{EachFunction, EachSite, unit_functions, unit_sites}
use Rattle.compile_names.proofs.Trees.{AreAmong, HasAmong, IsAmong, items_of, names_formed, tree_among}

-- the functions and the markers of a program
abbrev AreNamed : List (List ℕ) → Program → Type 0
AreNamed names p = All (IsNamed names) (map name_id (map function_name p.functions)) × All (IsNamed names) (map name_id (marker_ids names (sites_of p)))

module _ (names : List (List ℕ)) (formed : AreNames names) where
  among_named : (number : ℕ) → IsAmong names number → IsNamed names (name_id number)
  among_named number h = All-contains HasNameForm names (name_of names number) formed h

  functions_named : (fs : List Function) → EachFunction (IsAmong names) (HasAmong names) fs → All (IsNamed names) (map name_id (map function_name fs))
  functions_named [] h = All-nil (IsNamed names)
  functions_named (Defined specifiers name name_at params first body body_at at ∷ fs) h =
      All-cons (IsNamed names) (name_id name) (map name_id (map function_name fs)) (among_named name h.0.0) (functions_named fs h.1)

  marker_named : (text name : List ℕ) → AreAmong names text → marker_name text ≡ Some name → IsNamed names (name_id (id_in names name))
  marker_named text name h e =
      let has = All-contains (Contains names) _ name h (marker_among text name e) in
      subst HasNameForm (sym (numbered names name has)) (All-contains HasNameForm names name formed has)

  markers_named : (ss : List Site) → EachSite (IsAmong names) (HasAmong names) ss → All (IsNamed names) (map name_id (gathered (marker_at names) ss))
  markers_named [] h = All-nil (IsNamed names)
  markers_named (sites.Marker pragma ∷ rest) h = of (marker_name pragma.text) refl (markers_named rest h.1)
    where
      of : (o : Option (List ℕ)) → marker_name pragma.text ≡ o → All (IsNamed names) (map name_id (gathered (marker_at names) rest)) → All (IsNamed names) (map name_id (and_one (id_of names o) (gathered (marker_at names) rest)))
      of None e more = more
      of (Some name) e more = All-cons (IsNamed names) (name_id (id_in names name)) (map name_id (gathered (marker_at names) rest)) (marker_named pragma.text name h.0 e) more
  markers_named (site ∷ rest) h = markers_named rest h.1

  unit_named : (unit : TranslationUnit ℕ) → EachOf (HoldsExternal (IsAmong names) (HasAmong names)) (items_of unit) → AreNamed names (typed_of names unit)
  unit_named (Whole items at) h =
      let outline = outline_of names (Whole items at) in
      let p = typed_of names (Whole items at) in
      (functions_named p.functions (unit_functions (IsAmong names) (HasAmong names) outline items at h), markers_named (sites_of p) (unit_sites (IsAmong names) (HasAmong names) outline items at h))

program_named : (source : List ℕ) (names : List (List ℕ)) (program : Program) → (h : HasProgram source names program) → AreNamed names program
program_named source names program h =
    let formed = names_formed source names h.unit h.has in
    subst (AreNamed names) (sym h.program_is) (unit_named names formed h.unit (tree_among source names h.unit h.has))

pub counted_named : (source : List ℕ) (names : List (List ℕ)) (program : Program) (facts : Facts) → IsSource source names program facts → All (IsNamed names) (facts.functions ++ facts.markers)
counted_named source names program facts h =
    let f = h.has_facts in
    let named = program_named source names program h.has_program in
    let same = (says program names f.ranks (derived_for h.derive program) facts f.facts_are).facts_are in
    subst (λ (x : Facts). All (IsNamed names) (x.functions ++ x.markers)) (sym same)
    (All-append (IsNamed names) (map name_id (map function_name program.functions)) (map name_id (marker_ids names (sites_of program))) named.0 named.1)
