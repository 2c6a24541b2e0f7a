-- Whether what restrictions name is counted, by the numbers of the names.
use Rattle.std.specs.Prelude.{ℕ, Bool, true, not, ◌&&◌, List, [], ◌∷◌, Option, Some, None}
use Rattle.facts_definitions.specs.FlowFacts.{Known, is_among, is_counted, is_twice, when_not}
use Rattle.facts_definitions.specs.declared.facts.FlowFault.{FlowFault}
use Rattle.facts_definitions.specs.declared.facts.FlowFault.TheVariants.{BadPragma, UnknownName}
use Rattle.facts_definitions.specs.declared.facts.Restriction.{Restriction}
use Rattle.facts_definitions.specs.declared.facts.Term.{Term}

abbrev pub all_counted : Known → List Term → Bool
all_counted known [] = true
all_counted known (term ∷ rest) = is_counted known term.name.0 && all_counted known rest

abbrev pub restriction_fault : Known → Option Restriction → (at : ℕ) → Option FlowFault
restriction_fault known None at = Some (BadPragma at)
restriction_fault known (Some r) at = when_not (all_counted known r.left && all_counted known r.right) (UnknownName at)

-- the name is that of no function, and of one marker alone
abbrev pub marks_once : Known → ℕ → Bool
marks_once known id = not (is_among id known.functions) && not (is_twice id known.markers)
