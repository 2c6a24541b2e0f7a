-- Facts from what is known of a program.
use Rattle.std.specs.Prelude.{ℕ, List, map, Result}
use Rattle.facts_definitions.specs.FlowFacts.{Known, bounds_in, facts_of, most_main, name_id, restrictions_of, unless_too_often}
use Rattle.facts_definitions.specs.declared.facts.Bounds.{Bounds}
use Rattle.facts_definitions.specs.declared.facts.Derived.{Derived}
use Rattle.facts_definitions.specs.declared.facts.Facts.{Facts}
use Rattle.facts_definitions.specs.declared.facts.FlowFault.{FlowFault}
use Rattle.types_calls.specs.declared.ranks.Ranks.{Ranks}
use Rattle.facts_definitions.specs.declared.site.Site.{Site}
use Rattle.types_tree.specs.Tree.{Program}

abbrev pub facts_with : Known → List Site → List Bounds → Ranks → (most : ℕ) → Facts
facts_with known sites bounds ranks most = record {
  ranks = ranks;
  functions = map name_id known.defined;
  bounds = bounds;
  markers = map name_id known.markers;
  restrictions = restrictions_of known.names sites;
  most = most;
}

-- the outcome of a program without faults in its pragmas and loops
abbrev pub sound_outcome : Program → List (List ℕ) → Ranks → List Derived → Result Facts FlowFault
sound_outcome program names ranks derived = unless_too_often (most_main program names (bounds_in program derived) ranks) (facts_of program names ranks derived)
