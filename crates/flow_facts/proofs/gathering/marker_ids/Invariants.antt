use Rattle.std.proofs.Common.{◌≡◌, ◌++◌, drop}
use Rattle.facts_definitions.specs.FlowFacts.{gathered, marker_at}
use Rattle.flow_facts.proofs.gathering.marker_ids.Given as goal

abbrev pub invariant-loop-site : goal.invariant-loop-site
invariant-loop-site l = l.ids.items ++ gathered (marker_at l.names) (drop l.site-index l.sites) ≡ gathered (marker_at l.names) l.sites
