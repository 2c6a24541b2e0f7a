use Rattle.std.proofs.Common.{◌≡◌, ◌++◌, drop}
use Rattle.facts_definitions.specs.FlowFacts.{gathered, bounds_at_site}
use Rattle.flow_facts.proofs.gathering.bounds_of.Given as goal

abbrev pub invariant-loop-site : goal.invariant-loop-site
invariant-loop-site l = l.bounds.items ++ gathered (bounds_at_site l.derived) (drop l.site-index l.sites) ≡ gathered (bounds_at_site l.derived) l.sites
