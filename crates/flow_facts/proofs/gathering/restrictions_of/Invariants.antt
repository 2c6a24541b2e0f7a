use Rattle.std.proofs.Common.{◌≡◌, ◌++◌, drop}
use Rattle.facts_definitions.specs.FlowFacts.{gathered, restriction_at}
use Rattle.flow_facts.proofs.gathering.restrictions_of.Given as goal

abbrev pub invariant-loop-site : goal.invariant-loop-site
invariant-loop-site l = l.restrictions.items ++ gathered (restriction_at l.names) (drop l.site-index l.sites) ≡ gathered (restriction_at l.names) l.sites
