use Rattle.std.proofs.Common.{◌≡◌, ◌++◌, drop}
use Rattle.facts_definitions.specs.FlowFacts.{gathered, function_at}
use Rattle.flow_facts.proofs.gathering.function_ids.Given as goal

abbrev pub invariant-loop-site : goal.invariant-loop-site
invariant-loop-site l = l.ids.items ++ gathered function_at (drop l.site-index l.sites) ≡ gathered function_at l.sites
