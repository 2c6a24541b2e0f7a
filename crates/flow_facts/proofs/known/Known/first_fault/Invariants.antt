use Rattle.std.proofs.Common.{◌≡◌, drop}
use Rattle.facts_definitions.specs.FlowFacts.{first_fault}
use Rattle.flow_facts.proofs.known.Known.first_fault.Given as goal

abbrev pub invariant-loop-site : goal.invariant-loop-site
invariant-loop-site l = first_fault l.self l.sites ≡ first_fault l.self (drop l.site-index l.sites)
