use Rattle.std.proofs.Common.{◌≡◌, ◌∙◌, ap, rules}
use Rattle.facts_definitions.specs.FlowFacts.{numbered_restriction}
use Rattle.facts_definitions.specs.PragmaTexts.{restriction}
use Rattle.flow_facts.specs.Sums.{restriction_fault}
use Rattle.flow_facts.proofs.Named.{restriction_fault-numbered}
use Rattle.flow_facts.proofs.known.Known.site_fault.Goals as goal

pub returns-in_ok-read-in-Restriction : goal.returns-in_ok-read-in-Restriction
returns-in_ok-read-in-Restriction c =
    let known = c.args.self.now in
    let pragma = c.in-Restriction.pragma in
    let read : c.in_ok-read-in-Restriction.read ≡ numbered_restriction known.names pragma.at (restriction pragma.text) = search rules in
    rw c.in-Restriction.is
    (c.restriction_fault.ensures ∙ ap (λ r. restriction_fault known r pragma.at) read ∙ restriction_fault-numbered known (restriction pragma.text) pragma.at)
