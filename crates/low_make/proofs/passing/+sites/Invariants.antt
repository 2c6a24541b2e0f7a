use Rattle.std.proofs.Common.{◌≡◌, ◌+◌, ◌*◌, drop}
use Rattle.high_ir.specs.Size.{nodes, nodes_all}
use Rattle.high_ir.specs.View.{statement_of, statements_of}
use Rattle.low_make.specs.View.{claims_of, passed_of}
use Rattle.lower_definition.specs.Calls.{at_sites, sites_of_all}
use Rattle.low_make.proofs.passing.+sites.Given as goal

abbrev pub decreases-at_sites : goal.decreases-at_sites
decreases-at_sites l = 2 * nodes (statement_of l.statement.now)

abbrev pub decreases-at_all_sites : goal.decreases-at_all_sites
decreases-at_all_sites l = 2 * nodes_all (statements_of l.parts.now) + 1

abbrev pub invariant-at_all_sites-loop-part : goal.invariant-at_all_sites-loop-part
invariant-at_all_sites-loop-part l =
    at_sites l.caller.objects (claims_of l.caller.own.now) (passed_of l.passed.items) (sites_of_all (statements_of (drop l.part-index l.parts)))
    ≡ at_sites l.caller.objects (claims_of l.caller.own.now) (passed_of l.initial.passed.items) (sites_of_all (statements_of l.parts))
