use Rattle.std.proofs.Common.{◌≡◌, drop}
use Rattle.flow_facts.specs.Sums.{all_counted}
use Rattle.flow_facts.proofs.known.Known.all_counted.Given as goal

abbrev pub invariant-loop-i : goal.invariant-loop-i
invariant-loop-i l = all_counted l.self l.terms ≡ all_counted l.self (drop l.i l.terms)
