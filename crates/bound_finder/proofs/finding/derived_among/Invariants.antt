use Rattle.std.proofs.Common.{◌≡◌, ◌++◌, drop}
use Rattle.facts_loops.specs.CountingLoops.{derived_among}
use Rattle.bound_finder.proofs.finding.derived_among.Given as goal

abbrev pub invariant-loop-form : goal.invariant-loop-form
invariant-loop-form l = l.derived.items ++ derived_among (drop l.form-index l.loops) ≡ derived_among l.loops
