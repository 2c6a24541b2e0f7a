use Rattle.std.proofs.Common.{◌≡◌, drop}
use Rattle.meaning_semantics.specs.Runs.{first_violated}
use Rattle.c_meaning.proofs.restrictions.first_violated.Given as goal

abbrev pub invariant-loop-restriction : goal.invariant-loop-restriction
invariant-loop-restriction l = first_violated l.names l.counts (drop l.restriction-index l.restrictions) ≡ first_violated l.names l.counts l.restrictions
