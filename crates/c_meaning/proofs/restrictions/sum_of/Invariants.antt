use Rattle.std.proofs.Common.{◌≡◌, ◌+◌, drop}
use Rattle.meaning_semantics.specs.Runs.{sum_of}
use Rattle.c_meaning.proofs.restrictions.sum_of.Given as goal

abbrev pub invariant-loop-term : goal.invariant-loop-term
invariant-loop-term l = l.sum + sum_of l.names l.counts (drop l.term-index l.terms) ≡ sum_of l.names l.counts l.terms
