use Rattle.std.proofs.Common.{◌≡◌, drop, true}
use Rattle.pass_dataflow_facts.specs.Facts.{all_true}
use Rattle.pass_dataflow_transfer.specs.Learning.{Sure}
use Rattle.pass_strength_reduction.proofs.ending.all_follow.Given as goal

abbrev pub invariant-loop-fact : goal.invariant-loop-fact
invariant-loop-fact l = Sure l.facts (λ s. all_true (drop l.fact-index l.wanted) s ≡ true → all_true l.wanted s ≡ true)
