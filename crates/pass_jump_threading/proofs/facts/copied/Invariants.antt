use Rattle.std.proofs.Common.{◌≡◌, ◌++◌, drop}
use Rattle.pass_jump_threading.proofs.facts.copied.Given as goal

abbrev pub invariant-loop-fact : goal.invariant-loop-fact
invariant-loop-fact l = l.same.items ++ drop l.fact-index l.facts ≡ l.facts
