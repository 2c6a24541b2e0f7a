use Rattle.std.proofs.Common.{◌≡◌, ◌++◌, drop, map}
use Rattle.pass_jump_threading.specs.Facts.{rewritten_one}
use Rattle.pass_jump_threading.proofs.facts.rewritten.Given as goal

abbrev pub invariant-loop-fact : goal.invariant-loop-fact
invariant-loop-fact l = l.made.items ++ map (rewritten_one l.register l.word) (drop l.fact-index l.facts) ≡ map (rewritten_one l.register l.word) l.facts
