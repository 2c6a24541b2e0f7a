use Rattle.std.proofs.Common.{◌≡◌, drop}
use Rattle.pass_jump_threading.specs.Facts.{lookup}
use Rattle.pass_jump_threading.proofs.facts.find.Given as goal

abbrev pub invariant-loop-fact : goal.invariant-loop-fact
invariant-loop-fact l = lookup (drop l.fact-index l.facts) l.register ≡ lookup l.facts l.register
