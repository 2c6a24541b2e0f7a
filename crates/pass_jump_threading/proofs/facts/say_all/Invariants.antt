use Rattle.std.proofs.Common.{take}
use Rattle.std.specs.Prelude.{All}
use Rattle.pass_jump_threading.specs.Facts.{Says, known_in}
use Rattle.pass_jump_threading.proofs.facts.say_all.Given as goal

abbrev pub invariant-loop-fact : goal.invariant-loop-fact
invariant-loop-fact l = All (Says (known_in l.held l.facts) l.told) (take l.fact-index l.wanted)
