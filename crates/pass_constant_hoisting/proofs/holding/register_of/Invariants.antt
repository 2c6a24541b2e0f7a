use Rattle.std.proofs.Common.{◌≡◌, ◌+◌, drop}
use Rattle.pass_constant_hoisting.specs.Holding.{register_of}
use Rattle.pass_constant_hoisting.proofs.holding.register_of.Given as goal

abbrev pub invariant-loop-other : goal.invariant-loop-other
invariant-loop-other l = record {
  register : l.register ≡ l.first + l.other-index;
  rest : register_of l.register (drop l.other-index l.words) l.word ≡ register_of l.first l.words l.word;
}
