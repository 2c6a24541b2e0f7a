use Rattle.std.proofs.Common.{◌≡◌, ◌+◌, ◌++◌, drop, map}
use Rattle.low_ir.specs.View.{instr_of}
use Rattle.pass_constant_hoisting.specs.Holding.{fills}
use Rattle.pass_constant_hoisting.proofs.holding.fills.Given as goal

abbrev pub invariant-loop-word : goal.invariant-loop-word
invariant-loop-word l = record {
  register : l.register ≡ l.first + l.word-index;
  code : map instr_of l.code.items ++ fills l.register (drop l.word-index l.words) ≡ fills l.first l.words;
}
