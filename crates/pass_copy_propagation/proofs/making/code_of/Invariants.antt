use Rattle.std.proofs.Common.{◌≤◌, ◌-◌, [], drop, length, map}
use Rattle.low_ir.specs.View.{instr_of}
use Rattle.pass_copy_propagation.specs.Making.{Goes}
use Rattle.pass_copy_propagation.proofs.making.code_of.Given as goal

abbrev pub invariant-loop-at : goal.invariant-loop-at
invariant-loop-at l = record {
  inside : l.at ≤ length l.code;
  goes : Goes (map instr_of l.code) l.initial.known [] (drop l.at (map instr_of l.code)) l.known (map instr_of l.made.items);
}

abbrev pub decreases-loop-at : goal.decreases-loop-at
decreases-loop-at l = length l.code - l.at
