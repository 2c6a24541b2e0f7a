use Rattle.std.proofs.Common.{◌≤◌, ◌+◌, drop}
use Rattle.asm_forms.specs.Regions.{functions_size}
use Rattle.asm_forms.specs.Shorter.{functions_longest}
use Rattle.layout_cases.proofs.rooms.are_few.Given as goal

abbrev pub invariant-loop-blocks : goal.invariant-loop-blocks
invariant-loop-blocks l = record {
  size : functions_size (functions_longest l.functions) ≤ l.sum + functions_size (functions_longest (drop l.blocks-index l.functions));
  few : l.sum ≤ 0x7_FFFF;
}
