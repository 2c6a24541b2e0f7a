use Rattle.std.proofs.Common.{◌≡◌, ◌+◌, ◌++◌, drop, map, All}
use Rattle.low_ir.specs.View.{instr_of}
use Rattle.asm_program.specs.Ranges.{InInstr}
use Rattle.asm_code.specs.Scopes.{memory, program, placed_code}
use Rattle.claims_touches.specs.Bodies.{instrs_touches, touches_in}
use Rattle.claims_touches.proofs.blocks.put_code.Given as goal

abbrev pub invariant-loop-index : goal.invariant-loop-index
invariant-loop-index l = record {
  touches : touches_in l.scope l.touches.items ++ instrs_touches (memory l.scope) (program l.scope) l.scope.number (placed_code l.scope (l.place + l.index) (map instr_of (drop l.index l.code))) ≡ touches_in l.scope l.initial.touches.items ++ instrs_touches (memory l.scope) (program l.scope) l.scope.number (placed_code l.scope l.place (map instr_of l.code));
  there : All InInstr (placed_code l.scope (l.place + l.index) (map instr_of (drop l.index l.code)));
}
