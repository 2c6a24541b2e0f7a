use Rattle.std.proofs.Common.{◌≡◌, ◌+◌, ◌++◌, drop, map, All}
use Rattle.low_ir.specs.View.{instr_of}
use Rattle.asm_program.specs.Ranges.{InInstr}
use Rattle.asm_code.specs.Scopes.{memory, program, placed_code}
use Rattle.asm_code.specs.Bodies.{instrs_items}
use Rattle.asm_code.proofs.blocks.emit_code.Given as goal

abbrev pub invariant-loop-index : goal.invariant-loop-index
invariant-loop-index l = record {
  items : l.items.items ++ instrs_items (memory l.scope) (program l.scope) l.scope.number (placed_code l.scope (l.place + l.index) (map instr_of (drop l.index l.code))) ≡ l.initial.items.items ++ instrs_items (memory l.scope) (program l.scope) l.scope.number (placed_code l.scope l.place (map instr_of l.code));
  there : All InInstr (placed_code l.scope (l.place + l.index) (map instr_of (drop l.index l.code)));
}
