use Rattle.std.proofs.Common.{◌≡◌, ◌++◌, drop, map, All}
use Rattle.low_ir.specs.View.{block_of}
use Rattle.asm_program.specs.Ranges.{InBlock}
use Rattle.asm_code.specs.Scopes.{memory, program, placed_blocks}
use Rattle.claims_definition.specs.Touches.{blocks_touches}
use Rattle.claims_touches.specs.Bodies.{touches_in}
use Rattle.claims_touches.proofs.blocks.all_blocks.Given as goal

abbrev pub invariant-loop-number : goal.invariant-loop-number
invariant-loop-number l = record {
  all : map (touches_in l.scope) l.all.items ++ blocks_touches (memory l.scope) (program l.scope) l.scope.number l.number (placed_blocks l.scope l.place (map block_of (drop l.number l.blocks))) ≡ blocks_touches (memory l.scope) (program l.scope) l.scope.number 0 (placed_blocks l.scope 0 (map block_of l.blocks));
  there : All InBlock (placed_blocks l.scope l.place (map block_of (drop l.number l.blocks)));
}
