use Rattle.std.proofs.Common.{◌≡◌, drop, map}
use Rattle.low_ir.specs.View.{block_of}
use Rattle.asm_code.specs.Leaves.{all_call_none}
use Rattle.asm_code.proofs.programs.is_leaf.Given as goal

abbrev pub invariant-loop-block : goal.invariant-loop-block
invariant-loop-block l = all_call_none (map block_of (drop l.block-index l.blocks)) ≡ all_call_none (map block_of l.blocks)
