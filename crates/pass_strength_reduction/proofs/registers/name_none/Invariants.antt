use Rattle.std.proofs.Common.{map, take}
use Rattle.std.specs.Prelude.{All}
use Rattle.low_ir.specs.View.{block_of}
use Rattle.pass_strength_reduction_law.specs.Steps.{BlockNamesNoSpare}
use Rattle.pass_strength_reduction.specs.Scenes.{is_spare}
use Rattle.pass_strength_reduction.proofs.registers.name_none.Given as goal

abbrev pub invariant-loop-block : goal.invariant-loop-block
invariant-loop-block l = All (BlockNamesNoSpare (is_spare l.spare)) (map block_of (take l.block-index l.blocks))
