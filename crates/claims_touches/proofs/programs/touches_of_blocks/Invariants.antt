use Rattle.std.proofs.Common.{◌≡◌, ◌++◌, drop, map}
use Rattle.claims_touches.specs.Named.{item_names}
use Rattle.claims_touches.proofs.programs.touches_of_blocks.Given as goal

abbrev pub invariant-loop-block : goal.invariant-loop-block
invariant-loop-block l = l.all.items ++ map item_names (drop l.block-index l.blocks) ≡ map item_names l.blocks
