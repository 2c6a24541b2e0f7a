use Rattle.std.proofs.Common.{◌≡◌, map}
use Rattle.low_ir.specs.View.{block_of}
use Rattle.pass_strength_reduction.specs.Changing.{BlocksSoFar}
use Rattle.pass_strength_reduction.specs.Scenes.{Fits, Scene}
use Rattle.pass_strength_reduction.proofs.functions.changed_blocks.Given as goal

abbrev pub invariant-loop-number : goal.invariant-loop-number
invariant-loop-number l = (sc : Scene) → Fits l.scope.claims.now l.scope.alone.now l.scope.objects l.scope.registers l.scope.spare.now sc → sc.changes ≡ l.changes → BlocksSoFar sc (map block_of l.blocks) l.number (map block_of l.made.items)
