use Rattle.std.proofs.Common.{◌≡◌, ◌-◌, drop, map}
use Rattle.low_ir.specs.Live.{place_of}
use Rattle.low_ir.specs.View.{block_of}
use Rattle.register_eval.proofs.table.masks_behind.Given as goal

abbrev pub invariant-loop : goal.invariant-loop
invariant-loop l = drop (place_of (map block_of l.left) (l.number - l.counter)) l.masks ≡ drop (place_of (map block_of l.blocks) l.number) l.kept
