use Rattle.std.proofs.Common.{◌≡◌}
use Rattle.register_allocation.specs.Masks.{mask_below}
use Rattle.register_allocation.proofs.masks.mask.Given as goal

abbrev pub invariant-loop-machine : goal.invariant-loop-machine
invariant-loop-machine l = l.mask ≡ mask_below l.fn.at l.fn.into l.holders l.machine
