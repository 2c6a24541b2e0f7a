use Rattle.std.proofs.Common.{◌≡◌, ◌-◌, drop, length}
use Rattle.register_allocation.specs.Masks.{begun_from}
use Rattle.register_allocation.proofs.masks.begin.Given as goal

abbrev pub invariant-loop-next : goal.invariant-loop-next
invariant-loop-next l =
    begun_from l.placed.places.now l.fn.at l.holders.items (drop l.next l.placed.order.now)
    ≡ begun_from l.placed.places.now l.fn.at l.initial.holders.items (drop l.fn.begun l.placed.order.now)

abbrev pub decreases-loop-next : goal.decreases-loop-next
decreases-loop-next l = length l.placed.order.now - l.next
