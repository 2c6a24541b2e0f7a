use Rattle.std.proofs.Common.{◌≡◌, drop}
use Rattle.register_live_ranges.specs.Walks.{all_taken}
use Rattle.register_live_ranges.proofs.walk.Walk.take_all.Given as goal

abbrev pub invariant-loop-access : goal.invariant-loop-access
invariant-loop-access l = all_taken l.fn.register (drop l.access-index l.accesses) l.self ≡ all_taken l.fn.register l.accesses l.initial.self
