use Rattle.std.proofs.Common.{◌≡◌, drop}
use Rattle.register_live_ranges.specs.Walks.{all_left}
use Rattle.register_live_ranges.proofs.walk.Walk.leave_all.Given as goal

abbrev pub invariant-loop-source : goal.invariant-loop-source
invariant-loop-source l = all_left l.fn.register (drop l.source-index l.sources) l.self ≡ all_left l.fn.register l.sources l.initial.self
