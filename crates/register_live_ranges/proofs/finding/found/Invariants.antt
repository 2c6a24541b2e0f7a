use Rattle.std.proofs.Common.{◌≡◌, length}
use Rattle.register_live_ranges.specs.Found.{AreFound}
use Rattle.register_live_ranges.specs.Walks.{IsFresh}
use Rattle.register_live_ranges.proofs.finding.found.Given as goal

abbrev pub invariant-loop-register : goal.invariant-loop-register
invariant-loop-register l = record {
  size : length l.found.items ≡ l.register;
  fresh : IsFresh (length l.reading.function.now.blocks.items) l.register l.reading.function.now.registers l.walk;
  found : AreFound l.reading l.register l.found.items;
}
