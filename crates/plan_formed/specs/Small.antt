-- Bounds that leave room for one start more.
use Rattle.std.specs.Prelude.{◌≤◌}
use Rattle.facts_definitions.specs.declared.facts.Bounds.{Bounds}

abbrev pub Small : Bounds → Type 0
Small b = (b.min ≤ 2147483647) × (b.max ≤ 2147483647)
