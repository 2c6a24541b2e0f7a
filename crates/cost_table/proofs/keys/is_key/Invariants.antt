use Rattle.std.proofs.Common.{◌≡◌, drop, map}
use Rattle.cost_table.specs.Keys.{is_key}
use Rattle.cost_table.specs.Held.{key_of}
use Rattle.cost_table.proofs.keys.is_key.Given as goal

abbrev pub invariant-loop-key : goal.invariant-loop-key
invariant-loop-key l = is_key (map key_of (drop l.key-index l.keys)) l.name ≡ is_key (map key_of l.keys) l.name
