use Rattle.std.proofs.Common.{◌≡◌, ◌+◌, drop}
use Rattle.lower_definition.specs.Calls.{place_in}
use Rattle.lower_statement.proofs.coding.place_in.Given as goal

abbrev pub invariant-loop-other : goal.invariant-loop-other
invariant-loop-other l = l.place + place_in (drop l.other-index l.order) l.function ≡ place_in l.order l.function
