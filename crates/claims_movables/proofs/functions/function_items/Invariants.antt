use Rattle.std.proofs.Common.{◌≡◌, map}
use Rattle.std.specs.List.{range_with_len}
use Rattle.claims_movables.specs.Listed.{function_in}
use Rattle.claims_definition.specs.Movables.{movable_of}
use Rattle.claims_movables.proofs.functions.function_items.Given as goal

abbrev pub invariant-loop-function : goal.invariant-loop-function
invariant-loop-function l = map movable_of l.items.items ≡ map (function_in l.laying l.memory) (range_with_len 0 l.function)
