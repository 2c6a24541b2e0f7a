use Rattle.std.proofs.Common.{◌≡◌, map}
use Rattle.std.specs.List.{range_with_len}
use Rattle.claims_definition.specs.Movables.{movable_of}
use Rattle.layout_relation.specs.Items.{sized}
use Rattle.layout_fitting.specs.Fitted.{size_listed}
use Rattle.layout_fitting.proofs.fitting.listed_sizes.Given as goal

abbrev pub invariant-loop-number : goal.invariant-loop-number
invariant-loop-number l = l.sizes.items ≡ map (size_listed (map sized (map movable_of l.items))) (range_with_len 0 l.number)
