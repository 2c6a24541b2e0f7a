use Rattle.std.proofs.Common.{◌≡◌, ◌+◌, drop}
use Rattle.image_definition.specs.Sizes.{sizes_placed}
use Rattle.image_fitting.proofs.data.spend_sizes.Given as goal

abbrev pub invariant-loop-number : goal.invariant-loop-number
invariant-loop-number l = l.from + sizes_placed l.placed l.number (drop l.number l.sizes) ≡ l.left + sizes_placed l.placed 0 l.sizes
