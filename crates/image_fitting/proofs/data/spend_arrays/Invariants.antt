use Rattle.std.proofs.Common.{◌≡◌, ◌+◌, drop, map}
use Rattle.low_ir.specs.Arrays.{array_size}
use Rattle.low_ir.specs.View.{object_of}
use Rattle.image_definition.specs.Sizes.{sizes_placed}
use Rattle.image_fitting.proofs.data.spend_arrays.Given as goal

abbrev pub invariant-loop-number : goal.invariant-loop-number
invariant-loop-number l = l.from + sizes_placed l.placed l.number (map array_size (map object_of (drop l.number l.objects))) ≡ l.left + sizes_placed l.placed 0 (map array_size (map object_of l.objects))
