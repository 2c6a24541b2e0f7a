use Rattle.std.proofs.Common.{◌≡◌, ◌++◌, drop, map}
use Rattle.low_ir.specs.View.{object_of}
use Rattle.image_segments.specs.Rows.{spots, addresses, HaveSizes, HaveRoom}
use Rattle.image_segments.proofs.rows.addresses.Given as goal

abbrev pub invariant-loop-number : goal.invariant-loop-number
invariant-loop-number l = record {
  addresses : l.addresses.items ++ addresses l.next (spots l.placed l.number (map object_of (drop l.number l.objects))) ≡ addresses l.fn.starts (spots l.placed 0 (map object_of l.objects));
  sizes : HaveSizes (map object_of (drop l.number l.objects));
  room : HaveRoom l.next (spots l.placed l.number (map object_of (drop l.number l.objects)));
}
