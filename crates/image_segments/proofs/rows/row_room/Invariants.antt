use Rattle.std.proofs.Common.{◌≡◌, ◌+◌, drop, map}
use Rattle.low_ir.specs.View.{object_of}
use Rattle.image_segments.specs.Rows.{row_number, spots, row_room, HaveSizes}
use Rattle.image_segments.proofs.rows.row_room.Given as goal

abbrev pub invariant-loop-number : goal.invariant-loop-number
invariant-loop-number l = record {
  room : l.bytes + row_room (row_number l.row_asked) (spots l.placed l.number (map object_of (drop l.number l.objects))) ≡ row_room (row_number l.row_asked) (spots l.placed 0 (map object_of l.objects));
  sizes : HaveSizes (map object_of (drop l.number l.objects));
}
