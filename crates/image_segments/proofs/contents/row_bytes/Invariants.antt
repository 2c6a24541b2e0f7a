use Rattle.std.proofs.Common.{◌≡◌, ◌++◌, drop, map}
use Rattle.low_ir.specs.View.{object_of}
use Rattle.image_segments.specs.Rows.{row_number, HaveSizes}
use Rattle.image_segments.specs.Contents.{row_bytes}
use Rattle.image_segments.proofs.contents.row_bytes.Given as goal

abbrev pub invariant-loop-number : goal.invariant-loop-number
invariant-loop-number l = record {
  bytes : l.bytes.items ++ row_bytes l.placed (row_number l.row_asked) l.number (map object_of (drop l.number l.objects)) ≡ row_bytes l.placed (row_number l.row_asked) 0 (map object_of l.objects);
  sizes : HaveSizes (map object_of (drop l.number l.objects));
}
