use Rattle.std.proofs.Common.{◌≡◌, ◌++◌, drop}
use Rattle.image_segments.specs.Contents.{elements_bytes}
use Rattle.image_segments.proofs.contents.put_elements.Given as goal

abbrev pub invariant-loop-value : goal.invariant-loop-value
invariant-loop-value l = l.bytes.items ++ elements_bytes l.fn.kind (drop l.value-index l.values) ≡ l.fn.bytes.items ++ elements_bytes l.fn.kind l.values
