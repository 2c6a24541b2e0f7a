use Rattle.std.proofs.Common.{◌≡◌, ◌++◌, drop}
use Rattle.elf_image.specs.Text.{contents}
use Rattle.elf_image.proofs.writing.put_contents.Given as goal

abbrev pub invariant-loop-segment : goal.invariant-loop-segment
invariant-loop-segment l = l.text.items ++ contents (drop l.segment-index l.segments) ≡ l.initial.text.items ++ contents l.segments
