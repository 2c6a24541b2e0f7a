use Rattle.std.proofs.Common.{◌≡◌, ◌+◌, ◌++◌, length, drop}
use Rattle.elf_image.specs.Text.{program_headers, contents}
use Rattle.elf_image.proofs.writing.put_program_headers.Given as goal

abbrev pub invariant-loop-segment : goal.invariant-loop-segment
invariant-loop-segment l =
    (l.text.items ++ program_headers l.at (drop l.segment-index l.segments) ≡ l.initial.text.items ++ program_headers l.initial.at l.segments)
    × (l.at + length (contents (drop l.segment-index l.segments)) ≡ l.initial.at + length (contents l.segments))
