use Rattle.elf_image.specs.Progress.{HasLoaded}
use Rattle.elf_image.proofs.reading.read_segments.Given as goal

abbrev pub invariant-loop-index : goal.invariant-loop-index
invariant-loop-index l = HasLoaded l.bytes l.index l.segments.items
