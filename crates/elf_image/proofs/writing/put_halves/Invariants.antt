use Rattle.std.proofs.Common.{◌≡◌, ◌++◌, drop}
use Rattle.rv_core.specs.Bytes.{le_halves}
use Rattle.elf_image.proofs.writing.put_halves.Given as goal

abbrev pub invariant-loop-half : goal.invariant-loop-half
invariant-loop-half l = l.text.items ++ le_halves (drop l.half-index l.halves) ≡ l.initial.text.items ++ le_halves l.halves
