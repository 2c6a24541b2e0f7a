use Rattle.std.proofs.Common.{◌↔◌, drop}
use Rattle.rv_core.specs.Images.{ApartFrom}
use Rattle.elf_image.proofs.segments.is_apart.Given as goal

abbrev pub invariant-loop-other : goal.invariant-loop-other
invariant-loop-other l = ApartFrom l.segment l.others ↔ ApartFrom l.segment (drop l.other-index l.others)
