use Rattle.std.proofs.Common.{arith}
use Rattle.elf_image.proofs.Sizes.{contents_most}
use Rattle.elf_image.proofs.writing.write.Goals as goal

pub put_program_headers-requires : goal.put_program_headers-requires
put_program_headers-requires c =
    let v = c.segments-segments.ensures.valid in
    omega (arith, c.from.ensures, contents_most _ v.each, v.few)
