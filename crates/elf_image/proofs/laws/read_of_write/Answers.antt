use Rattle.std.proofs.Common.{◌^◌, ◌<◌, arith}
use Rattle.elf_image.proofs.ReadBack.{text_loads, image_of-text_of}
use Rattle.elf_image.proofs.laws.read_of_write.Goals as goal

pub returns : goal.returns
returns c =
    let entry : c.args.image.now.entry < 2 ^ 32 = omega (arith, c.entry.ensures, c.entry.type_inv) in
    let valid = rw c.segments.ensures.value at c.segments.ensures.valid in
    let addresses = rw c.segments.ensures.value at c.have_addresses.ensures in
    record {
      loads = text_loads c.args.image.now entry valid addresses;
      same = image_of-text_of c.args.image.now entry valid addresses;
    }
