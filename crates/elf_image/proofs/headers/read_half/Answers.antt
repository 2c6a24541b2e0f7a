use Rattle.std.proofs.Common.{arith}
use Rattle.std.proofs.lemmas.Grind.{common_steps}
use Rattle.elf_image.specs.Headers.{half_at}
use Rattle.elf_image.proofs.headers.read_half.Goals as goal

pub returns : goal.returns
unfolding half_at
returns c = grind (arith, common_steps, c.from_le_bytes.ensures)
