use Rattle.std.proofs.Common.{◌<◌, ap, arith}
use Rattle.elf_image.specs.declared.headers.Header.{Header}
use Rattle.elf_image.specs.Headers.{header_of}
use Rattle.elf_image.proofs.ProgressLemmas.{nth_of_table, loaded_more, first_bad}
use Rattle.elf_image.proofs.reading.read_segments.Goals as goal

pub returns-in_default : goal.returns-in_default
returns-in_default c =
    let is = nth_of_table _ _ _ _ c.requires.header c.read_program_header-program_header.ensures in
    let below : c.loop-index.index < (header_of c.args.bytes.now).count = omega (arith, ap (λ (h : Header). h.count) c.requires.header) in
    first_bad _ _ _ _ _ c.loop-index.invariant c.deref.ensures.value is below (omega arith) (rw c.in_default.is at c.in_ok-segment.ensures)

pub loop-index-preserved : goal.loop-index-preserved
loop-index-preserved c =
    let is = nth_of_table _ _ _ _ c.requires.header c.read_program_header-program_header.ensures in
    loaded_more _ _ _ _ _ _ _ c.loop-index.invariant c.deref.ensures.value is (omega arith) (rw c.in-Some.is at c.in_ok-segment.ensures) c.in_ok-insert.ensures
