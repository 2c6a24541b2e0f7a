use Rattle.elf_image.proofs.SortingLemmas.{inserted}
use Rattle.elf_image.proofs.sorting.insert.Goals as goal

pub returns : goal.returns
returns c = inserted _ _ _ _ (rw c.deref.ensures.value at c.place.ensures.value) c.in_ok-insert.ensures.items
