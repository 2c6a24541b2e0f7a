-- Why the bytes of a file are no image: the first of the causes that holds.
use Rattle.std.specs.Prelude.{List, ℕ}
use Rattle.elf_image.specs.declared.fault.ElfFault.{ElfFault}
use Rattle.elf_image.specs.declared.fault.ElfFault.TheVariants.{NotElf, WrongMachine, BadSegment, Memory}
use Rattle.elf_image.specs.Headers.{header_of}
use Rattle.elf_image.specs.Loading.{IsElf, IsExecutable, IsFirstBad}

-- want of memory says nothing of the bytes
abbrev pub IsNoImage : List ℕ → ElfFault → Type 0
IsNoImage bytes NotElf = IsElf bytes → ⊥
IsNoImage bytes WrongMachine = IsElf bytes × (IsExecutable (header_of bytes) → ⊥)
IsNoImage bytes (BadSegment index) = IsElf bytes × IsExecutable (header_of bytes) × IsFirstBad bytes index
IsNoImage bytes Memory = ⊥

-- the bytes are no image, or memory ran out
abbrev pub StopsAs : List ℕ → ElfFault → Type 0
StopsAs bytes Memory = Unit {0}
StopsAs bytes fault = IsNoImage bytes fault
