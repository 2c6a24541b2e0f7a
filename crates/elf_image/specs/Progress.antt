-- What the reader of program headers has done so far, and why it stops.
use Rattle.std.specs.Prelude.{◌≡◌, ℕ, List}
use Rattle.rv_core.specs.declared.image.Segment.{Segment}
use Rattle.rv_core.specs.Images.{AreLoadable}
use Rattle.elf_image.specs.declared.fault.ElfFault.{ElfFault}
use Rattle.elf_image.specs.declared.fault.ElfFault.TheVariants.{NotElf, WrongMachine, BadSegment, Memory}
use Rattle.elf_image.specs.Sorting.{sorted}
use Rattle.elf_image.specs.Loading.{segments_of, NoneBadBelow, IsFirstBad}

-- the first program headers are good, and these are their segments in order
pub record HasLoaded (bytes : List ℕ) (n : ℕ) (segments : List Segment) : Type 0 where
  pub good : NoneBadBelow bytes n
  pub are : segments ≡ sorted (segments_of bytes n)
  pub loadable : AreLoadable segments

-- the fault is that of the first bad program header, or want of memory
abbrev pub StopsAt : List ℕ → ElfFault → Type 0
StopsAt bytes (BadSegment index) = IsFirstBad bytes index
StopsAt bytes Memory = Unit {0}
StopsAt bytes NotElf = ⊥
StopsAt bytes WrongMachine = ⊥
