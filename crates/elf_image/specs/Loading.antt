-- What the bytes of a file load to, and where they are refused (ELF32: ELF header, program header, segments of type LOAD).
use Rattle.std.specs.Prelude.{◌≡◌, ◌⊎◌, ℕ, zero, suc, ◌+◌, ◌*◌, ◌≤◌, ◌<◌, List, [], ◌∷◌, ◌++◌, length, take, drop, ◌==◌, if◌then◌else◌}
use Rattle.rv_core.specs.declared.image.Segment.{Segment}
use Rattle.rv_core.specs.Images.{Image, IsSegment, ApartFrom}
use Rattle.elf_image.specs.declared.headers.Header.{Header}
use Rattle.elf_image.specs.declared.headers.ProgramHeader.{ProgramHeader}
use Rattle.elf_image.specs.Text.{ident}
use Rattle.elf_image.specs.Headers.{header_of, program_header_of, has}
use Rattle.elf_image.specs.Sorting.{sorted}

-- the program headers have 32 bytes each, and end within so many bytes
pub record IsTable (size : ℕ) (h : Header) : Type 0 where
  pub entries : h.entry_size ≡ 32
  pub within : h.table + 32 * h.count ≤ size

-- a whole ELF header of the 32-bit class, little-endian, version 1, and its program headers if there are any
pub record IsElf (bytes : List ℕ) : Type 0 where
  pub long : 52 ≤ length bytes
  pub begins : take 7 bytes ≡ take 7 ident
  pub table : 0 < (header_of bytes).count → IsTable (length bytes) (header_of bytes)

-- type 2 is an executable, and machine 243 is RISC-V
pub record IsExecutable (h : Header) : Type 0 where
  pub kind : h.kind ≡ 2
  pub machine : h.machine ≡ 243

-- the bytes of a segment, if it has any, end within so many bytes
abbrev pub IsWithin : ℕ → ProgramHeader → Type 0
IsWithin size h = (h.file_size ≡ 0) ⊎ (h.offset + h.file_size ≤ size)

-- the segment of a program header (flag 1 is X, 2 is W and 4 is R)
abbrev pub segment_of : List ℕ → ProgramHeader → Segment
segment_of bytes h = record { at = h.address; bytes = take h.file_size (drop h.offset bytes); size = h.memory_size; read = has h.flags 4; write = has h.flags 2; exec = has h.flags 1 }

-- a program header passes behind the segments before it: its bytes are there, its segment may stand in
-- an image (it holds its bytes, lies in one region, and has the rights that may be had there), it shares
-- no address with those before it, and they are fewer than 16
pub record Passes (bytes : List ℕ) (before : List Segment) (h : ProgramHeader) : Type 0 where
  pub within : IsWithin (length bytes) h
  pub sound : IsSegment (segment_of bytes h)
  pub apart : ApartFrom (segment_of bytes h) before
  pub few : length before < 16

-- type 1 is a segment to load; headers of other types have none
abbrev pub loaded_by : List ℕ → ProgramHeader → List Segment
loaded_by bytes h = if h.kind == 1 then segment_of bytes h ∷ [] else []

-- the segments of the first program headers, in the order of the file
abbrev pub segments_of : List ℕ → ℕ → List Segment
segments_of bytes zero = []
segments_of bytes (suc n) = segments_of bytes n ++ loaded_by bytes (program_header_of bytes n)

-- the program header with that index has a segment to load, and doesn't pass
pub record IsBad (bytes : List ℕ) (index : ℕ) : Type 0 where
  pub there : index < (header_of bytes).count
  pub loads : (program_header_of bytes index).kind ≡ 1
  pub fails : Passes bytes (segments_of bytes index) (program_header_of bytes index) → ⊥

abbrev pub NoneBadBelow : List ℕ → ℕ → Type 0
NoneBadBelow bytes n = (k : ℕ) → k < n → IsBad bytes k → ⊥

pub record IsFirstBad (bytes : List ℕ) (index : ℕ) : Type 0 where
  pub bad : IsBad bytes index
  pub first : NoneBadBelow bytes index

-- the file is one that loads
pub record IsLoadable (bytes : List ℕ) : Type 0 where
  pub elf : IsElf bytes
  pub executable : IsExecutable (header_of bytes)
  pub good : NoneBadBelow bytes (header_of bytes).count

-- what it loads to
abbrev pub image_of : List ℕ → Image
image_of bytes = record { entry = (header_of bytes).entry; segments = sorted (segments_of bytes (header_of bytes).count) }
