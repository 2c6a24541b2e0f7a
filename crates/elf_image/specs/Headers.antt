-- The fields of the ELF header and of a program header, at their places in the file (ELF32: ELF header, program header).
use Rattle.std.specs.Prelude.{ℕ, ◌+◌, ◌*◌, List, Bool, not, ◌==◌, take, drop, bit_and}
use Rattle.std.specs.Int.{w16, w32, from_le_bytes}
use Rattle.elf_image.specs.declared.headers.Header.{Header}
use Rattle.elf_image.specs.declared.headers.ProgramHeader.{ProgramHeader}

-- the numbers of 16 and 32 bits at a place, the low byte first
unfoldable pub half_at : List ℕ → ℕ → ℕ
half_at bytes at = from_le_bytes w16 (take 2 (drop at bytes))

unfoldable pub word_at : List ℕ → ℕ → ℕ
word_at bytes at = from_le_bytes w32 (take 4 (drop at bytes))

-- the ELF header at the front of the file
abbrev pub header_of : List ℕ → Header
header_of bytes = record { kind = half_at bytes 16; machine = half_at bytes 18; entry = word_at bytes 24; table = word_at bytes 28; entry_size = half_at bytes 42; count = half_at bytes 44 }

-- the program header at a place
abbrev pub program_header_at : List ℕ → ℕ → ProgramHeader
program_header_at bytes at = record { kind = word_at bytes at; offset = word_at bytes (at + 4); address = word_at bytes (at + 8); file_size = word_at bytes (at + 16); memory_size = word_at bytes (at + 20); flags = word_at bytes (at + 24) }

-- the program header with that index, counted from 0
abbrev pub program_header_of : List ℕ → ℕ → ProgramHeader
program_header_of bytes index = program_header_at bytes ((header_of bytes).table + 32 * index)

-- one of the bits of the mask stands in the flags
abbrev pub has : ℕ → ℕ → Bool
has flags mask = not (bit_and flags mask == 0)
