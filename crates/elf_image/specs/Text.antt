-- The canonical text of an image: the ELF header, a program header for each segment, and the bytes of the segments (ELF32).
use Rattle.std.specs.Prelude.{ℕ, ◌+◌, ◌*◌, List, [], ◌∷◌, ◌++◌, length, Bool, if◌then◌else◌}
use Rattle.rv_core.specs.Bytes.{le_words, le_halves}
use Rattle.rv_core.specs.declared.image.Segment.{Segment}
use Rattle.rv_core.specs.Images.{Image}

-- four bytes, the class, the order of bytes, the version, and nine zeros
abbrev pub ident : List ℕ
ident = 0x7f ∷ 0x45 ∷ 0x4c ∷ 0x46 ∷ 1 ∷ 1 ∷ 1 ∷ 0 ∷ 0 ∷ 0 ∷ 0 ∷ 0 ∷ 0 ∷ 0 ∷ 0 ∷ 0 ∷ []

-- the header of a file with that entry and so many segments
abbrev pub header : ℕ → ℕ → List ℕ
header entry count = ident ++ le_halves (2 ∷ 243 ∷ []) ++ le_words (1 ∷ entry ∷ 52 ∷ 0 ∷ 0 ∷ []) ++ le_halves (52 ∷ 32 ∷ count ∷ 0 ∷ 0 ∷ 0 ∷ [])

-- X is 1, W is 2 and R is 4
abbrev pub flags_of : Bool → Bool → Bool → ℕ
flags_of read write exec = (if exec then 1 else 0) + (if write then 2 else 0) + (if read then 4 else 0)

-- the program header of a segment whose bytes stand at that place of the file
abbrev pub program_header : ℕ → Segment → List ℕ
program_header at s = le_words (1 ∷ at ∷ s.at ∷ s.at ∷ length s.bytes ∷ s.size ∷ flags_of s.read s.write s.exec ∷ 1 ∷ [])

-- the program headers of segments whose bytes stand one behind the other from that place on
abbrev pub program_headers : ℕ → List Segment → List ℕ
program_headers at [] = []
program_headers at (s ∷ ss) = program_header at s ++ program_headers (at + length s.bytes) ss

-- the bytes of the segments, one behind the other
abbrev pub contents : List Segment → List ℕ
contents [] = []
contents (s ∷ ss) = s.bytes ++ contents ss

-- the text of an image
abbrev pub text_of : Image → List ℕ
text_of image = header image.entry (length image.segments) ++ program_headers (52 + 32 * length image.segments) image.segments ++ contents image.segments
