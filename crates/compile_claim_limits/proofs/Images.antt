-- How long the text of an image is.
use Rattle.std.proofs.Common.{◌≡◌, ℕ, ◌+◌, ◌*◌, List, [], ◌∷◌, ◌++◌, length, length-append, refl, arith}
use Rattle.rv_core.specs.Images.{Image}
use Rattle.rv_core.specs.declared.image.Segment.{Segment}
use Rattle.elf_image.specs.Text.{contents, header, program_headers, text_of}
use Rattle.elf_image.proofs.TextLemmas.{length-program_headers}
use Rattle.layout_relation.specs.Segments.{bytes_kept}

-- a header, one for each segment, and their bytes

header_length : (entry count : ℕ) → length (header entry count) ≡ 52
header_length entry count = refl

contents_length : (ss : List Segment) → length (contents ss) ≡ bytes_kept ss
contents_length [] = refl
contents_length (s ∷ ss) = let both = length-append s.bytes (contents ss) in let rest = contents_length ss in omega (arith, both, rest)

pub text_length : (i : Image) → length (text_of i) ≡ 52 + (32 * length i.segments + bytes_kept i.segments)
text_length i =
    let count = length i.segments in
    let headers = program_headers (52 + 32 * count) i.segments in
    let all = length-append (header i.entry count) (headers ++ contents i.segments) in
    let rest = length-append headers (contents i.segments) in
    omega (arith, all, rest, header_length i.entry count, length-program_headers (52 + 32 * count) i.segments, contents_length i.segments)
