-- What stands where in the text of an image.
use Rattle.std.proofs.Common.{◌≡◌, ℕ, ◌+◌, ◌*◌, ◌^◌, ◌<◌, List, [], ◌∷◌, ◌++◌, length, take, drop, Bool, true, false, refl, ap, sym, ◌∙◌, arith, append_assoc, length-append, lit<}
use Rattle.std.proofs.lemmas.Nat.{from_le_bytes-to_le_bytes_2, from_le_bytes-to_le_bytes_4}
use Rattle.std.proofs.lemmas.List.{drop-drop}
use Rattle.std.proofs.Math.Seq.{drop-append-add}
use Rattle.std.specs.Int.{w16, w32, to_le_bytes, from_le_bytes}
use Rattle.rv_core.specs.declared.image.Segment.{Segment}
use Rattle.elf_image.specs.Text.{header, flags_of, program_header, program_headers, contents}
use Rattle.elf_image.specs.Headers.{half_at, word_at, header_of, program_header_at, has}

-- a number that was written there
half_at-le : (bytes : List ℕ) (at n : ℕ) (rest : List ℕ) → drop at bytes ≡ to_le_bytes w16 n ++ rest → n < 2 ^ 16 → half_at bytes at ≡ n
unfolding half_at
half_at-le bytes at n rest here small = ap (λ l. from_le_bytes w16 (take 2 l)) here ∙ from_le_bytes-to_le_bytes_2 n small

word_at-le : (bytes : List ℕ) (at n : ℕ) (rest : List ℕ) → drop at bytes ≡ to_le_bytes w32 n ++ rest → n < 2 ^ 32 → word_at bytes at ≡ n
unfolding word_at
word_at-le bytes at n rest here small = ap (λ l. from_le_bytes w32 (take 4 l)) here ∙ from_le_bytes-to_le_bytes_4 n small

-- the fields of the ELF header
header_by : (kind machine entry table entry_size count : ℕ) (bytes : List ℕ) → half_at bytes 16 ≡ kind → half_at bytes 18 ≡ machine → word_at bytes 24 ≡ entry → word_at bytes 28 ≡ table → half_at bytes 42 ≡ entry_size → half_at bytes 44 ≡ count → header_of bytes ≡ record { kind = kind; machine = machine; entry = entry; table = table; entry_size = entry_size; count = count }
header_by kind machine entry table entry_size count bytes a b d e f g = rw (a, b, d, e, f, g) refl

pub header_of-header : (entry count : ℕ) (rest : List ℕ) → entry < 2 ^ 32 → count < 2 ^ 16 → header_of (header entry count ++ rest) ≡ record { kind = 2; machine = 243; entry = entry; table = 52; entry_size = 32; count = count }
header_of-header entry count rest e n =
    let text : List ℕ = header entry count ++ rest in
    header_by 2 243 entry 52 32 count text
    (half_at-le text 16 2 _ refl (lit< tt))
    (half_at-le text 18 243 _ refl (lit< tt))
    (word_at-le text 24 entry _ refl e)
    (word_at-le text 28 52 _ refl (lit< tt))
    (half_at-le text 42 32 _ refl (lit< tt))
    (half_at-le text 44 count _ refl n)

-- the fields of a program header
program_header_by : (kind offset address file_size memory_size flags : ℕ) (bytes : List ℕ) (at : ℕ) → word_at bytes at ≡ kind → word_at bytes (at + 4) ≡ offset → word_at bytes (at + 8) ≡ address → word_at bytes (at + 16) ≡ file_size → word_at bytes (at + 20) ≡ memory_size → word_at bytes (at + 24) ≡ flags → program_header_at bytes at ≡ record { kind = kind; offset = offset; address = address; file_size = file_size; memory_size = memory_size; flags = flags }
program_header_by kind offset address file_size memory_size flags bytes at a b d e f g = rw (a, b, d, e, f, g) refl

flags_small : (r w x : Bool) → flags_of r w x < 2 ^ 32
flags_small true true true = lit< tt
flags_small true true false = lit< tt
flags_small true false true = lit< tt
flags_small true false false = lit< tt
flags_small false true true = lit< tt
flags_small false true false = lit< tt
flags_small false false true = lit< tt
flags_small false false false = lit< tt

-- what stands behind the front of a list
pub drop-add : (bytes : List ℕ) (a b : ℕ) (front rest : List ℕ) → drop a bytes ≡ front → drop b front ≡ rest → drop (a + b) bytes ≡ rest
drop-add bytes a b front rest here behind = sym (drop-drop b a bytes) ∙ ap (drop b) here ∙ behind

pub program_header_at-program_header : (bytes : List ℕ) (at offset : ℕ) (s : Segment) (rest : List ℕ) → drop at bytes ≡ program_header offset s ++ rest → offset < 2 ^ 32 → s.at < 2 ^ 32 → length s.bytes < 2 ^ 32 → s.size < 2 ^ 32 → program_header_at bytes at ≡ record { kind = 1; offset = offset; address = s.at; file_size = length s.bytes; memory_size = s.size; flags = flags_of s.read s.write s.exec }
program_header_at-program_header bytes at offset s rest here o a l z =
    program_header_by 1 offset s.at (length s.bytes) s.size (flags_of s.read s.write s.exec) bytes at
    (word_at-le bytes at 1 _ here (lit< tt))
    (word_at-le bytes (at + 4) offset _ (drop-add bytes at 4 _ _ here refl) o)
    (word_at-le bytes (at + 8) s.at _ (drop-add bytes at 8 _ _ here refl) a)
    (word_at-le bytes (at + 16) (length s.bytes) _ (drop-add bytes at 16 _ _ here refl) l)
    (word_at-le bytes (at + 20) s.size _ (drop-add bytes at 20 _ _ here refl) z)
    (word_at-le bytes (at + 24) (flags_of s.read s.write s.exec) _ (drop-add bytes at 24 _ _ here refl) (flags_small s.read s.write s.exec))

-- the rights come back from the flags
pub has-read : (r w x : Bool) → has (flags_of r w x) 4 ≡ r
has-read true true true = refl
has-read true true false = refl
has-read true false true = refl
has-read true false false = refl
has-read false true true = refl
has-read false true false = refl
has-read false false true = refl
has-read false false false = refl

pub has-write : (r w x : Bool) → has (flags_of r w x) 2 ≡ w
has-write true true true = refl
has-write true true false = refl
has-write true false true = refl
has-write true false false = refl
has-write false true true = refl
has-write false true false = refl
has-write false false true = refl
has-write false false false = refl

pub has-exec : (r w x : Bool) → has (flags_of r w x) 1 ≡ x
has-exec true true true = refl
has-exec true true false = refl
has-exec true false true = refl
has-exec true false false = refl
has-exec false true true = refl
has-exec false true false = refl
has-exec false false true = refl
has-exec false false false = refl

-- the program headers behind the first ones, and the bytes of the segments behind the first ones
pub drop-program_headers : (at : ℕ) (pre suf : List Segment) (rest : List ℕ) → drop (32 * length pre) (program_headers at (pre ++ suf) ++ rest) ≡ program_headers (at + length (contents pre)) suf ++ rest
drop-program_headers at [] suf rest = ap (λ n. program_headers n suf ++ rest) (let e : at ≡ at + 0 = omega arith in e)
drop-program_headers at (s ∷ pre) suf rest =
    let size : 32 * length (s ∷ pre) ≡ length (program_header at s) + 32 * length pre = omega arith in
    let offset : at + length s.bytes + length (contents pre) ≡ at + length (contents (s ∷ pre)) = omega (arith, length-append s.bytes (contents pre)) in
    ap (λ n. drop n (program_headers at (s ∷ pre ++ suf) ++ rest)) size
    ∙ ap (λ l. drop (length (program_header at s) + 32 * length pre) l) (append_assoc (program_header at s) (program_headers (at + length s.bytes) (pre ++ suf)) rest)
    ∙ drop-append-add (program_header at s) (program_headers (at + length s.bytes) (pre ++ suf) ++ rest) (32 * length pre)
    ∙ drop-program_headers (at + length s.bytes) pre suf rest
    ∙ ap (λ n. program_headers n suf ++ rest) offset

pub contents-append : (pre suf : List Segment) → contents (pre ++ suf) ≡ contents pre ++ contents suf
contents-append [] suf = refl
contents-append (s ∷ pre) suf = ap (λ l. s.bytes ++ l) (contents-append pre suf) ∙ sym (append_assoc s.bytes (contents pre) (contents suf))

pub length-program_headers : (at : ℕ) (ss : List Segment) → length (program_headers at ss) ≡ 32 * length ss
length-program_headers at [] = refl
length-program_headers at (s ∷ ss) = length-append (program_header at s) (program_headers (at + length s.bytes) ss) ∙ omega (arith, length-program_headers (at + length s.bytes) ss)
