-- The memory: blocks of bytes with their rights, and words in it, the low byte first.
use Rattle.std.specs.Prelude.{ℕ, ◌+◌, ◌-◌, ◌*◌, ◌/◌, ◌%◌, ◌^◌, ◌&&◌, List, [], ◌∷◌, ◌++◌, length, map, replicate, Bool, Option, Some, None, nat_le, slice_index, slice_set, if◌then◌else◌}
use Rattle.std.specs.Option.{option_map}
use Rattle.rv_core.specs.declared.image.Segment.{Segment}
use Rattle.rv_core.specs.declared.row.Width.{Width}
use Rattle.rv_core.specs.declared.row.Width.TheVariants.{Byte, Half, Word}
use Rattle.rv_core.specs.Arithmetic.{byte_count}

-- a segment as it is filled
pub record Block : Type 0 where
  pub at : ℕ
  pub bytes : List ℕ
  pub read : Bool
  pub write : Bool
  pub exec : Bool

-- the bytes of a segment, then zeros
abbrev pub block_of : Segment → Block
block_of s = record { at = s.at; bytes = s.bytes ++ replicate (s.size - length s.bytes) 0; read = s.read; write = s.write; exec = s.exec }

abbrev pub loaded : List Segment → List Block
loaded segments = map block_of segments

-- the n bytes from an address on lie in the block
abbrev pub holds_span : Block → ℕ → ℕ → Bool
holds_span b at n = nat_le b.at at && nat_le (at + n) (b.at + length b.bytes)

-- the number that stands at a place of some bytes
unfoldable pub number_at : Width → List ℕ → ℕ → ℕ
number_at Byte bytes k = slice_index bytes k
number_at Half bytes k = slice_index bytes k + 2 ^ 8 * slice_index bytes (k + 1)
number_at Word bytes k = slice_index bytes k + 2 ^ 8 * slice_index bytes (k + 1) + 2 ^ 16 * slice_index bytes (k + 2) + 2 ^ 24 * slice_index bytes (k + 3)

-- the bytes with the low bytes of a word at a place
unfoldable pub with_number : Width → List ℕ → ℕ → ℕ → List ℕ
with_number Byte bytes k v = slice_set bytes k (v % 2 ^ 8)
with_number Half bytes k v = slice_set (slice_set bytes k (v % 2 ^ 8)) (k + 1) (v / 2 ^ 8 % 2 ^ 8)
with_number Word bytes k v = slice_set (slice_set (slice_set (slice_set bytes k (v % 2 ^ 8)) (k + 1) (v / 2 ^ 8 % 2 ^ 8)) (k + 2) (v / 2 ^ 16 % 2 ^ 8)) (k + 3) (v / 2 ^ 24 % 2 ^ 8)

-- the number at an address, if it lies wholly in one block with the right
abbrev pub read_from : (Block → Bool) → Width → List Block → ℕ → Option ℕ
read_from right w [] at = None
read_from right w (b ∷ bs) at = if right b && holds_span b at (byte_count w) then Some (number_at w b.bytes (at - b.at)) else read_from right w bs at

-- the memory with a number at an address, if it lies wholly in one block that may be written
abbrev pub written_to : Width → List Block → ℕ → ℕ → Option (List Block)
written_to w [] at v = None
written_to w (b ∷ bs) at v =
    if b.write && holds_span b at (byte_count w) then Some ((record b { bytes = with_number w b.bytes (at - b.at) v }) ∷ bs)
    else option_map (λ rest. b ∷ rest) (written_to w bs at v)
