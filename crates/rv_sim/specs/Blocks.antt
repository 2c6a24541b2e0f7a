-- What a block of a simulated memory keeps beside its bytes: its region, and the instructions of its aligned words.
use Rattle.std.specs.Prelude.{◌≡◌, ◌≢◌, ℕ, ◌+◌, ◌-◌, ◌*◌, ◌/◌, ◌≤◌, ◌<◌, List, length, slice_index_or, Option, None, Bool, IsTrue}
use Rattle.rv_core.specs.declared.image.Segment.{Segment}
use Rattle.rv_core.specs.declared.regions.Region.{Region}
use Rattle.rv_core.specs.declared.regions.Region.TheVariants.{Ram}
use Rattle.rv_core.specs.declared.row.Width.TheVariants.{Word}
use Rattle.rv_core.specs.Instructions.{Instruction}
use Rattle.rv_core.specs.Words.{decode_of}
use Rattle.rv_core.specs.Regions.{region_start, region_size}
use Rattle.rv_core.specs.Images.{LiesIn}
use Rattle.rv_core.specs.Memory.{Block, number_at}

-- the number of the first aligned word at or behind an address
abbrev pub first_word : ℕ → ℕ
first_word at = (at + 3) / 4

abbrev pub block : ℕ → List ℕ → Bool → Bool → Bool → Block
block at bytes read write exec = record { at = at; bytes = bytes; read = read; write = write; exec = exec }

-- the place in a block of the k-th of its aligned words
abbrev pub word_place : ℕ → ℕ → ℕ
word_place at k = 4 * (first_word at + k) - at

-- these are the instructions of the aligned words
pub record AreDecoded (at : ℕ) (bytes : List ℕ) (code : List (Option Instruction)) : Type 0 where
  pub all : length code ≡ (at + length bytes) / 4 - first_word at
  pub each : (k : ℕ) → k < length code → slice_index_or code k None ≡ decode_of (number_at Word bytes (word_place at k))

-- the region of a segment that isn't empty
pub record IsRegionOf (s : Segment) (r : Region) : Type 0 where
  pub lies : LiesIn r s
  pub never_ram : IsTrue s.exec → r ≢ Ram

-- the bytes lie in this region
pub record LieIn (r : Region) (b : Block) : Type 0 where
  pub from : region_start r ≤ b.at
  pub to : b.at + length b.bytes ≤ region_start r + region_size r

pub record IsKept (b : Block) (region : Region) (code : List (Option Instruction)) : Type 0 where
  pub not_both : IsTrue b.write → IsTrue b.exec → ⊥
  pub placed : 0 < length b.bytes → LieIn region b
  pub never_ram : IsTrue b.exec → 0 < length b.bytes → region ≢ Ram
  pub decoded : IsTrue b.exec → AreDecoded b.at b.bytes code
