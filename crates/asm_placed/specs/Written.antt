-- Images in which functions were written, in their rows.
use Rattle.std.specs.Prelude.{◌≡◌, ◌⊎◌, ℕ, suc, ◌+◌, ◌%◌, ◌<◌, ◌≤◌, Bool, true, false, not, List, [], ◌∷◌, ◌++◌, map, length, slice_index, slice_index_or, if◌then◌else◌, Contains}
use Rattle.rv_core.specs.Bytes.{le_words}
use Rattle.rv_core.specs.declared.image.Segment.{Segment}
use Rattle.rv_core.specs.Images.{Image}
use Rattle.rv_core.specs.Instructions.{Instruction}
use Rattle.rv_core.specs.Words.{word_of}
use Rattle.asm_items.specs.Items.{Starts}
use Rattle.asm_items.specs.Placings.{Blocks, Placing, blocks_words}
use Rattle.asm_forms.specs.Layouts.{starts_of}
use Rattle.asm_forms.specs.Regions.{Rows, bases_of, functions_size}
use Rattle.asm_forms.specs.Shorter.{functions_longest}

-- the instructions of those functions from number f on that lie in a row
abbrev pub row_words : Starts → List ℕ → (ℕ → Bool) → ℕ → List Blocks → List Instruction
row_words p bases here f [] = []
row_words p bases here f (bs ∷ fs) =
    if here f then blocks_words p f (slice_index bases f) bs ++ row_words p bases here (suc f) fs else row_words p bases here (suc f) fs

abbrev pub in_scratchpad : Rows → ℕ → Bool
in_scratchpad r f = slice_index_or r.placed f false

abbrev pub flash_words : Rows → List Blocks → List Instruction
flash_words r fs = row_words (starts_of r fs) (bases_of r fs) (λ f. not (in_scratchpad r f)) 0 fs

abbrev pub scratchpad_words : Rows → List Blocks → List Instruction
scratchpad_words r fs = row_words (starts_of r fs) (bases_of r fs) (in_scratchpad r) 0 fs

-- a segment that holds these instructions and no more
pub record Holds (s : Segment) (at : ℕ) (is : List Instruction) : Type 0 where
  pub begins : s.at ≡ at
  pub bytes : s.bytes ≡ le_words (map word_of is)
  pub full : length s.bytes ≡ s.size

abbrev pub HasSegment : Image → ℕ → Type 0
HasSegment image at = (s : Segment) × Contains image.segments s × (s.exec ≡ true) × (s.at ≡ at)

-- what an image can execute are the two rows; one without functions may have no segment
pub record IsWritten (r : Rows) (fs : List Blocks) (image : Image) : Type 0 where
  pub each : (s : Segment) → Contains image.segments s → s.exec ≡ true → Holds s r.flash (flash_words r fs) ⊎ Holds s r.scratchpad (scratchpad_words r fs)
  pub flash : (flash_words r fs ≡ []) ⊎ HasSegment image r.flash
  pub scratchpad : (scratchpad_words r fs ≡ []) ⊎ HasSegment image r.scratchpad

-- both rows begin at multiples of 4, and that of flash would end before the other begins if its items had their longest forms
pub record RowsApart (r : Rows) (fs : List Blocks) : Type 0 where
  pub flash : r.flash % 4 ≡ 0
  pub scratchpad : r.scratchpad % 4 ≡ 0
  pub before : r.flash < r.scratchpad
  pub apart : r.flash + functions_size (functions_longest fs) ≤ r.scratchpad

abbrev pub placing_of : Rows → List Blocks → Placing
placing_of r fs = record { functions = fs; bases = bases_of r fs }
