-- The instruction at an address: of a memory, and of an image, whose code no run changes.
use Rattle.std.specs.Prelude.{ℕ, ◌-◌, List, Option, Some, None, nat_le, if◌then◌else◌}
use Rattle.rv_core.specs.Instructions.{Instruction}
use Rattle.rv_core.specs.Words.{decode_of}
use Rattle.rv_core.specs.Images.{Image}
use Rattle.rv_core.specs.Memory.{Block, loaded}
use Rattle.rv_core.specs.Machine.{fetched}

-- the instruction of a word of code
abbrev pub decoded : Option ℕ → Option Instruction
decoded None = None
decoded (Some w) = decode_of w

-- the instruction that is fetched at an address
abbrev pub instruction_at : List Block → ℕ → Option Instruction
instruction_at memory at = decoded (fetched memory at)

-- the instruction before an address
abbrev pub instruction_before : List Block → ℕ → Option Instruction
instruction_before memory at = if nat_le 4 at then instruction_at memory (at - 4) else None

-- the word of an image at an address, where one can be fetched: behind the bytes of a segment stand zeros
abbrev pub word_in : Image → ℕ → Option ℕ
word_in image at = fetched (loaded image.segments) at

-- the instruction of an image at an address
abbrev pub instruction_in : Image → ℕ → Option Instruction
instruction_in image at = decoded (word_in image at)
