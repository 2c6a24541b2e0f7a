-- What is written of functions in the chosen forms is placed as a graph wants it.
use Rattle.std.specs.Prelude.{◌≡◌, ℕ, ◌<◌, List, length}
use Rattle.rv_core.specs.Code.{instruction_in}
use Rattle.rv_core.specs.Images.{Image}
use Rattle.code_flow_system.specs.Claims.{is_listed}
use Rattle.code_flow_system.specs.Moves.{Code}
use Rattle.asm_items.specs.Placings.{Blocks, start_of}
use Rattle.asm_items.specs.Standing.{ListsExits}
use Rattle.asm_forms.specs.Laid.{HasRoom}
use Rattle.asm_forms.specs.Layouts.{formed}
use Rattle.asm_forms.specs.Regions.{Rows}
use Rattle.asm_forms.specs.Sound.{FunctionsSound}
use Rattle.asm_graphs.specs.Graphs.{Graph}
use Rattle.asm_graphs.specs.Placed.{IsPlaced}
use Rattle.asm_graphs.specs.Promised.{Promised, blocks_in, block_in}
use Rattle.asm_placed.specs.Exits.{exits_of}
use Rattle.asm_placed.specs.Written.{IsWritten, RowsApart, placing_of}

abbrev pub CodeIsPlaced : Image → Type 0
CodeIsPlaced image = (g : Graph) (r : Rows) (fs : List Blocks) (c : Code) → Promised g fs → FunctionsSound fs → HasRoom r fs → RowsApart r fs → IsWritten r (formed r fs) image → ((a : ℕ) → c.fetch a ≡ instruction_in image a)
    → ((f b : ℕ) → f < g.functions → b < g.blocks f → ListsExits c (start_of (placing_of r (formed r fs)) f b) (block_in (formed r fs) f b)) → IsPlaced g (placing_of r (formed r fs)) c

-- where these addresses are listed, and no others, each block lists its exits
abbrev pub ExitsAreListed : Type 0
ExitsAreListed = (r : Rows) (fs : List Blocks) (c : Code) → HasRoom r fs → RowsApart r fs → ((a : ℕ) → c.exit a ≡ is_listed (exits_of r (formed r fs)) a) → (f b : ℕ) → f < length (formed r fs) → b < length (blocks_in (formed r fs) f)
    → ListsExits c (start_of (placing_of r (formed r fs)) f b) (block_in (formed r fs) f b)
