-- When a program is so small that its image has room.
use Rattle.std.specs.Prelude.{◌≡◌, ℕ, suc, ◌+◌, ◌*◌, ◌^◌, ◌≤◌, Bool, false, if◌then◌else◌, List, [], ◌∷◌, length, map, All, slice_index_or}
use Rattle.std.specs.List.{range_with_len}
use Rattle.wcc_base.specs.Budgets.{most_instructions}
use Rattle.low_ir.specs.declared.object.Storage.{Storage}
use Rattle.low_ir.specs.declared.object.Storage.TheVariants.{Constant as Fixed', Global, Local}
use Rattle.low_ir.specs.Arrays.{array_size}
use Rattle.low_ir.specs.Code.{Object}
use Rattle.low_ir.specs.Effects.{can_store}
use Rattle.low_ir.specs.Places.{Placed}
use Rattle.low_ir.specs.Room.{room}
use Rattle.asm_program.specs.Formed.{IsProgram}
use Rattle.asm_program.specs.Functions.{PlacedBlock, PlacedFunction}
use Rattle.asm_program.specs.Laws.{AreWords}
use Rattle.asm_sound.specs.Functions.{function_size}
use Rattle.image_frames.specs.Frames.{frames_of}
use Rattle.image_frames.specs.Memories.{Placement}
use Rattle.image_definition.specs.Images.{FitsImage}

-- what constants take, and what other arrays do
abbrev pub constants_room : List Object → ℕ
constants_room [] = 0
constants_room (x ∷ xs) = (if can_store x.storage then 0 else array_size x) + constants_room xs

abbrev pub variables_room : List Object → ℕ
variables_room [] = 0
variables_room (x ∷ xs) = (if can_store x.storage then array_size x else 0) + variables_room xs

-- the bytes of arrays that aren't local
abbrev pub unless_local : Storage → ℕ → ℕ
unless_local Fixed' n = n
unless_local Global n = n
unless_local Local n = 0

abbrev pub globals_size : List Object → ℕ
globals_size [] = 0
globals_size (x ∷ xs) = unless_local x.storage (array_size x) + globals_size xs

-- the bytes of arrays, and those that functions take at most, wherever arrays lie (`asm_sound`)
abbrev pub array_sizes : Placed → List ℕ
array_sizes p = map array_size p.objects

abbrev pub code_size : Placed → ℕ → ℕ
code_size p f = function_size (record { frames = frames_of p; objects = []; second = 0 }) p f

abbrev pub function_sizes : Placed → List ℕ
function_sizes p = map (code_size p) (range_with_len 0 (length p.functions))

-- the sizes of what is placed, from number k on, all together
abbrev pub sizes_placed : List Bool → ℕ → List ℕ → ℕ
sizes_placed placed k [] = 0
sizes_placed placed k (n ∷ ns) = (if slice_index_or placed k false then n else 0) + sizes_placed placed (suc k) ns

-- what frames take at most: the return address, all registers twice, and the slots
abbrev pub frames_room : List PlacedFunction → ℕ
frames_room [] = 0
frames_room (fn ∷ fns) = 4 * (49 + fn.size) + frames_room fns

-- whatever is placed: in instructions, and all else in bytes
pub record HasRoom (p : Placed) : Type 0 where
  pub code : room p ≤ most_instructions
  pub constants : constants_room p.objects ≤ 2 ^ 18
  pub variables : frames_room p.functions + variables_room p.objects ≤ 2 ^ 21

pub record HasSizes (pl : Placement) (p : Placed) : Type 0 where
  pub room : HasRoom p
  -- what is placed has room in the scratchpad
  pub placed : sizes_placed pl.objects 0 (array_sizes p) + sizes_placed pl.functions 0 (function_sizes p) ≤ 2 ^ 16
  -- the start code lies in flash
  pub start : slice_index_or pl.functions (length p.functions) false ≡ false

-- displacements are words
abbrev pub HasWords : Placed → Type 0
HasWords p = All (λ (fn : PlacedFunction). All (λ (b : PlacedBlock). All AreWords b.code) fn.blocks) p.functions

abbrev pub SizesFit : Type 0
SizesFit = (pl : Placement) (p : Placed) → IsProgram p → HasWords p → HasSizes pl p → FitsImage pl p

-- nothing is placed
abbrev pub NothingFits : Type 0
NothingFits = (p : Placed) → HasRoom p → HasSizes (record { functions = []; objects = [] }) p
