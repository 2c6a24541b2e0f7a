-- Items, and what they take.
use Rattle.std.specs.Prelude.{◌≡◌, ℕ, suc, ◌+◌, ◌<◌, Bool, true, false, List, [], ◌∷◌, ◌++◌, length, map, Some, slice_get, if◌then◌else◌}
use Rattle.std.specs.List.{range_with_len}
use Rattle.rv_core.specs.declared.regions.Region.{Region}
use Rattle.rv_core.specs.declared.regions.Region.TheVariants.{Flash, Spm, Ram}
use Rattle.asm_placed.specs.Written.{flash_words, scratchpad_words}
use Rattle.low_ir.specs.Arrays.{array_size}
use Rattle.low_ir.specs.declared.object.Storage.{Storage}
use Rattle.low_ir.specs.declared.object.Storage.TheVariants.{Constant as Fixed', Global, Local}
use Rattle.low_ir.specs.Code.{Object}
use Rattle.low_ir.specs.Places.{Placed}
use Rattle.image_frames.specs.Memories.{Placement}
use Rattle.image_definition.specs.Images.{formed_in, rows_in}
use Rattle.image_definition.specs.Sizes.{code_size}
use Rattle.claims_definition.specs.Lines.{same_region}
use Rattle.claims_definition.specs.Movables.{Movable, is_local}

-- each array has elements
abbrev pub HasElements : Placed → Type 0
HasElements p = (o : ℕ) (x : Object) → slice_get p.objects o ≡ Some x → 0 < x.size

-- the instructions of an image
abbrev pub instructions_in : Placement → Placed → ℕ
instructions_in pl p = length (flash_words (rows_in pl p) (formed_in pl p)) + length (scratchpad_words (rows_in pl p) (formed_in pl p))

-- what items in the scratchpad take together
abbrev pub scratchpad_size : List Movable → ℕ
scratchpad_size [] = 0
scratchpad_size (m ∷ ms) = (if same_region Spm m.region then m.size else 0) + scratchpad_size ms

-- the region of an array: the scratchpad, or that of its storage
abbrev pub array_region : Bool → Storage → Region
array_region true s = Spm
array_region false Fixed' = Flash
array_region false Global = Ram
array_region false Local = Ram

-- the items of a program with their numbers and sizes, whatever is placed: its functions, and then its arrays that aren't local
abbrev pub array_sized : ℕ → Object → List (ℕ × ℕ)
array_sized k x = if is_local x.storage then [] else (k, array_size x) ∷ []

abbrev pub arrays_sized : ℕ → List Object → List (ℕ × ℕ)
arrays_sized k [] = []
arrays_sized k (x ∷ xs) = array_sized k x ++ arrays_sized (suc k) xs

abbrev pub item_sizes : Placed → List (ℕ × ℕ)
item_sizes p = map (λ f. (f, code_size p f)) (range_with_len 0 (length p.functions)) ++ arrays_sized (length p.functions) p.objects

abbrev pub sized : Movable → ℕ × ℕ
sized m = (m.id, m.size)
