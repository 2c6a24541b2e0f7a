-- How many bytes a function takes at most, wherever arrays lie.
use Rattle.std.specs.Prelude.{◌≡◌, ℕ, ◌+◌, ◌*◌, ◌%◌, ◌^◌, List, [], ◌∷◌, if◌then◌else◌}
use Rattle.asm_items.specs.Placings.{blocks_size}
use Rattle.asm_forms.specs.Shorter.{blocks_longest}
use Rattle.low_ir.specs.declared.places.Place.{Place}
use Rattle.low_ir.specs.Code.{Base, Fixed, Through, Point, Load, Store, Instr, Do}
use Rattle.low_ir.specs.Places.{Placed}
use Rattle.asm_program.specs.Frames.{Memory, object_at}
use Rattle.asm_program.specs.Functions.{PlacedBlock, function_in, function_items}
use Rattle.asm_program.specs.Numbers.{is_reached}

-- an array that lies near x3 or beside x7 needs no instruction for its address; wherever it lies, one is enough
abbrev pub near_base : Memory → Base Place → ℕ → ℕ
near_base m (Fixed o) n = if is_reached m.second ((object_at m o + n) % 2 ^ 32) then 1 else 0
near_base m (Through r claim) n = 0

abbrev pub near_instr : Memory → Instr Place (List ℕ) → ℕ
near_instr m (Do (Point d a)) = near_base m a.base a.displacement
near_instr m (Do (Load kind d a)) = near_base m a.base a.displacement
near_instr m (Do (Store kind a x)) = near_base m a.base a.displacement
near_instr m i = 0

abbrev pub near_code : Memory → List (Instr Place (List ℕ)) → ℕ
near_code m [] = 0
near_code m (i ∷ is) = near_instr m i + near_code m is

abbrev pub near_blocks : Memory → List PlacedBlock → ℕ
near_blocks m [] = 0
near_blocks m (b ∷ bs) = near_code m b.code + near_blocks m bs

-- the bytes of a function whose items have their longest forms, and whose arrays are all far
abbrev pub function_size : Memory → Placed → ℕ → ℕ
function_size m p f = blocks_size (blocks_longest (function_items m p f)) + 4 * near_blocks m (function_in p f).blocks

-- so it is the same wherever arrays lie
abbrev pub SizesAreKept : Type 0
SizesAreKept = (m n : Memory) (p : Placed) (f : ℕ) → m.frames ≡ n.frames → function_size m p f ≡ function_size n p f
