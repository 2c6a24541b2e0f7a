-- Layouts of a program where it has room, and the sizes that they list.
use Rattle.std.specs.Prelude.{◌≡◌, ℕ, List, [], Option, Some, None, Vec, map, slice_index_or}
use Rattle.std.specs.Global.{Global}
use Rattle.low_ir.specs.declared.places.LowReg.{LowReg}
use Rattle.low_ir.specs.Places.{Placed}
use Rattle.low_ir.specs.Placings.{placed_of}
use Rattle.image_frames.specs.Memories.{Placement}
use Rattle.image_definition.specs.Sizes.{function_sizes, HasRoom, HasSizes}
use Rattle.claims_definition.specs.Movables.{movable_of}
use Rattle.layout_relation.specs.Items.{item_sizes, sized}
use Rattle.layout_program.specs.declared.laid.Laid.{Laid}
use Rattle.layout_program.specs.Laid.{IsLaid}

abbrev pub nothing : Placement
nothing = record { functions = []; objects = [] }

-- with nothing placed it is laid exactly where it has room
abbrev pub IsUnplaced : LowReg → Option Laid → Type 0
IsUnplaced code None = HasRoom (placed_of code) → ⊥
IsUnplaced code (Some y) = IsLaid nothing code y

-- with a placement exactly where that has room, too
abbrev pub IsPlaced : Placement → LowReg → Option Laid → Type 0
IsPlaced pl code None = HasSizes pl (placed_of code) → ⊥
IsPlaced pl code (Some y) = IsLaid pl code y

abbrev pub size_listed : List (ℕ × ℕ) → ℕ → ℕ
size_listed items k = (slice_index_or items k (0, 0)).1

-- where there is a layout of the program, it lists the sizes that the program says
abbrev pub HasListed : Placed → Option Laid → Type 0
HasListed p None = Unit {0}
HasListed p (Some y) = map sized (map movable_of y.lists.items.items) ≡ item_sizes p

-- the sizes of the functions are known where it has room
abbrev pub AreSizes : Placed → Option (Vec ℕ Global) → Type 0
AreSizes p None = HasRoom p → ⊥
AreSizes p (Some sizes) = sizes.items ≡ function_sizes p
