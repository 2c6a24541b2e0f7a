-- Items that keep their ranges at some place.
use Rattle.std.specs.Prelude.{◌<◌, IsTrue, All, List}
use Rattle.rv_core.specs.Instructions.{in_row}
use Rattle.asm_items.specs.declared.item.Item.{Item}
use Rattle.asm_items.specs.declared.item.Item.TheVariants.{Single, Jump, Call, Branch, Return, Exit}
use Rattle.asm_items.specs.Placings.{Blocks}

-- an instruction has its row, and a branch has registers
abbrev pub IsSound : Item → Type 0
IsSound (Single i) = IsTrue (in_row i)
IsSound (Jump far n) = Unit {0}
IsSound (Call far f) = Unit {0}
IsSound (Branch form c x y n) = (x < 32) × (y < 32)
IsSound Return = Unit {0}
IsSound Exit = Unit {0}

abbrev pub AreSound : List Item → Type 0
AreSound = All IsSound

abbrev pub BlocksSound : Blocks → Type 0
BlocksSound = All AreSound

abbrev pub FunctionsSound : List Blocks → Type 0
FunctionsSound = All BlocksSound
