-- Functions in forms with which each item reaches its target.
use Rattle.std.specs.Prelude.{ℕ, suc, Bool, true, ◌&&◌, List, [], ◌∷◌, slice_index, if◌then◌else◌}
use Rattle.asm_items.specs.Items.{Starts, in_rows}
use Rattle.asm_items.specs.Placings.{Blocks, blocks_words}
use Rattle.asm_writing.specs.Targets.{starts_in}
use Rattle.asm_forms.specs.Regions.{Rows, bases_of, tables_from}
use Rattle.asm_forms.specs.Shorter.{functions_longest, functions_shorter}

-- the instructions of all functions from number f on keep the ranges of their fields
abbrev pub functions_fit : Starts → List ℕ → ℕ → List Blocks → Bool
functions_fit p bases f [] = true
functions_fit p bases f (bs ∷ fs) = in_rows (blocks_words p f (slice_index bases f) bs) && functions_fit p bases (suc f) fs

abbrev pub starts_of : Rows → List Blocks → Starts
starts_of r fs = starts_in (tables_from (bases_of r fs) 0 fs)

-- each item reaches its target where the functions lie in their regions
abbrev pub fit : Rows → List Blocks → Bool
fit r fs = functions_fit (starts_of r fs) (bases_of r fs) 0 fs

-- each item in the shortest form that its place in this layout allows
abbrev pub shortened : Rows → List Blocks → List Blocks
shortened r fs = functions_shorter (starts_of r fs) (bases_of r fs) 0 fs

-- where items that became shorter reach their targets
abbrev pub improved : Rows → List Blocks → List Blocks
improved r fs = if fit r (shortened r fs) then shortened r fs else fs

-- first by the distances between items in their longest forms, and then by those that are left
abbrev pub formed : Rows → List Blocks → List Blocks
formed r fs = improved r (improved r (functions_longest fs))
