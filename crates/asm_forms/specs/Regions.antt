-- Where functions lie: those of flash in a row, and those of the scratchpad in another.
use Rattle.std.specs.Prelude.{ℕ, suc, ◌+◌, ◌^◌, ◌<◌, Bool, false, List, [], ◌∷◌, length, slice_index, slice_index_or, if◌then◌else◌}
use Rattle.asm_items.specs.Placings.{Blocks, blocks_size, starts_from}

-- where the rows begin, and which functions lie in the scratchpad
pub record Rows : Type 0 where
  pub placed : List Bool
  pub flash : ℕ
  pub scratchpad : ℕ

-- where each function begins, from number f on, behind those of lower numbers in both rows
abbrev pub bases_from : List Bool → ℕ → ℕ → ℕ → List Blocks → List ℕ
bases_from placed f flash scratchpad [] = []
bases_from placed f flash scratchpad (bs ∷ fs) =
    if slice_index_or placed f false then scratchpad ∷ bases_from placed (suc f) flash (scratchpad + blocks_size bs) fs
    else flash ∷ bases_from placed (suc f) (flash + blocks_size bs) scratchpad fs

abbrev pub bases_of : Rows → List Blocks → List ℕ
bases_of r fs = bases_from r.placed 0 r.flash r.scratchpad fs

-- where the blocks of each function begin, from number f on
abbrev pub tables_from : List ℕ → ℕ → List Blocks → List (List ℕ)
tables_from bases f [] = []
tables_from bases f (bs ∷ fs) = starts_from (slice_index bases f) bs ∷ tables_from bases (suc f) fs

-- how many bytes functions take
abbrev pub functions_size : List Blocks → ℕ
functions_size [] = 0
functions_size (bs ∷ fs) = blocks_size bs + functions_size fs

-- each function from number f on, laid at its base, ends below 2^30
abbrev pub RoomFrom : List ℕ → ℕ → List Blocks → Type 0
RoomFrom bases f [] = Unit {0}
RoomFrom bases f (bs ∷ fs) = (f < length bases) × (slice_index bases f + blocks_size bs < 2 ^ 30) × RoomFrom bases (suc f) fs
