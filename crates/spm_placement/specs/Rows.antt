-- Rows: by capacity in words, the most that some items are worth, and how it is divided.
use Rattle.std.specs.Prelude.{◌≡◌, ℕ, ◌+◌, ◌-◌, ◌^◌, ◌<◌, ◌≤◌, nat_lt, List, ◌++◌, length, slice_index_or, if◌then◌else◌}
use Rattle.spm_placement.specs.declared.item.Item.{Item}
use Rattle.spm_placement.specs.declared.rows.Cell.{Cell}
use Rattle.spm_placement.specs.Tops.{top}

abbrev pub no_cell : Cell
no_cell = record { worth = 0; left = 0 }

abbrev pub cell_at : List Cell → ℕ → Cell
cell_at row c = slice_index_or row c no_cell

abbrev pub HasTops : List Item → List Cell → Type 0
HasTops xs row = (c : ℕ) → c < length row → (cell_at row c).worth ≡ top xs c

-- the most that the items xs and ys are worth in c words; so much they are where ys gets those left, and xs all others
pub record IsCell (xs ys : List Item) (c : ℕ) (cell : Cell) : Type 0 where
  pub is : cell.worth ≡ top (xs ++ ys) c
  pub within : cell.left ≤ c
  pub divided : top (xs ++ ys) c ≤ top xs (c - cell.left) + top ys cell.left

abbrev pub IsRow : List Item → List Item → List Cell → Type 0
IsRow xs ys row = (c : ℕ) → c < length row → IsCell xs ys c (cell_at row c)

-- of no items before those behind them
abbrev pub begun : ℕ → Cell → Cell
begun c cell = record { worth = cell.worth; left = c }

-- a cell, or that of less capacity with an item that is worth g, where this makes more
abbrev pub more : Cell → ℕ → Cell → Cell
more own g less = if nat_lt own.worth (less.worth + g) then record { worth = less.worth + g; left = less.left } else own

-- with an item of w words that is worth g, beside those of the cells f
abbrev pub carried : ℕ → ℕ → (ℕ → Cell) → ℕ → Cell
carried w g f c = if nat_lt c w then f c else more (f c) g (f (c - w))

-- one more item, which is worth g, can be added to each
abbrev pub LeavesRoom : ℕ → List Cell → Type 0
LeavesRoom g row = (c : ℕ) → c < length row → (cell_at row c).worth + g < 2 ^ 128

-- an item was added from a capacity on
pub record IsAdded (w g from : ℕ) (old new : List Cell) : Type 0 where
  pub same : length new ≡ length old
  pub below : (c : ℕ) → c < from → cell_at new c ≡ cell_at old c
  pub added : (c : ℕ) → from ≤ c → c < length old → cell_at new c ≡ carried w g (cell_at old) c
