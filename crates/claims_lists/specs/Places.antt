-- Where functions and their blocks lie in a layout.
use Rattle.std.specs.Prelude.{◌≡◌, ℕ, ◌+◌, ◌-◌, List, [], slice_index, slice_index_or}
use Rattle.asm_items.specs.declared.item.Item.{Item}
use Rattle.asm_items.specs.Items.{total}
use Rattle.asm_items.specs.Placings.{Blocks, blocks_size}
use Rattle.asm_forms.specs.declared.layouts.Layout.{Layout}
use Rattle.asm_forms.specs.Regions.{RoomFrom, tables_from}

module _ (y : Layout) where
  abbrev pub base_in : ℕ → ℕ
  base_in f = slice_index y.bases.items f

  abbrev pub blocks_in : ℕ → Blocks
  blocks_in f = slice_index_or y.functions.items f []

  abbrev pub block_in : ℕ → ℕ → List Item
  block_in f b = slice_index_or (blocks_in f) b []

  abbrev pub end_in : ℕ → ℕ
  end_in f = base_in f + blocks_size (blocks_in f)

  abbrev pub starts_in : ℕ → List ℕ
  starts_in f = slice_index_or y.starts.items f []

  abbrev pub start_in : ℕ → ℕ → ℕ
  start_in f b = slice_index (starts_in f) b

  -- the address of a block's last instruction
  abbrev pub last_in : ℕ → ℕ → ℕ
  last_in f b = start_in f b + total (block_in f b) - 4

  -- its tables are those of its functions, each of which ends below 2^30
  pub record IsRoomy : Type 0 where
    pub starts : y.starts.items ≡ tables_from y.bases.items 0 y.functions.items
    pub room : RoomFrom y.bases.items 0 y.functions.items
