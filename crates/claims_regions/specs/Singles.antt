-- The lines of single loads and stores.
use Rattle.std.specs.Prelude.{ℕ, suc, ◌+◌, List, [], ◌∷◌, ◌++◌, Option, None, Some, slice_index_or}
use Rattle.code_flow_system.specs.declared.claims.Within.{Within}
use Rattle.asm_items.specs.declared.item.Item.{Item}
use Rattle.asm_items.specs.Items.{size, total}
use Rattle.asm_items.specs.Placings.{Blocks}
use Rattle.asm_forms.specs.declared.layouts.Layout.{Layout}
use Rattle.claims_lists.specs.Places.{base_in, blocks_in}
use Rattle.claims_regions.specs.declared.walks.Touched.{Touched}

abbrev pub single : ℕ → Option Touched → List Within
single a None = []
single a (Some t) = record { first = a; end = a + 4; flash = t.flash; spm = t.spm; ram = t.ram } ∷ []

-- of items from an address on, the first of which has number k in its block
abbrev pub items_singles : ℕ → List (Option Touched) → ℕ → List Item → List Within
items_singles a ts k [] = []
items_singles a ts k (x ∷ xs) = single a (slice_index_or ts k None) ++ items_singles (a + size x) ts (suc k) xs

abbrev pub blocks_singles : ℕ → List (List (Option Touched)) → ℕ → Blocks → List Within
blocks_singles a tss k [] = []
blocks_singles a tss k (xs ∷ bs) = items_singles a (slice_index_or tss k []) 0 xs ++ blocks_singles (a + total xs) tss (suc k) bs

abbrev pub singles_in : List (List (List (Option Touched))) → Layout → ℕ → List Within
singles_in all y f = blocks_singles (base_in y f) (slice_index_or all f []) 0 (blocks_in y f)
