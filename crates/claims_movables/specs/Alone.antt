-- The accesses that touch one array alone.
use Rattle.std.specs.Prelude.{ℕ, suc, ◌+◌, List, [], ◌∷◌, ◌++◌, Option, None, Some, if◌then◌else◌, slice_index_or}
use Rattle.asm_items.specs.declared.item.Item.{Item}
use Rattle.asm_items.specs.Items.{size, total}
use Rattle.asm_items.specs.Placings.{Blocks}
use Rattle.asm_forms.specs.declared.layouts.Layout.{Layout}
use Rattle.claims_definition.specs.Movables.{is_only}
use Rattle.claims_lists.specs.declared.marks.Marked.{Marked}
use Rattle.claims_lists.specs.Places.{base_in, blocks_in}
use Rattle.claims_touches.specs.declared.touch.Touch as names
use Rattle.claims_touches.specs.declared.touch.Touch.TheVariants as named

-- the array that all of these are
abbrev pub alone : List ℕ → Option ℕ
alone [] = None
alone (o ∷ os) = if is_only o os then Some o else None

-- what is touched alone, where claims have these arrays alone
abbrev pub alone_in : List (Option ℕ) → names.Touch → Option ℕ
alone_in claims named.Nothing = None
alone_in claims named.Frame = None
alone_in claims (named.Array o) = Some o
alone_in claims (named.Claim claim) = slice_index_or claims claim None

-- an array with the address of an access
abbrev pub access : ℕ → Option ℕ → List Marked
access a None = []
access a (Some o) = record { mark = o; at = a } ∷ []

module _ (claims : List (Option ℕ)) where
  -- of items from an address on, the first of which has number k in its block
  abbrev pub items_alone : ℕ → List names.Touch → ℕ → List Item → List Marked
  items_alone a ts k [] = []
  items_alone a ts k (x ∷ xs) = access a (alone_in claims (slice_index_or ts k named.Nothing)) ++ items_alone (a + size x) ts (suc k) xs

  abbrev pub blocks_alone : ℕ → List (List names.Touch) → ℕ → Blocks → List Marked
  blocks_alone a tss k [] = []
  blocks_alone a tss k (xs ∷ bs) = items_alone a (slice_index_or tss k []) 0 xs ++ blocks_alone (a + total xs) tss (suc k) bs

  abbrev pub alone_by : List (List (List names.Touch)) → Layout → ℕ → List Marked
  alone_by all y f = blocks_alone (base_in y f) (slice_index_or all f []) 0 (blocks_in y f)
