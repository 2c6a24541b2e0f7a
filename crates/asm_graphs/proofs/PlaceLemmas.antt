-- Where the blocks of a function begin and end.
use Rattle.std.proofs.Common.{◌≡◌, ℕ, zero, suc, ◌+◌, ◌≤◌, ◌<◌, [], ◌∷◌, length, refl, arith}
use Rattle.std.specs.Prelude.{slice_index, slice_index_or}
use Rattle.asm_items.specs.Items.{total}
use Rattle.asm_items.specs.Placings.{Blocks, starts_from, blocks_size}

-- a block begins where the one before it ends
pub next_start : (bs : Blocks) (a b : ℕ) → suc b < length bs → slice_index (starts_from a bs) b + total (slice_index_or bs b []) ≡ slice_index (starts_from a bs) (suc b)
next_start [] a b h = absurd (omega arith)
next_start (xs ∷ []) a b h = absurd (omega arith)
next_start (xs ∷ ys ∷ bs) a zero h = refl
next_start (xs ∷ ys ∷ bs) a (suc b) h = next_start (ys ∷ bs) (a + total xs) b (omega arith)

-- and lies in the function
pub start_within : (bs : Blocks) (a b : ℕ) → b < length bs → (a ≤ slice_index (starts_from a bs) b) × (slice_index (starts_from a bs) b + total (slice_index_or bs b []) ≤ a + blocks_size bs)
start_within [] a b h = absurd (omega arith)
start_within (xs ∷ bs) a zero h = (omega arith, omega arith)
start_within (xs ∷ bs) a (suc b) h = let r = start_within bs (a + total xs) b (omega arith) in let low = r.0 in let high = r.1 in (omega arith, omega arith)
