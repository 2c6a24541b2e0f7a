-- A roomy layout has its functions below 2^30, and starts as a placing has them.
use Rattle.std.proofs.Common.{◌≡◌, ℕ, zero, suc, ◌+◌, ◌^◌, ◌<◌, List, [], ◌∷◌, refl, sym, ap, ◌∙◌, subst, arith}
use Rattle.std.specs.Prelude.{slice_index, slice_index_or}
use Rattle.asm_items.specs.Items.{total}
use Rattle.asm_items.specs.Placings.{Blocks, blocks_size, starts_from}
use Rattle.asm_forms.specs.declared.layouts.Layout.{Layout}
use Rattle.asm_forms.specs.Regions.{RoomFrom, tables_from}
use Rattle.claims_lists.specs.Places.{IsRoomy, block_in, start_in}

no_table : (a f : ℕ) → slice_index_or [] f [] ≡ starts_from a (slice_index_or [] f [])
no_table a zero = refl
no_table a (suc f) = refl

pub table_at : (bases : List ℕ) (k : ℕ) (fs : List Blocks) (f : ℕ) → slice_index_or (tables_from bases k fs) f [] ≡ starts_from (slice_index bases (k + f)) (slice_index_or fs f [])
table_at bases k [] f = no_table (slice_index bases (k + f)) f
table_at bases k (bs ∷ fs) zero = let e : k ≡ k + 0 = omega arith in ap (λ n. starts_from (slice_index bases n) bs) e
table_at bases k (bs ∷ fs) (suc f) = let e : suc k + f ≡ k + suc f = omega arith in table_at bases (suc k) fs f ∙ ap (λ n. starts_from (slice_index bases n) (slice_index_or fs f [])) e

none_size : (f : ℕ) → blocks_size (slice_index_or [] f []) ≡ 0
none_size zero = refl
none_size (suc f) = refl

pub size_from : (bases : List ℕ) (k : ℕ) (fs : List Blocks) (f : ℕ) → RoomFrom bases k fs → blocks_size (slice_index_or fs f []) < 2 ^ 30
size_from bases k [] f r = let e = none_size f in omega (arith, e)
size_from bases k (bs ∷ fs) zero r = let h = r.1 in omega (arith, h)
size_from bases k (bs ∷ fs) (suc f) r = size_from bases (suc k) fs f r.2

pub end_from : (bases : List ℕ) (k : ℕ) (fs : List Blocks) (f a : ℕ) → a ≡ slice_index bases (k + f) → a < 2 ^ 32 → RoomFrom bases k fs → a + blocks_size (slice_index_or fs f []) < 2 ^ 32
end_from bases k [] f a is small r = let e = none_size f in omega (arith, e)
end_from bases k (bs ∷ fs) zero a is small r =
    let z : k + 0 ≡ k = omega arith in
    let same : a ≡ slice_index bases k = is ∙ ap (slice_index bases) z in
    let h = r.1 in
    omega (arith, h, same)
end_from bases k (bs ∷ fs) (suc f) a is small r =
    let e : k + suc f ≡ suc k + f = omega arith in
    end_from bases (suc k) fs f a (is ∙ ap (slice_index bases) e) small r.2

-- a block ends within its function
within : (a : ℕ) (bs : Blocks) (b : ℕ) → a + blocks_size bs < 2 ^ 30 → slice_index (starts_from a bs) b + total (slice_index_or bs b []) < 2 ^ 30
within a [] zero h = omega arith
within a [] (suc b) h = omega arith
within a (xs ∷ bs) zero h = omega arith
within a (xs ∷ bs) (suc b) h = within (a + total xs) bs b (omega arith)

none_within : (f b : ℕ) → slice_index (slice_index_or [] f []) b + total (slice_index_or (slice_index_or [] f []) b []) < 2 ^ 30
none_within zero zero = omega arith
none_within zero (suc b) = omega arith
none_within (suc f) zero = omega arith
none_within (suc f) (suc b) = omega arith

blocks_from : (bases : List ℕ) (k : ℕ) (fs : List Blocks) (f b : ℕ) → RoomFrom bases k fs → slice_index (slice_index_or (tables_from bases k fs) f []) b + total (slice_index_or (slice_index_or fs f []) b []) < 2 ^ 30
blocks_from bases k [] f b r = none_within f b
blocks_from bases k (bs ∷ fs) zero b r = within (slice_index bases k) bs b r.1
blocks_from bases k (bs ∷ fs) (suc f) b r = blocks_from bases (suc k) fs f b r.2

pub block_room : (y : Layout) (f b : ℕ) → IsRoomy y → start_in y f b + total (block_in y f b) < 2 ^ 30
block_room y f b r = subst (λ t. slice_index (slice_index_or t f []) b + total (block_in y f b) < 2 ^ 30) (sym r.starts) (blocks_from y.bases.items 0 y.functions.items f b r.room)

pub at_zero : (bases : List ℕ) (f a : ℕ) → a ≡ slice_index bases f → a ≡ slice_index bases (0 + f)
at_zero bases f a e = let z : f ≡ 0 + f = omega arith in e ∙ ap (slice_index bases) z
