-- A function that has blocks ends below 2^30.
use Rattle.std.proofs.Common.{◌≡◌, ℕ, zero, suc, ◌+◌, ◌^◌, ◌<◌, List, [], ◌∷◌, length, subst, arith}
use Rattle.std.specs.Prelude.{slice_index, slice_index_or}
use Rattle.asm_items.specs.Placings.{Blocks, blocks_size}
use Rattle.asm_forms.specs.Regions.{RoomFrom}

none_there : (f : ℕ) (bs : Blocks) → bs ≡ slice_index_or [] f [] → bs ≡ []
none_there zero bs e = e
none_there (suc f) bs e = e

room_from : (bases : List ℕ) (k : ℕ) (fs : List Blocks) (f : ℕ) → RoomFrom bases k fs → 0 < length (slice_index_or fs f []) → slice_index bases (k + f) + blocks_size (slice_index_or fs f []) < 2 ^ 30
room_from bases k [] zero r h = absurd (omega arith)
room_from bases k [] (suc f) r h = absurd (omega arith)
room_from bases k (bs ∷ fs) zero r h = let z : k ≡ k + 0 = omega arith in subst (λ n. slice_index bases n + blocks_size bs < 2 ^ 30) z r.1
room_from bases k (bs ∷ fs) (suc f) r h = let e : suc k + f ≡ k + suc f = omega arith in subst (λ n. slice_index bases n + blocks_size (slice_index_or fs f []) < 2 ^ 30) e (room_from bases (suc k) fs f r.2 h)

pub room_at : (bases : List ℕ) (fs : List Blocks) (f : ℕ) → RoomFrom bases 0 fs → 0 < length (slice_index_or fs f []) → slice_index bases f + blocks_size (slice_index_or fs f []) < 2 ^ 30
room_at bases fs f r h = let z : 0 + f ≡ f = omega arith in subst (λ n. slice_index bases n + blocks_size (slice_index_or fs f []) < 2 ^ 30) z (room_from bases 0 fs f r h)
