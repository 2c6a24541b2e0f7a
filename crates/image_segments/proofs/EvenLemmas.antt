-- Arrays take multiples of 4, and lie in six rows.
use Rattle.std.proofs.Common.{◌≡◌, ℕ, zero, suc, ◌+◌, ◌%◌, ◌<◌, Bool, true, false, List, [], ◌∷◌, refl, ap, ◌∙◌, arith, if◌then◌else◌}
use Rattle.std.specs.Prelude.{Some, ◌==◌, slice_get, slice_index_or}
use Rattle.std.proofs.lemmas.Option.{same_Some, none-some}
use Rattle.wcc_base.specs.Sizes.{rounded}
use Rattle.low_ir.specs.Arrays.{bytes_of}
use Rattle.low_ir.specs.Code.{Object}
use Rattle.image_segments.specs.declared.rows.Row.{Row}
use Rattle.image_segments.specs.declared.rows.Row.TheVariants.{Constants, Scratchpad, SmallLocals, SmallGlobals, LargeGlobals, LargeLocals}
use Rattle.image_segments.specs.Rows.{Spot, spot_of, spots, row_of, row_number, row_room}
use Rattle.image_segments.specs.RowLaws.{AreRows}
use Rattle.image_segments.proofs.RowLemmas.{AreEven}

pub row_below : (r : Row) → row_number r < 6
row_below Constants = omega arith
row_below Scratchpad = omega arith
row_below SmallLocals = omega arith
row_below SmallGlobals = omega arith
row_below LargeGlobals = omega arith
row_below LargeLocals = omega arith

pub spots_below : (placed : List Bool) (k : ℕ) (xs : List Object) → AreRows 6 (spots placed k xs)
spots_below placed k [] = tt
spots_below placed k (x ∷ xs) = (row_below (row_of (slice_index_or placed k false) x), spots_below placed (suc k) xs)

pub spots_even : (placed : List Bool) (k : ℕ) (xs : List Object) → AreEven (spots placed k xs)
spots_even placed k [] = tt
spots_even placed k (x ∷ xs) = (four (bytes_of x), spots_even placed (suc k) xs)
  where
    four : (n : ℕ) → rounded n % 4 ≡ 0
    four n = omega arith

pub room_even : (r : ℕ) (ss : List Spot) → AreEven ss → row_room r ss % 4 ≡ 0
room_even r [] e = refl
room_even r (s ∷ ss) e = by (s.row == r) (room_even r ss e.1)
  where
    by : (b : Bool) → row_room r ss % 4 ≡ 0 → ((if b then s.room else 0) + row_room r ss) % 4 ≡ 0
    by true h = let k = e.0 in omega (arith, h, k)
    by false h = omega (arith, h)

pub spot_at : (placed : List Bool) (k o : ℕ) (xs : List Object) (x : Object) → slice_get xs o ≡ Some x → slice_get (spots placed k xs) o ≡ Some (spot_of (slice_index_or placed (k + o) false) x)
spot_at placed k o [] x e = absurd (none-some x e)
spot_at placed k zero (y ∷ xs) x e = ap (λ z. Some (spot_of (slice_index_or placed k false) z)) (same_Some y x e) ∙ ap (λ n. Some (spot_of (slice_index_or placed n false) x)) (own k)
  where
    own : (n : ℕ) → n ≡ n + 0
    own n = omega arith
spot_at placed k (suc o) (y ∷ xs) x e = spot_at placed (suc k) o xs x e ∙ ap (λ n. Some (spot_of (slice_index_or placed n false) x)) (on k o)
  where
    on : (n m : ℕ) → suc n + m ≡ n + suc m
    on n m = omega arith

pub spot_here : (placed : List Bool) (o : ℕ) (xs : List Object) (x : Object) → slice_get xs o ≡ Some x → slice_get (spots placed 0 xs) o ≡ Some (spot_of (slice_index_or placed o false) x)
spot_here placed o xs x e = spot_at placed 0 o xs x e ∙ ap (λ n. Some (spot_of (slice_index_or placed n false) x)) (own o)
  where
    own : (n : ℕ) → 0 + n ≡ n
    own n = omega arith
