-- Arrays lie in their rows, and rows in their regions.
use Rattle.std.proofs.Common.{◌≡◌, ◌≢◌, ◌⊎◌, inl, inr, ℕ, zero, suc, ◌+◌, ◌-◌, ◌%◌, ◌<◌, ◌≤◌, Bool, true, false, List, refl, sym, ap, ◌∙◌, subst, ⊎_elim, arith}
use Rattle.std.specs.Prelude.{Some, nat_le, slice_get, slice_index, slice_index_or}
use Rattle.std.proofs.lemmas.Bool.{cases_eq, cases_lt}
use Rattle.rv_core.specs.declared.regions.Region.TheVariants.{Flash, Ram}
use Rattle.rv_core.specs.Regions.{region_start}
use Rattle.low_ir.specs.Arrays.{bytes_of, array_size}
use Rattle.low_ir.specs.declared.object.Storage.{Storage}
use Rattle.low_ir.specs.declared.object.Storage.TheVariants.{Constant as Fixed', Global, Local}
use Rattle.low_ir.specs.Code.{Object}
use Rattle.low_ir.specs.Places.{Placed}
use Rattle.simulation_relation.specs.Plans.{LiesIn, AreApart}
use Rattle.image_segments.specs.declared.rows.Row.{Row}
use Rattle.image_segments.specs.declared.rows.Row.TheVariants.{Constants, Scratchpad, SmallLocals, SmallGlobals, LargeGlobals, LargeLocals}
use Rattle.image_segments.specs.Rows.{small_room, Spot, spot_of, addresses, row_by, row_of, row_number, row_room}
use Rattle.image_segments.specs.RowLaws.{AreRows, Lies}
use Rattle.image_segments.proofs.ContentLemmas.{rounded_up}
use Rattle.image_segments.proofs.RowLemmas.{lies, behind, aligned}
use Rattle.image_segments.proofs.EvenLemmas.{row_below, spots_below, spot_here, spots_even, room_even}
use Rattle.image_frames.specs.Frames.{frames_end}
use Rattle.image_segments.specs.Starts.{region_of}
use Rattle.image_frames.specs.Memories.{Placement, region_by, spots_of, starts_of, regions_of, FitsMemory}

pub size_fits : (x : Object) → bytes_of x ≤ array_size x
size_fits x = rounded_up (bytes_of x)

module _ (pl : Placement) (p : Placed) (fits : FitsMemory pl p) (frames_low : region_start Ram ≤ frames_end p) (frames_even : frames_end p % 4 ≡ 0) where
  abbrev ss : List Spot
  ss = spots_of pl p

  abbrev start : ℕ → ℕ
  start i = slice_index (starts_of pl p) i

  -- each row ends before the next one begins
  next_row : (i : ℕ) → i < 5 → start i + row_room i ss ≤ start (suc i)
  next_row zero h = let c = fits.constants in omega arith
  next_row (suc zero) h = let s = fits.scratchpad in omega arith
  next_row (suc (suc zero)) h = omega arith
  next_row (suc (suc (suc zero))) h = omega arith
  next_row (suc (suc (suc (suc zero)))) h = omega arith
  next_row (suc (suc (suc (suc (suc i))))) h = absurd (omega arith)

  ordered : (i k : ℕ) → i + suc k < 6 → start i + row_room i ss ≤ start (i + suc k)
  ordered i zero h = subst (λ n. start i + row_room i ss ≤ start n) (one i) (next_row i (omega arith))
    where
      one : (n : ℕ) → suc n ≡ n + suc zero
      one n = omega arith
  ordered i (suc k) h =
      let first = ordered i k (omega arith) in
      let next = next_row (i + suc k) (omega arith) in
      subst (λ n. start i + row_room i ss ≤ start n) (one i k) (omega arith)
    where
      one : (n m : ℕ) → suc (n + suc m) ≡ n + suc (suc m)
      one n m = omega arith

  pub rows_ordered : (i j : ℕ) → i < j → j < 6 → start i + row_room i ss ≤ start j
  rows_ordered i j less h = subst (λ n. start i + row_room i ss ≤ start n) (omega (arith, less)) (ordered i (j - suc i) (omega (arith, less, h)))

  -- a row lies in its region
  row_inside : (r : Row) (at n : ℕ) → start (row_number r) ≤ at → at + n ≤ start (row_number r) + row_room (row_number r) ss → LiesIn (region_of r) at n
  row_inside Constants at n a b = let c = fits.constants in record { from = omega arith; to = omega arith }
  row_inside Scratchpad at n a b = let c = fits.scratchpad in record { from = omega arith; to = omega arith }
  row_inside SmallLocals at n a b = let c = fits.ram in record { from = omega arith; to = omega arith }
  row_inside SmallGlobals at n a b = let c = fits.ram in record { from = omega arith; to = omega arith }
  row_inside LargeGlobals at n a b = let c = fits.ram in record { from = omega arith; to = omega arith }
  row_inside LargeLocals at n a b = let c = fits.ram in record { from = omega arith; to = omega arith }

  abbrev at_of : ℕ → ℕ
  at_of o = slice_index (addresses (starts_of pl p) ss) o

  abbrev placed_at : ℕ → Bool
  placed_at o = slice_index_or pl.objects o false

  rows : AreRows 6 ss
  rows = spots_below pl.objects 0 p.objects

  spot : (o : ℕ) (x : Object) → slice_get p.objects o ≡ Some x → slice_get ss o ≡ Some (spot_of (placed_at o) x)
  spot o x e = spot_here pl.objects o p.objects x e

  pub in_row : (o : ℕ) (x : Object) → slice_get p.objects o ≡ Some x → Lies (starts_of pl p) ss (spot_of (placed_at o) x) (at_of o)
  in_row o x e = lies (starts_of pl p) ss o (spot_of (placed_at o) x) rows (spot o x e)

  regions_are : (o : ℕ) (x : Object) → slice_get p.objects o ≡ Some x → regions_of pl p o ≡ region_of (row_of (placed_at o) x)
  regions_are o x e = ap (region_by (placed_at o)) e

  pub objects_lie : (o : ℕ) (x : Object) → slice_get p.objects o ≡ Some x → LiesIn (regions_of pl p o) (at_of o) (bytes_of x)
  objects_lie o x e =
      let l = in_row o x e in
      let up = size_fits x in
      let from = l.from in
      let to = l.to in
      subst (λ r. LiesIn r (at_of o) (bytes_of x)) (sym (regions_are o x e)) (row_inside (row_of (placed_at o) x) (at_of o) (bytes_of x) from (omega arith))

  starts_even : (r : ℕ) → slice_index (starts_of pl p) r % 4 ≡ 0
  starts_even zero = refl
  starts_even (suc zero) = refl
  starts_even (suc (suc zero)) = frames_even
  starts_even (suc (suc (suc zero))) = let a = room_even 2 ss (spots_even pl.objects 0 p.objects) in omega (arith, a, frames_even)
  starts_even (suc (suc (suc (suc zero)))) = let a = room_even 2 ss (spots_even pl.objects 0 p.objects) in let b = room_even 3 ss (spots_even pl.objects 0 p.objects) in omega (arith, a, b, frames_even)
  starts_even (suc (suc (suc (suc (suc zero))))) = let a = room_even 2 ss (spots_even pl.objects 0 p.objects) in let b = room_even 3 ss (spots_even pl.objects 0 p.objects) in let c = room_even 4 ss (spots_even pl.objects 0 p.objects) in omega (arith, a, b, c, frames_even)
  starts_even (suc (suc (suc (suc (suc (suc r)))))) = refl

  pub objects_aligned : (o : ℕ) → at_of o % 4 ≡ 0
  objects_aligned o = aligned (starts_of pl p) ss o rows (spots_even pl.objects 0 p.objects) starts_even

  pub objects_apart : (o n : ℕ) (x y : Object) → o ≢ n → slice_get p.objects o ≡ Some x → slice_get p.objects n ≡ Some y → AreApart (at_of o) (bytes_of x) (at_of n) (bytes_of y)
  objects_apart o n x y d e k = by (cases_eq (row_number (row_of (placed_at o) x)) (row_number (row_of (placed_at n) y)))
    where
      up : bytes_of x ≤ array_size x
      up = size_fits x

      vp : bytes_of y ≤ array_size y
      vp = size_fits y

      a : Lies (starts_of pl p) ss (spot_of (placed_at o) x) (at_of o)
      a = in_row o x e

      b : Lies (starts_of pl p) ss (spot_of (placed_at n) y) (at_of n)
      b = in_row n y k

      by : (row_number (row_of (placed_at o) x) ≡ row_number (row_of (placed_at n) y)) ⊎ (row_number (row_of (placed_at o) x) ≢ row_number (row_of (placed_at n) y)) → AreApart (at_of o) (bytes_of x) (at_of n) (bytes_of y)
      by (inl same) = ⊎_elim first second (cases_lt o n)
        where
          first : o < n → AreApart (at_of o) (bytes_of x) (at_of n) (bytes_of y)
          first less = let h = behind (starts_of pl p) ss o n (spot_of (placed_at o) x) (spot_of (placed_at n) y) rows (spot o x e) (spot n y k) same less in inl (omega (arith, h, up))

          second : n ≤ o → AreApart (at_of o) (bytes_of x) (at_of n) (bytes_of y)
          second le = let h = behind (starts_of pl p) ss n o (spot_of (placed_at n) y) (spot_of (placed_at o) x) rows (spot n y k) (spot o x e) (sym same) (omega (arith, le, d)) in inr (omega (arith, h, vp))
      by (inr other) = ⊎_elim first second (cases_lt (row_number (row_of (placed_at o) x)) (row_number (row_of (placed_at n) y)))
        where
          first : row_number (row_of (placed_at o) x) < row_number (row_of (placed_at n) y) → AreApart (at_of o) (bytes_of x) (at_of n) (bytes_of y)
          first less = let h = rows_ordered (row_number (row_of (placed_at o) x)) (row_number (row_of (placed_at n) y)) less (row_below (row_of (placed_at n) y)) in let to = a.to in let from = b.from in inl (omega (arith, h, to, from, up))

          second : row_number (row_of (placed_at n) y) ≤ row_number (row_of (placed_at o) x) → AreApart (at_of o) (bytes_of x) (at_of n) (bytes_of y)
          second le = let h = rows_ordered (row_number (row_of (placed_at n) y)) (row_number (row_of (placed_at o) x)) (omega (arith, le, other)) (row_below (row_of (placed_at o) x)) in let to = b.to in let from = a.from in inr (omega (arith, h, to, from, vp))

  -- arrays lie behind frames, or in another region
  row_beside : (r : Row) (at n : ℕ) → start (row_number r) ≤ at → at + n ≤ start (row_number r) + row_room (row_number r) ss → (at + n ≤ region_start Ram) ⊎ (frames_end p ≤ at)
  row_beside Constants at n a b = let c = fits.constants in inl (omega arith)
  row_beside Scratchpad at n a b = let c = fits.scratchpad in inl (omega arith)
  row_beside SmallLocals at n a b = inr (omega arith)
  row_beside SmallGlobals at n a b = inr (omega arith)
  row_beside LargeGlobals at n a b = inr (omega arith)
  row_beside LargeLocals at n a b = inr (omega arith)

  pub beside_frames : (o : ℕ) (x : Object) (at size : ℕ) → slice_get p.objects o ≡ Some x → region_start Ram ≤ at → at + size ≤ frames_end p → AreApart (at_of o) (bytes_of x) at size
  beside_frames o x at size e low high =
      let l = in_row o x e in
      let up = size_fits x in
      let from = l.from in
      let to = l.to in
      ⊎_elim before after (row_beside (row_of (placed_at o) x) (at_of o) (bytes_of x) from (omega (arith, to, up)))
    where
      before : at_of o + bytes_of x ≤ region_start Ram → AreApart (at_of o) (bytes_of x) at size
      before h = inl (omega (arith, h, low))

      after : frames_end p ≤ at_of o → AreApart (at_of o) (bytes_of x) at size
      after h = inr (omega (arith, h, high))

-- only constants lie in flash
by_storage : (s : Storage) (small : Bool) → region_of (row_by s small) ≡ Flash → s ≡ Fixed'
by_storage Fixed' small e = refl
by_storage Global true e = cc
by_storage Global false e = cc
by_storage Local true e = cc
by_storage Local false e = cc

by_place : (placed : Bool) (x : Object) → region_of (row_of placed x) ≡ Flash → x.storage ≡ Fixed'
by_place true x e = cc
by_place false x e = by_storage x.storage (nat_le (array_size x) small_room) e

pub only_constants : (pl : Placement) (p : Placed) (o : ℕ) (x : Object) → slice_get p.objects o ≡ Some x → regions_of pl p o ≡ Flash → x.storage ≡ Fixed'
only_constants pl p o x e r = by_place (slice_index_or pl.objects o false) x (sym (ap (region_by (slice_index_or pl.objects o false)) e) ∙ r)
