-- Frames, and arrays that aren't constant, lie in segments that can be read and written.
use Rattle.std.proofs.Common.{◌≡◌, ◌≢◌, ℕ, ◌+◌, ◌-◌, ◌<◌, ◌≤◌, Bool, true, false, List, [], refl, sym, ap, ◌∙◌, subst, arith}
use Rattle.std.specs.Prelude.{Some, Contains, nat_le, slice_get, slice_index, slice_index_or}
use Rattle.std.proofs.lemmas.Bool.{false≢true}
use Rattle.rv_core.specs.declared.regions.Region.TheVariants.{Ram}
use Rattle.rv_core.specs.Regions.{region_start}
use Rattle.low_ir.specs.Arrays.{array_size}
use Rattle.low_ir.specs.declared.object.Storage.{Storage}
use Rattle.low_ir.specs.declared.object.Storage.TheVariants.{Constant as Fixed', Global, Local}
use Rattle.low_ir.specs.Code.{Object}
use Rattle.image_segments.specs.declared.rows.Row.{Row}
use Rattle.image_segments.specs.declared.rows.Row.TheVariants.{Constants, Scratchpad, SmallLocals, SmallGlobals, LargeGlobals, LargeLocals}
use Rattle.image_segments.specs.Rows.{small_room, Spot, spot_of, addresses, row_by, row_of, row_number, row_room}
use Rattle.image_segments.specs.RowLaws.{Lies}
use Rattle.image_segments.proofs.RowLemmas.{lies}
use Rattle.image_segments.specs.Starts.{starts_behind}
use Rattle.image_segments.specs.Segments.{Data, data_segment, spots_in, row_segment, values_in, all_segments, segments_of}
use Rattle.image_segments.specs.SegmentLaws.{Opens}
use Rattle.image_segments.proofs.EvenLemmas.{spots_below, spot_here}
use Rattle.image_segments.proofs.OrderLemmas.{in_present}

pub frame_open : (d : Data) (flash scratchpad : List ℕ) (a n : ℕ) → region_start Ram ≤ a → a + n ≤ d.frames → 0 < n → Opens (segments_of d flash scratchpad) a n
frame_open d flash scratchpad a n low high some =
    let s = data_segment (region_start Ram) [] (d.frames - region_start Ram) true in
    let full : d.frames - region_start Ram ≢ 0 = λ none. absurd (omega (arith, low, high, some, none)) in
    record {
      segment = s;
      there = in_present (all_segments d flash scratchpad) s (4, omega arith, refl) full;
      read = refl;
      write = refl;
      from = low;
      to = omega (arith, low, high, some);
    }

module _ (d : Data) (flash scratchpad : List ℕ) (o : ℕ) (x : Object) (there : slice_get d.objects o ≡ Some x) (some : 0 < array_size x) where
  abbrev placed : Bool
  placed = slice_index_or d.placed o false

  abbrev ss : List Spot
  ss = spots_in d

  abbrev starts : List ℕ
  starts = starts_behind d.frames ss

  abbrev at : ℕ
  at = slice_index (addresses starts ss) o

  in_row : Lies starts ss (spot_of placed x) at
  in_row = lies starts ss o (spot_of placed x) (spots_below d.placed 0 d.objects) (spot_here d.placed o d.objects x there)

  in_segment : (r : ℕ) (bytes : List ℕ) → (spot_of placed x).row ≡ r → Contains (all_segments d flash scratchpad) (row_segment d r bytes true) → Opens (segments_of d flash scratchpad) at (array_size x)
  in_segment r bytes e c =
      let lie = in_row in
      let from : slice_index starts r ≤ at = subst (λ n. slice_index starts n ≤ at) e lie.from in
      let to : at + array_size x ≤ slice_index starts r + row_room r ss = subst (λ n. at + array_size x ≤ slice_index starts n + row_room n ss) e lie.to in
      let full : row_room r ss ≢ 0 = λ none. absurd (omega (arith, from, to, some, none)) in
      record {
        segment = row_segment d r bytes true;
        there = in_present (all_segments d flash scratchpad) (row_segment d r bytes true) c full;
        read = refl;
        write = refl;
        from = from;
        to = to;
      }

  in_row_of : (r : Row) → row_of placed x ≡ r → r ≢ Constants → Opens (segments_of d flash scratchpad) at (array_size x)
  in_row_of Constants e other = absurd (other refl)
  in_row_of Scratchpad e other = in_segment 1 (values_in d 1) (ap row_number e) (2, omega arith, refl)
  in_row_of SmallLocals e other = in_segment 2 [] (ap row_number e) (5, omega arith, refl)
  in_row_of SmallGlobals e other = in_segment 3 (values_in d 3) (ap row_number e) (6, omega arith, refl)
  in_row_of LargeGlobals e other = in_segment 4 (values_in d 4) (ap row_number e) (7, omega arith, refl)
  in_row_of LargeLocals e other = in_segment 5 [] (ap row_number e) (8, omega arith, refl)

abbrev is_constant : Row → Bool
is_constant Constants = true
is_constant r = false

storage_row : (s : Storage) (small : Bool) → s ≢ Fixed' → is_constant (row_by s small) ≡ false
storage_row Fixed' small h = absurd (h refl)
storage_row Global true h = refl
storage_row Global false h = refl
storage_row Local true h = refl
storage_row Local false h = refl

not_constant : (placed : Bool) (x : Object) → x.storage ≢ Fixed' → is_constant (row_of placed x) ≡ false
not_constant true x h = refl
not_constant false x h = storage_row x.storage (nat_le (array_size x) small_room) h

pub array_open : (d : Data) (flash scratchpad : List ℕ) (o : ℕ) (x : Object) → slice_get d.objects o ≡ Some x → x.storage ≢ Fixed' → 0 < array_size x
    → Opens (segments_of d flash scratchpad) (slice_index (addresses (starts_behind d.frames (spots_in d)) (spots_in d)) o) (array_size x)
array_open d flash scratchpad o x there stored some =
    let other = not_constant (slice_index_or d.placed o false) x stored in
    in_row_of d flash scratchpad o x there some (row_of (slice_index_or d.placed o false) x) refl (λ e. absurd (false≢true (sym other ∙ ap is_constant e)))
