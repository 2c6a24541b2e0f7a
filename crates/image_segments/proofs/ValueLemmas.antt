-- What the elements of arrays are at first, as they are read.
use Rattle.std.proofs.Common.{◌≡◌, ◌≢◌, ℕ, ◌+◌, ◌-◌, ◌*◌, ◌%◌, ◌^◌, ◌<◌, ◌≤◌, Bool, true, false, List, ◌++◌, length, replicate, refl, sym, ap, ◌∙◌, subst, arith}
use Rattle.std.specs.Prelude.{Some, Contains, nat_le, take, slice_get, slice_index, slice_index_or}
use Rattle.std.proofs.lemmas.Bool.{false≢true}
use Rattle.rv_core.specs.declared.image.Segment.{Segment}
use Rattle.rv_core.specs.Memory.{loaded, number_at, read_from}
use Rattle.wcc_base.specs.Sizes.{rounded}
use Rattle.low_ir.specs.Arrays.{array_size}
use Rattle.low_ir.specs.declared.object.Kind.{Kind}
use Rattle.low_ir.specs.declared.object.Kind.TheVariants.{Unsigned8, Signed8, Unsigned16, Signed16, Word}
use Rattle.low_ir.specs.declared.object.Storage.{Storage}
use Rattle.low_ir.specs.declared.object.Storage.TheVariants.{Constant as Fixed', Global, Local}
use Rattle.low_ir.specs.Kinds.{kind_bytes, width_of}
use Rattle.low_ir.specs.Code.{Object}
use Rattle.image_segments.specs.declared.rows.Row.{Row}
use Rattle.image_segments.specs.declared.rows.Row.TheVariants.{Constants, Scratchpad, SmallLocals, SmallGlobals, LargeGlobals, LargeLocals}
use Rattle.image_segments.specs.Rows.{small_room, Spot, spot_of, addresses, row_by, row_of, row_number, row_room}
use Rattle.image_segments.specs.RowLaws.{Lies}
use Rattle.image_segments.proofs.RowLemmas.{lies}
use Rattle.image_segments.proofs.ContentLemmas.{element_stands}
use Rattle.image_segments.specs.Starts.{starts_behind}
use Rattle.image_segments.specs.Segments.{Data, spots_in, row_segment, values_in, all_segments, segments_of, FitSegments}
use Rattle.image_segments.proofs.EvenLemmas.{spots_below, spot_here}
use Rattle.image_segments.proofs.OrderLemmas.{in_present, present_ordered}
use Rattle.image_segments.proofs.SegmentLemmas.{ordered}
use Rattle.image_segments.proofs.ReadLemmas.{read_in}

element_fits : (kind : Kind) (i n : ℕ) → i < n → kind_bytes kind * i + kind_bytes kind ≤ rounded (kind_bytes kind * n)
element_fits Unsigned8 i n h = omega arith
element_fits Signed8 i n h = omega arith
element_fits Unsigned16 i n h = omega arith
element_fits Signed16 i n h = omega arith
element_fits Word i n h = omega arith

kind_some : (kind : Kind) → 0 < kind_bytes kind
kind_some Unsigned8 = omega arith
kind_some Signed8 = omega arith
kind_some Unsigned16 = omega arith
kind_some Signed16 = omega arith
kind_some Word = omega arith

module _ (d : Data) (flash scratchpad : List ℕ) (fits : FitSegments d flash scratchpad) (o : ℕ) (x : Object) (there : slice_get d.objects o ≡ Some x) (i : ℕ) (less : i < x.size) where
  abbrev placed : Bool
  placed = slice_index_or d.placed o false

  abbrev ss : List Spot
  ss = spots_in d

  abbrev starts : List ℕ
  starts = starts_behind d.frames ss

  abbrev at : ℕ
  at = slice_index (addresses starts ss) o

  abbrev segments : List Segment
  segments = segments_of d flash scratchpad

  abbrev Goal : Type 0
  Goal = read_from (λ b. b.read) (width_of x.kind) (loaded segments) (at + kind_bytes x.kind * i) ≡ Some (slice_index (take x.size x.values) i % 2 ^ (8 * kind_bytes x.kind))

  in_row : Lies starts ss (spot_of placed x) at
  in_row = lies starts ss o (spot_of placed x) (spots_below d.placed 0 d.objects) (spot_here d.placed o d.objects x there)

  from_segment : (r : ℕ) (write : Bool) → (spot_of placed x).row ≡ r → Contains (all_segments d flash scratchpad) (row_segment d r (values_in d r) write) → Goal
  from_segment r write e c =
      let s = row_segment d r (values_in d r) write in
      let lie = in_row in
      let from : slice_index starts r ≤ at = subst (λ n. slice_index starts n ≤ at) e lie.from in
      let to : at + array_size x ≤ slice_index starts r + row_room r ss = subst (λ n. at + array_size x ≤ slice_index starts n + row_room n ss) e lie.to in
      let fit = element_fits x.kind i x.size less in
      let some = kind_some x.kind in
      let full : row_room r ss ≢ 0 = λ none. absurd (omega (arith, from, to, fit, some, none)) in
      let p = in_present (all_segments d flash scratchpad) s c full in
      let order = present_ordered 0 (all_segments d flash scratchpad) (ordered d flash scratchpad fits) in
      let shift : at + kind_bytes x.kind * i - slice_index starts r ≡ at - slice_index starts r + kind_bytes x.kind * i = omega (arith, from) in
      let value = element_stands starts d.placed d.objects o x (replicate (row_room r ss - length (values_in d r)) 0) i (spots_below d.placed 0 d.objects) there less in
      read_in (width_of x.kind) 0 segments p.0 s (at + kind_bytes x.kind * i) order p.1 p.2 refl (omega (arith, from)) (omega (arith, from, to, fit))
      ∙ ap Some (ap (number_at (width_of x.kind) (values_in d r ++ replicate (row_room r ss - length (values_in d r)) 0)) shift
      ∙ subst (λ n. number_at (width_of x.kind) (values_in d n ++ replicate (row_room r ss - length (values_in d r)) 0) (at - slice_index starts n + kind_bytes x.kind * i) ≡ slice_index (take x.size x.values) i % 2 ^ (8 * kind_bytes x.kind)) e value)

  from_row : (r : Row) → row_of placed x ≡ r → r ≢ SmallLocals → r ≢ LargeLocals → Goal
  from_row Constants e small large = from_segment 0 false (ap row_number e) (1, omega arith, refl)
  from_row Scratchpad e small large = from_segment 1 true (ap row_number e) (2, omega arith, refl)
  from_row SmallLocals e small large = absurd (small refl)
  from_row SmallGlobals e small large = from_segment 3 true (ap row_number e) (6, omega arith, refl)
  from_row LargeGlobals e small large = from_segment 4 true (ap row_number e) (7, omega arith, refl)
  from_row LargeLocals e small large = absurd (large refl)

abbrev is_local : Row → Bool
is_local Constants = false
is_local Scratchpad = false
is_local SmallLocals = true
is_local SmallGlobals = false
is_local LargeGlobals = false
is_local LargeLocals = true

storage_row : (s : Storage) (small : Bool) → s ≢ Local → is_local (row_by s small) ≡ false
storage_row Fixed' small h = refl
storage_row Global true h = refl
storage_row Global false h = refl
storage_row Local small h = absurd (h refl)

not_local : (placed : Bool) (x : Object) → x.storage ≢ Local → is_local (row_of placed x) ≡ false
not_local true x h = refl
not_local false x h = storage_row x.storage (nat_le (array_size x) small_room) h

pub element_read : (d : Data) (flash scratchpad : List ℕ) → FitSegments d flash scratchpad → (o : ℕ) (x : Object) (i : ℕ) → slice_get d.objects o ≡ Some x → x.storage ≢ Local → i < x.size
    → read_from (λ b. b.read) (width_of x.kind) (loaded (segments_of d flash scratchpad)) (slice_index (addresses (starts_behind d.frames (spots_in d)) (spots_in d)) o + kind_bytes x.kind * i) ≡ Some (slice_index (take x.size x.values) i % 2 ^ (8 * kind_bytes x.kind))
element_read d flash scratchpad fits o x i there given less =
    let no = not_local (slice_index_or d.placed o false) x given in
    from_row d flash scratchpad fits o x there i less (row_of (slice_index_or d.placed o false) x) refl
    (λ e. absurd (false≢true (sym no ∙ ap is_local e))) (λ e. absurd (false≢true (sym no ∙ ap is_local e)))
