-- The bytes that segments keep.
use Rattle.std.proofs.Common.{◌≡◌, ◌≢◌, ℕ, suc, ◌+◌, ◌*◌, ◌≤◌, Bool, true, false, List, [], ◌∷◌, length, refl, ap, ◌∙◌, arith, if◌then◌else◌}
use Rattle.std.specs.Prelude.{◌==◌, Some, nat_le, slice_get, slice_index_or}
use Rattle.rv_core.specs.declared.image.Segment.{Segment}
use Rattle.low_ir.specs.Arrays.{array_size}
use Rattle.low_ir.specs.declared.object.Storage.{Storage}
use Rattle.low_ir.specs.declared.object.Storage.TheVariants.{Constant as Fixed', Global, Local}
use Rattle.low_ir.specs.Code.{Object}
use Rattle.low_ir.specs.Places.{Placed}
use Rattle.image_segments.specs.declared.rows.Row.TheVariants.{Scratchpad}
use Rattle.image_segments.specs.Rows.{small_room, row_by, row_number, row_room, spots}
use Rattle.image_segments.proofs.ContentLemmas.{row_length}
use Rattle.image_segments.specs.Segments.{Data, present, all_segments, values_in}
use Rattle.image_frames.specs.Memories.{Placement}
use Rattle.image_definition.specs.Images.{data_in, flash_bytes, image_in, scratchpad_bytes}
use Rattle.layout_relation.specs.Segments.{bytes_kept}
use Rattle.layout_relation.specs.Items.{instructions_in}
use Rattle.image_definition.specs.Sizes.{globals_size, unless_local}
use Rattle.image_frames.specs.Placings.{MovesItems}
use Rattle.layout_law.proofs.Counting.{flash_length, scratchpad_length}

bytes_present : (ss : List Segment) → bytes_kept (present ss) ≤ bytes_kept ss
bytes_present [] = omega arith
bytes_present (s ∷ ss) = by_test (s.size == 0) (bytes_present ss)
  where
    by_test : (b : Bool) → bytes_kept (present ss) ≤ bytes_kept ss → bytes_kept (if b then present ss else s ∷ present ss) ≤ length s.bytes + bytes_kept ss
    by_test true h = omega (arith, h)
    by_test false h = omega (arith, h)

-- code, and the rows whose arrays have values
all_bytes : (d : Data) (flash scratchpad : List ℕ)
    → bytes_kept (all_segments d flash scratchpad) ≡ length flash + (length (values_in d 0) + (length (values_in d 1) + (length scratchpad + (0 + (0 + (length (values_in d 3) + (length (values_in d 4) + (0 + 0))))))))
all_bytes d flash scratchpad = refl

abbrev gain : ℕ → ℕ → ℕ → ℕ
gain r n k = if r == k then n else 0

-- an array lies in one row at most
one_row : (placed : Bool) (s : Storage) (small : Bool) (n : ℕ) → (placed ≡ true → s ≢ Local) → gain (row_number (if placed then Scratchpad else row_by s small)) n 0 + gain (row_number (if placed then Scratchpad else row_by s small)) n 1 + gain (row_number (if placed then Scratchpad else row_by s small)) n 3 + gain (row_number (if placed then Scratchpad else row_by s small)) n 4 ≤ unless_local s n
one_row true Fixed' small n h = omega arith
one_row true Global small n h = omega arith
one_row true Local small n h = absurd (h refl refl)
one_row false Fixed' small n h = omega arith
one_row false Global true n h = omega arith
one_row false Global false n h = omega arith
one_row false Local true n h = omega arith
one_row false Local false n h = omega arith

rows_few : (placed : List Bool) (k : ℕ) (xs : List Object) → ((o : ℕ) (x : Object) → slice_get xs o ≡ Some x → slice_index_or placed (k + o) false ≡ true → x.storage ≢ Local)
    → row_room 0 (spots placed k xs) + row_room 1 (spots placed k xs) + row_room 3 (spots placed k xs) + row_room 4 (spots placed k xs) ≤ globals_size xs
rows_few placed k [] moves = omega arith
rows_few placed k (x ∷ xs) moves =
    let here = one_row (slice_index_or placed k false) x.storage (nat_le (array_size x) small_room) (array_size x) (λ t. moves 0 x refl (ap (λ n. slice_index_or placed n false) (own k) ∙ t)) in
    let rest = rows_few placed (suc k) xs (λ o y e t. moves (suc o) y e (ap (λ n. slice_index_or placed n false) (onward k o) ∙ t)) in
    omega (arith, here, rest)
  where
    own : (n : ℕ) → n + 0 ≡ n
    own n = omega arith

    onward : (n m : ℕ) → n + suc m ≡ suc n + m
    onward n m = omega arith

pub kept_few : (pl : Placement) (p : Placed) → MovesItems pl p → bytes_kept (image_in pl p).segments ≤ 4 * instructions_in pl p + globals_size p.objects
kept_few pl p moves =
    let d = data_in pl p in
    let left = bytes_present (all_segments d (flash_bytes pl p) (scratchpad_bytes pl p)) in
    let all = all_bytes d (flash_bytes pl p) (scratchpad_bytes pl p) in
    let flash = flash_length pl p in
    let scratchpad = scratchpad_length pl p in
    let first = row_length pl.objects 0 0 p.objects in
    let second = row_length pl.objects 1 0 p.objects in
    let fourth = row_length pl.objects 3 0 p.objects in
    let fifth = row_length pl.objects 4 0 p.objects in
    let rows = rows_few pl.objects 0 p.objects (λ o x e t. moves.arrays o x e (ap (λ n. slice_index_or pl.objects n false) (own o) ∙ t)) in
    omega (arith, left, all, flash, scratchpad, first, second, fourth, fifth, rows)
  where
    own : (n : ℕ) → n ≡ 0 + n
    own n = omega arith
