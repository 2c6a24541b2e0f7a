-- What is small has room.
use Rattle.std.proofs.Common.{◌≡◌, ℕ, suc, ◌+◌, ◌*◌, ◌^◌, ◌<◌, ◌≤◌, Bool, true, false, List, [], ◌∷◌, length, ap, arith, if◌then◌else◌}
use Rattle.std.specs.Prelude.{◌==◌, ◌&&◌, slice_index_or}
use Rattle.asm_items.specs.declared.item.Item.{Item}
use Rattle.asm_items.specs.declared.item.Item.TheVariants.{Single, Jump, Call, Branch, Return, Exit}
use Rattle.asm_items.specs.Items.{size, total}
use Rattle.asm_items.specs.Placings.{Blocks, blocks_size}
use Rattle.asm_forms.specs.Regions.{functions_size}
use Rattle.asm_forms.specs.Shorter.{longest, items_longest, blocks_longest, functions_longest}
use Rattle.wcc_base.specs.Sizes.{rounded}
use Rattle.low_ir.specs.Arrays.{bytes_of, array_size}
use Rattle.low_ir.specs.declared.places.LowReg.{LowReg}
use Rattle.low_ir.specs.Code.{Function, Low, Note, Object}
use Rattle.low_ir.specs.Places.{Assignment, Placed, placed, place_function, place_functions}
use Rattle.low_ir.specs.Placings.{assignment_of, placed_of}
use Rattle.low_ir.specs.Programs.{low_of}
use Rattle.asm_program.specs.Frames.{frame_end}
use Rattle.image_segments.specs.Rows.{spots, spot_of, row_room, HaveSizes}
use Rattle.image_segments.specs.Segments.{FitSegments}
use Rattle.image_segments.specs.Starts.{FitRegions}
use Rattle.image_frames.specs.Needs.{written, housed, is_needed}
use Rattle.image_frames.specs.Registers.{holds}
use Rattle.image_frames.specs.Frames.{frame_at, end_from, frames_end}
use Rattle.image_frames.specs.Memories.{Placement, FitsMemory}
use Rattle.image_frames.proofs.TableLemmas.{chosen_few}
use Rattle.layout_cases.specs.Rooms.{rooms, words_from, IsSmall}

row_few : (placed : List Bool) (r k : ℕ) (xs : List Object) → row_room r (spots placed k xs) ≤ rooms xs
row_few placed r k [] = omega arith
row_few placed r k (x ∷ xs) = by ((spot_of (slice_index_or placed k false) x).row == r) (row_few placed r (suc k) xs)
  where
    by : (b : Bool) → row_room r (spots placed (suc k) xs) ≤ rooms xs → (if b then array_size x else 0) + row_room r (spots placed (suc k) xs) ≤ array_size x + rooms xs
    by true h = omega (arith, h)
    by false h = omega (arith, h)

-- arrays that take so little have room wherever frames end in the first 64 KiB of RAM
pub arrays_fit : (frames : ℕ) (placed : List Bool) (xs : List Object) → rooms xs ≤ 0x4000 → frames ≤ 0x2001_0000 → FitRegions frames (spots placed 0 xs)
arrays_fit frames placed xs h f =
    let r0 = row_few placed 0 0 xs in
    let r1 = row_few placed 1 0 xs in
    let r2 = row_few placed 2 0 xs in
    let r3 = row_few placed 3 0 xs in
    let r4 = row_few placed 4 0 xs in
    let r5 = row_few placed 5 0 xs in
    record {
      constants = omega (arith, h, r0);
      scratchpad = omega (arith, h, r1);
      ram = omega (arith, h, f, r2, r3, r4, r5);
    }

module _ (a : Assignment) (low : Low) where
  abbrev p : Placed
  p = placed a low

  frames_few : (at k : ℕ) (fns : List (Function ℕ Note)) → end_from p at k (place_functions a k fns) ≤ at + 4 * words_from a k fns
  frames_few at k [] = omega arith
  frames_few at k (fn ∷ fns) =
      let s = chosen_few (λ q. holds (written p k) q && is_needed p k q) 24 in
      let h = chosen_few (holds (housed p k)) 24 in
      let r = frames_few (frame_end (frame_at p at k (place_function a k fn))) (suc k) fns in
      omega (arith, s, h, r)

pub small_fits : (pl : Placement) (code : LowReg) → IsSmall code → FitsMemory pl (placed_of code)
small_fits pl code small =
    let f = frames_few (assignment_of code) (low_of code.low) 0x2000_0000 0 (low_of code.low).functions in
    let n = small.frames in
    arrays_fit (frames_end (placed_of code)) pl.objects (low_of code.low).objects small.arrays (omega (arith, f, n))

pub small_frames : (code : LowReg) → IsSmall code → frames_end (placed_of code) < 2 ^ 32
small_frames code small =
    let f = frames_few (assignment_of code) (low_of code.low) 0x2000_0000 0 (low_of code.low).functions in
    let n = small.frames in
    omega (arith, f, n)

-- items
size_most : (x : Item) → size (longest x) ≤ 12
size_most (Single i) = omega arith
size_most (Jump far n) = omega arith
size_most (Call far f) = omega arith
size_most (Branch form c x y n) = omega arith
size_most Return = omega arith
size_most Exit = omega arith

pub items_few : (xs : List Item) → total (items_longest xs) ≤ 12 * length xs
items_few [] = omega arith
items_few (x ∷ xs) = let h = size_most x in let r = items_few xs in omega (arith, h, r)

pub functions_more : (all fs rest : List Blocks) (bs : Blocks) (sum new n : ℕ) → functions_size (functions_longest all) ≤ sum + functions_size (functions_longest fs) → fs ≡ bs ∷ rest → blocks_size (blocks_longest bs) ≤ n → new ≡ sum + n → functions_size (functions_longest all) ≤ new + functions_size (functions_longest rest)
functions_more all fs rest bs sum new n h e few is =
    let split = ap (λ l. functions_size (functions_longest l)) e in
    omega (arith, h, is, few, split)

-- and can be counted
counted : (n : ℕ) → rounded n ≤ 0x4000 → n + 3 < 2 ^ 32
counted n h = omega (arith, h)

head_few : (n m : ℕ) → n + m ≤ 0x4000 → n ≤ 0x4000
head_few n m h = omega (arith, h)

tail_few : (n m : ℕ) → n + m ≤ 0x4000 → m ≤ 0x4000
tail_few n m h = omega (arith, h)

pub arrays_counted : (xs : List Object) → rooms xs ≤ 0x4000 → HaveSizes xs
arrays_counted [] h = tt
arrays_counted (x ∷ xs) h = (counted (bytes_of x) (head_few (array_size x) (rooms xs) h), arrays_counted xs (tail_few (array_size x) (rooms xs) h))

-- with two instructions in flash and one in the scratchpad
pub segments_fit : (frames : ℕ) (placed : List Bool) (xs : List Object) (flash scratchpad : List ℕ) → rooms xs ≤ 0x4000 → 0x2000_0000 ≤ frames → frames ≤ 0x2001_0000 → length flash ≡ 8 → length scratchpad ≡ 4
    → FitSegments (record { frames = frames; placed = placed; objects = xs }) flash scratchpad
segments_fit frames placed xs flash scratchpad h first last f s =
    let k = row_few placed 1 0 xs in
    record {
      rows = arrays_fit frames placed xs h last;
      frames = first;
      flash_code = omega (arith, f);
      scratchpad_code = omega (arith, s, h, k);
    }
