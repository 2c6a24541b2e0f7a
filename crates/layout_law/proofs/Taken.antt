-- What segments take of the scratchpad.
use Rattle.std.proofs.Common.{◌≡◌, ◌≢◌, ℕ, zero, suc, ◌+◌, ◌<◌, ◌≤◌, Bool, true, false, List, [], ◌∷◌, ◌++◌, length, map, refl, sym, ap, ◌∙◌, subst, arith, if◌then◌else◌}
use Rattle.std.specs.Prelude.{◌==◌, ◌&&◌, Some, nat_le, slice_get, slice_index, slice_index_or}
use Rattle.std.specs.List.{range_with_len}
use Rattle.std.proofs.lemmas.Bool.{le-ltb}
use Rattle.rv_core.specs.declared.image.Segment.{Segment}
use Rattle.rv_core.specs.declared.regions.Region.{Region}
use Rattle.rv_core.specs.declared.regions.Region.TheVariants.{Spm, Ram}
use Rattle.rv_core.specs.Regions.{lies_in, region_size, region_start}
use Rattle.asm_items.specs.Placings.{Blocks, blocks_of, blocks_size}
use Rattle.asm_placed.specs.Written.{in_scratchpad}
use Rattle.low_ir.specs.Arrays.{array_size}
use Rattle.low_ir.specs.declared.object.Storage.{Storage}
use Rattle.low_ir.specs.declared.object.Storage.TheVariants.{Constant as Fixed', Global, Local}
use Rattle.low_ir.specs.Code.{Object}
use Rattle.low_ir.specs.Places.{Placed}
use Rattle.asm_program.specs.Numbers.{ram}
use Rattle.image_segments.specs.declared.rows.Row.TheVariants.{Scratchpad}
use Rattle.image_segments.specs.Rows.{small_room, row_by, row_number, row_room, spots}
use Rattle.image_segments.specs.Starts.{placed_end, starts_behind}
use Rattle.image_segments.specs.Segments.{Data, all_segments, present, spots_in}
use Rattle.image_frames.specs.Memories.{Placement}
use Rattle.image_frames.proofs.FrameLemmas.{ends}
use Rattle.image_definition.specs.Images.{data_in, flash_bytes, image_in, row_size, scratchpad_bytes}
use Rattle.image_definition.specs.Sizes.{HasWords}
use Rattle.claims_definition.specs.Lines.{same_region}
use Rattle.claims_definition.specs.ClaimLaws.{IsSettled}
use Rattle.claims_definition.specs.Listed.{Laid, functions_of, placing}
use Rattle.claims_definition.proofs.Blocks.{count}
use Rattle.claims_image.specs.Images.{laid_of}
use Rattle.claims_definition.specs.Movables.{Movable, array_item, arrays_from, code_region, function_item, is_local, movables_of, unless}
use Rattle.claims_definition.proofs.Movables.{function_movable}
use Rattle.layout_relation.specs.Segments.{taken_in}
use Rattle.layout_relation.specs.Items.{array_region, scratchpad_size}
use Rattle.image_frames.specs.Placings.{MovesItems}
use Rattle.layout_relation.specs.Images.{AreSmall}
use Rattle.layout_law.proofs.Counting.{instructions_few, scratchpad_row}
use Rattle.layout_law.proofs.Kept.{kept_few}
use Rattle.layout_law.proofs.Lying.{region_is}

-- segments without bytes take nothing
taken_present : (r : Region) (ss : List Segment) → taken_in r (present ss) ≡ taken_in r ss
taken_present r [] = refl
taken_present r (s ∷ ss) = by_test (s.size == 0) refl (taken_present r ss)
  where
    nothing : (b : Bool) → s.size ≡ 0 → (if b then s.size else 0) ≡ 0
    nothing true none = none
    nothing false none = refl

    by_test : (b : Bool) → (s.size == 0) ≡ b → taken_in r (present ss) ≡ taken_in r ss → taken_in r (if b then present ss else s ∷ present ss) ≡ (if lies_in r s.at then s.size else 0) + taken_in r ss
    by_test true t h =
        let none : s.size ≡ 0 = grind (arith, t) in
        let here = nothing (lies_in r s.at) none in
        omega (arith, h, here)
    by_test false t h = ap (λ n. (if lies_in r s.at then s.size else 0) + n) h

-- RAM lies behind the scratchpad
outside : (at n : ℕ) → region_start Ram ≤ at → (if lies_in Spm at then n else 0) ≡ 0
outside at n h = ap (λ t. if (nat_le (region_start Spm) at && t) then n else 0) (le-ltb at (region_start Spm + region_size Spm) (omega (arith, h))) ∙ none (nat_le (region_start Spm) at)
  where
    none : (b : Bool) → (if (b && false) then n else 0) ≡ 0
    none true = refl
    none false = refl

at_most : (b : Bool) (n : ℕ) → (if b then n else 0) ≤ n
at_most true n = omega arith
at_most false n = omega arith

module _ (d : Data) (flash scratchpad : List ℕ) (frames : region_start Ram ≤ d.frames) where
  abbrev start : ℕ → ℕ
  start r = slice_index (starts_behind d.frames (spots_in d)) r

  abbrev room : ℕ → ℕ
  room r = row_room r (spots_in d)

  all_taken : taken_in Spm (all_segments d flash scratchpad) ≤ room 1 + length scratchpad
  all_taken =
      let each : taken_in Spm (all_segments d flash scratchpad)
      ≡ 0 + (0 + (room 1 + ((if lies_in Spm (placed_end (spots_in d)) then length scratchpad else 0) + (0 + ((if lies_in Spm (start 2) then room 2 else 0) + ((if lies_in Spm (start 3) then room 3 else 0) + ((if lies_in Spm (start 4) then room 4 else 0) + ((if lies_in Spm (start 5) then room 5 else 0) + 0)))))))) = refl in
      let code = at_most (lies_in Spm (placed_end (spots_in d))) (length scratchpad) in
      let first = outside (start 2) (room 2) frames in
      let second = outside (start 3) (room 3) (omega (arith, frames)) in
      let third = outside (start 4) (room 4) (omega (arith, frames)) in
      let fourth = outside (start 5) (room 5) (omega (arith, frames)) in
      omega (arith, each, code, first, second, third, fourth)

-- the row of placed arrays has the sizes of their items
one_placed : (placed : Bool) (s : Storage) (small : Bool) (n : ℕ) → (if row_number (if placed then Scratchpad else row_by s small) == 1 then n else 0) ≡ (if placed then n else 0)
one_placed true s small n = refl
one_placed false Fixed' small n = refl
one_placed false Global true n = refl
one_placed false Global false n = refl
one_placed false Local true n = refl
one_placed false Local false n = refl

-- an array counts where it is placed
one_item : (l : Laid) (k : ℕ) (x : Object) (ms : List Movable) (b : Bool) (s : Storage) → l.regions k ≡ array_region b s → (b ≡ true → s ≢ Local) → scratchpad_size (unless (is_local s) (array_item l k x) ++ ms) ≡ (if b then array_size x else 0) + scratchpad_size ms
one_item l k x ms true Fixed' e h = ap (λ r. (if same_region Spm r then array_size x else 0) + scratchpad_size ms) e
one_item l k x ms false Fixed' e h = ap (λ r. (if same_region Spm r then array_size x else 0) + scratchpad_size ms) e
one_item l k x ms true Global e h = ap (λ r. (if same_region Spm r then array_size x else 0) + scratchpad_size ms) e
one_item l k x ms false Global e h = ap (λ r. (if same_region Spm r then array_size x else 0) + scratchpad_size ms) e
one_item l k x ms true Local e h = absurd (h refl refl)
one_item l k x ms false Local e h = omega arith

-- where regions are those of the placement
module _ (l : Laid) (placed : List Bool) where
  abbrev AreIn : ℕ → List Object → Type 0
  AreIn k xs = (o : ℕ) (x : Object) → slice_get xs o ≡ Some x → (l.regions (k + o) ≡ array_region (slice_index_or placed (k + o) false) x.storage) × (slice_index_or placed (k + o) false ≡ true → x.storage ≢ Local)

  arrays_taken : (k : ℕ) (xs : List Object) → AreIn k xs → row_room 1 (spots placed k xs) ≡ scratchpad_size (arrays_from l k xs)
  arrays_taken k [] are = refl
  arrays_taken k (x ∷ xs) are =
      let b = slice_index_or placed k false in
      let own = subst (λ n. (l.regions n ≡ array_region (slice_index_or placed n false) x.storage) × (slice_index_or placed n false ≡ true → x.storage ≢ Local)) (first k) (are 0 x refl) in
      let here = one_placed b x.storage (nat_le (array_size x) small_room) (array_size x) in
      let item = one_item l k x (arrays_from l (suc k) xs) b x.storage own.0 own.1 in
      let rest =
      arrays_taken (suc k) xs
      (λ o y e. subst (λ n. (l.regions n ≡ array_region (slice_index_or placed n false) y.storage) × (slice_index_or placed n false ≡ true → y.storage ≢ Local)) (onward k o) (are (suc o) y e)) in
      omega (arith, here, item, rest)
    where
      first : (n : ℕ) → n + 0 ≡ n
      first n = omega arith

      onward : (n m : ℕ) → n + suc m ≡ suc n + m
      onward n m = omega arith

size_append : (xs ys : List Movable) → scratchpad_size (xs ++ ys) ≡ scratchpad_size xs + scratchpad_size ys
size_append [] ys = omega arith
size_append (m ∷ xs) ys = let h = size_append xs ys in omega (arith, h)

module _ (l : Laid) (is : IsSettled l) (start_stays : in_scratchpad l.rows (length l.program.functions) ≡ false) where
  enough : (k : ℕ) (bs : Blocks) → k < length l.program.functions → blocks_of (placing l) k ≡ bs → blocks_size bs ≤ (function_item l k).size
  enough k bs low e = let h = (function_movable l is k low).enough in subst (λ cs. blocks_size cs ≤ (function_item l k).size) e h

  -- placed functions take no more than the sizes of their items
  functions_taken : (k : ℕ) (fs : List Blocks) (n : ℕ) → length fs ≡ suc n → ((j : ℕ) → slice_index_or (functions_of l) (k + j) [] ≡ slice_index_or fs j []) → k + n ≡ length l.program.functions → row_size (in_scratchpad l.rows) k fs ≤ scratchpad_size (map (function_item l) (range_with_len k n))
  functions_taken k [] n long at last = absurd (omega (arith, long))
  functions_taken k (bs ∷ (cs ∷ fs)) zero long at last = absurd (omega (arith, long))
  functions_taken k (bs ∷ []) zero long at last =
      let is_last : length l.program.functions ≡ k = omega (arith, last) in
      none (in_scratchpad l.rows k) (ap (in_scratchpad l.rows) (sym is_last) ∙ start_stays)
    where
      none : (b : Bool) → b ≡ false → (if b then blocks_size bs else 0) + 0 ≤ 0
      none false e = omega arith
      none true e = cc
  functions_taken k (bs ∷ fs) (suc n) long at last =
      let here = enough k bs (omega (arith, last)) (ap (λ i. slice_index_or (functions_of l) i []) (own k) ∙ at 0) in
      let rest = functions_taken (suc k) fs n (omega (arith, long)) (λ j. ap (λ i. slice_index_or (functions_of l) i []) (onward k j) ∙ at (suc j)) (omega (arith, last)) in
      by_row (in_scratchpad l.rows k) here (subst (λ i. row_size (in_scratchpad l.rows) (suc k) fs ≤ scratchpad_size (map (function_item l) (range_with_len i n))) (one_more k) rest)
    where
      own : (i : ℕ) → i ≡ i + 0
      own i = omega arith

      one_more : (i : ℕ) → suc i ≡ i + 1
      one_more i = omega arith

      onward : (i m : ℕ) → suc i + m ≡ i + suc m
      onward i m = omega arith

      by_row : (b : Bool) → blocks_size bs ≤ (function_item l k).size → row_size (in_scratchpad l.rows) (suc k) fs ≤ scratchpad_size (map (function_item l) (range_with_len (k + 1) n))
          → (if b then blocks_size bs else 0) + row_size (in_scratchpad l.rows) (suc k) fs ≤ (if same_region Spm (code_region b) then (function_item l k).size else 0) + scratchpad_size (map (function_item l) (range_with_len (k + 1) n))
      by_row true a b = omega (arith, a, b)
      by_row false a b = omega (arith, b)

pub taken_few : (pl : Placement) (p : Placed) → IsSettled (laid_of pl p) → MovesItems pl p → taken_in Spm (image_in pl p).segments ≤ scratchpad_size (movables_of (laid_of pl p))
taken_few pl p is moves =
    let l = laid_of pl p in
    let low = ends p ram 0 p.functions in
    let same = taken_present Spm (all_segments (data_in pl p) (flash_bytes pl p) (scratchpad_bytes pl p)) in
    let all = all_taken (data_in pl p) (flash_bytes pl p) (scratchpad_bytes pl p) low in
    let code = scratchpad_row pl p in
    let arrays = arrays_taken l pl.objects 0 p.objects (λ o x e. subst (λ n. (l.regions n ≡ array_region (slice_index_or pl.objects n false) x.storage) × (slice_index_or pl.objects n false ≡ true → x.storage ≢ Local)) (sym (own o)) (region_is pl p o x e, moves.arrays o x e)) in
    let functions = functions_taken l is moves.start 0 (functions_of l) (length p.functions) (count l is) (λ j. ap (λ n. slice_index_or (functions_of l) n []) (own j)) (omega arith) in
    let both = size_append (map (function_item l) (range_with_len 0 (length p.functions))) (arrays_from l 0 p.objects) in
    omega (arith, same, all, code, arrays, functions, both)
  where
    own : (n : ℕ) → 0 + n ≡ n
    own n = omega arith

pub all_small : (pl : Placement) (p : Placed) → IsSettled (laid_of pl p) → HasWords p → MovesItems pl p → AreSmall pl p
all_small pl p is words moves = record { instructions = instructions_few pl p is words; kept = kept_few pl p moves; scratchpad = taken_few pl p is moves }
