-- The image of a small program has room.
use Rattle.std.proofs.Common.{◌≡◌, ℕ, zero, suc, ◌+◌, ◌≤◌, Bool, true, false, List, [], ◌∷◌, length, map, refl, ap, ◌∙◌, arith, if◌then◌else◌}
use Rattle.std.specs.Prelude.{◌==◌, ◌&&◌, nat_le, slice_index_or}
use Rattle.std.specs.List.{range_with_len}
use Rattle.low_ir.specs.Arrays.{array_size}
use Rattle.low_ir.specs.declared.object.Storage.{Storage}
use Rattle.low_ir.specs.declared.object.Storage.TheVariants.{Constant as Fixed', Global, Local}
use Rattle.low_ir.specs.Code.{Object}
use Rattle.low_ir.specs.Effects.{can_store}
use Rattle.low_ir.specs.Places.{Placed}
use Rattle.asm_program.specs.Numbers.{ram}
use Rattle.asm_program.specs.Frames.{frame_end, no_frame}
use Rattle.asm_items.specs.Placings.{blocks_size}
use Rattle.asm_forms.specs.Shorter.{blocks_longest}
use Rattle.asm_program.specs.Functions.{PlacedFunction, function_items}
use Rattle.asm_program.specs.Formed.{IsProgram}
use Rattle.asm_sound.proofs.FunctionLemmas.{sizes_kept}
use Rattle.asm_sound.proofs.SizeLemmas.{longest_has_room}
use Rattle.image_segments.specs.declared.rows.Row.TheVariants.{Scratchpad}
use Rattle.image_segments.specs.Rows.{small_room, row_by, row_of, row_number, row_room, spots}
use Rattle.image_frames.specs.Needs.{saved_of, homes_of, written, housed, is_needed}
use Rattle.image_frames.specs.Registers.{holds}
use Rattle.image_frames.specs.Frames.{frame_at, frames_from, frames_of, end_from}
use Rattle.image_frames.specs.Memories.{Placement, memory_of}
use Rattle.image_frames.proofs.TableLemmas.{chosen_few}
use Rattle.image_definition.specs.Images.{FitsImage}
use Rattle.image_definition.specs.Sizes.{constants_room, variables_room, code_size, sizes_placed, frames_room, HasRoom, HasSizes, HasWords}
use Rattle.image_definition.proofs.CodeLemmas.{placed_few}

abbrev gain : ℕ → ℕ → ℕ → ℕ
gain r n k = if r == k then n else 0

-- what an array in a row takes of which sum
pub record Parts (r : ℕ) (stored placed : Bool) (n : ℕ) : Type 0 where
  pub constants : gain r n 0 ≤ (if stored then 0 else n)
  pub variables : gain r n 2 + gain r n 3 + gain r n 4 + gain r n 5 ≤ (if stored then n else 0)
  pub arrays : gain r n 1 ≤ (if placed then n else 0)

parts_by : (placed : Bool) (s : Storage) (small : Bool) (n : ℕ) → Parts (row_number (if placed then Scratchpad else row_by s small)) (can_store s) placed n
parts_by true s small n = record { constants = omega arith; variables = omega arith; arrays = omega arith }
parts_by false Fixed' small n = record { constants = omega arith; variables = omega arith; arrays = omega arith }
parts_by false Global true n = record { constants = omega arith; variables = omega arith; arrays = omega arith }
parts_by false Global false n = record { constants = omega arith; variables = omega arith; arrays = omega arith }
parts_by false Local true n = record { constants = omega arith; variables = omega arith; arrays = omega arith }
parts_by false Local false n = record { constants = omega arith; variables = omega arith; arrays = omega arith }

parts : (placed : Bool) (x : Object) → Parts (row_number (row_of placed x)) (can_store x.storage) placed (array_size x)
parts placed x = parts_by placed x.storage (nat_le (array_size x) small_room) (array_size x)

constants_few : (placed : List Bool) (k : ℕ) (xs : List Object) → row_room 0 (spots placed k xs) ≤ constants_room xs
constants_few placed k [] = omega arith
constants_few placed k (x ∷ xs) = let h = (parts (slice_index_or placed k false) x).constants in let r = constants_few placed (suc k) xs in omega (arith, h, r)

variables_few : (placed : List Bool) (k : ℕ) (xs : List Object) → row_room 2 (spots placed k xs) + row_room 3 (spots placed k xs) + row_room 4 (spots placed k xs) + row_room 5 (spots placed k xs) ≤ variables_room xs
variables_few placed k [] = omega arith
variables_few placed k (x ∷ xs) = let h = (parts (slice_index_or placed k false) x).variables in let r = variables_few placed (suc k) xs in omega (arith, h, r)

arrays_few : (placed : List Bool) (k : ℕ) (xs : List Object) → row_room 1 (spots placed k xs) ≤ sizes_placed placed k (map array_size xs)
arrays_few placed k [] = omega arith
arrays_few placed k (x ∷ xs) = let h = (parts (slice_index_or placed k false) x).arrays in let r = arrays_few placed (suc k) xs in omega (arith, h, r)

module _ (p : Placed) where
  saved_few : (f : ℕ) → length (saved_of p f) ≤ 24
  saved_few f = chosen_few (λ q. holds (written p f) q && is_needed p f q) 24

  homes_few : (f : ℕ) → length (homes_of p f) ≤ 24
  homes_few f = chosen_few (holds (housed p f)) 24

  frames_few : (at k : ℕ) (fns : List PlacedFunction) → end_from p at k fns ≤ at + frames_room fns
  frames_few at k [] = omega arith
  frames_few at k (fn ∷ fns) =
      let s = saved_few k in
      let h = homes_few k in
      let r = frames_few (frame_end (frame_at p at k fn)) (suc k) fns in
      omega (arith, s, h, r)

  frames_save : (at k : ℕ) (fns : List PlacedFunction) (f : ℕ) → length (slice_index_or (frames_from p at k fns) f no_frame).saved ≤ 24
  frames_save at k [] f = omega arith
  frames_save at k (fn ∷ fns) zero = saved_few k
  frames_save at k (fn ∷ fns) (suc f) = frames_save (frame_end (frame_at p at k fn)) (suc k) fns f

  own : (n : ℕ) → 0 + n ≡ n
  own n = omega arith

  -- a function takes no more than its size, wherever a placement puts arrays
  size_most : (pl : Placement) (f : ℕ) → blocks_size (blocks_longest (function_items (memory_of pl p) p f)) ≤ code_size p f
  size_most pl f = let same = sizes_kept (memory_of pl p) (record { frames = frames_of p; objects = []; second = 0 }) p f refl in omega (arith, same)

  pub fits : (pl : Placement) → IsProgram p → HasWords p → HasSizes pl p → FitsImage pl p
  fits pl formed words sizes =
      let c = constants_few pl.objects 0 p.objects in
      let v = variables_few pl.objects 0 p.objects in
      let a = arrays_few pl.objects 0 p.objects in
      let fr = frames_few ram 0 p.functions in
      let code = sizes.room.code in
      let constants = sizes.room.constants in
      let variables = sizes.room.variables in
      let placed = sizes.placed in
      let all = longest_has_room (memory_of pl p) p (record { program = formed; words = words; saved = λ f. frames_save ram 0 p.functions f }) in
      let there = placed_few (memory_of pl p) p (size_most pl) pl.functions p.main 0 p.functions (ap (λ n. slice_index_or pl.functions n false) (own (length p.functions)) ∙ sizes.start) in
      record {
        memory = record { constants = omega (arith, c, constants); scratchpad = omega (arith, a, placed); ram = omega (arith, v, fr, variables) };
        flash = omega (arith, all, code);
        scratchpad = omega (arith, a, there, placed);
      }

-- where nothing is placed
none_there : (n : ℕ) → slice_index_or [] n false ≡ false
none_there zero = refl
none_there (suc n) = refl

nothing_placed : (k : ℕ) (ns : List ℕ) → sizes_placed [] k ns ≡ 0
nothing_placed k [] = refl
nothing_placed k (n ∷ ns) = let this = ap (λ b. if b then n else 0) (none_there k) in let rest = nothing_placed (suc k) ns in omega (arith, this, rest)

pub nothing_fits : (p : Placed) → HasRoom p → HasSizes (record { functions = []; objects = [] }) p
nothing_fits p room =
    let arrays = nothing_placed 0 (map array_size p.objects) in
    let functions = nothing_placed 0 (map (code_size p) (range_with_len 0 (length p.functions))) in
    record { room = room; placed = omega (arith, arrays, functions); start = none_there (length p.functions) }
