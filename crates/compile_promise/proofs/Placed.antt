-- The scratchpad has no more than what is placed there.
use Rattle.std.proofs.Common.{◌≡◌, ℕ, zero, suc, ◌+◌, ◌≤◌, Bool, true, false, List, [], ◌∷◌, ◌++◌, map, length, Option, Some, None, refl, ap, subst, ◌∙◌, arith}
use Rattle.std.specs.Prelude.{if◌then◌else◌, nat_le, slice_get, slice_index_or}
use Rattle.std.specs.List.{range_with_len}
use Rattle.rv_core.specs.declared.image.Segment.{Segment}
use Rattle.rv_core.specs.declared.regions.Region.{Region}
use Rattle.rv_core.specs.declared.regions.Region.TheVariants.{Spm}
use Rattle.rv_core.specs.Regions.{lies_in}
use Rattle.image_segments.specs.Rows.{row_by, small_room}
use Rattle.image_segments.specs.Starts.{region_of}
use Rattle.low_ir.specs.Arrays.{array_size}
use Rattle.low_ir.specs.declared.object.Storage.{Storage}
use Rattle.low_ir.specs.declared.object.Storage.TheVariants.{Constant, Global, Local}
use Rattle.low_ir.specs.Code.{Object}
use Rattle.low_ir.specs.Places.{Placed}
use Rattle.asm_sound.proofs.FunctionLemmas.{sizes_kept}
use Rattle.image_frames.specs.Frames.{frames_of}
use Rattle.image_frames.specs.Memories.{Placement, region_by}
use Rattle.image_definition.specs.Sizes.{code_size, sizes_placed}
use Rattle.image_definition.specs.Images.{image_in}
use Rattle.claims_definition.specs.Lines.{same_region}
use Rattle.claims_definition.specs.Listed.{Laid}
use Rattle.claims_image.specs.Images.{laid_of}
use Rattle.claims_definition.specs.Movables.{Movable, array_item, arrays_from, code_region, function_item, is_local, movables_of, unless}
use Rattle.layout_relation.specs.Items.{scratchpad_size}
use Rattle.layout_relation.specs.Images.{AreSmall}
use Rattle.layout_relation.specs.Segments.{taken_in}
use Rattle.promise_report.specs.Compiled.{scratchpad_taken}
use Rattle.compile_stages.specs.Placed.{placed_bytes}

joined : (xs ys : List Movable) → scratchpad_size (xs ++ ys) ≡ scratchpad_size xs + scratchpad_size ys
joined [] ys = omega arith
joined (x ∷ xs) ys = let rest = joined xs ys in omega (arith, rest)

-- of a row of arrays that isn't placed
row_outside : (s : Storage) (small : Bool) → same_region Spm (region_of (row_by s small)) ≡ false
row_outside Constant small = refl
row_outside Global true = refl
row_outside Global false = refl
row_outside Local true = refl
row_outside Local false = refl

object_outside : (x : Option Object) → same_region Spm (region_by false x) ≡ false
object_outside None = refl
object_outside (Some x) = row_outside x.storage (nat_le (array_size x) small_room)

-- what lies in the scratchpad only if it is placed takes at most its size, and else nothing
one_taken : (b : Bool) (r : Region) (n : ℕ) → (b ≡ false → same_region Spm r ≡ false) → (if same_region Spm r then n else 0) ≤ (if b then n else 0)
one_taken true r n h = by_region (same_region Spm r)
  where
    by_region : (c : Bool) → (if c then n else 0) ≤ n
    by_region true = omega arith
    by_region false = omega arith
one_taken false r n h = let none : (if same_region Spm r then n else 0) ≡ 0 = ap (λ c. if c then n else 0) (h refl) in omega (arith, none)

taken_same : (ss : List Segment) → scratchpad_taken ss ≡ taken_in Spm ss
taken_same [] = refl
taken_same (s ∷ ss) = ap (λ n. (if lies_in Spm s.at then s.size else 0) + n) (taken_same ss)

module _ (pl : Placement) (p : Placed) where
  abbrev l : Laid
  l = laid_of pl p

  code_outside : (f : ℕ) → slice_index_or pl.functions f false ≡ false → same_region Spm (code_region (slice_index_or pl.functions f false)) ≡ false
  code_outside f e = ap (λ b. same_region Spm (code_region b)) e

  functions_taken : (f n : ℕ) → scratchpad_size (map (function_item l) (range_with_len f n)) ≤ sizes_placed pl.functions f (map (code_size p) (range_with_len f n))
  functions_taken f zero = omega arith
  functions_taken f (suc n) =
      let one = one_taken (slice_index_or pl.functions f false) (function_item l f).region (function_item l f).size (code_outside f) in
      let same = sizes_kept l.memory (record { frames = frames_of p; objects = []; second = 0 }) p f refl in
      let next : f + 1 ≡ suc f = omega arith in
      let rest = subst (λ k. scratchpad_size (map (function_item l) (range_with_len (f + 1) n)) ≤ sizes_placed pl.functions k (map (code_size p) (range_with_len (f + 1) n))) next (functions_taken (f + 1) n) in
      let own = subst (λ m. (if same_region Spm (function_item l f).region then (function_item l f).size else 0) ≤ (if slice_index_or pl.functions f false then m else 0)) same one in
      omega (arith, own, rest)

  array_taken : (o : ℕ) (x : Object) (b : Bool) → scratchpad_size (unless b (array_item l o x)) ≤ (if slice_index_or pl.objects o false then array_size x else 0)
  array_taken o x true = omega arith
  array_taken o x false =
      let one = one_taken (slice_index_or pl.objects o false) (array_item l o x).region (array_size x) (λ e. ap (λ b. same_region Spm (region_by b (slice_get p.objects o))) e ∙ object_outside (slice_get p.objects o)) in
      omega (arith, one)

  arrays_taken : (o : ℕ) (xs : List Object) → scratchpad_size (arrays_from l o xs) ≤ sizes_placed pl.objects o (map array_size xs)
  arrays_taken o [] = omega arith
  arrays_taken o (x ∷ xs) =
      let one = array_taken o x (is_local x.storage) in
      let rest = arrays_taken (suc o) xs in
      let both = joined (unless (is_local x.storage) (array_item l o x)) (arrays_from l (suc o) xs) in
      omega (arith, one, rest, both)

  all_taken : scratchpad_size (movables_of l) ≤ placed_bytes pl p
  all_taken =
      let functions = functions_taken 0 (length p.functions) in
      let arrays = arrays_taken 0 p.objects in
      let both = joined (map (function_item l) (range_with_len 0 (length p.functions))) (arrays_from l 0 p.objects) in
      omega (arith, functions, arrays, both)

  pub taken_few : AreSmall pl p → scratchpad_taken (image_in pl p).segments ≤ placed_bytes pl p
  taken_few small =
      let same = taken_same (image_in pl p).segments in
      let few = small.scratchpad in
      omega (arith, same, few, all_taken)
