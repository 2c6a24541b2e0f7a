-- Items have their numbers and sizes whatever is placed.
use Rattle.std.proofs.Common.{◌≡◌, ℕ, zero, suc, ◌+◌, List, [], ◌∷◌, ◌++◌, length, map, refl, ap, ◌∙◌, arith}
use Rattle.std.specs.Prelude.{if◌then◌else◌}
use Rattle.std.specs.List.{range_with_len}
use Rattle.std.proofs.lemmas.List.{map-append}
use Rattle.low_ir.specs.Arrays.{array_size}
use Rattle.low_ir.specs.declared.object.Storage.{Storage}
use Rattle.low_ir.specs.declared.object.Storage.TheVariants.{Constant as Fixed', Global, Local}
use Rattle.low_ir.specs.Code.{Object}
use Rattle.low_ir.specs.Places.{Placed}
use Rattle.asm_sound.specs.Functions.{function_size}
use Rattle.asm_sound.proofs.FunctionLemmas.{sizes_kept}
use Rattle.image_frames.specs.Frames.{frames_of}
use Rattle.image_frames.specs.Memories.{Placement}
use Rattle.image_definition.specs.Sizes.{code_size}
use Rattle.claims_definition.specs.Listed.{Laid}
use Rattle.claims_image.specs.Images.{laid_of}
use Rattle.claims_definition.specs.Movables.{Movable, array_item, arrays_from, function_item, is_local, movables_of, unless}
use Rattle.layout_relation.specs.Items.{arrays_sized, item_sizes, sized}

module _ (pl : Placement) (p : Placed) where
  abbrev l : Laid
  l = laid_of pl p

  abbrev functions : List Movable
  functions = map (function_item l) (range_with_len 0 (length p.functions))

  size_same : (f : ℕ) → function_size l.memory p f ≡ code_size p f
  size_same f = sizes_kept l.memory (record { frames = frames_of p; objects = []; second = 0 }) p f refl

  functions_same : (f n : ℕ) → map sized (map (function_item l) (range_with_len f n)) ≡ map (λ g. (g, code_size p g)) (range_with_len f n)
  functions_same f zero = refl
  functions_same f (suc n) =
      ap (λ size. (f, size) ∷ map sized (map (function_item l) (range_with_len (f + 1) n))) (size_same f) ∙ ap (λ ms. (f, code_size p f) ∷ ms) (functions_same (f + 1) n)

  -- an array has the number behind the functions
  arrays_same : (o k : ℕ) (xs : List Object) → length p.functions + o ≡ k → map sized (arrays_from l o xs) ≡ arrays_sized k xs
  arrays_same o k [] e = refl
  arrays_same o k (x ∷ xs) e = by_storage x.storage (arrays_same (suc o) (suc k) xs (omega (arith, e)))
    where
      item : map sized (arrays_from l (suc o) xs) ≡ arrays_sized (suc k) xs → (length p.functions + o, array_size x) ∷ map sized (arrays_from l (suc o) xs) ≡ (k, array_size x) ∷ arrays_sized (suc k) xs
      item h = ap (λ n. (n, array_size x) ∷ map sized (arrays_from l (suc o) xs)) e ∙ ap (λ ms. (k, array_size x) ∷ ms) h

      by_storage : (s : Storage) → map sized (arrays_from l (suc o) xs) ≡ arrays_sized (suc k) xs → map sized (unless (is_local s) (array_item l o x) ++ arrays_from l (suc o) xs) ≡ (if is_local s then [] else (k, array_size x) ∷ []) ++ arrays_sized (suc k) xs
      by_storage Fixed' h = item h
      by_storage Global h = item h
      by_storage Local h = h

  pub sizes_stay : map sized (movables_of l) ≡ item_sizes p
  sizes_stay =
      map-append sized functions (arrays_from l 0 p.objects)
      ∙ ap (λ ms. ms ++ map sized (arrays_from l 0 p.objects)) (functions_same 0 (length p.functions))
      ∙ ap (λ ms. map (λ f. (f, code_size p f)) (range_with_len 0 (length p.functions)) ++ ms) (arrays_same 0 (length p.functions) p.objects (omega arith))
