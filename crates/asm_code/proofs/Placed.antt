-- The functions of a program over places.
use Rattle.std.proofs.Common.{◌≡◌, ℕ, zero, suc, ◌+◌, List, [], ◌∷◌, length, map, Some, None, refl, sym, ap, ◌∙◌, arith}
use Rattle.std.specs.Prelude.{slice_get, slice_index_or}
use Rattle.std.proofs.lemmas.List.{length-map}
use Rattle.low_ir.specs.declared.low.Function as functions
use Rattle.low_ir.specs.declared.places.Place.{Place}
use Rattle.low_ir.specs.Code.{Block, Function, Note}
use Rattle.low_ir.specs.View.{block_of, function_of}
use Rattle.low_ir.specs.Places.{Assignment, Placed, place_blocks, place_function, place_functions}
use Rattle.asm_program.specs.Frames.{Memory}
use Rattle.asm_program.specs.Functions.{PlacedFunction, function_items, functions_from}
use Rattle.asm_code.specs.Bodies.{each_items}

module _ (a : Assignment) where
  function_from : (k : ℕ) (fns : List (Function ℕ Note)) (f : ℕ) (fn : Function ℕ Note) (d : PlacedFunction) → slice_get fns f ≡ Some fn → slice_index_or (place_functions a k fns) f d ≡ place_function a (k + f) fn
  function_from k [] f fn d e = cc
  function_from k (x ∷ fns) zero fn d e = let same : x ≡ fn = cc in let n : k + 0 ≡ k = omega arith in ap (place_function a k) same ∙ ap (λ i. place_function a i fn) (sym n)
  function_from k (x ∷ fns) (suc f) fn d e = let n : suc k + f ≡ k + suc f = omega arith in function_from (suc k) fns f fn d e ∙ ap (λ i. place_function a i fn) n

  pub function_at : (fns : List (Function ℕ Note)) (f : ℕ) (fn : Function ℕ Note) (d : PlacedFunction) → slice_get fns f ≡ Some fn → slice_index_or (place_functions a 0 fns) f d ≡ place_function a f fn
  function_at fns f fn d e = let n : 0 + f ≡ f = omega arith in function_from 0 fns f fn d e ∙ ap (λ i. place_function a i fn) n

  pub none_at : (k : ℕ) (fns : List (Function ℕ Note)) (f : ℕ) (d : PlacedFunction) → slice_get fns f ≡ None → slice_index_or (place_functions a k fns) f d ≡ d
  none_at k [] f d e = refl
  none_at k (x ∷ fns) zero d e = cc
  none_at k (x ∷ fns) (suc f) d e = none_at (suc k) fns f d e

  -- items go by the numbers of functions alone
  pub each-functions : (m : Memory) (p : Placed) (k f : ℕ) (fns : List (Function ℕ Note)) → each_items m p f fns ≡ functions_from m p f (place_functions a k fns)
  each-functions m p k f [] = refl
  each-functions m p k f (fn ∷ fns) = ap (λ l. function_items m p f ∷ l) (each-functions m p (suc k) (suc f) fns)

pub map-get : {A B : Type 0} (g : A → B) (xs : List A) (i : ℕ) (x : A) → slice_get xs i ≡ Some x → slice_get (map g xs) i ≡ Some (g x)
map-get g [] i x e = cc
map-get g (y ∷ xs) zero x e = let same : y ≡ x = cc in ap (λ z. Some (g z)) same
map-get g (y ∷ xs) (suc i) x e = map-get g xs i x e

pub map-none : {A B : Type 0} (g : A → B) (xs : List A) (i : ℕ) → slice_get xs i ≡ None → slice_get (map g xs) i ≡ None
map-none g [] i e = refl
map-none g (y ∷ xs) zero e = cc
map-none g (y ∷ xs) (suc i) e = map-none g xs i e

blocks-length : (pl : ℕ → Place) (kept : ℕ → List ℕ) (p : ℕ) (bs : List (Block ℕ Note)) → length (place_blocks pl kept p bs) ≡ length bs
blocks-length pl kept p [] = refl
blocks-length pl kept p (b ∷ bs) = ap suc (blocks-length pl kept (p + suc (length b.code)) bs)

pub blocks-count : (a : Assignment) (f : ℕ) (x : functions.Function) → length (place_function a f (function_of x)).blocks ≡ length x.blocks.items
blocks-count a f x = blocks-length (a.place f) (a.kept f) 0 (map block_of x.blocks.items) ∙ length-map x.blocks.items block_of
