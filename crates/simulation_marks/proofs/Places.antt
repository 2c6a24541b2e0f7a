-- Where marks stand in a program and in its code.
use Rattle.std.proofs.Common.{◌≡◌, ℕ, zero, suc, ◌+◌, Bool, true, false, List, [], ◌∷◌, ◌++◌, length, length-append, Option, Some, None, refl, sym, ap, ◌∙◌, arith, if◌then◌else◌}
use Rattle.std.specs.Prelude.{◌==◌, slice_get, slice_index_or, count_by}
use Rattle.std.specs.List.{flat_map}
use Rattle.std.specs.Option.{option_to_list}
use Rattle.std.proofs.lemmas.List.{length-map}
use Rattle.low_ir.specs.declared.places.Place.{Place}
use Rattle.low_ir.specs.declared.run.Began.{Began}
use Rattle.low_ir.specs.Code.{Block, Function, Low, Note}
use Rattle.low_ir.specs.Places.{Assignment, place_blocks, place_functions, placed}
use Rattle.low_ir.specs.Room.{marks_once}
use Rattle.low_ir.specs.Runs.{block_in}
use Rattle.low_ir.specs.Turns.{mark_at, mark_count, mark_in, marks_passed}
use Rattle.asm_program.specs.Functions.{PlacedBlock, PlacedFunction, function_in, no_function}
use Rattle.asm_program.specs.Marked.{blocks_marked, functions_marked}
use Rattle.claims_definition.specs.Listed.{Laid, by_address, functions_of, marked_from, marked_here, places_in, places_of, placing}
use Rattle.asm_items.specs.Placings.{start_of}
use Rattle.simulation_marks.proofs.Sums.{summed, summed-same, upto, in_numbers}
use Rattle.simulation_marks.proofs.Marks.{all_laid}

-- over places the blocks have the marks that they have over virtual registers
module _ (pl : ℕ → Place) (kept : ℕ → List ℕ) where
  in_blocks : (q : ℕ) (bs : List (Block ℕ Note)) (k : ℕ) → mark_in (slice_get (place_blocks pl kept q bs) k) ≡ mark_in (slice_get bs k)
  in_blocks q [] k = refl
  in_blocks q (x ∷ bs) zero = refl
  in_blocks q (x ∷ bs) (suc k) = in_blocks (q + suc (length x.code)) bs k

module _ (a : Assignment) where
  in_functions : (k : ℕ) (fns : List (Function ℕ Note)) (f b : ℕ) → mark_in (block_in (slice_get (place_functions a k fns) f) b) ≡ mark_in (block_in (slice_get fns f) b)
  in_functions k [] f b = refl
  in_functions k (fn ∷ fns) zero b = in_blocks (a.place k) (a.kept k) 0 fn.blocks b
  in_functions k (fn ∷ fns) (suc f) b = in_functions (suc k) fns f b

  module _ (low : Low) where
    same_passed : (es : List Began) → marks_passed (placed a low) es ≡ marks_passed low es
    same_passed [] = refl
    same_passed (e ∷ es) =
        ap (λ o. option_to_list o ++ marks_passed (placed a low) es) (in_functions 0 low.functions e.function e.block)
        ∙ ap (λ ms. option_to_list (mark_at low e) ++ ms) (same_passed es)

    pub marks_kept : (es : List Began) (mark : ℕ) → mark_count (placed a low) es mark ≡ mark_count low es mark
    marks_kept es mark = ap (λ ms. count_by (λ x. x == mark) ms) (same_passed es)

-- a mark has one address for each of its blocks
module _ (mark : ℕ) where
  here_one : (b : ℕ) (o : Option ℕ) → length (marked_here mark b o) ≡ marks_once o mark
  here_one b None = refl
  here_one b (Some m) = by_test (m == mark)
    where
      by_test : (t : Bool) → length (if t then b ∷ [] else []) ≡ (if t then 1 else 0)
      by_test true = refl
      by_test false = refl

  from_many : (b : ℕ) (xs : List PlacedBlock) → length (marked_from mark b xs) ≡ blocks_marked mark xs
  from_many b [] = refl
  from_many b (x ∷ xs) =
      let one = here_one b x.mark in
      let rest = from_many (suc b) xs in
      let both = length-append (marked_here mark b x.mark) (marked_from mark (suc b) xs) in
      omega (arith, one, rest, both)

  abbrev own : List PlacedFunction → ℕ → ℕ
  own all f = blocks_marked mark (slice_index_or all f no_function).blocks

  -- the start code has none
  by_function : (all : List PlacedFunction) (k : ℕ) (fs : List PlacedFunction) → ((j : ℕ) → slice_index_or all (k + j) no_function ≡ slice_index_or fs j no_function) → summed (own all) (upto k (suc (length fs))) ≡ functions_marked mark fs
  by_function all k [] at =
      let z : k + 0 ≡ k = omega arith in
      let first : own all k ≡ 0 = ap (own all) (sym z) ∙ ap (λ (fn : PlacedFunction). blocks_marked mark fn.blocks) (at 0) in
      omega (arith, first)
  by_function all k (fn ∷ fs) at =
      let z : k + 0 ≡ k = omega arith in
      let first : own all k ≡ blocks_marked mark fn.blocks = ap (own all) (sym z) ∙ ap (λ (x : PlacedFunction). blocks_marked mark x.blocks) (at 0) in
      let rest = by_function all (suc k) fs (λ j. let n : suc k + j ≡ k + suc j = omega arith in ap (λ i. slice_index_or all i no_function) n ∙ at (suc j)) in
      omega (arith, first, rest)

  all_many : (l : Laid) (fs : List ℕ) → length (flat_map (places_in l mark) fs) ≡ summed (λ f. length (places_in l mark f)) fs
  all_many l [] = refl
  all_many l (f ∷ fs) =
      let rest = all_many l fs in
      let both = length-append (places_in l mark f) (flat_map (places_in l mark) fs) in
      omega (arith, rest, both)

  pub places_many : (l : Laid) → length (places_of l mark) ≡ functions_marked mark l.program.functions
  places_many l =
      let fns = l.program.functions in
      all_many l (by_address l)
      ∙ summed-same (λ f. length (places_in l mark f)) (own fns) (by_address l) (λ f. length-map (marked_from mark 0 (function_in l.program f).blocks) (start_of (placing l) f) ∙ from_many 0 (function_in l.program f).blocks)
      ∙ in_numbers (own fns) l.rows (length (functions_of l))
      ∙ ap (λ n. summed (own fns) (upto 0 n)) (all_laid l)
      ∙ by_function fns 0 fns (λ j. let z : 0 + j ≡ j = omega arith in ap (λ i. slice_index_or fns i no_function) z)
