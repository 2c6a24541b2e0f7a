-- The visits of a mark's addresses are the events of its blocks.
use Rattle.std.proofs.Common.{◌≡◌, ℕ, suc, ◌+◌, ◌<◌, ◌≤◌, ℤ, pos, Bool, true, false, List, [], ◌∷◌, length, length-append, map, Option, Some, None, refl, sym, ap, ◌∙◌, subst, ⊎_elim, arith, if◌then◌else◌}
use Rattle.std.specs.Prelude.{◌==◌, ◌+ℤ◌}
use Rattle.std.specs.List.{flat_map}
use Rattle.std.proofs.Math.IntN.{pos-+ℤ-pos}
use Rattle.std.proofs.lemmas.Bool.{cases_lt}
use Rattle.std.proofs.lemmas.List.{get_or_past, map-append}
use Rattle.frac128.specs.Terms.{int_sum_by}
use Rattle.frac128.proofs.TermsLemmas.{int_sum_by-append}
use Rattle.rv_core.specs.Runs.{Setup, mrun}
use Rattle.code_flow_system.specs.KeptRuns.{visit_count}
use Rattle.asm_items.specs.Placings.{start_of}
use Rattle.asm_forms.proofs.LikeLemmas.{formed_like}
use Rattle.asm_placed.proofs.Alike.{functions_long}
use Rattle.low_ir.specs.Effects.{World}
use Rattle.low_ir.specs.Places.{Placed}
use Rattle.low_ir.specs.Turns.{mark_count}
use Rattle.register_places.specs.Totals.{began_count}
use Rattle.asm_program.specs.Frames.{Memory}
use Rattle.asm_program.specs.Functions.{PlacedBlock, PlacedFunction, function_in, functions_from, no_function, program_items, start_items}
use Rattle.simulation_relation.specs.Following.{Ends}
use Rattle.image_frames.specs.Memories.{Placement}
use Rattle.simulation_loaded.specs.Layouts.{layout_of}
use Rattle.simulation_marks.proofs.CountLemmas.{starts_counted}
use Rattle.claims_definition.specs.Listed.{Laid, by_address, functions_of, marked_from, marked_here, places_in, places_of, placing}
use Rattle.claims_image.specs.Images.{laid_of}
use Rattle.simulation_marks.proofs.Sums.{summed, summed-append, in_numbers}
use Rattle.simulation_marks.proofs.Events.{passes, events_counted}

functions_many : (m : Memory) (p : Placed) (f : ℕ) (fns : List PlacedFunction) → length (functions_from m p f fns) ≡ length fns
functions_many m p f [] = refl
functions_many m p f (fn ∷ fns) = ap suc (functions_many m p (suc f) fns)

-- all functions are laid, and the start code
pub all_laid : (l : Laid) → length (functions_of l) ≡ suc (length l.program.functions)
all_laid l =
    let p = l.program in
    let same = functions_long (program_items l.memory p) (functions_of l) (formed_like l.rows (program_items l.memory p)) in
    let many = functions_many l.memory p 0 p.functions in
    let both = length-append (functions_from l.memory p 0 p.functions) (start_items l.memory.second p.main ∷ []) in
    omega (arith, same, many, both)

joined : (x y : ℤ) (a b : ℕ) → x ≡ pos a → y ≡ pos b → (x +ℤ y) ≡ pos (a + b)
joined x y a b e f = ap (λ z. z +ℤ y) e ∙ ap (λ z. pos a +ℤ z) f ∙ pos-+ℤ-pos a b

module _ (pl : Placement) (p : Placed) (s : Setup) (v : ℕ) (u : World) (n : ℕ) (ends : Ends (layout_of pl p) s v u n) (mark : ℕ) where
  abbrev l : Laid
  l = laid_of pl p

  abbrev visited : ℕ → ℤ
  visited = visit_count (mrun s n).visits

  abbrev start : ℕ → ℕ → ℕ
  start f b = start_of (placing l) f b

  abbrev begun : ℕ → ℕ → ℕ
  begun f b = began_count f b u.trace

  here_visited : (f b : ℕ) (o : Option ℕ) → f < length p.functions → b < length (function_in p f).blocks → int_sum_by visited (map (start f) (marked_here mark b o)) ≡ pos (summed (begun f) (marked_here mark b o))
  here_visited f b None there less = refl
  here_visited f b (Some m) there less = by_test (m == mark)
    where
      by_test : (t : Bool) → int_sum_by visited (map (start f) (if t then b ∷ [] else [])) ≡ pos (summed (begun f) (if t then b ∷ [] else []))
      by_test true = joined (visited (start f b)) (pos 0) (begun f b) 0 (starts_counted pl p s v u n f b ends there less) refl
      by_test false = refl

  from_visited : (f b : ℕ) (xs : List PlacedBlock) → f < length p.functions → b + length xs ≤ length (function_in p f).blocks → int_sum_by visited (map (start f) (marked_from mark b xs)) ≡ pos (summed (begun f) (marked_from mark b xs))
  from_visited f b [] there fits = refl
  from_visited f b (x ∷ xs) there fits =
      let here = marked_here mark b x.mark in
      let rest = marked_from mark (suc b) xs in
      ap (int_sum_by visited) (map-append (start f) here rest)
      ∙ int_sum_by-append visited (map (start f) here) (map (start f) rest)
      ∙ joined (int_sum_by visited (map (start f) here)) (int_sum_by visited (map (start f) rest)) (summed (begun f) here) (summed (begun f) rest) (here_visited f b x.mark there (omega (arith, fits))) (from_visited f (suc b) xs there (omega (arith, fits)))
      ∙ ap pos (sym (summed-append (begun f) here rest))

  function_visited : (f : ℕ) → int_sum_by visited (places_in l mark f) ≡ pos (passes p mark u.trace f)
  function_visited f =
      ⊎_elim
      (λ (low : f < length p.functions). from_visited f 0 (function_in p f).blocks low (omega arith))
      (λ (past : length p.functions ≤ f).
      let none : function_in p f ≡ no_function = get_or_past p.functions f no_function past in
      subst (λ (fn : PlacedFunction). int_sum_by visited (map (start f) (marked_from mark 0 fn.blocks)) ≡ pos (summed (begun f) (marked_from mark 0 fn.blocks))) (sym none) refl)
      (cases_lt f (length p.functions))

  functions_visited : (fs : List ℕ) → int_sum_by visited (flat_map (places_in l mark) fs) ≡ pos (summed (passes p mark u.trace) fs)
  functions_visited [] = refl
  functions_visited (f ∷ fs) =
      int_sum_by-append visited (places_in l mark f) (flat_map (places_in l mark) fs)
      ∙ joined (int_sum_by visited (places_in l mark f)) (int_sum_by visited (flat_map (places_in l mark) fs)) (passes p mark u.trace f) (summed (passes p mark u.trace) fs) (function_visited f) (functions_visited fs)

  pub marks_counted : int_sum_by visited (places_of l mark) ≡ pos (mark_count p u.trace mark)
  marks_counted =
      let many = all_laid l in
      functions_visited (by_address l) ∙ ap pos (in_numbers (passes p mark u.trace) l.rows (length (functions_of l)) ∙ events_counted p mark u.trace (length (functions_of l)) (omega (arith, many)))
