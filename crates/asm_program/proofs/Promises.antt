-- The items of a program keep to its graph.
use Rattle.std.proofs.Common.{◌≡◌, ◌≢◌, ⊎_elim, ℕ, zero, suc, ◌+◌, ◌<◌, ◌≤◌, ◌==◌, Bool, true, false, List, [], ◌∷◌, length, length-append, refl, sym, ap, ◌∙◌, arith, if◌then◌else◌}
use Rattle.std.specs.Prelude.{slice_index_or}
use Rattle.std.proofs.lemmas.Bool.{cases_eq}
use Rattle.std.proofs.lemmas.Bool.Decides.{nat_tests, leb_tells}
use Rattle.low_ir.specs.Places.{Placed}
use Rattle.asm_program.specs.Formed.{IsProgram}
use Rattle.asm_program.specs.Frames.{Memory, no_frame, frame_of}
use Rattle.asm_program.specs.Functions.{PlacedFunction, no_function, function_in, is_leaf, leaves_at_once, at_once, blocks_from, leaving_blocks, function_items, functions_from, start_items, program_items, block_count, graph_of}
use Rattle.asm_program.proofs.ItemLemmas.{items_keep, latches_jump, functions_length, of_function, of_start, blocks_length}
use Rattle.asm_graphs.specs.Promised.{Promised, blocks_in}

beyond : {A : Type 0} (xs : List A) (n : ℕ) (d : A) → length xs ≤ n → slice_index_or xs n d ≡ d
beyond [] zero d h = refl
beyond [] (suc n) d h = refl
beyond (x ∷ xs) zero d h = absurd (omega arith)
beyond (x ∷ xs) (suc n) d h = beyond xs n d (omega arith)

leaving_count : (m : Memory) (p : Placed) (f : ℕ) (b : Bool) → length (leaving_blocks m p f b) ≡ (if b then 0 else 1)
leaving_count m p f true = refl
leaving_count m p f false = refl

module _ (m : Memory) (p : Placed) (ok : IsProgram p) (few : length m.frames ≤ length p.functions) where
  count : length (program_items m p) ≡ suc (length p.functions)
  count =
      let n = functions_length m p 0 p.functions in
      let both = length-append (functions_from m p 0 p.functions) (start_items m.second p.main ∷ []) in
      omega arith

  abbrev own_blocks : ℕ → ℕ
  own_blocks f = length (function_in p f).blocks + (if at_once m p f then 0 else 1)

  count_by : (f : ℕ) (b : Bool) → (f == length p.functions) ≡ b → block_count m p f ≡ (if b then 1 else own_blocks f)
  count_by f b e = ap (λ t. if t then 1 else own_blocks f) e

  of_some : (f : ℕ) → f < length p.functions → length (blocks_in (program_items m p) f) ≡ block_count m p f
  of_some f h =
      let other : (f == length p.functions) ≡ false = grind (arith, nat_tests) in
      let n = blocks_length m p f 0 (function_in p f).blocks in
      let more = leaving_count m p f (at_once m p f) in
      let both = length-append (blocks_from m p f 0 (function_in p f).blocks) (leaving_blocks m p f (at_once m p f)) in
      let all : length (function_items m p f) ≡ own_blocks f = omega arith in
      ap length (of_function m p f h) ∙ all ∙ sym (count_by f false other)

  of_last : (f : ℕ) → f ≡ length p.functions → length (blocks_in (program_items m p) f) ≡ block_count m p f
  of_last f e =
      let same : (f == length p.functions) ≡ true = grind (arith, nat_tests) in
      ap (λ n. length (blocks_in (program_items m p) n)) e ∙ ap length (of_start m p) ∙ sym (count_by f true same)

  at_once_beyond : (f : ℕ) → length p.functions < f → at_once m p f ≡ true
  at_once_beyond f h =
      ap (λ (fn : PlacedFunction). leaves_at_once (is_leaf fn) (frame_of m f)) (beyond p.functions f no_function (omega arith))
      ∙ ap (λ fr. leaves_at_once (is_leaf no_function) fr) (beyond m.frames f no_frame (omega arith))

  of_none : (f : ℕ) → length p.functions < f → length (blocks_in (program_items m p) f) ≡ block_count m p f
  of_none f h =
      let n = count in
      let other : (f == length p.functions) ≡ false = grind (arith, nat_tests) in
      let none : length (function_in p f).blocks ≡ 0 = ap (λ (fn : PlacedFunction). length fn.blocks) (beyond p.functions f no_function (omega arith)) in
      let step : own_blocks f ≡ length (function_in p f).blocks + 0 = ap (λ b. length (function_in p f).blocks + (if b then 0 else 1)) (at_once_beyond f h) in
      let own : own_blocks f ≡ 0 = omega arith in
      ap length (beyond (program_items m p) f [] (omega arith)) ∙ sym (count_by f false other ∙ own)

  blocks : (f : ℕ) → length (blocks_in (program_items m p) f) ≡ block_count m p f
  blocks f =
      ⊎_elim (of_last f) (λ (d : f ≢ length p.functions).
      ⊎_elim (λ h. let k = h.1 in of_none f (omega arith)) (λ h. let k = h.1 in of_some f (omega arith)) (leb_tells (length p.functions) f)) (cases_eq f (length p.functions))

  pub promised : Promised (graph_of m p) (program_items m p)
  promised = record {
    functions = count;
    blocks = blocks;
    keeps = λ f b h k. (items_keep m p ok f b h k).0;
    some = λ f b h k. (items_keep m p ok f b h k).1;
    latch = λ f k h there. (true, latches_jump m p ok f k there);
  }
