-- How often the code of a program over places may run.
use Rattle.std.proofs.Common.{◌≡◌, ℕ, zero, suc, ◌+◌, ◌*◌, List, [], ◌∷◌, length, refl, ap, ◌∙◌}
use Rattle.std.specs.Prelude.{slice_get}
use Rattle.low_ir.specs.declared.places.Place.{Place}
use Rattle.low_ir.specs.Code.{Instr, Do, Call, Block, Loop, Function, Low, Note}
use Rattle.low_ir.specs.Places.{Assignment, place_block, place_blocks, place_code, place_functions, placed}
use Rattle.low_ir.specs.Room.{block_room, called, frame_room, marks_once, reach, reaches, repeated, repeated_in, times, weight, weights}
use Rattle.register_places.proofs.Rooms.{block_kept}

-- calls are of the same functions
called_kept : (f g : ℕ → ℕ) → ((n : ℕ) → f n ≡ g n) → (pl : ℕ → Place) (kept : ℕ → List ℕ) (p : ℕ) (is : List (Instr ℕ Note)) → called f (place_code pl kept p is) ≡ called g is
called_kept f g same pl kept p [] = refl
called_kept f g same pl kept p (Do i ∷ is) = called_kept f g same pl kept (suc p) is
called_kept f g same pl kept p (Call d callee args note ∷ is) = ap (λ n. n + called f (place_code pl kept (suc p) is)) (same callee) ∙ ap (λ n. g callee + n) (called_kept f g same pl kept (suc p) is)

-- where a block over places is worth what it is over registers, so are all of them together
module _ (f : Block Place (List ℕ) → ℕ) (g : Block ℕ Note → ℕ) (same : (pl : ℕ → Place) (kept : ℕ → List ℕ) (p : ℕ) (b : Block ℕ Note) → f (place_block pl kept p b) ≡ g b) where
  repeated_kept : (pl : ℕ → Place) (kept : ℕ → List ℕ) (loops : List Loop) (p k : ℕ) (bs : List (Block ℕ Note)) → repeated f loops k (place_blocks pl kept p bs) ≡ repeated g loops k bs
  repeated_kept pl kept loops p k [] = refl
  repeated_kept pl kept loops p k (b ∷ bs) =
      let next = p + suc (length b.code) in
      ap (λ n. times loops k * n + repeated f loops (suc k) (place_blocks pl kept next bs)) (same pl kept p b)
      ∙ ap (λ n. times loops k * g b + n) (repeated_kept pl kept loops next (suc k) bs)

  function_kept : (a : Assignment) (k : ℕ) (fns : List (Function ℕ Note)) (i : ℕ) → repeated_in f (slice_get (place_functions a k fns) i) ≡ repeated_in g (slice_get fns i)
  function_kept a k [] i = refl
  function_kept a k (fn ∷ fns) zero = repeated_kept (a.place k) (a.kept k) fn.loops 0 0 fn.blocks
  function_kept a k (fn ∷ fns) (suc i) = function_kept a (suc k) fns i

module _ (a : Assignment) (fns : List (Function ℕ Note)) where
  weights_kept : (n f : ℕ) → weights (place_functions a 0 fns) n f ≡ weights fns n f
  weights_kept zero f = refl
  weights_kept (suc n) f =
      let w = weights (place_functions a 0 fns) n in
      let v = weights fns n in
      ap (λ m. frame_room + m)
      (function_kept (λ b. block_room b + called w b.code) (λ b. block_room b + called v b.code)
      (λ pl kept p b. ap (λ m. m + called w (place_code pl kept p b.code)) (block_kept pl kept p b) ∙ ap (λ m. block_room b + m) (called_kept w v (weights_kept n) pl kept p b.code)) a 0 fns f)

  reaches_kept : (mark n f : ℕ) → reaches (place_functions a 0 fns) mark n f ≡ reaches fns mark n f
  reaches_kept mark zero f = refl
  reaches_kept mark (suc n) f =
      let w = reaches (place_functions a 0 fns) mark n in
      let v = reaches fns mark n in
      function_kept (λ b. marks_once b.mark mark + called w b.code) (λ b. marks_once b.mark mark + called v b.code)
      (λ pl kept p b. ap (λ m. marks_once b.mark mark + m) (called_kept w v (reaches_kept mark n) pl kept p b.code)) a 0 fns f

pub weight_kept : (a : Assignment) (low : Low) → weight (placed a low) ≡ weight low
weight_kept a low = weights_kept a low.functions (suc low.main) low.main

pub reach_kept : (a : Assignment) (low : Low) (mark : ℕ) → reach (placed a low) mark ≡ reach low mark
reach_kept a low mark = reaches_kept a low.functions mark (suc low.main) low.main
