-- Places leave the room, the weight and the reaches of a program as they are.
use Rattle.std.proofs.Common.{◌≡◌, ℕ, suc, List, [], ◌∷◌, length, refl, ap, arith}
use Rattle.std.specs.Prelude.{All, sum_by}
use Rattle.std.proofs.lemmas.List.Elements.{All-cons, All-head, All-nil, All-tail}
use Rattle.std.proofs.lemmas.List.Sums.{sum_by-cons}
use Rattle.low_ir.specs.Code.{Function, Note, Low}
use Rattle.low_ir.specs.Places.{Assignment, place_function, place_functions, placed}
use Rattle.asm_program.specs.Functions.{PlacedFunction}
use Rattle.low_ir.specs.Turns.{CanTurn}
use Rattle.register_places.proofs.Rooms.{room_kept}
use Rattle.register_places.proofs.Weights.{reach_kept, weight_kept}
use Rattle.layout_relation.specs.Rooms.{KeepsRoom}

module _ (a : Assignment) where
  count_same : (k : ℕ) (fns : List (Function ℕ Note)) → length (place_functions a k fns) ≡ length fns
  count_same k [] = refl
  count_same k (fn ∷ fns) = ap suc (count_same (suc k) fns)

  loops_same : (k : ℕ) (fns : List (Function ℕ Note)) → sum_by (λ (fn : PlacedFunction). length fn.loops) (place_functions a k fns) ≡ sum_by (λ (fn : Function ℕ Note). length fn.loops) fns
  loops_same k [] = refl
  loops_same k (fn ∷ fns) =
      let rest = loops_same (suc k) fns in
      let over = sum_by-cons (λ (g : PlacedFunction). length g.loops) (place_function a k fn) (place_functions a (suc k) fns) in
      let low = sum_by-cons (λ (g : Function ℕ Note). length g.loops) fn fns in
      omega (arith, rest, over, low)

  pub turns_same : (k : ℕ) (fns : List (Function ℕ Note)) → All (λ (fn : Function ℕ Note). All CanTurn fn.loops) fns → All (λ (fn : PlacedFunction). All CanTurn fn.loops) (place_functions a k fns)
  turns_same k [] h = All-nil (λ (fn : PlacedFunction). All CanTurn fn.loops)
  turns_same k (fn ∷ fns) h =
      All-cons (λ (fn : PlacedFunction). All CanTurn fn.loops) (place_function a k fn) (place_functions a (suc k) fns) (All-head (λ (fn : Function ℕ Note). All CanTurn fn.loops) fn fns h)
      (turns_same (suc k) fns (All-tail (λ (fn : Function ℕ Note). All CanTurn fn.loops) fn fns h))

  pub rooms_kept : (low : Low) → KeepsRoom (placed a low) low
  rooms_kept low = record {
    functions = count_same 0 low.functions;
    loops = loops_same 0 low.functions;
    room = room_kept a low;
    weight = weight_kept a low;
    reach = λ mark. reach_kept a low mark;
  }
