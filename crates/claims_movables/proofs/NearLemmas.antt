-- The code over places has as many arrays near x3 or beside x7 as that over virtual registers.
use Rattle.std.proofs.Common.{◌≡◌, ℕ, zero, suc, ◌+◌, List, [], ◌∷◌, length, refl, ap, ◌∙◌}
use Rattle.std.specs.Prelude.{slice_index_or}
use Rattle.low_ir.specs.declared.places.Place.{Place}
use Rattle.low_ir.specs.Code.{Base, Fixed, Through, Set, Operate, Point, Load, Store, Put, Get, Instr, Do, Call, Block, Function, Note}
use Rattle.low_ir.specs.Places.{Assignment, place_base, place_blocks, place_code, place_functions, place_instr}
use Rattle.asm_program.specs.Frames.{Memory}
use Rattle.asm_program.specs.Functions.{no_function}
use Rattle.asm_sound.specs.Functions.{near_base, near_blocks, near_code, near_instr}
use Rattle.claims_movables.specs.Listed.{no_low_function}
use Rattle.claims_movables.specs.Near.{base_near, blocks_near, code_near, instr_near}

module _ (m : Memory) where
  module _ (pl : ℕ → Place) (kept : ℕ → List ℕ) where
    base_same : (b : Base ℕ) (n : ℕ) → near_base m (place_base pl b) n ≡ base_near m b n
    base_same (Fixed o) n = refl
    base_same (Through r claim) n = refl

    instr_same : (q : ℕ) (i : Instr ℕ Note) → near_instr m (place_instr pl kept q i) ≡ instr_near m i
    instr_same q (Do (Set d x)) = refl
    instr_same q (Do (Operate operator d x y)) = refl
    instr_same q (Do (Point d a)) = base_same a.base a.displacement
    instr_same q (Do (Load kind d a)) = base_same a.base a.displacement
    instr_same q (Do (Store kind a x)) = base_same a.base a.displacement
    instr_same q (Do (Put x)) = refl
    instr_same q (Do (Get d)) = refl
    instr_same q (Call d f args note) = refl

    code_same : (q : ℕ) (is : List (Instr ℕ Note)) → near_code m (place_code pl kept q is) ≡ code_near m is
    code_same q [] = refl
    code_same q (i ∷ is) = ap (λ k. k + near_code m (place_code pl kept (suc q) is)) (instr_same q i) ∙ ap (λ k. instr_near m i + k) (code_same (suc q) is)

    blocks_same : (q : ℕ) (bs : List (Block ℕ Note)) → near_blocks m (place_blocks pl kept q bs) ≡ blocks_near m bs
    blocks_same q [] = refl
    blocks_same q (b ∷ bs) =
        let behind = q + suc (length b.code) in
        ap (λ k. k + near_blocks m (place_blocks pl kept behind bs)) (code_same q b.code)
        ∙ ap (λ k. code_near m b.code + k) (blocks_same behind bs)

  pub near_at : (a : Assignment) (k : ℕ) (fns : List (Function ℕ Note)) (f : ℕ) → near_blocks m (slice_index_or (place_functions a k fns) f no_function).blocks ≡ blocks_near m (slice_index_or fns f no_low_function).blocks
  near_at a k [] zero = refl
  near_at a k [] (suc f) = refl
  near_at a k (fn ∷ fns) zero = blocks_same (a.place k) (a.kept k) 0 fn.blocks
  near_at a k (fn ∷ fns) (suc f) = near_at a (suc k) fns f
