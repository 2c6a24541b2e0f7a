-- Functions and blocks over places, from a placing of their own.
use Rattle.std.proofs.Common.{◌≡◌, ℕ, zero, suc, ◌+◌, List, [], ◌∷◌, length, drop, map, Some, None, option_map, refl, sym, ap, ◌∙◌, arith}
use Rattle.std.specs.Prelude.{slice_get, slice_index_or}
use Rattle.low_ir.specs.declared.places.LowReg.{LowReg}
use Rattle.low_ir.specs.Code.{Instr, Do, Call, Block, Function, Note}
use Rattle.low_ir.specs.Effects.{began}
use Rattle.low_ir.specs.Live.{place_of}
use Rattle.low_ir.specs.Places.{Assignment, Placing, machine_registers, no_placing, place_block, place_blocks, place_code, place_end, place_functions, place_in, place_operand, place_plain, kept_in, registers_of}
use Rattle.low_ir.specs.Placings.{assignment_of, placed_of, placings_of}
use Rattle.low_ir.specs.Programs.{low_of}
use Rattle.low_ir.specs.Runs.{Going, Bad, enter}
use Rattle.register_places.proofs.Ways.{placed_block, placed_function}
use Rattle.register_eval.specs.Laid.{first_mask, laid_code, laid_function, laid_instr, masks_behind}
use Rattle.register_eval.specs.Stands.{Stands}

-- the mask at a place, and those behind it
mask_at : (masks : List ℕ) (p : ℕ) → slice_index_or masks p 0 ≡ first_mask (drop p masks)
mask_at [] zero = refl
mask_at [] (suc p) = refl
mask_at (m ∷ ms) zero = refl
mask_at (m ∷ ms) (suc p) = mask_at ms p

behind_at : (masks : List ℕ) (p : ℕ) → drop (suc p) masks ≡ masks_behind (drop p masks)
behind_at [] zero = refl
behind_at [] (suc p) = refl
behind_at (m ∷ ms) zero = refl
behind_at (m ∷ ms) (suc p) = behind_at ms p

module _ (t : Placing) where
  -- code at a place is laid with the masks from there on
  pub code_laid : (p : ℕ) (is : List (Instr ℕ Note)) → place_code (place_in t) (kept_in t) p is ≡ laid_code (place_in t) (drop p t.kept) is
  code_laid p [] = refl
  code_laid p (Do i ∷ is) =
      ap (λ js. Do (place_plain (place_in t) i) ∷ js) (code_laid (suc p) is ∙ ap (λ ms. laid_code (place_in t) ms is) (behind_at t.kept p))
  code_laid p (Call d f args note ∷ is) =
      ap (λ m. Call (option_map (place_in t) d) f (map (place_operand (place_in t)) args) (registers_of machine_registers m) ∷ place_code (place_in t) (kept_in t) (suc p) is) (mask_at t.kept p)
      ∙ ap (λ js. laid_instr (place_in t) (first_mask (drop p t.kept)) (Call d f args note) ∷ js) (code_laid (suc p) is ∙ ap (λ ms. laid_code (place_in t) ms is) (behind_at t.kept p))

  -- a block over places
  pub block_there : (bs : List (Block ℕ Note)) (b : ℕ) (bl : Block ℕ Note) → slice_get bs b ≡ Some bl → slice_get (place_blocks (place_in t) (kept_in t) 0 bs) b ≡ Some (record { mark = bl.mark; code = laid_code (place_in t) (drop (place_of bs b) t.kept) bl.code; end = place_end (place_in t) bl.end })
  block_there bs b bl e =
      let at : 0 + place_of bs b ≡ place_of bs b = omega arith in
      placed_block (place_in t) (kept_in t) 0 bs b bl e
      ∙ ap (λ p. Some (place_block (place_in t) (kept_in t) p bl)) at
      ∙ ap (λ is. Some (record { mark = bl.mark; code = is; end = place_end (place_in t) bl.end })) (code_laid (place_of bs b) bl.code)

  pub block_missing : (p : ℕ) (bs : List (Block ℕ Note)) (b : ℕ) → slice_get bs b ≡ None → slice_get (place_blocks (place_in t) (kept_in t) p bs) b ≡ None
  block_missing p [] b e = cc
  block_missing p (x ∷ bs) zero e = cc
  block_missing p (x ∷ bs) (suc b) e = block_missing (p + suc (length x.code)) bs b e

-- a block begins, or there is none
pub entered : (t : Placing) (bs : List (Block ℕ Note)) (b : ℕ) (r : Stands) (bl : Block ℕ Note) (masks : List ℕ) → slice_get bs b ≡ Some bl → masks ≡ drop (place_of bs b) t.kept → enter r b (slice_get (place_blocks (place_in t) (kept_in t) 0 bs) b) ≡ Going (record r { top = record r.top { code = laid_code (place_in t) masks bl.code; end = place_end (place_in t) bl.end }; world = began r.world r.top.func b })
entered t bs b r bl masks there same =
    ap (enter r b) (block_there t bs b bl there)
    ∙ ap (λ ms. Going (record r { top = record r.top { code = laid_code (place_in t) ms bl.code; end = place_end (place_in t) bl.end }; world = began r.world r.top.func b })) (sym same)

pub not_entered : (t : Placing) (bs : List (Block ℕ Note)) (b : ℕ) (r : Stands) → slice_get bs b ≡ None → enter r b (slice_get (place_blocks (place_in t) (kept_in t) 0 bs) b) ≡ Bad
not_entered t bs b r none = ap (enter r b) (block_missing t 0 bs b none)

missing_from : (a : Assignment) (k : ℕ) (fns : List (Function ℕ Note)) (f : ℕ) → slice_get fns f ≡ None → slice_get (place_functions a k fns) f ≡ None
missing_from a k [] f e = cc
missing_from a k (x ∷ fns) zero e = cc
missing_from a k (x ∷ fns) (suc f) e = missing_from a (suc k) fns f e

-- a function over places
pub function_there : (code : LowReg) (f : ℕ) (fn : Function ℕ Note) → slice_get (low_of code.low).functions f ≡ Some fn → slice_get (placed_of code).functions f ≡ Some (laid_function (slice_index_or (placings_of code) f no_placing) fn)
function_there code f fn e = placed_function (assignment_of code) (low_of code.low) f fn e

pub function_missing : (code : LowReg) (f : ℕ) → slice_get (low_of code.low).functions f ≡ None → slice_get (placed_of code).functions f ≡ None
function_missing code f e = missing_from (assignment_of code) 0 (low_of code.low).functions f e
