-- The words of the registers that a function saves.
use Rattle.std.proofs.Common.{◌≡◌, ℕ, ◌+◌, ◌<◌, ◌≤◌, ℤ, Bool, true, false, List, [], ◌∷◌, ◌++◌, length, get_or, refl, sym, ap, ◌∙◌, subst, arith, length-append, if◌then◌else◌}
use Rattle.rv_core.specs.Instructions.{Instruction}
use Rattle.low_ir.specs.Places.{result_register}
use Rattle.asm_program.specs.Numbers.{machine_register, is_near, load_word, store_word}
use Rattle.asm_program.specs.Frames.{Frame, position, saved_at}
use Rattle.asm_program.specs.Functions.{is_frame_near, frame_register, frame_offset, frame_code, link_load, loads, saves_nothing, exit_code}
use Rattle.asm_sound.proofs.Programs.{Saved, all_saved, nears}
use Rattle.asm_data.specs.Saving.{AreFew}

-- the register at place k of those that a function saves
module _ (fr : Frame) (few : AreFew fr.saved fr.homes) (xs : List ℕ) (e : xs ≡ fr.saved) (k : ℕ) (less : k < length xs) where
  saved : Saved fr (get_or xs k 0)
  saved =
      let same = ap length e in
      subst (Saved fr) (ap (λ l. get_or l k 0) (sym e)) (all_saved fr (few.registers, few.saved_few) k 0 (omega arith))

  pub below : get_or xs k 0 ≤ result_register
  below = let small = saved.below in omega (arith, small)

  pub within : saved_at fr (get_or xs k 0) ≤ fr.at + 96
  within = let place = saved.place in let most = few.saved_few in omega arith

  pub reached : (near : Bool) → near ≡ is_frame_near fr → near ≡ true → is_near (saved_at fr (get_or xs k 0)) ≡ true
  reached near n t = let place = saved.place in nears fr (1 + position fr.saved (get_or xs k 0)) (omega arith) (sym n ∙ t)

-- a register goes to its word, or comes from it
module _ (near : Bool) (fr : Frame) (q r t a : ℕ) (o : ℤ) (er : r ≡ machine_register q) (et : t ≡ frame_register near) (eo : o ≡ frame_offset near fr a) (ea : a ≡ saved_at fr q) where
  pub store-is : (i : Instruction) → i ≡ store_word r t o → i ≡ store_word (machine_register q) (frame_register near) (frame_offset near fr (saved_at fr q))
  store-is i e =
      e ∙ ap (λ x. store_word x t o) er ∙ ap (λ x. store_word (machine_register q) x o) et ∙ ap (store_word (machine_register q) (frame_register near)) (eo ∙ ap (frame_offset near fr) ea)

  pub load-is : (i : Instruction) → i ≡ load_word r t o → i ≡ load_word (machine_register q) (frame_register near) (frame_offset near fr (saved_at fr q))
  load-is i e =
      e ∙ ap (λ x. load_word x t o) er ∙ ap (λ x. load_word (machine_register q) x o) et ∙ ap (load_word (machine_register q) (frame_register near)) (eo ∙ ap (frame_offset near fr) ea)

loads-length : (near : Bool) (fr : Frame) (qs : List ℕ) → length (loads near fr qs) ≡ length qs
loads-length near fr [] = refl
loads-length near fr (q ∷ qs) = let rest = loads-length near fr qs in omega arith

-- how many instructions stand before a return
pub exit-length : (leaf : Bool) (fr : Frame) (near : Bool) (reach link : ℕ) → false ≡ saves_nothing leaf fr → near ≡ is_frame_near fr → reach ≡ length (frame_code near fr) → link ≡ length (link_load near fr leaf) → reach + link + length fr.saved ≡ length (exit_code leaf fr)
exit-length leaf fr near reach link none n er el =
    let rest = loads-length near fr fr.saved in
    let inner = length-append (link_load near fr leaf) (loads near fr fr.saved) in
    let outer = length-append (frame_code near fr) (link_load near fr leaf ++ loads near fr fr.saved) in
    let all : reach + link + length fr.saved ≡ length (frame_code near fr ++ (link_load near fr leaf ++ loads near fr fr.saved)) = omega arith in
    all
    ∙ ap (λ t. length (frame_code t fr ++ (link_load t fr leaf ++ loads t fr fr.saved))) n
    ∙ ap (λ t. length (if t then [] else (frame_code (is_frame_near fr) fr ++ (link_load (is_frame_near fr) fr leaf ++ loads (is_frame_near fr) fr fr.saved)))) none
