-- Frames by outlines are those of the program over its places.
use Rattle.std.proofs.Common.{◌≡◌, ℕ, zero, suc, ◌^◌, ◌<◌, ◌≤◌, Bool, true, false, List, [], ◌∷◌, map, length, refl, sym, ap, ◌∙◌, subst, arith, if◌then◌else◌}
use Rattle.std.specs.Prelude.{All, slice_index_or}
use Rattle.std.proofs.lemmas.List.{get_or_default}
use Rattle.std.proofs.lemmas.List.Elements.{All-cons, All-from_get_or}
use Rattle.low_ir.specs.Code.{Function, Note, Low}
use Rattle.low_ir.specs.Places.{Assignment, Placed, machine_registers, place_function, place_functions, placed}
use Rattle.asm_program.specs.Numbers.{ram}
use Rattle.asm_program.specs.Frames.{Frame, frame_end}
use Rattle.asm_data.specs.Saving.{AreFew}
use Rattle.image_frames.specs.Registers.{holds, chosen}
use Rattle.image_frames.specs.Needs.{Outline, no_outline, outline_at, outline_of, outlines_of}
use Rattle.image_frames.specs.Frames.{frame_at, frames_from, end_from, frames_of, frames_end}
use Rattle.image_frames.proofs.TableLemmas.{chosen_few}
use Rattle.image_saving.specs.Saved.{is_saved, saved_by, homes_by}
use Rattle.image_memory.specs.Walks.{frame_by, frames_by, end_by, HaveRoom}

chosen_small : (test : ℕ → Bool) (n top : ℕ) → n ≤ top → All (λ q. q < top) (chosen test n)
chosen_small test zero top h = All-from_get_or (λ q. q < top) [] 0 (λ i k. absurd (omega (arith, k)))
chosen_small test (suc n) top h = by (test n) (chosen_small test n top (omega (arith, h)))
  where
    by : (b : Bool) → All (λ q. q < top) (chosen test n) → All (λ q. q < top) (if b then n ∷ chosen test n else chosen test n)
    by true a = All-cons (λ q. q < top) n (chosen test n) (omega (arith, h)) a
    by false a = a

-- the homes of an outline that is there
pub homes_there : (os : List Outline) (f : ℕ) (o : Outline) (homes : List ℕ) → f < length os → o ≡ slice_index_or os f o → homes ≡ chosen (holds o.housed) machine_registers → homes ≡ homes_by os f
homes_there os f o homes h e k = k ∙ ap (λ (x : Outline). chosen (holds x.housed) machine_registers) (e ∙ get_or_default os f o no_outline h)

-- a function saves few registers, and has words for few
pub few : (os : List Outline) (f : ℕ) (saved homes : List ℕ) → saved ≡ saved_by os f → homes ≡ homes_by os f → AreFew saved homes
few os f saved homes s h =
    record {
      registers = subst (All (λ q. q < 24)) (sym s) (chosen_small (is_saved os f) machine_registers machine_registers (omega arith));
      saved_few = subst (λ (l : List ℕ). length l ≤ 24) (sym s) (chosen_few (is_saved os f) machine_registers);
      homes_few = subst (λ (l : List ℕ). length l ≤ 24) (sym h) (chosen_few (holds (outline_at os f).housed) machine_registers);
    }

pub frame_is : (a : Assignment) (os : List Outline) (at f : ℕ) (saved homes : List ℕ) (slots : ℕ) (fr : Frame) → saved ≡ saved_by os f → homes ≡ homes_by os f → slots ≡ a.slots f
    → fr ≡ record { at = at; saved = saved; homes = homes; slots = slots } → fr ≡ frame_by a os at f
unfolding frame_by
frame_is a os at f saved homes slots fr s h k e =
    e
    ∙ (ap (λ (l : List ℕ). record { at = at; saved = l; homes = homes; slots = slots }) s
    ∙ (ap (λ (l : List ℕ). record { at = at; saved = saved_by os f; homes = l; slots = slots }) h
    ∙ ap (λ (n : ℕ). record { at = at; saved = saved_by os f; homes = homes_by os f; slots = n }) k))

pub slots_are : (a : Assignment) (os : List Outline) (at f : ℕ) → (frame_by a os at f).slots ≡ a.slots f
unfolding frame_by
slots_are a os at f = refl

module _ (p : Placed) (a : Assignment) where
  abbrev os : List Outline
  os = outlines_of p

  frame_same : (at f : ℕ) (fn : Function ℕ Note) → frame_by a os at f ≡ frame_at p at f (place_function a f fn)
  unfolding frame_by
  frame_same at f fn = refl

  starts_same : (at f : ℕ) (fn : Function ℕ Note) → frame_end (frame_by a os at f) ≡ frame_end (frame_at p at f (place_function a f fn))
  starts_same at f fn = ap frame_end (frame_same at f fn)

  pub frames_same : (at f : ℕ) (fns : List (Function ℕ Note)) → frames_by a os at f fns ≡ frames_from p at f (place_functions a f fns)
  frames_same at f [] = refl
  frames_same at f (fn ∷ fns) =
      ap (λ fr. fr ∷ frames_by a os (frame_end fr) (suc f) fns) (frame_same at f fn)
      ∙ ap (λ fs. frame_at p at f (place_function a f fn) ∷ fs) (frames_same (frame_end (frame_at p at f (place_function a f fn))) (suc f) fns)

  pub end_same : (at f : ℕ) (fns : List (Function ℕ Note)) → end_by a os at f fns ≡ end_from p at f (place_functions a f fns)
  end_same at f [] = refl
  end_same at f (fn ∷ fns) =
      ap (λ n. end_by a os n (suc f) fns) (starts_same at f fn)
      ∙ end_same (frame_end (frame_at p at f (place_function a f fn))) (suc f) fns

-- frames have room where their end has
begins : (a : Assignment) (os : List Outline) (at f : ℕ) → at ≤ frame_end (frame_by a os at f)
unfolding frame_by
begins a os at f = omega arith

ends : (a : Assignment) (os : List Outline) (at f : ℕ) (fns : List (Function ℕ Note)) → at ≤ end_by a os at f fns
ends a os at f [] = omega arith
ends a os at f (fn ∷ fns) =
    let h = ends a os (frame_end (frame_by a os at f)) (suc f) fns in
    let k = begins a os at f in
    omega (arith, h, k)

pub have_room : (a : Assignment) (os : List Outline) (at f : ℕ) (fns : List (Function ℕ Note)) → end_by a os at f fns < 2 ^ 32 → HaveRoom a os at f fns
have_room a os at f [] h = tt
have_room a os at f (fn ∷ fns) h =
    let k = ends a os (frame_end (frame_by a os at f)) (suc f) fns in
    (omega (arith, h, k), have_room a os (frame_end (frame_by a os at f)) (suc f) fns h)

placed_count : (a : Assignment) (p : Placed) (f : ℕ) (fns : List (Function ℕ Note)) → length (map (outline_of p) (place_functions a f fns)) ≡ length fns
placed_count a p f [] = refl
placed_count a p f (fn ∷ fns) = ap suc (placed_count a p (suc f) fns)

-- of a program
module _ (a : Assignment) (low : Low) where
  pub frames_found : frames_by a (outlines_of (placed a low)) 0x2000_0000 0 low.functions ≡ frames_of (placed a low)
  frames_found = frames_same (placed a low) a ram 0 low.functions

  pub end_found : end_by a (outlines_of (placed a low)) 0x2000_0000 0 low.functions ≡ frames_end (placed a low)
  end_found = end_same (placed a low) a ram 0 low.functions

  pub room_found : frames_end (placed a low) < 2 ^ 32 → HaveRoom a (outlines_of (placed a low)) 0x2000_0000 0 low.functions
  room_found h = have_room a (outlines_of (placed a low)) 0x2000_0000 0 low.functions (subst (λ n. n < 2 ^ 32) (sym end_found) h)

  pub count_found : length (outlines_of (placed a low)) ≡ length low.functions
  count_found = placed_count a (placed a low) 0 low.functions
