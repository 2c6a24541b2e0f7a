-- Functions save machine registers, no more of them than there are.
use Rattle.std.proofs.Common.{ℕ, zero, suc, ◌<◌, ◌≤◌, Bool, true, false, List, [], ◌∷◌, arith, if◌then◌else◌}
use Rattle.std.specs.Prelude.{All, ◌&&◌}
use Rattle.std.proofs.lemmas.List.Elements.{All-cons, All-from_get_or}
use Rattle.low_ir.specs.Places.{Placed, machine_registers}
use Rattle.asm_program.specs.Numbers.{ram}
use Rattle.asm_program.specs.Frames.{frame_end}
use Rattle.asm_program.specs.Functions.{PlacedFunction}
use Rattle.asm_program.specs.Ranges.{IsSaving, AreSaving}
use Rattle.image_frames.specs.Registers.{holds, chosen}
use Rattle.image_frames.specs.Needs.{written, is_needed}
use Rattle.image_frames.specs.Frames.{frame_at, frames_from}
use Rattle.image_frames.proofs.TableLemmas.{chosen_few}
use Rattle.image_frames.specs.Memories.{Placement, memory_of}

nothing : {X : Type 0} (P : X → Type 0) (d : X) → All P []
nothing P d = All-from_get_or P [] d (λ i h. absurd (omega (arith, h)))

chosen_small : (test : ℕ → Bool) (n top : ℕ) → n ≤ top → All (λ q. q < top) (chosen test n)
chosen_small test zero top h = nothing (λ q. q < top) 0
chosen_small test (suc n) top h = by (test n) (chosen_small test n top (omega (arith, h)))
  where
    by : (b : Bool) → All (λ q. q < top) (chosen test n) → All (λ q. q < top) (if b then n ∷ chosen test n else chosen test n)
    by true a = All-cons (λ q. q < top) n (chosen test n) (omega (arith, h)) a
    by false a = a

frame_saves : (p : Placed) (at f : ℕ) (fn : PlacedFunction) → IsSaving (frame_at p at f fn)
frame_saves p at f fn = (chosen_small (λ q. holds (written p f) q && is_needed p f q) machine_registers machine_registers (omega arith), chosen_few (λ q. holds (written p f) q && is_needed p f q) machine_registers)

frames_save : (p : Placed) (at f : ℕ) (fns : List PlacedFunction) → All IsSaving (frames_from p at f fns)
frames_save p at f [] = nothing IsSaving (record { at = 0; saved = []; homes = []; slots = 0 })
frames_save p at f (fn ∷ fns) = All-cons IsSaving (frame_at p at f fn) (frames_from p (frame_end (frame_at p at f fn)) (suc f) fns) (frame_saves p at f fn) (frames_save p (frame_end (frame_at p at f fn)) (suc f) fns)

pub saving : (pl : Placement) (p : Placed) → AreSaving (memory_of pl p)
saving pl p = frames_save p ram 0 p.functions
