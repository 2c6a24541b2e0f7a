-- Frames, one behind the other in the order of the functions: those of callees come before those of callers.
use Rattle.std.specs.Prelude.{ℕ, suc, List, [], ◌∷◌}
use Rattle.low_ir.specs.Places.{Placed}
use Rattle.asm_program.specs.Numbers.{ram}
use Rattle.asm_program.specs.Frames.{Frame, frame_end}
use Rattle.asm_program.specs.Functions.{PlacedFunction}
use Rattle.image_frames.specs.Needs.{saved_of, homes_of}

abbrev pub frame_at : Placed → ℕ → ℕ → PlacedFunction → Frame
frame_at p at f fn = record { at = at; saved = saved_of p f; homes = homes_of p f; slots = fn.size }

-- the frames of the functions from number f on, and where they end
abbrev pub frames_from : Placed → ℕ → ℕ → List PlacedFunction → List Frame
frames_from p at f [] = []
frames_from p at f (fn ∷ fns) = frame_at p at f fn ∷ frames_from p (frame_end (frame_at p at f fn)) (suc f) fns

abbrev pub end_from : Placed → ℕ → ℕ → List PlacedFunction → ℕ
end_from p at f [] = at
end_from p at f (fn ∷ fns) = end_from p (frame_end (frame_at p at f fn)) (suc f) fns

abbrev pub frames_of : Placed → List Frame
frames_of p = frames_from p ram 0 p.functions

abbrev pub frames_end : Placed → ℕ
frames_end p = end_from p ram 0 p.functions
