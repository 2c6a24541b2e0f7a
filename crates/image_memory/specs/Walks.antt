-- Frames, walked over before code has places.
use Rattle.std.specs.Prelude.{ℕ, suc, ◌^◌, ◌<◌, List, [], ◌∷◌}
use Rattle.low_ir.specs.Code.{Function, Note}
use Rattle.low_ir.specs.Places.{Assignment}
use Rattle.asm_program.specs.Frames.{Frame, frame_end}
use Rattle.image_frames.specs.Needs.{Outline}
use Rattle.image_saving.specs.Saved.{saved_by, homes_by}

-- the frame of function f, if it begins at an address
unfoldable pub frame_by : Assignment → List Outline → ℕ → ℕ → Frame
frame_by a os at f = record { at = at; saved = saved_by os f; homes = homes_by os f; slots = a.slots f }

-- the frames of the functions from number f on, and where they end
abbrev pub frames_by : Assignment → List Outline → ℕ → ℕ → List (Function ℕ Note) → List Frame
frames_by a os at f [] = []
frames_by a os at f (fn ∷ fns) = frame_by a os at f ∷ frames_by a os (frame_end (frame_by a os at f)) (suc f) fns

abbrev pub end_by : Assignment → List Outline → ℕ → ℕ → List (Function ℕ Note) → ℕ
end_by a os at f [] = at
end_by a os at f (fn ∷ fns) = end_by a os (frame_end (frame_by a os at f)) (suc f) fns

-- none leads past the addresses of 32 bits
abbrev pub HaveRoom : Assignment → List Outline → ℕ → ℕ → List (Function ℕ Note) → Type 0
HaveRoom a os at f [] = Unit {0}
HaveRoom a os at f (fn ∷ fns) = (frame_end (frame_by a os at f) < 2 ^ 32) × HaveRoom a os (frame_end (frame_by a os at f)) (suc f) fns
