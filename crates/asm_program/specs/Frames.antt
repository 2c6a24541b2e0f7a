-- Frames: each function has one place in RAM, since calls go to lower numbers. It holds the return address, the registers that the
-- function saves for those that call it, its own registers while a call uses them for arguments, and its slots.
use Rattle.std.specs.Prelude.{ℕ, suc, ◌+◌, ◌*◌, ◌==◌, List, [], ◌∷◌, length, slice_index_or, if◌then◌else◌}

-- at: its address; saved: the registers that it saves at its entry and loads before it returns; homes: those that have a word in it
-- for the time of a call, and for arguments that can't go into them at once
pub record Frame : Type 0 where
  pub at : ℕ
  pub saved : List ℕ
  pub homes : List ℕ
  pub slots : ℕ

-- the place of a register in a list, or its length
abbrev pub position : List ℕ → ℕ → ℕ
position [] q = 0
position (x ∷ xs) q = if x == q then 0 else suc (position xs q)

abbrev pub return_at : Frame → ℕ
return_at fr = fr.at

abbrev pub saved_at : Frame → ℕ → ℕ
saved_at fr q = fr.at + 4 * (1 + position fr.saved q)

abbrev pub home_at : Frame → ℕ → ℕ
home_at fr q = fr.at + 4 * (1 + length fr.saved + position fr.homes q)

abbrev pub slot_at : Frame → ℕ → ℕ
slot_at fr k = fr.at + 4 * (1 + length fr.saved + length fr.homes + k)

abbrev pub frame_end : Frame → ℕ
frame_end fr = slot_at fr fr.slots

-- where everything lies: the frame of each function, the address of each array, and the address that x7 holds
pub record Memory : Type 0 where
  pub frames : List Frame
  pub objects : List ℕ
  pub second : ℕ

abbrev pub no_frame : Frame
no_frame = record { at = 0; saved = []; homes = []; slots = 0 }

abbrev pub frame_of : Memory → ℕ → Frame
frame_of m f = slice_index_or m.frames f no_frame

abbrev pub object_at : Memory → ℕ → ℕ
object_at m o = slice_index_or m.objects o 0
