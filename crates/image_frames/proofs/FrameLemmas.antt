-- Frames lie one behind the other.
use Rattle.std.proofs.Common.{◌≡◌, ℕ, zero, suc, ◌+◌, ◌%◌, ◌<◌, ◌≤◌, List, [], ◌∷◌, length, refl, ap, ◌∙◌, arith}
use Rattle.std.specs.Prelude.{slice_index_or}
use Rattle.low_ir.specs.Places.{Placed}
use Rattle.asm_program.specs.Frames.{Frame, frame_end, no_frame}
use Rattle.asm_program.specs.Functions.{PlacedFunction, no_function}
use Rattle.image_frames.specs.Needs.{saved_of, homes_of}
use Rattle.image_frames.specs.Frames.{frame_at, frames_from, end_from}

module _ (p : Placed) where
  abbrev pub frame_in : ℕ → ℕ → List PlacedFunction → ℕ → Frame
  frame_in at k fns f = slice_index_or (frames_from p at k fns) f no_frame

  pub record IsFrame (at k : ℕ) (fns : List PlacedFunction) (f : ℕ) : Type 0 where
    pub from : at ≤ (frame_in at k fns f).at
    pub to : frame_end (frame_in at k fns f) ≤ end_from p at k fns
    pub aligned : at % 4 ≡ 0 → (frame_in at k fns f).at % 4 ≡ 0
    pub saved : (frame_in at k fns f).saved ≡ saved_of p (k + f)
    pub homes : (frame_in at k fns f).homes ≡ homes_of p (k + f)
    pub slots : (frame_in at k fns f).slots ≡ (slice_index_or fns f no_function).size

  pub ends : (at k : ℕ) (fns : List PlacedFunction) → at ≤ end_from p at k fns
  ends at k [] = omega arith
  ends at k (fn ∷ fns) = let h = ends (frame_end (frame_at p at k fn)) (suc k) fns in omega arith

  pub aligned_end : (at k : ℕ) (fn : PlacedFunction) → at % 4 ≡ 0 → frame_end (frame_at p at k fn) % 4 ≡ 0
  aligned_end at k fn e = omega arith

  pub is_frame : (at k : ℕ) (fns : List PlacedFunction) (f : ℕ) → f < length fns → IsFrame at k fns f
  is_frame at k [] f h = absurd (omega arith)
  is_frame at k (fn ∷ fns) zero h =
      record {
        from = omega arith;
        to = ends (frame_end (frame_at p at k fn)) (suc k) fns;
        aligned = λ e. e;
        saved = ap (saved_of p) (own k);
        homes = ap (homes_of p) (own k);
        slots = refl;
      }
    where
      own : (n : ℕ) → n ≡ n + 0
      own n = omega arith
  is_frame at k (fn ∷ fns) (suc f) h =
      let r = is_frame (frame_end (frame_at p at k fn)) (suc k) fns f (omega arith) in
      let from = r.from in
      record {
        from = omega arith;
        to = r.to;
        aligned = λ e. r.aligned (aligned_end at k fn e);
        saved = r.saved ∙ ap (saved_of p) (on k f);
        homes = r.homes ∙ ap (homes_of p) (on k f);
        slots = r.slots;
      }
    where
      on : (n m : ℕ) → suc n + m ≡ n + suc m
      on n m = omega arith

  pub frames_ascend : (at k : ℕ) (fns : List PlacedFunction) (f g : ℕ) → f < g → g < length fns → frame_end (frame_in at k fns f) ≤ (frame_in at k fns g).at
  frames_ascend at k [] f g less h = absurd (omega arith)
  frames_ascend at k (fn ∷ fns) zero zero less h = absurd (omega arith)
  frames_ascend at k (fn ∷ fns) zero (suc g) less h = (is_frame (frame_end (frame_at p at k fn)) (suc k) fns g (omega arith)).from
  frames_ascend at k (fn ∷ fns) (suc f) zero less h = absurd (omega arith)
  frames_ascend at k (fn ∷ fns) (suc f) (suc g) less h = frames_ascend (frame_end (frame_at p at k fn)) (suc k) fns f g (omega arith) (omega arith)

  pub frames_count : (at k : ℕ) (fns : List PlacedFunction) → length (frames_from p at k fns) ≡ length fns
  frames_count at k [] = refl
  frames_count at k (fn ∷ fns) = ap suc (frames_count (frame_end (frame_at p at k fn)) (suc k) fns)

  pub frames_end_even : (at k : ℕ) (fns : List PlacedFunction) → at % 4 ≡ 0 → end_from p at k fns % 4 ≡ 0
  frames_end_even at k [] e = e
  frames_end_even at k (fn ∷ fns) e = frames_end_even (frame_end (frame_at p at k fn)) (suc k) fns (aligned_end at k fn e)
