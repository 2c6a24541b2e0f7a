use Rattle.std.proofs.Common.{◌≡◌, ℕ, ◌+◌, ◌<◌, ◌||◌, drop, length}
use Rattle.image_frames.specs.Placings.{is_among, mark_at}
use Rattle.spm_placement.proofs.placing.mark_all.Given as goal

abbrev pub invariant-loop-number : goal.invariant-loop-number
invariant-loop-number l = (k : ℕ) → k < length l.fn.marks → (mark_at l.marks k || is_among (drop l.number-index l.numbers) (l.first + k)) ≡ is_among l.numbers (l.first + k)
