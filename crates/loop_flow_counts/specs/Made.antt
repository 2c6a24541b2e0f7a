-- What the code counts of the turns of a function.
use Rattle.std.specs.Prelude.{◌≡◌, ℕ, ◌+◌, ℤ, pos, List, [], ◌∷◌, Bool, false, slice_set}
use Rattle.loop_walks.specs.declared.step.Step.{Step}
use Rattle.loop_walks.specs.declared.step.Loop.{Loop}
use Rattle.loop_flows.specs.Flows.{Turning, counts_of, backs_of}
use Rattle.loop_flow_counts.specs.declared.back.Back.{Back}
use Rattle.loop_flow_counts.specs.Wraps.{wrapped, SameCounts}

abbrev pub total : List ℕ → ℕ
total [] = 0
total (u ∷ us) = u + total us

-- the jumps back of turnings that are made so often
abbrev pub backs_by : List Turning → List ℕ → List Back
backs_by [] bs = []
backs_by (t ∷ ts) [] = []
backs_by (t ∷ ts) (b ∷ bs) = record { place = t.back; count = wrapped b } ∷ backs_by ts bs

-- the counts with some turnings, from those before, and their jumps back
pub record HasTurned (n : ℕ) (ms : List Step) (old : List ℕ) (ts : List Turning) (new : List ℕ) (bs : List Back) : Type 0 where
  pub counts : SameCounts new (counts_of n ms old ts)
  pub backs : bs ≡ backs_by ts (backs_of n ms old ts)

-- a step that isn't chosen
abbrev pub NotChosen : (Step → Bool) → Step → Type 0
NotChosen chosen m = chosen m ≡ false

-- the weights without those of the loops' headers
abbrev pub bared : List ℤ → List Loop → List ℤ
bared ws [] = ws
bared ws (l ∷ ls) = bared (slice_set ws l.header (pos 0)) ls
