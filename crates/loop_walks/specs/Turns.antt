-- Longest ways from a loop's header to its jump back. There may be none; and none is worth less than a block.
use Rattle.std.specs.Prelude.{ℕ, ℤ, pos, ◌-◌, ◌+ℤ◌, List, [], ◌∷◌, Option, Some, None, slice_index_or, slice_set}
use Rattle.std.proofs.Math.ListN.{replicate}
use Rattle.loop_walks.specs.declared.step.Step.{Step}
use Rattle.loop_walks.specs.declared.step.Loop.{Loop}
use Rattle.loop_walks.specs.Walks.{larger, cost, range_steps}

-- the greater of two ways
abbrev pub greater : Option ℤ → Option ℤ → Option ℤ
greater None o = o
greater (Some x) None = Some x
greater (Some x) (Some y) = Some (larger x y)

-- a way at a further cost, but worth no less than a block
abbrev pub further : ℤ → ℤ → Option ℤ → Option ℤ
further low c None = None
further low c (Some t) = Some (larger low (c +ℤ t))

-- the way from a place of a loop, by its number within the range; none from a place that isn't in it
abbrev pub way_at : List (Option ℤ) → ℕ → Option ℤ
way_at ts a = slice_index_or ts a None

-- the ways, after the step's place may take the step
abbrev pub turn_taken : ℤ → List ℤ → ℕ → List (Option ℤ) → Step → List (Option ℤ)
turn_taken low weights first ts m = slice_set ts (m.at - first) (greater (way_at ts (m.at - first)) (further low (cost weights m) (way_at ts (m.on - first))))

-- the ways after a walk over all steps, the last one first
abbrev pub turned : ℤ → List ℤ → ℕ → List (Option ℤ) → List Step → List (Option ℤ)
turned low weights first ts [] = ts
turned low weights first ts (m ∷ ms) = turn_taken low weights first (turned low weights first ts ms) m

abbrev pub with_back : Option ℕ → ℕ → List (Option ℤ) → List (Option ℤ)
with_back None first ts = ts
with_back (Some b) first ts = slice_set ts (b - first) (Some (pos 0))

-- at first there is a way from the jump back alone
abbrev pub turn_start : Loop → List (Option ℤ)
turn_start l = with_back l.back l.header (replicate (l.end - l.header) None)

-- the ways from the places of a loop to its jump back
abbrev pub turn_ways : ℤ → List ℤ → Loop → List Step → List (Option ℤ)
turn_ways low weights l ms = turned low weights l.header (turn_start l) (range_steps l ms)

-- what a turn gains: the way from the header and the jump back
abbrev pub gain_by : ℤ → ℤ → Option ℤ → ℤ
gain_by low price None = low
gain_by low price (Some t) = larger low (t +ℤ price)

abbrev pub gain : ℤ → List ℤ → Loop → List Step → ℤ
gain low weights l ms = gain_by low l.price (way_at (turn_ways low weights l ms) 0)
