-- Longest ways to the ends, by one walk over the steps, the last one first.
use Rattle.std.specs.Prelude.{ℕ, ℤ, pos, ◌-◌, ◌+ℤ◌, List, [], ◌∷◌, take, drop, slice_index_or, slice_set, if◌then◌else◌}
use Rattle.std.specs.Int.RustNames.{int_le}
use Rattle.loop_walks.specs.declared.step.Step.{Step}
use Rattle.loop_walks.specs.declared.step.Loop.{Loop}

abbrev pub larger : ℤ → ℤ → ℤ
larger a b = if int_le a b then b else a

-- what is still to come at a place; a weight of a place is read in the same way
abbrev pub worth_at : List ℤ → ℕ → ℤ
worth_at ws a = slice_index_or ws a (pos 0)

-- a step's price and the weight of its place
abbrev pub cost : List ℤ → Step → ℤ
cost weights m = m.price +ℤ worth_at weights m.at

-- the worths, after the step's place may take the step
abbrev pub taken : List ℤ → List ℤ → Step → List ℤ
taken weights ws m = slice_set ws m.at (larger (worth_at ws m.at) (cost weights m +ℤ worth_at ws m.on))

-- the worths after a walk over all steps, the last one first
abbrev pub relaxed : List ℤ → List ℤ → List Step → List ℤ
relaxed weights ws [] = ws
relaxed weights ws (m ∷ ms) = taken weights (relaxed weights ws ms) m

-- the steps of a list from one number up to another
abbrev pub between : ℕ → ℕ → List Step → List Step
between from to ms = take (to - from) (drop from ms)

-- the steps of a loop's header, the other ones of its range, and both
abbrev pub head_steps : Loop → List Step → List Step
head_steps l ms = between l.head l.body ms

abbrev pub body_steps : Loop → List Step → List Step
body_steps l ms = between l.body l.rest ms

abbrev pub range_steps : Loop → List Step → List Step
range_steps l ms = between l.head l.rest ms
