-- The loose walk of a function: to the ends from wherever one is, with all turns that loops may make, at prices that aren't negative.
use Rattle.std.specs.Prelude.{◌≡◌, ℕ, ◌==◌, ◌-◌, ◌<◌, ℤ, pos, ◌*ℤ◌, ◌≤ℤ◌, List, [], ◌∷◌, Option, Some, None, slice_set, if◌then◌else◌}
use Rattle.loop_walks.specs.declared.step.Step.{Step}
use Rattle.loop_walks.specs.declared.step.Loop.{Loop}
use Rattle.loop_walks.specs.Walks.{larger, worth_at}
use Rattle.loop_walks.specs.Turns.{way_at, turn_ways, gain}
use Rattle.loop_walks.specs.Levels.{weighed, Level, level_of, ground}
use Rattle.loop_walks.specs.Rows.{AreSteps, Each, AreLoops}
use Rattle.loop_walks.specs.Laws.{IsBlank}
use Rattle.loop_ranges.specs.Loose.{Loose, Turn}

-- what a jump back is worth: its price, and where it is the header itself that of all its turns
abbrev pub back_price : Loop → ℕ → ℤ
back_price l b = if b == l.header then pos l.max *ℤ l.price else l.price

abbrev pub back_raised : List ℤ → Loop → Option ℕ → List ℤ
back_raised ws l None = ws
back_raised ws l (Some b) = slice_set ws b (larger (worth_at ws b) (back_price l b))

-- the worths at first, with those of the jumps back
abbrev pub backed : List ℤ → List Loop → List ℤ
backed ws [] = ws
backed ws (l ∷ ls) = back_raised (backed ws ls) l l.back

-- the weights of all turns, none of which loses, and one walk to the ends
abbrev pub loose_level : List Step → Level → List Loop → Level
loose_level ms v ls = ground (pos 0) ms (level_of (backed v.worths ls) v.weights) ls

abbrev pub loose_of : Level → Loose
loose_of v = record { weight = worth_at v.weights; worth = worth_at v.worths }

abbrev pub loose_turn : List Step → List ℤ → Loop → Turn
loose_turn ms weights l = record { gain = gain (pos 0) weights l ms; price = l.price; way = λ a. way_at (turn_ways (pos 0) weights l ms) (a - l.header) }

-- the turns of all loops, each at the weights of those in it
abbrev pub loose_turns : List Step → List ℤ → List Loop → List Turn
loose_turns ms weights [] = []
loose_turns ms weights (l ∷ ls) = loose_turn ms (weighed (pos 0) ms weights ls) l ∷ loose_turns ms weights ls

-- a loop that may be visited, whose jump back has a price if there is one
pub record MayTurn (l : Loop) : Type 0 where
  pub often : 0 < l.max
  pub positive : pos 0 ≤ℤ l.price
  pub idle : l.back ≡ None → l.price ≡ pos 0

abbrev pub AllMayTurn : List Loop → Type 0
AllMayTurn [] = Unit {0}
AllMayTurn (l ∷ ls) = MayTurn l × AllMayTurn ls

-- no price, worth or weight is negative
pub record IsLooseWalk (n : ℕ) (ms : List Step) (v : Level) (ls : List Loop) : Type 0 where
  pub steps : AreSteps n ms
  pub loops : AreLoops n ms ls
  pub blank : IsBlank n v ls
  pub prices : Each (λ m. pos 0 ≤ℤ m.price) ms
  pub turns : AllMayTurn ls
  pub worths : (a : ℕ) → pos 0 ≤ℤ worth_at v.worths a
  pub weights : (a : ℕ) → pos 0 ≤ℤ worth_at v.weights a
