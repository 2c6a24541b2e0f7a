-- All numbers of the walks through a function fit, by its loose numbers.
use Rattle.std.specs.Prelude.{ℕ, ◌^◌, ℤ, pos, neg_ℤ, ◌+ℤ◌, ◌-ℤ◌, ◌*ℤ◌, ◌≤ℤ◌, ◌<ℤ◌, List, [], ◌∷◌, length}
use Rattle.loop_walks.specs.declared.step.Step.{Step}
use Rattle.loop_walks.specs.declared.step.Loop.{Loop}
use Rattle.loop_walks.specs.Walks.{worth_at}
use Rattle.loop_walks.specs.declared.step.Pair.{Pair}
use Rattle.loop_walks.specs.Multipliers.{weight_of}
use Rattle.loop_walks.specs.Levels.{Level, ground, settled, settled_pairs}
use Rattle.loop_walks.specs.Rows.{Each}
use Rattle.loop_worths.specs.Sizes.{StaysSmall}
use Rattle.loop_ranges.specs.Loose.{Loose, Turn}
use Rattle.loop_ranges.specs.Reach.{BacksAbove, IsLooseCode, AreBelow, reach}

-- no larger in size
abbrev pub IsIn : ℤ → ℤ → Type 0
IsIn size z = (neg_ℤ size ≤ℤ z) × (z ≤ℤ size)

-- what the numbers of a function begin with: worths from a block up to a bound, which is at least the greatest loose one, and prices that aren't less than a block and that; and a size that is enough for all loops
pub record IsSizedCode (low most bound size : ℤ) (q : ℕ) (ms : List Step) (v : Level) (ls : List Loop) : Type 0 where
  pub bound_least : most ≤ℤ bound
  pub below : AreBelow bound (ground low ms v ls).worths
  pub above : (a : ℕ) → low ≤ℤ worth_at v.worths a
  pub weights : (a : ℕ) → IsIn size (worth_at v.weights a)
  pub steps : Each (λ m. (low -ℤ most) ≤ℤ m.price) ms
  pub backs : BacksAbove low ls
  pub enough : (reach (((most +ℤ most) -ℤ low) +ℤ pos q) bound (length ls) +ℤ ((most -ℤ (low +ℤ low)) +ℤ pos q)) ≤ℤ size
  pub fits : size <ℤ pos (2 ^ 124)

-- the multipliers of a loop, what its bounds make of them, and the weight that they give its header
pub record IsSizedPair (size : ℤ) (l : Loop) (p : Pair) : Type 0 where
  pub least : IsIn size p.least
  pub least_turns : IsIn size (p.least *ℤ (pos l.min -ℤ pos 1))
  pub least_starts : IsIn size (p.least *ℤ pos l.min)
  pub most : IsIn size p.most
  pub most_turns : IsIn size (p.most *ℤ (pos l.max -ℤ pos 1))
  pub most_starts : IsIn size (p.most *ℤ pos l.max)
  pub weight : IsIn size (weight_of l p)

abbrev pub AreSizedPairs : ℤ → List Loop → List Pair → Type 0
AreSizedPairs size [] ps = Unit {0}
AreSizedPairs size (l ∷ ls) [] = Unit {0}
AreSizedPairs size (l ∷ ls) (p ∷ ps) = IsSizedPair size l p × AreSizedPairs size ls ps

-- the weights and the multipliers that they end with are no larger in size either
pub record IsSized (low size : ℤ) (ms : List Step) (v : Level) (ls : List Loop) : Type 0 where
  pub small : StaysSmall low ms v ls
  pub weights : (a : ℕ) → IsIn size (worth_at (settled low ms v ls).weights a)
  pub pairs : AreSizedPairs size ls (settled_pairs low ms v ls)

abbrev pub NumbersStaySmall : Type 0
NumbersStaySmall = (low most bound size : ℤ) (q n : ℕ) (x : Loose) (ms : List Step) (v : Level) (ls : List Loop) (ts : List Turn) → IsLooseCode low most q n x ms v ls ts → IsSizedCode low most bound size q ms v ls →
    IsSized low size ms v ls
