-- Numbers that fit: every number that the walks meet.
use Rattle.std.specs.Prelude.{ℕ, ◌<◌, ◌^◌, ℤ, pos, ◌-ℤ◌, ◌*ℤ◌, unsigned_abs, List, [], ◌∷◌, drop, Option, IfSome, All}
use Rattle.loop_walks.specs.declared.step.Step.{Step}
use Rattle.loop_walks.specs.declared.step.Loop.{Loop}
use Rattle.loop_walks.specs.declared.step.Pair.{Pair}
use Rattle.loop_walks.specs.Walks.{worth_at, relaxed, head_steps, body_steps, range_steps}
use Rattle.loop_walks.specs.Turns.{way_at, turned, turn_start, gain}
use Rattle.loop_walks.specs.Multipliers.{first_weight}
use Rattle.loop_walks.specs.Levels.{weighed, gains, Level, level_pair, new_weights, new_start, level_in, ground}

-- three such numbers add up within 128 bits
abbrev pub IsSmall : ℤ → Type 0
IsSmall z = unsigned_abs z < 2 ^ 124

abbrev pub AreSmall : List ℤ → Type 0
AreSmall ws = (a : ℕ) → IsSmall (worth_at ws a)

abbrev pub HaveSmallPrices : List Step → Type 0
HaveSmallPrices ms = All (λ m. IsSmall m.price) ms

-- all through a walk to the ends
pub record StaySmall (weights ws : List ℤ) (ms : List Step) : Type 0 where
  pub prices : HaveSmallPrices ms
  pub weights_are : AreSmall weights
  pub worths : (i : ℕ) → AreSmall (relaxed weights ws (drop i ms))

abbrev pub AreSmallWays : List (Option ℤ) → Type 0
AreSmallWays ts = (a : ℕ) → IfSome (way_at ts a) IsSmall

-- all through a turn walk
pub record TurnsStaySmall (low : ℤ) (weights : List ℤ) (first : ℕ) (ts : List (Option ℤ)) (ms : List Step) : Type 0 where
  pub prices : HaveSmallPrices ms
  pub weights_are : AreSmall weights
  pub ways : (i : ℕ) → AreSmallWays (turned low weights first ts (drop i ms))

-- of a loop and its first weight
pub record IsSmallTurn (low : ℤ) (weights : List ℤ) (ms : List Step) (l : Loop) : Type 0 where
  pub price : IsSmall l.price
  pub turns : TurnsStaySmall low weights l.header (turn_start l) (range_steps l ms)
  pub gain_is : IsSmall (gain low weights l ms)
  pub weight : IsSmall (first_weight low l (gain low weights l ms))

abbrev pub AreSmallTurns : ℤ → List Step → List ℤ → List Loop → Type 0
AreSmallTurns low ms weights [] = Unit {0}
AreSmallTurns low ms weights (l ∷ ls) = IsSmallTurn low (weighed low ms weights ls) ms l × AreSmallTurns low ms weights ls

-- of a loop's multipliers
pub record IsSmallPair (l : Loop) (p : Pair) : Type 0 where
  pub least : IsSmall p.least
  pub least_turns : IsSmall (p.least *ℤ (pos l.min -ℤ pos 1))
  pub least_starts : IsSmall (p.least *ℤ pos l.min)
  pub most : IsSmall p.most
  pub most_turns : IsSmall (p.most *ℤ (pos l.max -ℤ pos 1))
  pub most_starts : IsSmall (p.most *ℤ pos l.max)

-- of a loop at its level
pub record IsSmallLevel (ms : List Step) (v : Level) (l : Loop) (p : Pair) : Type 0 where
  pub worths : AreSmall v.worths
  pub prices : HaveSmallPrices (head_steps l ms)
  pub price : IsSmall l.price
  pub pair : IsSmallPair l p
  pub walk : StaySmall (new_weights v l p) (new_start v l p) (body_steps l ms)

abbrev pub AreSmallLevels : ℤ → List Step → Level → List Loop → List ℤ → Type 0
AreSmallLevels low ms v [] gs = Unit {0}
AreSmallLevels low ms v (l ∷ ls) [] = Unit {0}
AreSmallLevels low ms v (l ∷ ls) (g ∷ gs) = IsSmall g × IsSmallLevel ms v l (level_pair low ms v.worths l g) × AreSmallLevels low ms (level_in low ms v l g) ls gs

-- all through the settling of a function
pub record StaysSmall (low : ℤ) (ms : List Step) (v : Level) (ls : List Loop) : Type 0 where
  pub low_is : IsSmall low
  pub turns : AreSmallTurns low ms v.weights ls
  pub walk : StaySmall (weighed low ms v.weights ls) v.worths ms
  pub levels_are : AreSmallLevels low ms (ground low ms v ls) ls (gains low ms v.weights ls)
